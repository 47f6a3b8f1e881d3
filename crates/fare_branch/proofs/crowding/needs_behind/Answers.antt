use Rattle.std.proofs.Common.{◌≡◌, ℕ, ◌+◌, ◌-◌, ◌<◌, ◌≤◌, refl, replicate, length-set, sym, subst, ◌∙◌, ap, arith}
use Rattle.fare_trip.specs.Itinerary.{Itinerary, count}
use Rattle.fare_rules.specs.Construction.{begin_after}
use Rattle.fare_branch.specs.Crowding.{AreNeeds, IsNeed}
use Rattle.fare_branch.proofs.NeedLemmas.{all_zero, needs_at_end, put_need}
use Rattle.fare_branch.proofs.crowding.needs_behind.Goals as goal

pub loop-i-init : goal.loop-i-init
loop-i-init c =
    let crowding = c.args.crowding.now in
    let trip = crowding.table.now.trip in
    let last : c.count-i.result ≡ count trip = c.count-i.ensures.value ∙ ap count c.trip-trip.ensures in
    let P : ℕ → Type 0 = λ from. AreNeeds crowding.table.now.edition trip crowding.lonely.now crowding.front.now from (replicate 17 0) in
    record { long = refl; known = subst P (sym last) (needs_at_end crowding.table.now.edition trip crowding.lonely.now crowding.front.now (replicate 17 0) (all_zero 17 (count trip))) }

pub loop-i-preserved : goal.loop-i-preserved
loop-i-preserved c =
    let crowding = c.args.crowding.now in
    let tariff = crowding.table.now.edition in
    let trip = crowding.table.now.trip in
    let long = c.loop-i.invariant.long in
    let place = c.loop-i.i - 1 in
    let next : c.loop-i.i ≡ place + 1 = omega arith in
    let last : c.count-i.result ≡ count trip = c.count-i.ensures.value ∙ ap count c.trip-trip.ensures in
    let within : place < count trip = omega arith in
    let P : ℕ → Type 0 = λ from. AreNeeds tariff trip crowding.lonely.now crowding.front.now from c.loop-i.needs in
    let Q : ℕ → Type 0 = λ a. IsNeed tariff trip crowding.lonely.now crowding.front.now c.loop-i.needs a c.need_at.result in
    let begin : c.begin_after.result ≡ begin_after trip place = c.begin_after.ensures.value ∙ ap (λ (t : Itinerary). begin_after t place) c.trip-trip.ensures in
    record {
      long = length-set c.loop-i.needs place c.need_at.result ∙ long;
      known = put_need tariff trip crowding.lonely.now crowding.front.now c.loop-i.needs place c.need_at.result (omega arith) within (subst P next c.loop-i.invariant.known) (subst Q begin c.need_at.ensures);
    }

pub returns : goal.returns
returns c =
    let crowding = c.args.crowding.now in
    let known = c.loop-i.invariant.known in
    record { at_end = known.at_end; steps = λ i low high. let from : c.loop-i.i ≤ i = omega arith in known.steps i from high }
