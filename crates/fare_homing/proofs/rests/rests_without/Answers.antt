use Rattle.std.proofs.Common.{◌≡◌, ◌+◌, ◌-◌, ℕ, List, replicate, set, sym, subst, ◌∙◌, ap, arith, length-set}
use Rattle.std.specs.Prelude.{Option, Some, None}
use Rattle.std.proofs.lemmas.List.{get_or-set_same}
use Rattle.fare_trip.specs.Itinerary.{count}
use Rattle.fare_bounds.specs.Covers.{rest_at}
use Rattle.fare_homing.specs.HomingRows.{AreWholes}
use Rattle.fare_homing.specs.Rows.{begun_from, jaw_from}
use Rattle.fare_homing.proofs.RestLemmas.{AreRestsFrom, all_rests, no_rests, put_rests}
use Rattle.fare_homing.proofs.rests.rests_without.Goals as goal

pub loop-c-init : goal.loop-c-init
loop-c-init c =
    let tariff = c.args.table.now.edition in
    let trip = c.args.table.now.trip in
    let homing = c.args.homing.now in
    let last : c.count-count.result ≡ count trip = c.count-count.ensures.value ∙ ap count c.trip.ensures in
    let none : List (Option ℕ) = replicate 17 None in
    let rest : List (Option ℕ) = set none c.count-count.result c.of.result in
    let end : rest_at rest c.count-count.result ≡ Some 0 = get_or-set_same none c.count-count.result c.of.result None (omega (arith, c.count-count.ensures.at_most)) ∙ c.of.ensures in
    let P : ℕ → Type 0 = λ n. AreRestsFrom tariff trip c.args.barred.now (begun_from homing) (jaw_from homing) n (λ i j. None) rest in
    record {
      long = length-set none c.count-count.result c.of.result;
      known = (λ i j. None, subst P (sym last) (no_rests tariff trip c.args.barred.now (begun_from homing) (jaw_from homing) (λ i j. None) rest (subst (λ n. rest_at rest n ≡ Some 0) last end)));
    }

pub loop-c-preserved : goal.loop-c-preserved
loop-c-preserved c =
    let tariff = c.args.table.now.edition in
    let trip = c.args.table.now.trip in
    let barred = c.args.barred.now in
    let begun = begun_from c.args.homing.now in
    let jaw = jaw_from c.args.homing.now in
    let known = c.loop-c.invariant in
    let whole = known.known.0 in
    let place = c.loop-c.c - 1 in
    let next : c.loop-c.c ≡ place + 1 = omega arith in
    let last : c.count-count.result ≡ count trip = c.count-count.ensures.value ∙ ap count c.trip.ensures in
    let From : ℕ → Type 0 = λ n. AreRestsFrom tariff trip barred begun jaw n whole c.loop-c.rest in
    let W : List ℕ → Type 0 = λ fares. AreWholes tariff trip fares begun jaw c.start_at-start.result.behind (rest_at c.wholes_at-whole.result) in
    let I : ℕ → Type 0 = λ i. AreWholes tariff trip barred begun jaw i (rest_at c.wholes_at-whole.result) in
    record {
      long = length-set c.loop-c.rest place c.least_onward.result ∙ known.long;
      known = put_rests tariff trip barred begun jaw place (omega arith) whole c.loop-c.rest c.wholes_at-whole.result c.least_onward.result (omega (arith, known.long, c.count-count.ensures.at_most)) (subst From next known.known.1)
          (subst I c.start_at-start.ensures.behind (subst W c.start_at-start.ensures.barred c.wholes_at-whole.ensures)) (λ b x y past within up more. c.least_onward.ensures b x y past (omega arith) up more);
    }

pub returns : goal.returns
returns c =
    let tariff = c.args.table.now.edition in
    let trip = c.args.table.now.trip in
    let begun = begun_from c.args.homing.now in
    let jaw = jaw_from c.args.homing.now in
    let done : c.loop-c.c ≡ 0 = omega arith in
    let known = c.loop-c.invariant.known in
    let P : ℕ → Type 0 = λ first. AreRestsFrom tariff trip c.args.barred.now begun jaw first known.0 c.loop-c.rest in
    (known.0, all_rests tariff trip c.args.barred.now begun jaw known.0 c.loop-c.rest (subst P done known.1))
