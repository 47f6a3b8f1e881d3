use Rattle.std.proofs.Common.{◌≡◌, ℕ, ◌+◌, Bool, false, sym, subst, ◌∙◌, refl}
use Rattle.std.specs.Prelude.{if◌then◌else◌}
use Rattle.std.proofs.lemmas.Bool.{both_ways}
use Rattle.fare_trip.specs.Itinerary.{point}
use Rattle.fare_rules.specs.Shape.{lie_together}
use Rattle.fare_legs.specs.Barred.{unless_barred}
use Rattle.fare_legs.specs.Costs.{IsUpTo, first_cost, is_same_city}
use Rattle.fare_homing.specs.Homing.{may_end_at}
use Rattle.fare_homing.specs.HomingRows.{IsPart}
use Rattle.fare_homing.specs.Rows.{begun_from, jaw_from}
use Rattle.fare_legs.proofs.CountryLemmas.{lies_there}
use Rattle.fare_homing.proofs.HomingRowLemmas.{part_after}
use Rattle.fare_homing.proofs.whole.whole_to.Goals as goal

pub returns-then-not-lie_together-clause-first : goal.returns-then-not-lie_together-clause-first
returns-then-not-lie_together-clause-first c b x y cost may part less up sum pair =
    let tariff = c.args.table.now.edition in
    let trip = c.args.table.now.trip in
    let start = c.args.start.now.point in
    let here : c.is-closes.result ≡ is_same_city trip start c.args.home = cc in
    let city : is_same_city trip start c.args.home ≡ false = sym here ∙ c.if-not-closes.true in
    let lie : lie_together tariff (point trip c.args.home) (point trip start) ≡ false =
    lies_there tariff trip c.args.start.now.countries.now c.args.home start c.requires.countries c.requires.within c.requires.inside ∙ sym c.lie_together.ensures ∙ c.if-not-lie_together.true in
    let never : may_end_at tariff trip start c.args.home ≡ false = rw (city, lie) refl in
    absurd (both_ways (may_end_at tariff trip start c.args.home) never may)

pub returns-then-not-lie_together-clause-alone : goal.returns-then-not-lie_together-clause-alone
returns-then-not-lie_together-clause-alone c cost part = subst (IsUpTo cost) (sym c.number_at-alone.ensures) (c.requires.legs.alone c.args.home cost part)

pub returns : goal.returns
returns c =
    let tariff = c.args.table.now.edition in
    let trip = c.args.table.now.trip in
    let homing = c.args.homing.now in
    let start = c.args.start.now in
    let here : c.is-closes.result ≡ is_same_city trip start.point c.args.home = cc in
    record {
      alone = λ cost part. c.with_half.ensures.alone cost (subst (IsUpTo cost) (sym c.number_at-alone.ensures) (c.requires.legs.alone c.args.home cost part));
      first = λ b x y cost may part less up sum pair.
          let P : ℕ → Type 0 = λ a. IsPart tariff trip (unless_barred c.args.table.now.edition c.args.start.now.barred.now first_cost) a b x in
          let rises = part_after tariff trip (unless_barred c.args.table.now.edition c.args.start.now.barred.now first_cost) c.args.start.now.behind b x (subst P c.requires.point part) in
          let Q : Bool → Type 0 = λ closes. IsUpTo y (if closes then begun_from homing b b c.args.home else jaw_from homing b b c.args.home) in
          c.with_half.ensures.half (x + y) cost (c.reach_first-half.ensures b x y rises.0 less (c.requires.legs.first b x part) (subst Q (sym here) up)) sum pair;
    }
