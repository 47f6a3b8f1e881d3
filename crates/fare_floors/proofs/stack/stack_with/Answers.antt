use Rattle.std.proofs.Common.{◌≡◌, ℕ, ◌+◌, ◌≤◌, List, [], length, subst, sym, refl, ap, ◌∙◌, inl, inr, arith}
use Rattle.std.proofs.lemmas.Bool.{cases_Bool}
use Rattle.fare_rules.specs.declared.part.Part.{Part}
use Rattle.fare_rules.specs.Completion.{IsCompletion}
use Rattle.fare_legs.specs.Ceiling.{IsWithin}
use Rattle.fare_legs.specs.Costs.{IsUpTo}
use Rattle.fare_floors.proofs.DearLemmas.{over_is_beyond}
use Rattle.std.specs.Prelude.{Some, option_map, slice_index_or, sum_by}
use Rattle.fare_legs.specs.Floor.{capped_sum}
use Rattle.fare_bounds.specs.Covers.{rest_at}
use Rattle.fare_trip.specs.Itinerary.{count}
use Rattle.fare_rules.specs.Construction.{end_of, greatest_unit, places}
use Rattle.fare_rules.specs.Numbers.{numbers}
use Rattle.fare_floors.specs.Costs.{unit_floor, units_floor}
use Rattle.fare_floors.specs.Stack.{IsUnderSum}
use Rattle.fare_floors.proofs.StackFloorLemmas.{found_up, paid_under, within_is_floor}
use Rattle.fare_floors.proofs.stack.stack_with.Goals as goal

pub returns : goal.returns
returns c =
    let front = c.args.partial.now in
    let greatest : ℕ = greatest_unit front (places front) in
    let total : ℕ = units_floor c.args.table.now.edition c.args.table.now.trip front in
    let real = option_map (capped_sum c.spent_on-spent.result) c.number_at-behind.result in
    let found = c.floor_unless.result in
    let over = c.over_units-over.result in
    let last : c.greatest_unit-greatest.result ≡ greatest = c.greatest_unit-greatest.ensures.value in
    let n : c.count-sectors.result ≡ count c.args.table.now.trip = c.count-sectors.ensures.value ∙ ap count c.trip.ensures in
    let ends : end_of front (length front) ≤ count c.args.table.now.trip = c.requires.made.advances.ends (length front) in
    let few : length front ≤ end_of front (length front) = c.requires.made.few in
    let ordered : greatest ≤ length front = c.requires.made.ordered in
    let within : c.greatest_unit-greatest.result ≤ 17 = omega (arith, c.count-sectors.ensures.at_most) in
    let Spent : ℕ → Type 0 = λ n. c.spent_on-spent.result ≤ sum_by (unit_floor c.args.table.now.edition c.args.table.now.trip front) (numbers 1 (n + 1)) in
    let spent : c.spent_on-spent.result ≤ total =
    subst Spent last (c.spent_on-spent.ensures (unit_floor c.args.table.now.edition c.args.table.now.trip front) (λ unit low high. c.requires.floors unit low (omega arith))) in
    let Row : ℕ → Type 0 = λ unit. IsUnderSum (Some total) (rest_at (slice_index_or over unit []) c.end.result) real in
    let End : ℕ → Type 0 = λ end. IsUnderSum (Some total) (rest_at (slice_index_or over greatest []) end) real in
    let sum : End (end_of front (length front)) = subst End c.end.ensures.value (subst Row last (paid_under c.spent_on-spent.result total (rest_at (slice_index_or over c.greatest_unit-greatest.result []) c.end.result) real spent (ap (option_map (capped_sum c.spent_on-spent.result)) c.number_at-behind.ensures))) in
    let tariff = c.args.table.now.edition in
    let trip = c.args.table.now.trip in
    let up : (parts : List Part) (price : ℕ) → IsCompletion tariff trip front parts price → IsWithin c.args.homing.now.ceiling price → IsUpTo price found = λ parts price done cheap.
    elim (cases_Bool c.is_over-beyond.result) [
      | inl t ↦ absurd (over_is_beyond tariff trip c.args.homing.now.unit_ceiling front c.requires.homing.unit_ceiling.alike (sym c.is_over-beyond.ensures ∙ t) parts price done (c.requires.homing.unit_ceiling.units parts price done.lawful cheap))
      | inr f ↦
          let is : found ≡ real = c.floor_unless.ensures ∙ rw f refl in
          subst (IsUpTo price) (sym is) (found_up c.args.table.now c.args.homing.now c.requires.homing front (c.requires.made.advances.ends (length front)) (slice_index_or over greatest []) (c.over_units-over.ensures greatest (omega arith)) real sum parts price done cheap)
    ] in
    record {
      floors = c.requires.floors;
      spent = spent;
      over = c.over_units-over.ensures;
      floor = within_is_floor c.args.table.now c.args.homing.now.ceiling front c.lowered_to-floor.result (λ parts price done cheap. c.lowered_to-floor.ensures.kept price (up parts price done cheap)) c.lowered_to-floor.ensures.above;
    }
