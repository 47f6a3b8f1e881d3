-- what is looked for among the choices that end before
use Rattle.std.proofs.Common.{◌≡◌, ◌-◌}
use Rattle.std.specs.Prelude.{flat_map, slice_get}
use Rattle.fare_rules.specs.Numbers.{numbers_down}
use Rattle.fare_rules.specs.Completion.{choices_to, first_part_choices}
use Rattle.fare_branch.proofs.pieces.choice.Given as goal

abbrev pub invariant-loop-end : goal.invariant-loop-end
invariant-loop-end l =
    slice_get (flat_map (choices_to l.table.edition l.table.trip) (numbers_down (l.end - 1))) l.left
    ≡ slice_get (first_part_choices l.table.edition l.table.trip) l.fn.number
