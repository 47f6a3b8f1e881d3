-- the choices that end at the points so far
use Rattle.std.proofs.Common.{◌≡◌, ◌-◌, ◌*◌, ◌≤◌, length}
use Rattle.std.specs.Prelude.{flat_map}
use Rattle.fare_rules.specs.Numbers.{numbers_down}
use Rattle.fare_rules.specs.Completion.{choices_to}
use Rattle.fare_branch.proofs.pieces.choices.Given as goal

abbrev pub invariant-loop-end : goal.invariant-loop-end
invariant-loop-end l = record {
  counted : l.total ≡ length (flat_map (choices_to l.table.edition l.table.trip) (numbers_down (l.end - 1)));
  few : l.total ≤ 128 * (l.end - 1);
}
