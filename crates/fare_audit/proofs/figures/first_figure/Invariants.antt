-- what is left to be looked at has the first part that differs
use Rattle.std.proofs.Common.{◌≡◌, ◌+◌, length}
use Rattle.std.specs.Prelude.{find}
use Rattle.fare_rules.specs.Numbers.{numbers}
use Rattle.fare_audit.specs.Figures.{differs_at}
use Rattle.fare_audit.proofs.figures.first_figure.Given as goal

abbrev pub invariant-loop-i : goal.invariant-loop-i
invariant-loop-i l =
    find (differs_at l.parts l.others) (numbers (l.i + 1) (length l.parts + 1))
    ≡ find (differs_at l.parts l.others) (numbers 1 (length l.parts + 1))
