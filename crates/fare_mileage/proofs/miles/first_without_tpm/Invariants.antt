-- every sector before this one has miles
use Rattle.std.proofs.Common.{◌≡◌, ◌+◌, find}
use Rattle.fare_rules.specs.Numbers.{numbers}
use Rattle.fare_rules.specs.Mileage.{has_no_tpm}
use Rattle.fare_mileage.proofs.miles.first_without_tpm.Given as goal

abbrev pub invariant-loop-i : goal.invariant-loop-i
invariant-loop-i l = find (has_no_tpm l.edition l.trip) (numbers (l.i + 1) (l.b + 1))
    ≡ find (has_no_tpm l.edition l.trip) (numbers (l.a + 1) (l.b + 1))
