-- no step before this one covers the miles
use Rattle.std.proofs.Common.{◌≡◌, drop, find}
use Rattle.fare_rules.specs.Mileage.{is_covered_by, surcharge_steps}
use Rattle.fare_mileage.proofs.steps.surcharge.Given as goal

abbrev pub invariant-loop-step : goal.invariant-loop-step
invariant-loop-step l = record {
  steps : l.step-items ≡ surcharge_steps;
  left : find (is_covered_by l.net l.mpm) (drop l.step-index surcharge_steps)
      ≡ find (is_covered_by l.net l.mpm) surcharge_steps;
}
