-- a rule that is found is one of those that were walked over
use Rattle.std.proofs.Common.{◌≡◌, Some, List, sym, subst, arith}
use Rattle.fare_records.specs.declared.record.Record.{Record}
use Rattle.fare_tariff.specs.Lookup.{first_some, rule_in}
use Rattle.fare_relaxed.proofs.RangeLemmas.{found_in_range}
use Rattle.fare_relaxed.proofs.ranges.rules_are_in_range.Goals as goal

pub returns : goal.returns
returns c id rule found =
    found_in_range id c.records-records.result.now rule (λ k d low. c.loop-one.invariant k d (omega arith))
    (subst (λ (rs : List Record). first_some (rule_in id) rs ≡ Some rule) (sym c.records-records.ensures.records) found)
