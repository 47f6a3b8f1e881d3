use Rattle.std.proofs.Common.{ℕ, ◌<◌, get_or}
use Rattle.fare_records.specs.declared.record.Record.{Record}
use Rattle.fare_relaxed.specs.Ranges.{IsRuleInRange}
use Rattle.fare_relaxed.proofs.ranges.rules_are_in_range.Given as goal

abbrev pub invariant-loop-one : goal.invariant-loop-one
invariant-loop-one l = (k : ℕ) (d : Record) → k < l.one-index → IsRuleInRange (get_or l.records k d)
