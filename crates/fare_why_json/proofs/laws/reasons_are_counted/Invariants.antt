-- those before this one were looked at
use Rattle.std.proofs.Common.{ℕ, ◌<◌, get_or}
use Rattle.fare_why.specs.Explanation.{Alternative}
use Rattle.fare_why_json.specs.Counts.{AreReasonCounts}
use Rattle.fare_why_json.proofs.laws.reasons_are_counted.Given as goal

abbrev pub invariant-loop-one : goal.invariant-loop-one
invariant-loop-one l = (k : ℕ) (d : Alternative) → k < l.one-index → AreReasonCounts (get_or l.reasons k d)
