-- those before this one were looked at
use Rattle.std.proofs.Common.{ℕ, ◌<◌, get_or}
use Rattle.fare_tariff.specs.Tariff.{Tariff}
use Rattle.fare_json.specs.Counts.{AreEditionCounts}
use Rattle.fare_json.proofs.reading_back.editions_are_counted.Given as goal

abbrev pub invariant-loop-one : goal.invariant-loop-one
invariant-loop-one l = (k : ℕ) (d : Tariff) → k < l.one-index → AreEditionCounts (get_or l.editions k d)
