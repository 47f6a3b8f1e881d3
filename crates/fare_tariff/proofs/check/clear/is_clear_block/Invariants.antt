-- the groups that begin before a place of the block are clear
use Rattle.std.proofs.Common.{ℕ, ◌<◌, ◌≤◌}
use Rattle.fare_tariff.specs.Faulty.{IsClearAt}
use Rattle.fare_tariff.proofs.check.clear.is_clear_block.Given as goal

abbrev pub invariant-loop-place : goal.invariant-loop-place
invariant-loop-place l = (q : ℕ) → l.start ≤ q → q < l.place → IsClearAt l.filed l.groups q
