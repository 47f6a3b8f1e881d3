-- what the walk over a group has passed has no kind, and is noted
use Rattle.std.proofs.Common.{◌<◌, ◌-◌, Some, length}
use Rattle.fare_records.specs.Keyed.{own_key}
use Rattle.fare_tariff.proofs.Grouped.{IsWalked}
use Rattle.fare_tariff.proofs.check.clear.is_clear_group.Given as goal

abbrev pub invariant-loop-place : goal.invariant-loop-place
invariant-loop-place l = record {
  within : l.place < length l.filed;
  walked : IsWalked l.filed l.groups (own_key l.one) l.seen (Some l.place);
}

abbrev pub decreases-loop-place : goal.decreases-loop-place
decreases-loop-place l = length l.filed - l.place
