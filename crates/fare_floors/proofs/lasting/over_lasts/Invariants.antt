-- the numbers before this one are under what is there without the unit too
use Rattle.std.proofs.Common.{◌≡◌, ℕ, ◌<◌, length}
use Rattle.fare_bounds.specs.Covers.{rest_at}
use Rattle.fare_legs.specs.Costs.{IsUpTo}
use Rattle.fare_floors.specs.LastParts.{AreLasts}
use Rattle.fare_rules.specs.Construction.{end_of}
use Rattle.fare_floors.proofs.lasting.over_lasts.Given as goal

abbrev pub invariant-loop-i : goal.invariant-loop-i
invariant-loop-i l = record {
  long : length l.row ≡ 17;
  lasts : AreLasts l.going.table.now l.going.front.now l.going.unit (end_of l.going.front.now (length l.going.front.now)) l.homes l.row;
  whole : (i cost : ℕ) → i < l.i → IsUpTo cost (rest_at l.behind i) → IsUpTo cost (rest_at l.row i);
}
