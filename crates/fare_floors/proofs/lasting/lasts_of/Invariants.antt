-- the numbers from this point on are under what the last part costs that begins there or behind it
use Rattle.std.proofs.Common.{◌≡◌, ℕ, ◌≤◌, length}
use Rattle.fare_bounds.specs.Covers.{rest_at}
use Rattle.fare_floors.specs.LastParts.{IsUnderLasts}
use Rattle.fare_floors.proofs.lasting.lasts_of.Given as goal

abbrev pub invariant-loop-s : goal.invariant-loop-s
invariant-loop-s l = record {
  long : length l.row ≡ 17;
  known : (i s : ℕ) → l.s ≤ i → i ≤ s → IsUnderLasts l.going.table.now l.going.front.now l.going.unit l.homes s (rest_at l.row i);
}
