use Rattle.fare_csv.proofs.RangeLemmas.{most-of, names-short}
use Rattle.fare_csv.proofs.read_rule.read_rule.Goals as goal

pub invariant_of-result : goal.invariant_of-result
invariant_of-result c = record {
  stops = most-of _ _ 16 c.in_ok-stops.ensures.ok_part c.read_number.ensures.bound;
  transfers = most-of _ _ 16 c.in_ok-transfers.ensures.ok_part c.read_number-2.ensures.bound;
  advance = most-of _ _ 999 c.in_ok-advance.ensures.ok_part c.read_number-3.ensures.bound;
  min_stay = most-of _ _ 999 c.in_ok-min_stay.ensures.ok_part c.read_number-4.ensures.bound;
  max_stay = most-of _ _ 999 c.in_ok-max_stay.ensures.ok_part c.read_number-5.ensures.bound;
  units = names-short _ _ c.in_ok-units.ensures.ok_part c.in_ok-read_names.ensures.short;
  ends = names-short _ _ c.in_ok-ends.ensures.ok_part c.in_ok-read_names-2.ensures.short;
}
