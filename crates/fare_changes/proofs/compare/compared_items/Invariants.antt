-- the items before the place at hand are compared
use Rattle.std.proofs.Common.{◌≤◌, ◌-◌, length, take}
use Rattle.serde_json.specs.View.{items_view}
use Rattle.fare_changes.specs.Compared.{AreCompared}
use Rattle.fare_changes.proofs.compare.compared_items.Given as goal

abbrev pub invariant-loop-done : goal.invariant-loop-done
invariant-loop-done g l = record {
  within : l.done ≤ length l.items;
  so_far : AreCompared l.comparer.old.now l.comparer.new.now (items_view (take l.done l.items)) l.compared.items;
}

abbrev pub decreases-loop-done : goal.decreases-loop-done
decreases-loop-done g l = length l.items - l.done
