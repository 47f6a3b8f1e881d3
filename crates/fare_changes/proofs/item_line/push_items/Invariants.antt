-- what is left of the text are the lines from this item on
use Rattle.std.proofs.Common.{◌≡◌, ◌+◌, ◌++◌, drop}
use Rattle.fare_changes.specs.CompareText.{item_lines}
use Rattle.fare_changes.proofs.item_line.push_items.Given as goal

abbrev pub invariant-loop-place : goal.invariant-loop-place
invariant-loop-place l =
    l.fn.text.items ++ item_lines 1 l.compared ≡ l.text.items ++ item_lines (l.place + 1) (drop l.place l.compared)
