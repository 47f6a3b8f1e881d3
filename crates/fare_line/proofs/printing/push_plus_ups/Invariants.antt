use Rattle.std.proofs.Common.{◌≡◌, ◌++◌, take}
use Rattle.std.specs.List.{flat_map}
use Rattle.fare_line.specs.LineText.{plus_text}
use Rattle.fare_line.proofs.printing.push_plus_ups.Given as goal

abbrev pub invariant-loop-one : goal.invariant-loop-one
invariant-loop-one l = l.text.items ≡ l.fn.text.items ++ flat_map plus_text (take l.one-index l.plus)
