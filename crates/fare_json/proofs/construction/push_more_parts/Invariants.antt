-- the text holds the parts before this one
use Rattle.std.proofs.Common.{◌≡◌, ◌++◌, take}
use Rattle.std.specs.List.{flat_map}
use Rattle.fare_json.specs.Spelled.{after_comma, part_json}
use Rattle.fare_json.proofs.construction.push_more_parts.Given as goal

abbrev pub invariant-loop-sheet : goal.invariant-loop-sheet
invariant-loop-sheet l = l.text.items ≡ l.fn.text.items ++ flat_map (after_comma part_json) (take l.sheet-index l.parts)
