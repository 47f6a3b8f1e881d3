use Rattle.std.proofs.Common.{◌≡◌, ◌++◌, take}
use Rattle.std.specs.List.{flat_map}
use Rattle.fare_line.specs.LineText.{sector_text}
use Rattle.fare_line.proofs.printing.push_sectors.Given as goal

abbrev pub invariant-loop-sector : goal.invariant-loop-sector
invariant-loop-sector l = l.text.items ≡ l.fn.text.items ++ flat_map sector_text (take l.sector-index l.sectors)
