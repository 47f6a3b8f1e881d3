-- the latest of what is left, after the best so far, is the latest of all
use Rattle.std.proofs.Common.{◌≡◌, drop, None}
use Rattle.std.specs.Option.{option_copied}
use Rattle.fare_book.proofs.Scans.{latest_left}
use Rattle.fare_book.proofs.select.selected.Given as goal

abbrev pub invariant-loop-edition : goal.invariant-loop-edition
invariant-loop-edition l = latest_left l.day (option_copied l.best) (drop l.edition-index l.editions) ≡ latest_left l.day None l.editions
