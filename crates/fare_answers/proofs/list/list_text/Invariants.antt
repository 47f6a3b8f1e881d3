-- the text holds the lines of the editions before this one
use Rattle.std.proofs.Common.{◌≡◌, take}
use Rattle.fare_answers.specs.List.{list_text}
use Rattle.fare_answers.proofs.list.list_text.Given as goal

abbrev pub invariant-loop-edition : goal.invariant-loop-edition
invariant-loop-edition l = l.text.items ≡ list_text (take l.edition-index l.edition-items)
