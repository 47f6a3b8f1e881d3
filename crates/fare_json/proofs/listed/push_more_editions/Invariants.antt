-- the text holds the editions before this one
use Rattle.std.proofs.Common.{◌≡◌, ◌++◌, take}
use Rattle.std.specs.List.{flat_map}
use Rattle.fare_json.specs.Spelled.{after_comma, listed_edition_json}
use Rattle.fare_json.proofs.listed.push_more_editions.Given as goal

abbrev pub invariant-loop-edition : goal.invariant-loop-edition
invariant-loop-edition l =
    l.text.items ≡ l.fn.text.items ++ flat_map (after_comma listed_edition_json) (take l.edition-index l.editions)
