-- The text that lists the editions of a book.
use Rattle.std.specs.Prelude.{ℕ, List, ◌++◌, length, codes, decimal}
use Rattle.std.specs.List.{flat_map}
use Rattle.fare_tariff.specs.Tariff.{Tariff}

-- the line of an edition: its number, its effective day, and how many records it has
abbrev pub list_line : Tariff → List ℕ
list_line tariff =
    codes "EDITION " ++ decimal tariff.number ++ codes " " ++ tariff.effective ++ codes " "
    ++ decimal (length tariff.records) ++ codes "\n"

-- one line an edition, in the order of publication
abbrev pub list_text : List Tariff → List ℕ
list_text editions = flat_map list_line editions
