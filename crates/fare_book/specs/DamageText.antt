-- The words that tell what is wrong with stored bodies.
use Rattle.std.specs.Prelude.{ℕ, List, ◌++◌, codes, decimal}
use Rattle.fare_csv.specs.FaultText.{fault_words}
use Rattle.fare_book.specs.declared.damage.Damage.{Damage}
use Rattle.fare_book.specs.declared.damage.Damage.TheVariants.{Text, Repeat, TooMany}

-- a tariff fault without its first word, the earlier place of the number, or that there are too many
abbrev pub damage_text : Damage → List ℕ
damage_text (Text fault) = fault_words fault
damage_text (Repeat place) = codes "Repeat " ++ decimal place
damage_text TooMany = codes "TooMany"
