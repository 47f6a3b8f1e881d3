-- What the list of editions spells is the compact text of its value.
use Rattle.std.proofs.Common.{◌≡◌, ℕ, List, ◌++◌, map, refl, ap, ◌∙◌}
use Rattle.std.specs.Prelude.{codes}
use Rattle.std.proofs.lemmas.List.{append_assoc}
use Rattle.json.specs.Print.{escape_byte}
use Rattle.serde_json.specs.Data.{Data, array, object, no_members, member}
use Rattle.serde_json.specs.View.{items_of}
use Rattle.serde_json.specs.Written.{compact_text}
use Rattle.fare_tariff.specs.Tariff.{Tariff}
use Rattle.fare_json.specs.JsonText.{json_line}
use Rattle.fare_json.specs.ListData.{list_data, listed_data}
use Rattle.fare_json.specs.Spelled.{array_json, list_json, listed_edition_json, string_json}
use Rattle.fare_json.proofs.TextLemmas.{array_text}

listed_text : (tariff : Tariff) → listed_edition_json tariff ≡ compact_text (listed_data tariff)
unfolding listed_edition_json listed_data string_json escape_byte
listed_text tariff = simp append_assoc refl

-- an object with the list, and LF
whole : List ℕ → List ℕ
whole editions = codes "{\"editions\":" ++ editions ++ codes "}\n"

whole_text : (editions : Data) → whole (compact_text editions) ≡ json_line (object (member (codes "editions") editions no_members))
unfolding whole escape_byte
whole_text editions = simp append_assoc refl

pub list_text : (editions : List Tariff) → list_json editions ≡ json_line (list_data editions)
unfolding list_json list_data whole
list_text editions =
    ap whole (array_text listed_edition_json listed_data listed_text editions)
    ∙ whole_text (array (items_of (map listed_data editions)))
