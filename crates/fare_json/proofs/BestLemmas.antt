-- What the first constructions spell is the compact text of their value.
use Rattle.std.proofs.Common.{◌≡◌, ℕ, List, ◌++◌, map, refl, ap, ◌∙◌}
use Rattle.std.specs.Prelude.{codes}
use Rattle.std.proofs.lemmas.List.{append_assoc}
use Rattle.json.specs.Print.{escape_byte}
use Rattle.serde_json.specs.Data.{Data, array, object, no_members, member}
use Rattle.serde_json.specs.View.{items_of}
use Rattle.serde_json.specs.Written.{compact_text}
use Rattle.fare_trip.specs.Itinerary.{Itinerary}
use Rattle.fare_tariff.specs.Tariff.{Tariff}
use Rattle.fare_rules.specs.FirstK.{Priced}
use Rattle.fare_json.specs.JsonText.{json_line}
use Rattle.fare_json.specs.BestData.{entry_data, first_data}
use Rattle.fare_json.specs.QuotationData.{edition_data}
use Rattle.fare_json.specs.Spelled.{array_json, edition_json, entry_json, first_json, string_json}
use Rattle.fare_json.proofs.QuotationLemmas.{edition_text}
use Rattle.fare_json.proofs.TextLemmas.{array_text}

module _ (tariff : Tariff) (trip : Itinerary) where
  entry_text : (one : Priced) → entry_json tariff trip one ≡ compact_text (entry_data tariff trip one)
  unfolding entry_json entry_data string_json escape_byte
  entry_text one = simp append_assoc refl

  -- an object with the list and the edition, and LF
  whole : List ℕ → List ℕ → List ℕ
  whole best edition = codes "{\"best\":" ++ best ++ codes ",\"edition\":" ++ edition ++ codes "}\n"

  whole_text : (best edition : Data) → whole (compact_text best) (compact_text edition) ≡ json_line (object (member (codes "best") best (member (codes "edition") edition no_members)))
  unfolding whole escape_byte
  whole_text best edition = simp append_assoc refl

  pub first_text : (first : List Priced) → first_json tariff trip first ≡ json_line (first_data tariff trip first)
  unfolding first_json first_data whole
  first_text first =
      let best : Data = array (items_of (map (entry_data tariff trip) first)) in
      ap (λ (t : List ℕ). whole t (edition_json tariff)) (array_text (entry_json tariff trip) (entry_data tariff trip) entry_text first)
      ∙ ap (λ (t : List ℕ). whole (compact_text best) t) (edition_text tariff)
      ∙ whole_text best (edition_data tariff)
