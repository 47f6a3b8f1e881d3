-- The spelled lists are the compact texts of their values.
use Rattle.std.proofs.Common.{◌≡◌, ℕ, List, [], ◌∷◌, ◌++◌, map, refl, ap, ◌∙◌, sym}
use Rattle.std.specs.Prelude.{true, false, codes, flat_map}
use Rattle.std.proofs.lemmas.List.{append_assoc}
use Rattle.serde_json.specs.Data.{Data, array}
use Rattle.serde_json.specs.View.{items_of}
use Rattle.serde_json.specs.Written.{compact_text, items_text}
use Rattle.fare_json.specs.Spelled.{after_comma, array_json, listed_json}

-- pieces in a row, each before all behind it
pub five_right : (a b c d e : List ℕ) → a ++ b ++ c ++ d ++ e ≡ a ++ (b ++ (c ++ (d ++ e)))
five_right a b c d e = simp append_assoc refl

pub six_before : (a b c d e f rest : List ℕ) → (a ++ b ++ c ++ d ++ e ++ f) ++ rest ≡ a ++ (b ++ (c ++ (d ++ (e ++ (f ++ rest)))))
six_before a b c d e f rest = simp append_assoc refl

pub seven_right : (a b c d e f g : List ℕ) → a ++ b ++ c ++ d ++ e ++ f ++ g ≡ a ++ (b ++ (c ++ (d ++ (e ++ (f ++ g)))))
seven_right a b c d e f g = simp append_assoc refl

pub ten_before : (a b c d e f g h i j rest : List ℕ) → (a ++ b ++ c ++ d ++ e ++ f ++ g ++ h ++ i ++ j) ++ rest ≡ a ++ (b ++ (c ++ (d ++ (e ++ (f ++ (g ++ (h ++ (i ++ (j ++ rest)))))))))
ten_before a b c d e f g h i j rest = simp append_assoc refl

module _ {A : Type 0} (piece : A → List ℕ) (value : A → Data) (spells : (one : A) → piece one ≡ compact_text (value one)) where
  -- the rest of a list, behind its first
  pub rest_text : (all : List A) → flat_map (after_comma piece) all ++ codes "]" ≡ items_text true (items_of (map value all))
  rest_text [] = refl
  rest_text (one ∷ rest) =
      ap (λ (t : List ℕ). 44 ∷ t) (append_assoc (piece one) (flat_map (after_comma piece) rest) (codes "]")
      ∙ ap (λ (t : List ℕ). t ++ (flat_map (after_comma piece) rest ++ codes "]")) (spells one)
      ∙ ap (λ (t : List ℕ). compact_text (value one) ++ t) (rest_text rest))

  -- a list
  pub array_text : (all : List A) → array_json piece all ≡ compact_text (array (items_of (map value all)))
  array_text [] = refl
  array_text (one ∷ rest) =
      ap (λ (t : List ℕ). 91 ∷ t) (append_assoc (piece one) (flat_map (after_comma piece) rest) (codes "]")
      ∙ ap (λ (t : List ℕ). t ++ (flat_map (after_comma piece) rest ++ codes "]")) (spells one)
      ∙ ap (λ (t : List ℕ). compact_text (value one) ++ t) (rest_text rest))
