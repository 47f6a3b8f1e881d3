-- What a batch spells, item after item, is the compact text of its value.
use Rattle.std.proofs.Common.{◌≡◌, ℕ, ◌+◌, ◌-◌, ◌≤◌, List, [], ◌∷◌, ◌++◌, length, map, take, refl, ap, ◌∙◌, arith}
use Rattle.std.specs.Prelude.{Bool, true, false, codes, decimal, flat_map, ◌==◌, if◌then◌else◌}
use Rattle.std.proofs.Math.Seq.{take-append_seam}
use Rattle.std.proofs.lemmas.Bool.{eqb-true}
use Rattle.std.proofs.lemmas.List.{append_assoc, length-append}
use Rattle.json.specs.Print.{escape_byte}
use Rattle.serde_json.specs.Data.{Data, array, object, no_members, member}
use Rattle.serde_json.specs.View.{items_of}
use Rattle.serde_json.specs.Written.{compact_text}
use Rattle.fare_json.specs.BatchData.{batch_data, batch_json, comma_before, item_data, item_json, items_json}
use Rattle.fare_json.specs.JsonText.{json_line}
use Rattle.fare_json.specs.Spelled.{after_comma, array_json}
use Rattle.fare_json.proofs.TextLemmas.{array_text}

not_true : (test : Bool) → (test ≡ true → ⊥) → test ≡ false
not_true true refused = absurd (refused refl)
not_true false refused = refl

other_number : (a b : ℕ) → (a ≡ b → ⊥) → (a == b) ≡ false
other_number a b other = not_true (a == b) (λ e. other (eqb-true a b e))

-- an item by itself
piece : Data × ℕ → List ℕ
piece one = codes "{\"answer\":" ++ compact_text one.0 ++ codes ",\"status\":" ++ decimal one.1 ++ codes "}"

piece_text : (one : Data × ℕ) → piece one ≡ compact_text (item_data one)
unfolding piece item_data escape_byte
piece_text one = simp append_assoc refl

line_is_cut : (text : List ℕ) → take (length (text ++ codes "\n") - 1) (text ++ codes "\n") ≡ text
line_is_cut text =
    let long : length (text ++ codes "\n") - 1 ≡ length text = rw (length-append text (codes "\n")) (omega arith) in
    ap (λ (n : ℕ). take n (text ++ codes "\n")) long ∙ take-append_seam text (codes "\n")

item_pieces : (mark answer status : List ℕ) → mark ++ codes "{\"answer\":" ++ answer ++ codes ",\"status\":" ++ status ++ codes "}"
    ≡ mark ++ (codes "{\"answer\":" ++ answer ++ codes ",\"status\":" ++ status ++ codes "}")
item_pieces mark answer status = simp append_assoc refl

item_text : (number : ℕ) (one : Data × ℕ) → item_json number (json_line one.0) one.1 ≡ comma_before number ++ piece one
unfolding item_json piece
item_text number one =
    ap (λ (t : List ℕ). comma_before number ++ codes "{\"answer\":" ++ t ++ codes ",\"status\":" ++ decimal one.1 ++ codes "}") (line_is_cut (compact_text one.0))
    ∙ item_pieces (comma_before number) (compact_text one.0) (decimal one.1)

comma_of : (test : Bool) → test ≡ false → (if test then codes "" else codes ",") ≡ codes ","
comma_of test e = rw e refl

-- the item of a number above 1 stands behind a comma
later_item : (number : ℕ) (one : Data × ℕ) → 2 ≤ number → item_json number (json_line one.0) one.1 ≡ after_comma piece one
later_item number one above =
    item_text number one ∙ ap (λ (t : List ℕ). t ++ piece one) (comma_of (number == 1) (other_number number 1 (λ e. omega (arith, above, e))))

later_items : (number : ℕ) (rest : List (Data × ℕ)) → 2 ≤ number → items_json number rest ≡ flat_map (after_comma piece) rest
later_items number [] above = refl
later_items number (one ∷ rest) above =
    ap (λ (t : List ℕ). t ++ items_json (number + 1) rest) (later_item number one above)
    ∙ ap (λ (t : List ℕ). after_comma piece one ++ t) (later_items (number + 1) rest (omega (arith, above)))

items_text : (items : List (Data × ℕ)) → codes "[" ++ items_json 1 items ++ codes "]" ≡ array_json piece items
items_text [] = refl
items_text (one ∷ rest) =
    ap (λ (t : List ℕ). codes "[" ++ (t ++ items_json 2 rest) ++ codes "]") (item_text 1 one)
    ∙ ap (λ (t : List ℕ). codes "[" ++ (piece one ++ t) ++ codes "]") (later_items 2 rest (omega arith))

-- an object with the items, and LF
whole : List ℕ → List ℕ
whole items = codes "{\"items\":" ++ items ++ codes "}\n"

whole_text : (items : Data) → whole (compact_text items) ≡ json_line (object (member (codes "items") items no_members))
unfolding whole escape_byte
whole_text items = simp append_assoc refl

enclosed : (items : List ℕ) → codes "{\"items\":[" ++ items ++ codes "]}\n" ≡ whole (codes "[" ++ items ++ codes "]")
unfolding whole
enclosed items = simp append_assoc refl

pub batch_text : (items : List (Data × ℕ)) → batch_json items ≡ json_line (batch_data items)
unfolding batch_data
batch_text items =
    enclosed (items_json 1 items) ∙ ap whole (items_text items)
    ∙ ap whole (array_text piece item_data piece_text items) ∙ whole_text (array (items_of (map item_data items)))
