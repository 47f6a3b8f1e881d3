-- The text of a list of names is read as the names.
use Rattle.std.proofs.Common.{◌≡◌, ◌≤◌, ℕ, List, [], ◌∷◌, ◌++◌, length, true, false, Option, Some, None, refl, ap, ◌∙◌, arith, map}
use Rattle.std.specs.Prelude.{◌==◌, ◌&&◌, codes, nat_le}
use Rattle.std.specs.List.{All, join_with_byte, list_all, slice_split}
use Rattle.std.specs.Str.{bytes_eq}
use Rattle.std.proofs.lemmas.Bool.{ne_eqb}
use Rattle.std.proofs.lemmas.Bool.Decides.{nat_tests}
use Rattle.std.proofs.lemmas.List.{length-map}
use Rattle.std.proofs.lemmas.List.Elements.{All-cons, All-nil}
use Rattle.std.proofs.lemmas.List.Splits.{slice_split_at, slice_split_none}
use Rattle.fare_codes.specs.Codes.{is_code_character, is_rule_id}
use Rattle.fare_records.specs.declared.names.Names.{Names}
use Rattle.fare_records.specs.declared.names.Names.TheVariants as listed
use Rattle.fare_records.specs.Record.{name_count}
use Rattle.fare_csv.specs.CanonicalText.{name_text, names_text}
use Rattle.fare_csv.specs.NameList.{names_of, read_list, read_name, read_names}
use Rattle.fare_csv.specs.ReadBack.{are_names, is_name}
use Rattle.fare_csv.specs.Lines.{is_plain_field}
use Rattle.fare_csv.proofs.PlainFields.{rule_id-plain}
use Rattle.fare_csv.proofs.PlainLines.{both}
use Rattle.std.proofs.lemmas.List.Folds.{list_all-append}

-- a character of an id is no space, no star and no hyphen
record IsOther (b : ℕ) : Type 0 where
  space : (b == 32) ≡ false
  star : (b == 42) ≡ false
  hyphen : (b == 45) ≡ false

character-other : (b : ℕ) → is_code_character b ≡ true → IsOther b
character-other b h = record { space = grind (arith, nat_tests); star = grind (arith, nat_tests); hyphen = grind (arith, nat_tests) }

characters-of : (id : List ℕ) → is_rule_id id ≡ true → list_all is_code_character id ≡ true
characters-of id h = (both (nat_le 1 (length id) && nat_le (length id) 8) (list_all is_code_character id) h).1

abbrev IsNoSpace : ℕ → Type 0
IsNoSpace b = (b == 32) ≡ false

-- characters of an id have no space among them
no-space : (bytes : List ℕ) → list_all is_code_character bytes ≡ true → All IsNoSpace bytes
no-space [] h = All-nil IsNoSpace
no-space (b ∷ rest) h =
    let parts = both (is_code_character b) (list_all is_code_character rest) h in
    All-cons IsNoSpace b rest (character-other b parts.0).space (no-space rest parts.1)

-- nor has a name
name-no-space : (name : Option (List ℕ)) → is_name name ≡ true → All IsNoSpace (name_text name)
name-no-space None h = All-cons IsNoSpace 45 [] refl (All-nil IsNoSpace)
name-no-space (Some id) h = no-space id (characters-of id h)

-- the names of a list, cut at each space
pieces-of-names : (first : Option (List ℕ)) (names : List (Option (List ℕ))) → is_name first ≡ true → list_all is_name names ≡ true
    → slice_split (λ b. b == 32) (join_with_byte 32 (map name_text (first ∷ names))) ≡ map name_text (first ∷ names)
pieces-of-names first [] h k = slice_split_none (λ b. b == 32) (name_text first) (name-no-space first h)
pieces-of-names first (next ∷ names) h k =
    let parts = both (is_name next) (list_all is_name names) k in
    slice_split_at (λ b. b == 32) (name_text first) 32 (join_with_byte 32 (map name_text (next ∷ names))) (name-no-space first h) refl
    ∙ ap (λ (pieces : List (List ℕ)). name_text first ∷ pieces) (pieces-of-names next names parts.0 parts.1)

-- an id is no hyphen
id-no-hyphen : (id : List ℕ) → is_rule_id id ≡ true → bytes_eq id (codes "-") ≡ false
id-no-hyphen [] h = cc h
id-no-hyphen (b ∷ rest) h =
    let other = character-other b (both (is_code_character b) (list_all is_code_character rest) (characters-of (b ∷ rest) h)).0 in
    rw other.hyphen refl

-- a name is read
name-reads : (name : Option (List ℕ)) → is_name name ≡ true → read_name (name_text name) ≡ Some name
unfolding read_name
name-reads None h = refl
name-reads (Some id) h = rw (id-no-hyphen id h, h) refl

-- and so are names
names-read : (names : List (Option (List ℕ))) → list_all is_name names ≡ true → names_of (map name_text names) ≡ Some names
unfolding names_of
names-read [] h = refl
names-read (name ∷ names) h =
    let parts = both (is_name name) (list_all is_name names) h in
    rw (name-reads name parts.0, names-read names parts.1) refl

-- the text of some names begins with a byte that isn't a star
name-start : (name : Option (List ℕ)) → is_name name ≡ true → (b : ℕ) × (rest : List ℕ) × (name_text name ≡ b ∷ rest) × ((b == 42) ≡ false)
name-start None h = (45, [], refl, refl)
name-start (Some []) h = cc h
name-start (Some (b ∷ rest)) h =
    (b, rest, refl, (character-other b (both (is_code_character b) (list_all is_code_character rest) (characters-of (b ∷ rest) h)).0).star)

names-start : (first : Option (List ℕ)) (names : List (Option (List ℕ))) → is_name first ≡ true
    → (b : ℕ) × (rest : List ℕ) × (join_with_byte 32 (map name_text (first ∷ names)) ≡ b ∷ rest) × ((b == 42) ≡ false)
names-start first [] h = name-start first h
names-start first (next ∷ names) h =
    let (b, rest, is, other) = name-start first h in
    (b, rest ++ (32 ∷ join_with_byte 32 (map name_text (next ∷ names))), rw is refl, other)

-- a text that begins so is read as a list
listed-from : (bytes : List ℕ) (b : ℕ) (rest : List ℕ) (names : List (Option (List ℕ))) → bytes ≡ b ∷ rest → (b == 42) ≡ false
    → read_list bytes ≡ Some names → read_names bytes ≡ Some (listed.Of names)
unfolding read_names
listed-from bytes b rest names is other h =
    let begun : read_list (b ∷ rest) ≡ Some names = rw is at h in
    let some : (length (b ∷ rest) == 0) ≡ false = ne_eqb (length (b ∷ rest)) 0 (λ z. cc z) in
    rw (is, other, some, begun) refl

-- a list of at most 64 names is read from its text
pub names_read_back : (names : Names) → are_names names ≡ true → name_count names ≤ 64 → read_names (names_text names) ≡ Some names
unfolding read_names read_list
names_read_back listed.All h few = refl
names_read_back (listed.Of []) h few = refl
names_read_back (listed.Of (first ∷ names)) h few =
    let parts = both (is_name first) (list_all is_name names) h in
    let (b, rest, is, other) = names-start first names parts.0 in
    let pieces = pieces-of-names first names parts.0 parts.1 in
    let size = length-map (first ∷ names) name_text in
    let within : nat_le (length (map name_text (first ∷ names))) 64 ≡ true = grind (arith, nat_tests, size) in
    let all : read_list (join_with_byte 32 (map name_text (first ∷ names))) ≡ Some (first ∷ names) = rw (pieces, within) (names-read (first ∷ names) h) in
    listed-from _ b rest (first ∷ names) is other all

-- a name needs no quotes
name-plain : (name : Option (List ℕ)) → is_name name ≡ true → is_plain_field (name_text name) ≡ true
name-plain None h = refl
name-plain (Some id) h = rule_id-plain id h

joined-plain : (first : Option (List ℕ)) (names : List (Option (List ℕ))) → is_name first ≡ true → list_all is_name names ≡ true
    → is_plain_field (join_with_byte 32 (map name_text (first ∷ names))) ≡ true
joined-plain first [] h k = name-plain first h
joined-plain first (next ∷ names) h k =
    let parts = both (is_name next) (list_all is_name names) k in
    rw (list_all-append, name-plain first h) (joined-plain next names parts.0 parts.1)

-- nor does a list of names
pub names_are_plain : (names : Names) → are_names names ≡ true → is_plain_field (names_text names) ≡ true
names_are_plain listed.All h = refl
names_are_plain (listed.Of []) h = refl
names_are_plain (listed.Of (first ∷ names)) h =
    let parts = both (is_name first) (list_all is_name names) h in
    joined-plain first names parts.0 parts.1
