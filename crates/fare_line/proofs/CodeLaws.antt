-- Codes, as they are read.
use Rattle.std.proofs.Common.{◌≡◌, ◌∙◌, ◌*◌, ℕ, zero, suc, Bool, true, false, ◌||◌, ◌==◌, List, [], ◌∷◌, length, get_or, nat_le, ◌⊎◌, inl, inr, codes, refl, sym, ap, arith}
use Rattle.std.proofs.lemmas.Bool.{eqb-true, leb-true, le-leb}
use Rattle.std.specs.Fmt.{digits}
use Rattle.std.specs.List.{list_all}
use Rattle.std.specs.Char.{is_ascii_uppercase}
use Rattle.fare_codes.specs.Codes.{is_city, is_carrier, is_code_character}
use Rattle.fare_codes.specs.Words.{cabin_text, kind_text}
use Rattle.fare_codes.specs.declared.cabin.Cabin.{Cabin}
use Rattle.fare_codes.specs.declared.cabin.Cabin.TheVariants.{F, C, Y}
use Rattle.fare_codes.specs.declared.kind.Kind.{Kind}
use Rattle.fare_codes.specs.declared.kind.Kind.TheVariants.{OW, HR}
use Rattle.fare_line.specs.declared.reading.byte_kind.ByteKind.TheVariants.{Uppercase, CodeCharacter, This}
use Rattle.fare_line.specs.declared.line.part.Letter.{Letter}
use Rattle.fare_line.specs.declared.line.part.Letter.TheVariants.{Bare, Mileage}
use Rattle.fare_line.specs.Line.{is_surcharge}
use Rattle.fare_line.specs.LineText.{letter_text, spaced}
use Rattle.fare_line.specs.reader.Reading.{byte_at, is_of, one_of, city_at, spaced_city_at, carrier_at}
use Rattle.fare_line.specs.reader.Pieces.{later_letters, letter_at, later_classes, cabin_of, class_at, later_kinds, kind_of, kind_at}
use Rattle.fare_line.proofs.Readers.{Reads, same}
use Rattle.fare_line.proofs.Words.{IsOneOf, are_apart, both_tests, reads_one_of}
use Rattle.fare_line.proofs.Amounts.{IsText}
use Rattle.fare_line.proofs.Chains.{Split1, chain1, chain2, chain3, reads_one, reads_this}

-- ---- cities and carriers

pub record Cells3 (test : ℕ → Bool) (bytes : List ℕ) : Type 0 where
  pub a : ℕ
  pub b : ℕ
  pub c : ℕ
  pub a_is : test a ≡ true
  pub b_is : test b ≡ true
  pub c_is : test c ≡ true
  pub whole : bytes ≡ a ∷ b ∷ c ∷ []

three : (test : ℕ → Bool) (bytes : List ℕ) → length bytes ≡ 3 → list_all test bytes ≡ true → Cells3 test bytes
three test [] n h = absurd (omega arith)
three test (a ∷ []) n h = absurd (omega arith)
three test (a ∷ b ∷ []) n h = absurd (omega arith)
three test (a ∷ b ∷ c ∷ []) n h =
    let first = both_tests (test a) (list_all test (b ∷ c ∷ [])) h in
    let second = both_tests (test b) (list_all test (c ∷ [])) first.1 in
    let third = both_tests (test c) (list_all test []) second.1 in
    record { a = a; b = b; c = c; a_is = first.0; b_is = second.0; c_is = third.0; whole = refl }
three test (a ∷ b ∷ c ∷ d ∷ bytes) n h = absurd (omega arith)

pub city_cells : (city : List ℕ) → is_city city ≡ true → Cells3 is_ascii_uppercase city
city_cells city h =
    let tests = both_tests (length city == 3) (list_all is_ascii_uppercase city) h in
    three is_ascii_uppercase city (eqb-true (length city) 3 tests.0) tests.1

pub reads_city : Reads (IsText is_city (λ (c : List ℕ). c)) city_at
unfolding city_at
reads_city =
    chain3 (is_of Uppercase) (λ (b : ℕ). b ∷ []) (is_of Uppercase) (λ (b : ℕ). b ∷ []) (is_of Uppercase) (λ (b : ℕ). b ∷ []) (λ (a b c : ℕ). a ∷ b ∷ c ∷ []) (IsText is_city (λ (c : List ℕ). c))
    (byte_at Uppercase) (byte_at Uppercase) (byte_at Uppercase) (reads_one Uppercase 65 refl) (reads_one Uppercase 65 refl) (reads_one Uppercase 65 refl) 65 refl 65 refl
    (λ a b c x y z. record { valid = rw (x, y, z) refl; spelled = refl })
    (λ city text h. let cells = city_cells city h.valid in record {
      a = cells.a;
      b = cells.b;
      c = cells.c;
      a_is = cells.a_is;
      b_is = cells.b_is;
      c_is = cells.c_is;
      value = cells.whole;
      whole = h.spelled ∙ cells.whole;
    })

pub record Cells2 (test : ℕ → Bool) (bytes : List ℕ) : Type 0 where
  pub a : ℕ
  pub b : ℕ
  pub a_is : test a ≡ true
  pub b_is : test b ≡ true
  pub whole : bytes ≡ a ∷ b ∷ []

two : (test : ℕ → Bool) (bytes : List ℕ) → length bytes ≡ 2 → list_all test bytes ≡ true → Cells2 test bytes
two test [] n h = absurd (omega arith)
two test (a ∷ []) n h = absurd (omega arith)
two test (a ∷ b ∷ []) n h =
    let first = both_tests (test a) (list_all test (b ∷ [])) h in
    let second = both_tests (test b) (list_all test []) first.1 in
    record { a = a; b = b; a_is = first.0; b_is = second.0; whole = refl }
two test (a ∷ b ∷ c ∷ bytes) n h = absurd (omega arith)

pub carrier_cells : (carrier : List ℕ) → is_carrier carrier ≡ true → Cells2 is_code_character carrier
carrier_cells carrier h =
    let tests = both_tests (length carrier == 2) (list_all is_code_character carrier) h in
    two is_code_character carrier (eqb-true (length carrier) 2 tests.0) tests.1

pub reads_carrier : Reads (IsText is_carrier (λ (c : List ℕ). c)) carrier_at
unfolding carrier_at
reads_carrier =
    chain2 (is_of CodeCharacter) (λ (b : ℕ). b ∷ []) (is_of CodeCharacter) (λ (b : ℕ). b ∷ []) (λ (a b : ℕ). a ∷ b ∷ []) (IsText is_carrier (λ (c : List ℕ). c))
    (byte_at CodeCharacter) (byte_at CodeCharacter) (reads_one CodeCharacter 65 refl) (reads_one CodeCharacter 65 refl) 65 refl
    (λ a b x y. record { valid = rw (x, y) refl; spelled = refl })
    (λ carrier text h. let cells = carrier_cells carrier h.valid in record {
      a = cells.a;
      b = cells.b;
      a_is = cells.a_is;
      b_is = cells.b_is;
      value = cells.whole;
      whole = h.spelled ∙ cells.whole;
    })

pub reads_spaced_city : Reads (IsText is_city spaced) spaced_city_at
unfolding spaced_city_at
reads_spaced_city =
    chain2 is_city (λ (c : List ℕ). c) (λ (b : ℕ). b == 32) (λ (b : ℕ). 32 ∷ []) (λ (c : List ℕ) (b : ℕ). c) (IsText is_city spaced)
    city_at (byte_at (This 32)) reads_city (reads_this 32) 32 refl
    (λ c b x y. record { valid = x; spelled = refl })
    (λ c text h. record { a = c; b = 32; a_is = h.valid; b_is = refl; value = refl; whole = h.spelled })

-- ---- letters, classes and kinds

reads_choice : (word : List ℕ) (others : List (List ℕ)) → are_apart (word ∷ others) ≡ true
    → Reads (IsText (λ (i : ℕ). nat_le i (length others)) (λ (i : ℕ). get_or (word ∷ others) i [])) (one_of word others)
reads_choice word others h =
    same (IsOneOf word others) (IsText (λ (i : ℕ). nat_le i (length others)) (λ (i : ℕ). get_or (word ∷ others) i [])) (one_of word others) (reads_one_of word others h)
    (λ i text o. record { valid = le-leb i (length others) o.index; spelled = o.word_is })
    (λ i text o. record { index = leb-true i (length others) o.valid; word_is = o.spelled })

-- a letter that isn't empty
abbrev pub is_marked : Letter → Bool
is_marked Bare = false
is_marked (Mileage s) = is_surcharge s

-- the surcharge of an index
pub steps_of : (i : ℕ) → nat_le i 5 ≡ true → (is_surcharge (5 * i) ≡ true) × (get_or (codes "M" ∷ later_letters) i [] ≡ letter_text (Mileage (5 * i)))
unfolding digits
steps_of zero h = (refl, refl)
steps_of (suc zero) h = (refl, refl)
steps_of (suc (suc zero)) h = (refl, refl)
steps_of (suc (suc (suc zero))) h = (refl, refl)
steps_of (suc (suc (suc (suc zero)))) h = (refl, refl)
steps_of (suc (suc (suc (suc (suc zero))))) h = (refl, refl)
steps_of (suc (suc (suc (suc (suc (suc i)))))) h = absurd (omega (arith, leb-true (suc (suc (suc (suc (suc (suc i)))))) 5 h))

pub one_test : (a b : Bool) → (a || b) ≡ true → (a ≡ true) ⊎ (b ≡ true)
one_test true b h = inl refl
one_test false b h = inr h

-- the index of a surcharge
pub index_of : (s : ℕ) → is_surcharge s ≡ true → (i : ℕ) × (nat_le i 5 ≡ true) × (s ≡ 5 * i)
index_of s h = elim (one_test ((s == 0) || (s == 5) || (s == 10) || (s == 15) || (s == 20)) (s == 25) h) [
  | inr e ↦ (5, refl, eqb-true s 25 e)
  | inl h4 ↦ elim (one_test ((s == 0) || (s == 5) || (s == 10) || (s == 15)) (s == 20) h4) [
    | inr e ↦ (4, refl, eqb-true s 20 e)
    | inl h3 ↦ elim (one_test ((s == 0) || (s == 5) || (s == 10)) (s == 15) h3) [
      | inr e ↦ (3, refl, eqb-true s 15 e)
      | inl h2 ↦ elim (one_test ((s == 0) || (s == 5)) (s == 10) h2) [
        | inr e ↦ (2, refl, eqb-true s 10 e)
        | inl h1 ↦ elim (one_test (s == 0) (s == 5) h1) [
          | inr e ↦ (1, refl, eqb-true s 5 e)
          | inl e ↦ (0, refl, eqb-true s 0 e)
        ]
      ]
    ]
  ]
]

pub reads_letter : Reads (IsText is_marked letter_text) letter_at
unfolding letter_at
reads_letter =
    chain1 (λ (i : ℕ). nat_le i 5) (λ (i : ℕ). get_or (codes "M" ∷ later_letters) i []) (λ (i : ℕ). Mileage (5 * i)) (IsText is_marked letter_text)
    (one_of (codes "M") later_letters) (reads_choice (codes "M") later_letters refl)
    (λ i x. let both = steps_of i x in record { valid = both.0; spelled = both.1 })
    (λ l text h. from l text h)
  where
    from : (l : Letter) (text : List ℕ) → IsText is_marked letter_text l text → Split1 (λ (i : ℕ). nat_le i 5) (λ (i : ℕ). get_or (codes "M" ∷ later_letters) i []) (λ (i : ℕ). Mileage (5 * i)) l text
    from Bare text h = (let wrong = h.valid in absurd cc)
    from (Mileage s) text h =
        let at = index_of s h.valid in
        record { a = at.0; a_is = at.1; value = ap (λ (k : ℕ). Mileage k) at.2; whole = h.spelled ∙ ap (λ (k : ℕ). letter_text (Mileage k)) at.2 ∙ sym (steps_of at.0 at.1).1 }

pub reads_class : Reads (IsText (λ (c : Cabin). true) cabin_text) class_at
unfolding class_at
reads_class =
    chain1 (λ (i : ℕ). nat_le i 2) (λ (i : ℕ). get_or (codes "F" ∷ later_classes) i []) cabin_of (IsText (λ (c : Cabin). true) cabin_text)
    (one_of (codes "F") later_classes) (reads_choice (codes "F") later_classes refl)
    (λ i x. to i x) (λ c text h. from c text h)
  where
    to : (i : ℕ) → nat_le i 2 ≡ true → IsText (λ (c : Cabin). true) cabin_text (cabin_of i) (get_or (codes "F" ∷ later_classes) i [])
    to zero x = record { valid = refl; spelled = refl }
    to (suc zero) x = record { valid = refl; spelled = refl }
    to (suc (suc zero)) x = record { valid = refl; spelled = refl }
    to (suc (suc (suc i))) x = absurd (omega (arith, leb-true (suc (suc (suc i))) 2 x))

    from : (c : Cabin) (text : List ℕ) → IsText (λ (c : Cabin). true) cabin_text c text → Split1 (λ (i : ℕ). nat_le i 2) (λ (i : ℕ). get_or (codes "F" ∷ later_classes) i []) cabin_of c text
    from F text h = record { a = 0; a_is = refl; value = refl; whole = h.spelled }
    from C text h = record { a = 1; a_is = refl; value = refl; whole = h.spelled }
    from Y text h = record { a = 2; a_is = refl; value = refl; whole = h.spelled }

pub reads_kind : Reads (IsText (λ (k : Kind). true) kind_text) kind_at
unfolding kind_at
reads_kind =
    chain1 (λ (i : ℕ). nat_le i 1) (λ (i : ℕ). get_or (codes "OW" ∷ later_kinds) i []) kind_of (IsText (λ (k : Kind). true) kind_text)
    (one_of (codes "OW") later_kinds) (reads_choice (codes "OW") later_kinds refl)
    (λ i x. to i x) (λ k text h. from k text h)
  where
    to : (i : ℕ) → nat_le i 1 ≡ true → IsText (λ (k : Kind). true) kind_text (kind_of i) (get_or (codes "OW" ∷ later_kinds) i [])
    to zero x = record { valid = refl; spelled = refl }
    to (suc zero) x = record { valid = refl; spelled = refl }
    to (suc (suc i)) x = absurd (omega (arith, leb-true (suc (suc i)) 1 x))

    from : (k : Kind) (text : List ℕ) → IsText (λ (k : Kind). true) kind_text k text → Split1 (λ (i : ℕ). nat_le i 1) (λ (i : ℕ). get_or (codes "OW" ∷ later_kinds) i []) kind_of k text
    from OW text h = record { a = 0; a_is = refl; value = refl; whole = h.spelled }
    from HR text h = record { a = 1; a_is = refl; value = refl; whole = h.spelled }
