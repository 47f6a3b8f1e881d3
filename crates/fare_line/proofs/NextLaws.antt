-- The pieces of a line begin apart from one another.
use Rattle.std.proofs.Common.{◌≡◌, ◌∙◌, ◌<◌, ◌≤◌, ◌+◌, ◌^◌, ℕ, zero, suc, Bool, true, ◌==◌, List, [], ◌∷◌, ◌++◌, length, get_or, nat_lt, nat_le, Option, Some, None, decimal, codes, refl, sym, ap, subst, arith, append_assoc, length-append}
use Rattle.std.proofs.lemmas.Bool.Decides.{nat_tests}
use Rattle.std.proofs.lemmas.Bool.{ltb-true, leb-true}
use Rattle.std.proofs.lemmas.List.{get_or_append_left}
use Rattle.std.specs.List.{list_all}
use Rattle.std.specs.Char.{is_ascii_uppercase}
use Rattle.fare_codes.specs.Numbers.{nuc_text}
use Rattle.fare_codes.specs.Codes.{is_city, is_carrier, is_code_character}
use Rattle.fare_codes.specs.declared.city.City.{City}
use Rattle.fare_line.specs.declared.line.part.Letter.{Letter}
use Rattle.fare_line.specs.declared.line.part.Letter.TheVariants.{Bare, Mileage}
use Rattle.fare_line.specs.declared.line.sector.LineSector.{LineSector}
use Rattle.fare_line.specs.declared.line.part.LinePart.{LinePart}
use Rattle.fare_line.specs.declared.line.plus_up.PlusUp.{PlusUp}
use Rattle.fare_line.specs.declared.reading.pieces.Totals.{Totals}
use Rattle.fare_line.specs.Line.{is_amount, is_flown, is_letter, is_pair, is_priced, is_gap, is_rule, is_unit}
use Rattle.fare_line.specs.LineText.{letter_text, mark_text, pair_text, plus_text, price_text, sector_text, spaced, tag_text, transfer_text}
use Rattle.fare_line.specs.reader.Pieces.{later_letters}
use Rattle.fare_line.proofs.Words.{all_at_least, both_tests}
use Rattle.fare_line.proofs.DraftLaws.{all_joined}
use Rattle.fare_line.proofs.CodeLaws.{carrier_cells, index_of, steps_of}
use Rattle.fare_line.proofs.MarkLaws.{is_plain, nuc_plain, seven_tests}
use Rattle.fare_line.proofs.PieceLaws.{slashes, text_of_totals}

-- ---- no space stands in a mark

-- a byte above the space
abbrev pub is_dark : ℕ → Bool
is_dark c = nat_lt 32 c

dark_from : (p : ℕ → Bool) → ((c : ℕ) → p c ≡ true → is_dark c ≡ true) → (xs : List ℕ) → list_all p xs ≡ true → list_all is_dark xs ≡ true
dark_from p h [] all = refl
dark_from p h (x ∷ xs) all =
    let tests = both_tests (p x) (list_all p xs) all in
    rw (h x tests.0, dark_from p h xs tests.1) refl

dark_plain : (c : ℕ) → is_plain c ≡ true → is_dark c ≡ true
dark_plain c h = grind (arith, nat_tests)

dark_upper : (c : ℕ) → is_ascii_uppercase c ≡ true → is_dark c ≡ true
dark_upper c h = grind (arith, nat_tests)

dark_city : (city : City) → is_city city ≡ true → list_all is_dark city ≡ true
dark_city city h =
    let tests = both_tests (length city == 3) (list_all is_ascii_uppercase city) h in
    dark_from is_ascii_uppercase dark_upper city tests.1

dark_word : (i : ℕ) → nat_le i 5 ≡ true → list_all is_dark (get_or (codes "M" ∷ later_letters) i []) ≡ true
dark_word zero h = refl
dark_word (suc zero) h = refl
dark_word (suc (suc zero)) h = refl
dark_word (suc (suc (suc zero))) h = refl
dark_word (suc (suc (suc (suc zero)))) h = refl
dark_word (suc (suc (suc (suc (suc zero))))) h = refl
dark_word (suc (suc (suc (suc (suc (suc i)))))) h = absurd (omega (arith, leb-true (suc (suc (suc (suc (suc (suc i)))))) 5 h))

dark_letter : (letter : Letter) → is_letter letter ≡ true → list_all is_dark (letter_text letter) ≡ true
dark_letter Bare h = refl
dark_letter (Mileage s) h =
    let at = index_of s h in
    ap (λ (k : ℕ). list_all is_dark (letter_text (Mileage k))) at.2 ∙ ap (list_all is_dark) (sym (steps_of at.0 at.1).1) ∙ dark_word at.0 at.1

dark_pair : (letter : Letter) (pair : Option (City × City)) → is_pair letter pair ≡ true → list_all is_dark (pair_text pair) ≡ true
dark_pair letter None h = refl
dark_pair Bare (Some pair) h = absurd cc
dark_pair (Mileage s) (Some pair) h =
    let cities = both_tests (is_city pair.0) (is_city pair.1) h in
    all_joined is_dark pair.0 pair.1 (dark_city pair.0 cities.0) (dark_city pair.1 cities.1)

dark_mark : (letter : Letter) (pair : Option (City × City)) (amount : ℕ) → is_letter letter ≡ true → is_pair letter pair ≡ true → is_amount amount ≡ true
    → (list_all is_dark (mark_text letter pair amount) ≡ true) × (4 ≤ length (mark_text letter pair amount))
dark_mark letter pair amount x y z =
    let nuc = nuc_plain amount (ltb-true amount (10 ^ 11) z) in
    let front : list_all is_dark (letter_text letter ++ pair_text pair) ≡ true = all_joined is_dark (letter_text letter) (pair_text pair) (dark_letter letter x) (dark_pair letter pair y) in
    let size : length (letter_text letter ++ pair_text pair ++ nuc_text amount) ≡ length (letter_text letter ++ pair_text pair) + length (nuc_text amount) = length-append (letter_text letter ++ pair_text pair) (nuc_text amount) in
    (all_joined is_dark (letter_text letter ++ pair_text pair) (nuc_text amount) front (dark_from is_plain dark_plain (nuc_text amount) nuc.0), omega (arith, nuc.1))

-- ---- the first bytes of each piece

-- the third byte of a price is no space
price_third : (part : LinePart) (more : List ℕ) → is_priced part ≡ true → is_dark (get_or (price_text part ++ more) 2 0) ≡ true
price_third part more h =
    let tests = seven_tests (is_gap part.gap) (is_letter part.letter) (is_pair part.letter part.pair) (is_amount part.amount) (is_carrier part.carrier) (is_rule part.rule) (is_unit part.unit) h in
    let dark = dark_mark part.letter part.pair part.amount tests.1 tests.2 tests.3 in
    let regroup : price_text part ++ more ≡ mark_text part.letter part.pair part.amount ++ (32 ∷ (tag_text part.carrier part.class part.kind part.rule ++ (codes "/" ++ (spaced (decimal part.unit) ++ more)))) =
    behind (mark_text part.letter part.pair part.amount) (tag_text part.carrier part.class part.kind part.rule) (codes "/") (spaced (decimal part.unit)) more in
    ap (λ (t : List ℕ). is_dark (get_or t 2 0)) regroup
    ∙ ap is_dark (get_or_append_left (mark_text part.letter part.pair part.amount) (32 ∷ (tag_text part.carrier part.class part.kind part.rule ++ (codes "/" ++ (spaced (decimal part.unit) ++ more)))) 0 2 (omega (arith, dark.1)))
    ∙ all_at_least is_dark (mark_text part.letter part.pair part.amount) 2 (omega (arith, dark.1)) dark.0
  where
    behind : (m t s u x : List ℕ) → (((m ++ (32 ∷ [])) ++ t) ++ s ++ u) ++ x ≡ m ++ (32 ∷ (t ++ (s ++ (u ++ x))))
    behind m t s u x = simp append_assoc

pub record Heads (sector : LineSector) (more : List ℕ) : Type 0 where
  pub a : ℕ
  pub b : ℕ
  pub a_is : is_code_character a ≡ true
  pub b_is : is_code_character b ≡ true
  pub first : get_or (sector_text sector ++ more) 0 0 ≡ a
  pub second : get_or (sector_text sector ++ more) 1 0 ≡ b
  pub third : get_or (sector_text sector ++ more) 2 0 ≡ 32

sector_heads : (sector : LineSector) (more : List ℕ) → is_flown sector ≡ true → Heads sector more
sector_heads sector more h =
    let tests = both_tests (is_carrier sector.carrier) (is_city sector.to) h in
    let cells = carrier_cells sector.carrier tests.0 in
    record {
      a = cells.a;
      b = cells.b;
      a_is = cells.a_is;
      b_is = cells.b_is;
      first = ap (λ (c : List ℕ). get_or ((spaced c ++ transfer_text sector.transfer ++ spaced sector.to) ++ more) 0 0) cells.whole;
      second = ap (λ (c : List ℕ). get_or ((spaced c ++ transfer_text sector.transfer ++ spaced sector.to) ++ more) 1 0) cells.whole;
      third = ap (λ (c : List ℕ). get_or ((spaced c ++ transfer_text sector.transfer ++ spaced sector.to) ++ more) 2 0) cells.whole;
    }

-- ---- no piece begins another

no_slash : (c : ℕ) → is_code_character c ≡ true → c ≡ 47 → ⊥
no_slash c h e = no (subst (λ (k : ℕ). is_code_character k ≡ true) e h)
  where
    no : is_code_character 47 ≡ true → ⊥
    no f = absurd cc

pub sector_part : (sector : LineSector) (part : LinePart) (x y : List ℕ) → is_flown sector ≡ true → is_priced part ≡ true → sector_text sector ++ x ≡ price_text part ++ y → ⊥
sector_part sector part x y h k e =
    let heads = sector_heads sector x h in
    let third : get_or (price_text part ++ y) 2 0 ≡ 32 = ap (λ (t : List ℕ). get_or t 2 0) (sym e) ∙ heads.third in
    no (ap is_dark (sym third) ∙ price_third part y k)
  where
    no : is_dark 32 ≡ true → ⊥
    no f = absurd cc

pub sector_gap : (sector : LineSector) (city : City) (x y : List ℕ) → is_flown sector ≡ true → sector_text sector ++ x ≡ slashes city ++ y → ⊥
sector_gap sector city x y h e =
    let heads = sector_heads sector x h in
    no_slash heads.a heads.a_is (sym heads.first ∙ ap (λ (t : List ℕ). get_or t 0 0) e)

pub sector_plus : (sector : LineSector) (plus : PlusUp) (x y : List ℕ) → is_flown sector ≡ true → sector_text sector ++ x ≡ plus_text plus ++ y → ⊥
sector_plus sector plus x y h e =
    let heads = sector_heads sector x h in
    no_slash heads.b heads.b_is (sym heads.second ∙ ap (λ (t : List ℕ). get_or t 1 0) e)

unlike : (a b : ℕ) → a < b → a ≡ b → ⊥
unlike a b below e = absurd (omega arith)

pub sector_end : (sector : LineSector) (totals : Totals) (x y : List ℕ) → is_flown sector ≡ true → sector_text sector ++ x ≡ text_of_totals totals ++ y → ⊥
sector_end sector totals x y h e =
    let heads = sector_heads sector x h in
    unlike 32 67 (omega arith) (sym heads.third ∙ ap (λ (t : List ℕ). get_or t 2 0) e)

pub gap_plus : (city : City) (plus : PlusUp) (x y : List ℕ) → slashes city ++ x ≡ plus_text plus ++ y → ⊥
gap_plus city plus x y e = unlike 47 80 (omega arith) (ap (λ (t : List ℕ). get_or t 0 0) e)

pub gap_end : (city : City) (totals : Totals) (x y : List ℕ) → slashes city ++ x ≡ text_of_totals totals ++ y → ⊥
gap_end city totals x y e = unlike 47 78 (omega arith) (ap (λ (t : List ℕ). get_or t 0 0) e)

pub plus_end : (plus : PlusUp) (totals : Totals) (x y : List ℕ) → plus_text plus ++ x ≡ text_of_totals totals ++ y → ⊥
plus_end plus totals x y e = unlike 78 80 (omega arith) (sym (ap (λ (t : List ℕ). get_or t 0 0) e))
