-- The mark and the price of a part, as they are read.
use Rattle.std.proofs.Common.{◌≡◌, ◌∙◌, ◌<◌, ◌≤◌, ◌+◌, ◌/◌, ◌%◌, ◌^◌, ℕ, zero, suc, Bool, true, ◌&&◌, ◌||◌, ◌==◌, List, [], ◌∷◌, ◌++◌, length, get_or, nat_le, Option, Some, None, inl, inr, decimal, codes, refl, sym, ap, subst, arith, append_assoc, append-nil, length-append}
use Rattle.std.proofs.lemmas.Bool.Decides.{nat_tests}
use Rattle.std.proofs.lemmas.Bool.{ltb-true, leb-true}
use Rattle.std.proofs.lemmas.List.Folds.{list_all-append}
use Rattle.std.proofs.lemmas.List.{get_or_append_left}
use Rattle.std.specs.List.{list_all}
use Rattle.std.specs.Char.{is_ascii_uppercase, is_ascii_digit}
use Rattle.std.proofs.lemmas.Fmt.{digits_decimal, decimal_nonempty}
use Rattle.fare_codes.specs.Numbers.{nuc_text}
use Rattle.fare_codes.specs.Codes.{is_city, is_carrier}
use Rattle.fare_codes.specs.declared.cabin.Cabin.TheVariants.{F}
use Rattle.fare_codes.specs.declared.kind.Kind.TheVariants.{OW}
use Rattle.fare_codes.specs.declared.city.City.{City}
use Rattle.fare_line.specs.declared.line.part.Letter.{Letter}
use Rattle.fare_line.specs.declared.line.part.Letter.TheVariants.{Bare, Mileage}
use Rattle.fare_line.specs.declared.reading.marks.Mark.{Mark}
use Rattle.fare_line.specs.declared.reading.marks.Tag.{Tag}
use Rattle.fare_line.specs.declared.line.part.LinePart.{LinePart}
use Rattle.fare_line.specs.declared.reading.byte_kind.ByteKind.TheVariants.{This}
use Rattle.fare_line.specs.Line.{is_amount, is_letter, is_pair, is_priced, is_gap, is_unit, is_rule}
use Rattle.fare_line.specs.LineText.{letter_text, mark_text, price_text, tag_text, spaced}
use Rattle.fare_line.specs.reader.Reading.{either, byte_at, city_at, amount_at, unit_at}
use Rattle.fare_line.specs.reader.Pieces.{later_letters, letter_at, unpaired_at, paired_at, lettered_at, mark_at, tag_at, part_of, price_at}
use Rattle.fare_line.proofs.Readers.{Reads, Joined, Or, joined, same, reads_either}
use Rattle.fare_line.proofs.Words.{both_tests, all_at_least}
use Rattle.fare_line.proofs.Numerals.{digits_model, is_digit}
use Rattle.fare_line.proofs.Amounts.{IsText, reads_amount, reads_unit, nuc_is}
use Rattle.fare_line.proofs.Chains.{chain1, chain3, chain4, reads_this}
use Rattle.fare_line.proofs.CodeLaws.{city_cells, index_of, is_marked, reads_city, reads_letter, steps_of}
use Rattle.fare_line.proofs.RuleLaws.{is_tag, reads_tag, slashed_tag}

-- ---- the bytes of an amount

-- a digit or a point
abbrev pub is_plain : ℕ → Bool
is_plain c = is_ascii_digit c || (c == 46)

digits_are_plain : (ds : List ℕ) → list_all is_ascii_digit ds ≡ true → list_all is_plain ds ≡ true
digits_are_plain [] h = refl
digits_are_plain (d ∷ ds) h =
    let tests = both_tests (is_ascii_digit d) (list_all is_ascii_digit ds) h in
    rw (tests.0, digits_are_plain ds tests.1) refl

pub nuc_plain : (n : ℕ) → n < 10 ^ 11 → (list_all is_plain (nuc_text n) ≡ true) × (4 ≤ length (nuc_text n)) × (is_ascii_digit (get_or (nuc_text n) 0 0) ≡ true)
nuc_plain n below =
    let whole : n / 100 < 2 ^ 64 = omega arith in
    let pieces = nuc_is n (n / 100) (n % 100) (omega arith) (omega arith) in
    let digits = digits_decimal digits_model (n / 100) whole in
    let some = decimal_nonempty (n / 100) whole in
    let tens : is_ascii_digit (48 + n % 100 / 10) ≡ true = is_digit (48 + n % 100 / 10) (omega arith) (omega arith) in
    let ones : is_ascii_digit (48 + n % 100 % 10) ≡ true = is_digit (48 + n % 100 % 10) (omega arith) (omega arith) in
    let tail : list_all is_plain ((48 + n % 100 / 10) ∷ (48 + n % 100 % 10) ∷ []) ≡ true = rw (tens, ones) refl in
    let point : list_all is_plain (46 ∷ []) ≡ true = refl in
    let front : list_all is_plain (decimal (n / 100) ++ 46 ∷ []) ≡ true = list_all-append is_plain (decimal (n / 100)) (46 ∷ []) ∙ rw (digits_are_plain (decimal (n / 100)) digits) refl in
    let all : list_all is_plain ((decimal (n / 100) ++ 46 ∷ []) ++ ((48 + n % 100 / 10) ∷ (48 + n % 100 % 10) ∷ [])) ≡ true =
    list_all-append is_plain (decimal (n / 100) ++ 46 ∷ []) ((48 + n % 100 / 10) ∷ (48 + n % 100 % 10) ∷ []) ∙ rw (front, tail) refl in
    let size : length ((decimal (n / 100) ++ 46 ∷ []) ++ ((48 + n % 100 / 10) ∷ (48 + n % 100 % 10) ∷ [])) ≡ length (decimal (n / 100)) + 1 + 2 =
    length-append (decimal (n / 100) ++ 46 ∷ []) ((48 + n % 100 / 10) ∷ (48 + n % 100 % 10) ∷ []) ∙ ap (λ (k : ℕ). k + 2) (length-append (decimal (n / 100)) (46 ∷ [])) in
    let first : get_or ((decimal (n / 100) ++ 46 ∷ []) ++ ((48 + n % 100 / 10) ∷ (48 + n % 100 % 10) ∷ [])) 0 0 ≡ get_or (decimal (n / 100)) 0 0 =
    get_or_append_left (decimal (n / 100) ++ 46 ∷ []) ((48 + n % 100 / 10) ∷ (48 + n % 100 % 10) ∷ []) 0 0 (omega (arith, length-append (decimal (n / 100)) (46 ∷ [])))
    ∙ get_or_append_left (decimal (n / 100)) (46 ∷ []) 0 0 some in (
      subst (λ (t : List ℕ). list_all is_plain t ≡ true) pieces all,
      subst (λ (t : List ℕ). 4 ≤ length t) pieces (omega (arith, size)),
      subst (λ (t : List ℕ). is_ascii_digit (get_or t 0 0) ≡ true) pieces (ap is_ascii_digit first ∙ all_at_least is_ascii_digit (decimal (n / 100)) 0 some digits),
    )

-- a byte of an amount that others follow
pub nuc_at : (n i : ℕ) (more : List ℕ) → is_amount n ≡ true → i < 4 → is_plain (get_or (nuc_text n ++ more) i 0) ≡ true
nuc_at n i more valid below =
    let facts = nuc_plain n (ltb-true n (10 ^ 11) valid) in
    let within : i < length (nuc_text n) = omega (arith, facts.1) in
    ap is_plain (get_or_append_left (nuc_text n) more 0 i within) ∙ all_at_least is_plain (nuc_text n) i within facts.0

-- its first byte
pub nuc_first : (n : ℕ) (more : List ℕ) → is_amount n ≡ true → is_ascii_digit (get_or (nuc_text n ++ more) 0 0) ≡ true
nuc_first n more valid =
    let facts = nuc_plain n (ltb-true n (10 ^ 11) valid) in
    ap is_ascii_digit (get_or_append_left (nuc_text n) more 0 0 (omega (arith, facts.1))) ∙ facts.2

-- ---- marks

pub record IsUnpaired (letter : Letter) (mark : Mark) (text : List ℕ) : Type 0 where
  pub letter_is : mark.letter ≡ letter
  pub pair_is : mark.pair ≡ None
  pub valid : is_amount mark.amount ≡ true
  pub spelled : text ≡ nuc_text mark.amount

pub record IsPaired (letter : Letter) (mark : Mark) (text : List ℕ) : Type 0 where
  pub letter_is : mark.letter ≡ letter
  pub first : City
  pub second : City
  pub pair_is : mark.pair ≡ Some (first, second)
  pub first_is : is_city first ≡ true
  pub second_is : is_city second ≡ true
  pub valid : is_amount mark.amount ≡ true
  pub spelled : text ≡ first ++ (second ++ nuc_text mark.amount)

same_mark : (mark : Mark) (letter : Letter) (pair : Option (City × City)) → mark.letter ≡ letter → mark.pair ≡ pair → mark ≡ record { letter = letter; pair = pair; amount = mark.amount }
same_mark mark letter pair e f = rw (← e, ← f) refl

reads_unpaired : (letter : Letter) → Reads (IsUnpaired letter) (unpaired_at letter)
unfolding unpaired_at
reads_unpaired letter =
    chain1 is_amount nuc_text (λ (n : ℕ). record { letter = letter; pair = None; amount = n }) (IsUnpaired letter) amount_at reads_amount
    (λ n x. record { letter_is = refl; pair_is = refl; valid = x; spelled = refl })
    (λ mark text h. record { a = mark.amount; a_is = h.valid; value = same_mark mark letter None h.letter_is h.pair_is; whole = h.spelled })

reads_paired : (letter : Letter) → Reads (IsPaired letter) (paired_at letter)
unfolding paired_at
reads_paired letter =
    chain3 is_city (λ (c : List ℕ). c) is_city (λ (c : List ℕ). c) is_amount nuc_text (λ (a b : List ℕ) (n : ℕ). record { letter = letter; pair = Some (a, b); amount = n }) (IsPaired letter)
    city_at city_at amount_at reads_city reads_city reads_amount (codes "AAA") refl 0 refl
    (λ a b n x y z. record { letter_is = refl; first = a; second = b; pair_is = refl; first_is = x; second_is = y; valid = z; spelled = refl })
    (λ mark text h. record {
      a = h.first;
      b = h.second;
      c = mark.amount;
      a_is = h.first_is;
      b_is = h.second_is;
      c_is = h.valid;
      value = same_mark mark letter (Some (h.first, h.second)) h.letter_is h.pair_is;
      whole = h.spelled;
    })

upper_is_no_digit : (c : ℕ) → is_ascii_uppercase c ≡ true → is_ascii_digit c ≡ true → ⊥
upper_is_no_digit c h k = grind (arith, nat_tests)

-- a pair begins with a letter, an amount with a digit
apart_pair : (letter : Letter) (a b : Mark) (s t x y : List ℕ) → IsPaired letter a s → IsUnpaired letter b t → s ++ x ≡ t ++ y → ⊥
apart_pair letter a b s t x y p q e =
    let cells = city_cells p.first p.first_is in
    let digit = nuc_first b.amount y q.valid in
    let both : p.first ++ (p.second ++ nuc_text a.amount) ++ x ≡ nuc_text b.amount ++ y = ap (λ (u : List ℕ). u ++ x) (sym p.spelled) ∙ e ∙ ap (λ (u : List ℕ). u ++ y) q.spelled in
    let head : get_or (p.first ++ (p.second ++ nuc_text a.amount) ++ x) 0 0 ≡ cells.a = ap (λ (u : List ℕ). get_or (u ++ (p.second ++ nuc_text a.amount) ++ x) 0 0) cells.whole in
    let same_head : cells.a ≡ get_or (nuc_text b.amount ++ y) 0 0 = sym head ∙ ap (λ (u : List ℕ). get_or u 0 0) both in
    upper_is_no_digit cells.a cells.a_is (ap is_ascii_digit same_head ∙ digit)

abbrev Lettered : Mark → List ℕ → Type 0
Lettered = Joined (IsText is_marked letter_text) (λ (l : Letter). Or (IsPaired l) (IsUnpaired l))

nought : (letter : Letter) → IsUnpaired letter (record { letter = letter; pair = None; amount = 0 }) (nuc_text 0)
nought letter = record { letter_is = refl; pair_is = refl; valid = refl; spelled = refl }

reads_lettered : Reads Lettered lettered_at
unfolding lettered_at
reads_lettered =
    joined (IsText is_marked letter_text) (λ (l : Letter). Or (IsPaired l) (IsUnpaired l)) letter_at (λ (l : Letter) (rest : List ℕ). either (paired_at l rest) (unpaired_at l rest)) reads_letter
    (λ l text h. reads_either (IsPaired l) (IsUnpaired l) (paired_at l) (unpaired_at l) (reads_paired l) (reads_unpaired l) (λ a b s t x y p q e. apart_pair l a b s t x y p q e))
    (λ l text h. (record { letter = l; pair = None; amount = 0 }, nuc_text 0, inr (nought l)))

-- the letter M in a word of letters
m_at : (i : ℕ) (more : List ℕ) → nat_le i 5 ≡ true → (k : ℕ) × (k < 4) × (get_or (get_or (codes "M" ∷ later_letters) i [] ++ more) k 0 ≡ 77)
m_at zero more h = (0, omega arith, refl)
m_at (suc zero) more h = (1, omega arith, refl)
m_at (suc (suc zero)) more h = (2, omega arith, refl)
m_at (suc (suc (suc zero))) more h = (2, omega arith, refl)
m_at (suc (suc (suc (suc zero)))) more h = (2, omega arith, refl)
m_at (suc (suc (suc (suc (suc zero))))) more h = (2, omega arith, refl)
m_at (suc (suc (suc (suc (suc (suc i)))))) more h = absurd (omega (arith, leb-true (suc (suc (suc (suc (suc (suc i)))))) 5 h))

m_in : (letter : Letter) (more : List ℕ) → is_marked letter ≡ true → (k : ℕ) × (k < 4) × (get_or (letter_text letter ++ more) k 0 ≡ 77)
m_in Bare more h = absurd cc
m_in (Mileage s) more h =
    let at = index_of s h in
    let word : get_or (codes "M" ∷ later_letters) at.0 [] ≡ letter_text (Mileage s) = (steps_of at.0 at.1).1 ∙ ap (λ (k : ℕ). letter_text (Mileage k)) (sym at.2) in
    let found = m_at at.0 more at.1 in
    (found.0, found.1, ap (λ (t : List ℕ). get_or (t ++ more) found.0 0) (sym word) ∙ found.2)

-- an amount has no letter M
apart_mark : (a b : Mark) (s t x y : List ℕ) → Lettered a s → IsUnpaired Bare b t → s ++ x ≡ t ++ y → ⊥
apart_mark a b s t x y j q e =
    let found = m_in j.first (j.behind ++ x) j.front_is.valid in
    let both : letter_text j.first ++ (j.behind ++ x) ≡ nuc_text b.amount ++ y =
    sym (append_assoc (letter_text j.first) j.behind x) ∙ ap (λ (u : List ℕ). u ++ x) (sym (j.whole ∙ ap (λ (u : List ℕ). u ++ j.behind) j.front_is.spelled)) ∙ e ∙ ap (λ (u : List ℕ). u ++ y) q.spelled in
    let plain = nuc_at b.amount found.0 y q.valid found.1 in
    let there : get_or (nuc_text b.amount ++ y) found.0 0 ≡ 77 = ap (λ (u : List ℕ). get_or u found.0 0) (sym both) ∙ found.2 in
    no_m (subst (λ (c : ℕ). is_plain c ≡ true) there plain)
  where
    no_m : is_plain 77 ≡ true → ⊥
    no_m h = absurd cc

-- a mark's letter, pair and amount are in their forms
abbrev pub is_mark : Mark → Bool
is_mark mark = is_letter mark.letter && is_pair mark.letter mark.pair && is_amount mark.amount

abbrev pub text_of_mark : Mark → List ℕ
text_of_mark mark = mark_text mark.letter mark.pair mark.amount

three_tests : (a b c : Bool) → (a && b && c) ≡ true → (a ≡ true) × (b ≡ true) × (c ≡ true)
three_tests a b c h = (grind arith, grind arith, grind arith)

mark_from : (letter : Letter) (pair : Option (City × City)) (amount : ℕ) (text : List ℕ) → is_letter letter ≡ true → is_pair letter pair ≡ true → is_amount amount ≡ true
    → text ≡ mark_text letter pair amount → Or Lettered (IsUnpaired Bare) (record { letter = letter; pair = pair; amount = amount }) text
mark_from Bare None amount text x y z e = inr (record { letter_is = refl; pair_is = refl; valid = z; spelled = e })
mark_from Bare (Some pair) amount text x y z e = absurd cc
mark_from (Mileage s) None amount text x y z e =
    inl (record {
      first = Mileage s;
      front = letter_text (Mileage s);
      behind = nuc_text amount;
      front_is = record { valid = x; spelled = refl };
      behind_is = inr (record { letter_is = refl; pair_is = refl; valid = z; spelled = refl });
      whole = e ∙ ap (λ (t : List ℕ). t ++ nuc_text amount) (append-nil (letter_text (Mileage s)));
    })
mark_from (Mileage s) (Some pair) amount text x y z e =
    let cities = both_tests (is_city pair.0) (is_city pair.1) y in
    inl (record {
      first = Mileage s;
      front = letter_text (Mileage s);
      behind = pair.0 ++ (pair.1 ++ nuc_text amount);
      front_is = record { valid = x; spelled = refl };
      behind_is = inl (record { letter_is = refl; first = pair.0; second = pair.1; pair_is = refl; first_is = cities.0; second_is = cities.1; valid = z; spelled = refl });
      whole = e ∙ simp append_assoc;
    })

marked_letter : (letter : Letter) → is_marked letter ≡ true → is_letter letter ≡ true
marked_letter Bare h = refl
marked_letter (Mileage s) h = h

-- a pair behind a letter
paired_is : (letter : Letter) (first second : City) → is_marked letter ≡ true → is_city first ≡ true → is_city second ≡ true → is_pair letter (Some (first, second)) ≡ true
paired_is Bare first second h x y = absurd cc
paired_is (Mileage s) first second h x y = rw (x, y) refl

unpaired_is : (letter : Letter) → is_pair letter None ≡ true
unpaired_is Bare = refl
unpaired_is (Mileage s) = refl

mark_to : (mark : Mark) (text : List ℕ) → Or Lettered (IsUnpaired Bare) mark text → IsText is_mark text_of_mark mark text
mark_to mark text (inr q) = record {
  valid = rw (q.letter_is, q.pair_is, q.valid) refl;
  spelled = q.spelled ∙ rw (q.letter_is, q.pair_is) refl;
}
mark_to mark text (inl j) = elim j.behind_is [
  | inl p ↦ record {
    valid = rw (p.letter_is, p.pair_is, marked_letter j.first j.front_is.valid, paired_is j.first p.first p.second j.front_is.valid p.first_is p.second_is, p.valid) refl;
    spelled = j.whole ∙ rw (j.front_is.spelled, p.spelled, p.letter_is, p.pair_is) (sym (simp append_assoc));
  }
  | inr q ↦ record {
    valid = rw (q.letter_is, q.pair_is, marked_letter j.first j.front_is.valid, unpaired_is j.first, q.valid) refl;
    spelled = j.whole ∙ rw (j.front_is.spelled, q.spelled, q.letter_is, q.pair_is, append-nil) refl;
  }
]

pub reads_mark : Reads (IsText is_mark text_of_mark) mark_at
unfolding mark_at
reads_mark =
    same (Or Lettered (IsUnpaired Bare)) (IsText is_mark text_of_mark) mark_at
    (reads_either Lettered (IsUnpaired Bare) lettered_at (unpaired_at Bare) reads_lettered (reads_unpaired Bare) (λ a b s t x y p q e. apart_mark a b s t x y p q e))
    (λ mark text o. mark_to mark text o)
    (λ mark text h. let tests = three_tests (is_letter mark.letter) (is_pair mark.letter mark.pair) (is_amount mark.amount) h.valid in mark_from mark.letter mark.pair mark.amount text tests.0 tests.1 tests.2 h.spelled)

-- ---- the price of a part

pub record IsPart (end : ℕ) (gap : Option City) (part : LinePart) (text : List ℕ) : Type 0 where
  pub end_is : part.end ≡ end
  pub gap_is : part.gap ≡ gap
  pub valid : is_priced part ≡ true
  pub spelled : text ≡ price_text part

pub seven_tests : (a b c d e f g : Bool) → (a && b && c && d && e && f && g) ≡ true → (a ≡ true) × (b ≡ true) × (c ≡ true) × (d ≡ true) × (e ≡ true) × (f ≡ true) × (g ≡ true)
seven_tests a b c d e f g h = (grind arith, grind arith, grind arith, grind arith, grind arith, grind arith, grind arith)

priced : (end : ℕ) (gap : Option City) (mark : Mark) (tag : Tag) (unit : ℕ) → is_gap gap ≡ true → is_mark mark ≡ true → is_tag tag ≡ true → is_unit unit ≡ true → is_priced (part_of end gap mark tag unit) ≡ true
priced end gap mark tag unit x y z w =
    let m = three_tests (is_letter mark.letter) (is_pair mark.letter mark.pair) (is_amount mark.amount) y in
    let t = both_tests (is_carrier tag.carrier) (is_rule tag.rule) z in
    rw (x, m.0, m.1, m.2, t.0, t.1, w) refl

pub reads_price : (end : ℕ) (gap : Option City) → is_gap gap ≡ true → Reads (IsPart end gap) (price_at end gap)
unfolding price_at
reads_price end gap given =
    chain4 is_mark text_of_mark (λ (b : ℕ). b == 32) (λ (b : ℕ). 32 ∷ []) is_tag slashed_tag is_unit (λ (u : ℕ). spaced (decimal u))
    (λ (mark : Mark) (space : ℕ) (tag : Tag) (unit : ℕ). part_of end gap mark tag unit) (IsPart end gap)
    mark_at (byte_at (This 32)) tag_at unit_at reads_mark (reads_this 32) reads_tag reads_unit
    32 refl (record { carrier = codes "AA"; class = F; kind = OW; rule = None }) refl 1 refl
    (λ mark b tag unit x y z w. record {
      end_is = refl;
      gap_is = refl;
      valid = priced end gap mark tag unit given x z w;
      spelled = regroup (text_of_mark mark) (32 ∷ []) (tag_text tag.carrier tag.class tag.kind tag.rule) (codes "/") (spaced (decimal unit));
    })
    (λ part text h. let tests = seven_tests (is_gap part.gap) (is_letter part.letter) (is_pair part.letter part.pair) (is_amount part.amount) (is_carrier part.carrier) (is_rule part.rule) (is_unit part.unit) h.valid in record {
      a = record { letter = part.letter; pair = part.pair; amount = part.amount };
      a_is = rw (tests.1, tests.2, tests.3) refl;
      b = 32;
      b_is = refl;
      c = record { carrier = part.carrier; class = part.class; kind = part.kind; rule = part.rule };
      c_is = rw (tests.4, tests.5) refl;
      d = part.unit;
      d_is = tests.6;
      value = rw (← h.end_is, ← h.gap_is) refl;
      whole = h.spelled ∙ sym (regroup (mark_text part.letter part.pair part.amount) (32 ∷ []) (tag_text part.carrier part.class part.kind part.rule) (codes "/") (spaced (decimal part.unit)));
    })
  where
    regroup : (a b c d e : List ℕ) → a ++ (b ++ ((c ++ d) ++ e)) ≡ (((a ++ b) ++ c) ++ d) ++ e
    regroup a b c d e = simp append_assoc
