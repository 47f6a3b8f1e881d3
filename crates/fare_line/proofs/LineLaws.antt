-- A line is read exactly from its text, and what is no line is left where no line goes on.
use Rattle.std.proofs.Common.{◌≡◌, ◌∙◌, ◌<◌, ◌≤◌, ◌+◌, ◌-◌, ℕ, zero, suc, Bool, true, false, ◌==◌, List, [], ◌∷◌, ◌++◌, length, take, Result, Ok, Err, inl, inr, refl, sym, ap, subst, arith, append_assoc, append-nil, length-append, if◌then◌else◌}
use Rattle.std.specs.List.{flat_map}
use Rattle.std.proofs.lemmas.Bool.{eqb-true}
use Rattle.std.proofs.lemmas.List.{take_at}
use Rattle.fare_line.specs.Line.{CalculationLine, is_line}
use Rattle.fare_line.specs.LineText.{line_text, parts_text, spaced}
use Rattle.fare_line.specs.LongestFront.{BeginsLine, IsLongestFront}
use Rattle.fare_line.specs.reader.Draft.{line_at, start, whole_line}
use Rattle.fare_line.proofs.Readers.{Reads, cases, ok_is_not_err, one_reading, same, stopped_is}
use Rattle.fare_line.proofs.Amounts.{IsText}
use Rattle.fare_line.proofs.DraftLaws.{draft_start}
use Rattle.fare_line.proofs.PieceAt.{piece_text}
use Rattle.fare_line.proofs.RunLaws.{FromCity, reads_from_city}
use Rattle.fare_line.proofs.WayTexts.{so_far, way_is_text}
use Rattle.fare_line.proofs.LineWays.{line_parts, line_way, pieces_are_text, pieces_of}

-- the text of a line of which only the first city is read
start_text : (city : List ℕ) → so_far (start city) ≡ spaced city
unfolding so_far parts_text
start_text city = append-nil (spaced city)

reads_line : Reads (IsText is_line line_text) line_at
reads_line =
    same FromCity (IsText is_line line_text) line_at reads_from_city
    (λ line text j.
    let l = j.behind_is in
    let sound = way_is_text l.pieces (start j.first) line (draft_start j.first j.front_is.valid) l.way in
    record {
      valid = sound.0;
      spelled = j.whole ∙ ap (λ (t : List ℕ). t ++ j.behind) (j.front_is.spelled ∙ sym (start_text j.first)) ∙ ap (λ (t : List ℕ). so_far (start j.first) ++ t) l.whole ∙ sym sound.1;
    })
    (λ line text h. record {
      first = line.from;
      front = spaced line.from;
      behind = flat_map piece_text (pieces_of line);
      front_is = record { valid = (line_parts line h.valid).from; spelled = refl };
      behind_is = record { pieces = pieces_of line; way = line_way line h.valid; whole = refl };
      whole = h.spelled ∙ sym (pieces_are_text line);
    })

-- ---- a text as a whole

abbrev Rest : CalculationLine × List ℕ → Result CalculationLine ℕ
Rest x = if length x.1 == 0 then Ok x.0 else Err (length x.1)

whole_of : (bytes rest : List ℕ) (line : CalculationLine) → line_at bytes ≡ Ok (line, rest) → whole_line bytes ≡ Rest (line, rest)
unfolding whole_line
whole_of bytes rest line e = rw e refl

some_left : (n : ℕ) → (suc n == 0) ≡ false
some_left n = go (suc n == 0) refl
  where
    go : (b : Bool) → (suc n == 0) ≡ b → (suc n == 0) ≡ false
    go true e = absurd (omega (arith, eqb-true (suc n) 0 e))
    go false e = e

-- a line with bytes behind it is none
whole_more : (bytes : List ℕ) (next : ℕ) (rest : List ℕ) (line : CalculationLine) → line_at bytes ≡ Ok (line, next ∷ rest) → whole_line bytes ≡ Err (length (next ∷ rest))
whole_more bytes next rest line e = whole_of bytes (next ∷ rest) line e ∙ rw (some_left (length rest)) refl

whole_none : (bytes : List ℕ) (left : ℕ) → line_at bytes ≡ Err left → whole_line bytes ≡ Err left
unfolding whole_line
whole_none bytes left e = rw e refl

pub whole_only : (bytes : List ℕ) (line : CalculationLine) → is_line line ≡ true → line_text line ≡ bytes → whole_line bytes ≡ Ok line
whole_only bytes line valid is =
    let read = reads_line.again line bytes [] (record { valid = valid; spelled = sym is }) in
    whole_of bytes [] line (ap line_at (sym (append-nil bytes)) ∙ read)

line_ok : CalculationLine → Result CalculationLine ℕ
line_ok line = Ok line

line_is : (a b : CalculationLine) → Ok a ≡ line_ok b → a ≡ b
unfolding line_ok
line_is a b e = cc

pub whole_found : (bytes : List ℕ) (line : CalculationLine) → whole_line bytes ≡ Ok line → (is_line line ≡ true) × (line_text line ≡ bytes)
unfolding line_ok
whole_found bytes line e = elim (cases (line_at bytes)) [
  | inl f ↦ go f.0.0 f.0.1 f.1
  | inr f ↦ absurd (ok_is_not_err line f.0 (sym e ∙ whole_none bytes f.0 f.1))
]
  where
    go : (a : CalculationLine) (rest : List ℕ) → line_at bytes ≡ Ok (a, rest) → (is_line line ≡ true) × (line_text line ≡ bytes)
    go a [] f =
        let same_line : a ≡ line = line_is a line (sym (whole_of bytes [] a f) ∙ e) in
        let got = reads_line.found bytes [] a f in
        (ap is_line (sym same_line) ∙ got.1.valid, ap line_text (sym same_line) ∙ sym got.1.spelled ∙ sym (got.2 ∙ append-nil got.0))
    go a (next ∷ rest) f = absurd (ok_is_not_err line (length (next ∷ rest)) (sym e ∙ whole_more bytes next rest a f))

front_more : (front back : List ℕ) (n : ℕ) → take (length front + n) (front ++ back) ≡ front ++ take n back
front_more [] back n = ap (λ (k : ℕ). take k back) (omega arith)
front_more (x ∷ front) back n =
    let next : suc (length front) + n ≡ suc (length front + n) = omega arith in
    ap (λ (k : ℕ). take k (x ∷ (front ++ back))) next ∙ ap (λ (t : List ℕ). x ∷ t) (front_more front back n)

-- no text of a line goes on from a front with the next byte
abbrev GoesNoFurther : List ℕ → List ℕ → Type 0
GoesNoFurther front back = (next : ℕ) (others more : List ℕ) (a : CalculationLine) → back ≡ next ∷ others → is_line a ≡ true → line_text a ≡ front ++ next ∷ more → ⊥

-- then it is the longest
no_longer : (bytes front back : List ℕ) → bytes ≡ front ++ back → GoesNoFurther front back
    → (rest : List ℕ) → back ≡ rest → (n : ℕ) → 0 < n → n ≤ length rest → BeginsLine (take (length front + n) bytes) → ⊥
no_longer bytes front back whole refuses rest e zero some few b = absurd (omega arith)
no_longer bytes front back whole refuses [] e (suc n) some few b = absurd (omega arith)
no_longer bytes front back whole refuses (next ∷ others) e (suc n) some few b =
    let cut : take (length front + suc n) bytes ≡ front ++ next ∷ take n others =
    ap (take (length front + suc n)) whole ∙ front_more front back (suc n) ∙ ap (λ (t : List ℕ). front ++ take (suc n) t) e in
    refuses next others (take n others ++ b.1) b.0 e b.2 (b.3 ∙ ap (λ (t : List ℕ). t ++ b.1) cut ∙ append_assoc front (next ∷ take n others) b.1)

longest_front : (bytes front back : List ℕ) → bytes ≡ front ++ back → BeginsLine front → GoesNoFurther front back
    → (length back ≤ length bytes) × IsLongestFront bytes (length bytes - length back)
longest_front bytes front back whole begins refuses =
    let sizes : length bytes ≡ length front + length back = ap length whole ∙ length-append front back in
    let size : length bytes - length back ≡ length front = omega arith in
    let first : take (length bytes - length back) bytes ≡ front = ap (λ (n : ℕ). take n bytes) size ∙ ap (take (length front)) whole ∙ take_at front back (length front) refl in (
      omega arith,
      record {
        within = omega arith;
        begins = subst BeginsLine (sym first) begins;
        longest = λ more above within b.
            (let is : more ≡ length front + (more - length front) = omega arith in
            no_longer bytes front back whole refuses back refl (more - length front) (omega arith) (omega arith) (subst (λ (k : ℕ). BeginsLine (take k bytes)) is b));
      },
    )

-- a text that stops
front_of : (bytes : List ℕ) (left : ℕ) → line_at bytes ≡ Err left → (left ≤ length bytes) × IsLongestFront bytes (length bytes - left)
front_of bytes left f =
    let stop = reads_line.stops bytes left f in
    let line = stop.viable.2 in
    let longest = longest_front bytes stop.front stop.back stop.whole (stop.viable.0, stop.viable.1, line.valid, sym line.spelled)
    (λ next others more a e valid is. stop.refused next others more (line_text a) [] a e (record { valid = valid; spelled = refl }) (append-nil (line_text a) ∙ is)) in
    subst (λ (k : ℕ). (k ≤ length bytes) × IsLongestFront bytes (length bytes - k)) stop.left_is longest

nothing_behind : (next : ℕ) (more : List ℕ) → [] ≡ next ∷ more → ⊥
nothing_behind next more e = cc

-- a line with bytes behind it
front_of_line : (bytes rest : List ℕ) (line : CalculationLine) → line_at bytes ≡ Ok (line, rest) → (length rest ≤ length bytes) × IsLongestFront bytes (length bytes - length rest)
front_of_line bytes rest line f =
    let got = reads_line.found bytes rest line f in
    longest_front bytes got.0 rest got.2 (line, [], got.1.valid, sym got.1.spelled ∙ sym (append-nil got.0))
    (λ next others more a e valid is.
    nothing_behind next more (one_reading (IsText is_line line_text) line_at reads_line a line (line_text a) got.0 [] (next ∷ more) (record { valid = valid; spelled = refl }) got.1 (append-nil (line_text a) ∙ is)).1)

-- what is no line
pub whole_stops : (bytes : List ℕ) (left : ℕ) → whole_line bytes ≡ Err left → (left ≤ length bytes) × IsLongestFront bytes (length bytes - left)
whole_stops bytes left e = elim (cases (line_at bytes)) [
  | inl f ↦ go f.0.0 f.0.1 f.1
  | inr f ↦ subst (λ (k : ℕ). (k ≤ length bytes) × IsLongestFront bytes (length bytes - k)) (stopped_is {A = CalculationLine} f.0 left (sym (whole_none bytes f.0 f.1) ∙ e)) (front_of bytes f.0 f.1)
]
  where
    go : (a : CalculationLine) (rest : List ℕ) → line_at bytes ≡ Ok (a, rest) → (left ≤ length bytes) × IsLongestFront bytes (length bytes - left)
    go a [] f = absurd (ok_is_not_err a left (sym (whole_of bytes [] a f) ∙ e))
    go a (next ∷ rest) f =
        subst (λ (k : ℕ). (k ≤ length bytes) × IsLongestFront bytes (length bytes - k))
        (stopped_is {A = CalculationLine} (length (next ∷ rest)) left (sym (whole_more bytes next rest a f) ∙ e)) (front_of_line bytes (next ∷ rest) a f)

-- two lines of one text are one
pub one_line : (a b : CalculationLine) → is_line a ≡ true → is_line b ≡ true → line_text a ≡ line_text b → a ≡ b
unfolding line_ok
one_line a b x y e = line_is a b (sym (whole_only (line_text a) a x refl) ∙ whole_only (line_text a) b y (sym e))

-- what is read is the one line of the text
pub found_one : (bytes : List ℕ) (found line : CalculationLine) → whole_line bytes ≡ Ok found → is_line line ≡ true → line_text line ≡ bytes → found ≡ line
found_one bytes found line e valid text =
    let got = whole_found bytes found e in
    one_line found line got.0 valid (got.1 ∙ sym text)

-- the text of a line is read
pub not_both : (bytes : List ℕ) (left : ℕ) (line : CalculationLine) → whole_line bytes ≡ Err left → is_line line ≡ true → line_text line ≡ bytes → ⊥
not_both bytes left line e valid text = ok_is_not_err line left (sym (whole_only bytes line valid text) ∙ e)
