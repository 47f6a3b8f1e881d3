-- The pieces of a line lead to it, and their texts are its text.
use Rattle.std.proofs.Common.{◌≡◌, ◌∙◌, ◌<◌, ◌≤◌, ◌+◌, ◌-◌, ℕ, zero, suc, Bool, true, ◌&&◌, List, [], ◌∷◌, ◌++◌, length, take, drop, Option, Some, None, ◌⊎◌, inl, inr, refl, sym, ap, subst, arith, append_assoc, append-nil, length-append, take-append-drop}
use Rattle.std.specs.Prelude.{is_none, nat_le}
use Rattle.std.specs.List.{flat_map, list_all}
use Rattle.std.proofs.lemmas.Bool.{leb-true}
use Rattle.std.proofs.lemmas.List.{length-drop, length-take}
use Rattle.fare_codes.specs.Codes.{is_city}
use Rattle.fare_codes.specs.declared.city.City.{City}
use Rattle.fare_line.specs.declared.line.sector.LineSector.{LineSector}
use Rattle.fare_line.specs.declared.line.part.LinePart.{LinePart}
use Rattle.fare_line.specs.declared.line.plus_up.PlusUp.{PlusUp}
use Rattle.fare_line.specs.declared.reading.pieces.Piece.{Piece}
use Rattle.fare_line.specs.declared.reading.pieces.Piece.TheVariants.{Sector, Part, Gap, Plus, End}
use Rattle.fare_line.specs.Line.{CalculationLine, are_parts, flown_count, gap_count, is_amount, is_flown, is_gap, is_led, is_line, is_plus, is_priced, is_rate}
use Rattle.fare_line.specs.LineText.{gap_text, line_text, parts_text, plus_text, price_text, sector_text, spaced, totals_text}
use Rattle.fare_line.specs.reader.Draft.{DraftLine, IsBetween, count, last_end, leads_without_gap, start, with_piece}
use Rattle.fare_line.proofs.PartLemmas.{leads}
use Rattle.fare_line.proofs.Words.{both_tests}
use Rattle.fare_line.proofs.DraftLaws.{none_flown}
use Rattle.fare_line.proofs.PieceAt.{piece_text}
use Rattle.fare_line.proofs.RunLaws.{Way}
use Rattle.fare_line.proofs.WayTexts.{empty}

-- ---- the pieces of a line

sectors_of : List LineSector → List Piece
sectors_of [] = []
sectors_of (sector ∷ sectors) = Sector sector ∷ sectors_of sectors

gap_of : Option City → List Piece
gap_of None = []
gap_of (Some city) = Gap city ∷ []

parts_of : ℕ → List LineSector → List LinePart → List Piece
parts_of begun sectors [] = []
parts_of begun sectors (part ∷ parts) =
    gap_of part.gap ++ (sectors_of (take (flown_count begun part) sectors) ++ (Part part ∷ parts_of part.end (drop (flown_count begun part) sectors) parts))

plus_ups_of : List PlusUp → List Piece
plus_ups_of [] = []
plus_ups_of (plus ∷ others) = Plus plus ∷ plus_ups_of others

pub pieces_of : CalculationLine → List Piece
pieces_of line = parts_of 0 line.sectors line.parts ++ (plus_ups_of line.plus ++ (End (record { total = line.total; roe = line.roe }) ∷ []))

-- ---- their texts

flat_joined : (xs ys : List Piece) → flat_map piece_text (xs ++ ys) ≡ flat_map piece_text xs ++ flat_map piece_text ys
flat_joined [] ys = refl
flat_joined (x ∷ xs) ys = ap (λ (t : List ℕ). piece_text x ++ t) (flat_joined xs ys) ∙ sym (append_assoc (piece_text x) (flat_map piece_text xs) (flat_map piece_text ys))

sectors_text : (sectors : List LineSector) → flat_map piece_text (sectors_of sectors) ≡ flat_map sector_text sectors
unfolding sectors_of
sectors_text [] = refl
sectors_text (sector ∷ sectors) = ap (λ (t : List ℕ). sector_text sector ++ t) (sectors_text sectors)

gap_is_text : (gap : Option City) → flat_map piece_text (gap_of gap) ≡ gap_text gap
unfolding gap_of
gap_is_text None = refl
gap_is_text (Some city) = append-nil (gap_text (Some city))

plus_ups_text : (plus : List PlusUp) → flat_map piece_text (plus_ups_of plus) ≡ flat_map plus_text plus
unfolding plus_ups_of
plus_ups_text [] = refl
plus_ups_text (one ∷ others) = ap (λ (t : List ℕ). plus_text one ++ t) (plus_ups_text others)

parts_are_text : (begun : ℕ) (sectors : List LineSector) (parts : List LinePart) → flat_map piece_text (parts_of begun sectors parts) ≡ parts_text begun sectors parts
unfolding parts_of parts_text
parts_are_text begun sectors [] = refl
parts_are_text begun sectors (part ∷ parts) =
    let rest = parts_are_text part.end (drop (flown_count begun part) sectors) parts in
    flat_joined (gap_of part.gap) (sectors_of (take (flown_count begun part) sectors) ++ (Part part ∷ parts_of part.end (drop (flown_count begun part) sectors) parts))
    ∙ ap (λ (t : List ℕ). t ++ flat_map piece_text (sectors_of (take (flown_count begun part) sectors) ++ (Part part ∷ parts_of part.end (drop (flown_count begun part) sectors) parts))) (gap_is_text part.gap)
    ∙ ap (λ (t : List ℕ). gap_text part.gap ++ t) (flat_joined (sectors_of (take (flown_count begun part) sectors)) (Part part ∷ parts_of part.end (drop (flown_count begun part) sectors) parts))
    ∙ ap (λ (t : List ℕ). gap_text part.gap ++ (t ++ flat_map piece_text (Part part ∷ parts_of part.end (drop (flown_count begun part) sectors) parts))) (sectors_text (take (flown_count begun part) sectors))
    ∙ ap (λ (t : List ℕ). gap_text part.gap ++ (flat_map sector_text (take (flown_count begun part) sectors) ++ (price_text part ++ t))) rest
    ∙ regroup (gap_text part.gap) (flat_map sector_text (take (flown_count begun part) sectors)) (price_text part) (parts_text part.end (drop (flown_count begun part) sectors) parts)
  where
    regroup : (a b c d : List ℕ) → a ++ (b ++ (c ++ d)) ≡ a ++ b ++ c ++ d
    regroup a b c d = sym (simp append_assoc)

pub pieces_are_text : (line : CalculationLine) → spaced line.from ++ flat_map piece_text (pieces_of line) ≡ line_text line
unfolding pieces_of line_text
pieces_are_text line =
    ap (λ (t : List ℕ). spaced line.from ++ t)
    (flat_joined (parts_of 0 line.sectors line.parts) (plus_ups_of line.plus ++ (End (record { total = line.total; roe = line.roe }) ∷ []))
    ∙ ap (λ (t : List ℕ). t ++ flat_map piece_text (plus_ups_of line.plus ++ (End (record { total = line.total; roe = line.roe }) ∷ []))) (parts_are_text 0 line.sectors line.parts)
    ∙ ap (λ (t : List ℕ). parts_text 0 line.sectors line.parts ++ t)
    (flat_joined (plus_ups_of line.plus) (End (record { total = line.total; roe = line.roe }) ∷ [])
    ∙ ap (λ (t : List ℕ). t ++ flat_map piece_text (End (record { total = line.total; roe = line.roe }) ∷ [])) (plus_ups_text line.plus)))
    ∙ regroup (spaced line.from) (parts_text 0 line.sectors line.parts) (flat_map plus_text line.plus) (totals_text line.total line.roe)
  where
    regroup : (a b c d : List ℕ) → a ++ (b ++ (c ++ (d ++ []))) ≡ a ++ b ++ c ++ d
    regroup a b c d = sym (simp (append_assoc, append-nil))

-- ---- their way

-- sectors of the part at hand
sectors_way : (sectors : List LineSector) (d : DraftLine) (rest : List Piece) (line : CalculationLine) → list_all is_flown sectors ≡ true → count d + length sectors ≤ 16 → length d.plus ≡ 0
    → Way (record d { pending = d.pending ++ sectors }) rest line → Way d (sectors_of sectors ++ rest) line
unfolding sectors_of
sectors_way [] d rest line all few none way = subst (λ (k : List LineSector). Way (record d { pending = k }) rest line) (append-nil d.pending) way
sectors_way (sector ∷ sectors) d rest line all few none way =
    let tests = both_tests (is_flown sector) (list_all is_flown sectors) all in
    let size : length (d.pending ++ sector ∷ []) ≡ length d.pending + 1 = length-append d.pending (sector ∷ []) in
    let joined : d.pending ++ sector ∷ sectors ≡ (d.pending ++ sector ∷ []) ++ sectors = sym (append_assoc d.pending (sector ∷ []) sectors) in (
      (tests.0, omega arith, none),
      sectors_way sectors (with_piece d (Sector sector)) rest line tests.1 (omega arith) none (subst (λ (k : List LineSector). Way (record d { pending = k }) rest line) joined way),
    )

-- a draft that stands between two parts, or at the beginning
abbrev at : City → List LineSector → List LinePart → ℕ → DraftLine
at from closed parts begun = record { from = from; closed = closed; parts = parts; begun = begun; gap = None; pending = []; plus = [] }

-- a part whose gap is read
part_way : (from : City) (closed : List LineSector) (parts : List LinePart) (begun : ℕ) (gap : Option City) (own : List LineSector) (part : LinePart) (rest : List Piece) (line : CalculationLine)
    → list_all is_flown own ≡ true → is_priced part ≡ true → part.gap ≡ gap → part.end ≡ begun + gap_count gap + length own → 0 < length own → part.end ≤ 16
    → Way (at from (closed ++ own) (parts ++ part ∷ []) part.end) rest line
    → Way (record { from = from; closed = closed; parts = parts; begun = begun; gap = gap; pending = []; plus = [] }) (sectors_of own ++ (Part part ∷ rest)) line
part_way from closed parts begun gap own part rest line all priced same end some most way =
    sectors_way own (record { from = from; closed = closed; parts = parts; begun = begun; gap = gap; pending = []; plus = [] }) (Part part ∷ rest) line all (omega arith) refl
    ((priced, some, end, same), way)

-- how a part may be led to
abbrev LedTo : List LinePart → Option City → Type 0
LedTo parts gap = (0 < length parts) ⊎ (is_none gap ≡ true)

one_way : (from : City) (closed : List LineSector) (parts : List LinePart) (begun : ℕ) (gap : Option City) (own : List LineSector) (part : LinePart) (rest : List Piece) (line : CalculationLine)
    → LedTo parts gap → is_gap gap ≡ true → list_all is_flown own ≡ true → is_priced part ≡ true → part.gap ≡ gap → part.end ≡ begun + gap_count gap + length own → 0 < length own → part.end ≤ 16
    → Way (at from (closed ++ own) (parts ++ part ∷ []) part.end) rest line
    → Way (at from closed parts begun) (gap_of gap ++ (sectors_of own ++ (Part part ∷ rest))) line
unfolding gap_of
one_way from closed parts begun None own part rest line led city all priced same end some most way = part_way from closed parts begun None own part rest line all priced same end some most way
one_way from closed parts begun (Some city) own part rest line (inl behind) valid all priced same end some most way =
    ((valid, record { none_pending = refl; no_gap = refl; some_part = behind }, omega arith, refl), part_way from closed parts begun (Some city) own part rest line all priced same end some most way)
one_way from closed parts begun (Some city) own part rest line (inr none) valid all priced same end some most way = absurd (no none)
  where
    no : is_none (Some city) ≡ true → ⊥
    no h = absurd cc

pub all_take : (n : ℕ) (xs : List LineSector) → list_all is_flown xs ≡ true → (list_all is_flown (take n xs) ≡ true) × (list_all is_flown (drop n xs) ≡ true)
all_take zero xs h = (refl, h)
all_take (suc n) [] h = (refl, refl)
all_take (suc n) (x ∷ xs) h =
    let tests = both_tests (is_flown x) (list_all is_flown xs) h in
    let rest = all_take n xs tests.1 in
    (rw (tests.0, rest.0) refl, rest.1)

pub gap_valid : (part : LinePart) → is_priced part ≡ true → is_gap part.gap ≡ true
gap_valid part h = grind arith

-- parts, one after the other
parts_way : (parts : List LinePart) (from : City) (closed sectors : List LineSector) (before : List LinePart) (begun : ℕ) (rest : List Piece) (line : CalculationLine)
    → (0 < length before) ⊎ (leads_without_gap parts ≡ true) → list_all is_flown sectors ≡ true → are_parts begun (length sectors) parts ≡ true
    → Way (at from (closed ++ sectors) (before ++ parts) (last_end begun parts)) rest line
    → Way (at from closed before begun) (parts_of begun sectors parts ++ rest) line
unfolding parts_of
parts_way [] from closed sectors before begun rest line led all shared way =
    let none : sectors ≡ [] = empty sectors (none_flown begun (length sectors) shared) in
    let front : closed ++ sectors ≡ closed = ap (λ (k : List LineSector). closed ++ k) none ∙ append-nil closed in
    subst (λ (k : List LineSector). Way (at from k before begun) rest line) front (subst (λ (k : List LinePart). Way (at from (closed ++ sectors) k begun) rest line) (append-nil before) way)
parts_way (part ∷ parts) from closed sectors before begun rest line led all shared way =
    let lead = leads begun (length sectors) part parts shared in
    let fits = lead.fits in
    let begins = lead.begins in
    let own_size : length (take (flown_count begun part) sectors) ≡ flown_count begun part = omega (arith, length-take (flown_count begun part) sectors) in
    let left : length (drop (flown_count begun part) sectors) ≡ length sectors - flown_count begun part = length-drop (flown_count begun part) sectors in
    let flown = all_take (flown_count begun part) sectors all in
    let front : closed ++ sectors ≡ (closed ++ take (flown_count begun part) sectors) ++ drop (flown_count begun part) sectors =
    ap (λ (k : List LineSector). closed ++ k) (sym (take-append-drop (flown_count begun part) sectors)) ∙ sym (append_assoc closed (take (flown_count begun part) sectors) (drop (flown_count begun part) sectors)) in
    let behind : before ++ part ∷ parts ≡ (before ++ part ∷ []) ++ parts = sym (append_assoc before (part ∷ []) parts) in
    let size : length (before ++ part ∷ []) ≡ length before + 1 = length-append before (part ∷ []) in
    let on : Way (at from ((closed ++ take (flown_count begun part) sectors) ++ drop (flown_count begun part) sectors) ((before ++ part ∷ []) ++ parts) (last_end part.end parts)) rest line =
    subst (λ (k : List LineSector). Way (at from k ((before ++ part ∷ []) ++ parts) (last_end part.end parts)) rest line) front
    (subst (λ (k : List LinePart). Way (at from (closed ++ sectors) k (last_end part.end parts)) rest line) behind way) in
    let others = parts_way parts from (closed ++ take (flown_count begun part) sectors) (drop (flown_count begun part) sectors) (before ++ part ∷ []) part.end rest line
    (inl (omega arith)) flown.1 (ap (λ (k : ℕ). are_parts part.end k parts) left ∙ lead.rest) on in
    subst (λ (k : List Piece). Way (at from closed before begun) k line) (regroup (gap_of part.gap) (sectors_of (take (flown_count begun part) sectors)) (parts_of part.end (drop (flown_count begun part) sectors) parts) rest part)
    (one_way from closed before begun part.gap (take (flown_count begun part) sectors) part (parts_of part.end (drop (flown_count begun part) sectors) parts ++ rest) line
    led (gap_valid part lead.priced) flown.0 lead.priced refl (omega arith) (omega arith) lead.ends others)
  where
    regroup : (a b c rest : List Piece) (part : LinePart) → a ++ (b ++ (Part part ∷ (c ++ rest))) ≡ (a ++ (b ++ (Part part ∷ c))) ++ rest
    regroup a b c rest part = simp append_assoc

-- plus-ups behind the parts
plus_ups_way : (plus : List PlusUp) (d : DraftLine) (rest : List Piece) (line : CalculationLine) → list_all is_plus plus ≡ true → length d.plus + length plus ≤ 16 → IsBetween d
    → Way (record d { plus = d.plus ++ plus }) rest line → Way d (plus_ups_of plus ++ rest) line
unfolding plus_ups_of
plus_ups_way [] d rest line all few between way = subst (λ (k : List PlusUp). Way (record d { plus = k }) rest line) (append-nil d.plus) way
plus_ups_way (one ∷ others) d rest line all few between way =
    let tests = both_tests (is_plus one) (list_all is_plus others) all in
    let size : length (d.plus ++ one ∷ []) ≡ length d.plus + 1 = length-append d.plus (one ∷ []) in
    let joined : d.plus ++ one ∷ others ≡ (d.plus ++ one ∷ []) ++ others = sym (append_assoc d.plus (one ∷ []) others) in (
      (tests.0, between, omega arith),
      plus_ups_way others (with_piece d (Plus one)) rest line tests.1 (omega arith) (record { none_pending = between.none_pending; no_gap = between.no_gap; some_part = between.some_part })
          (subst (λ (k : List PlusUp). Way (record d { plus = k }) rest line) joined way),
    )

-- what the test of a line says
pub record LineParts (line : CalculationLine) : Type 0 where
  pub from : is_city line.from ≡ true
  pub sectors : list_all is_flown line.sectors ≡ true
  pub led : is_led line.parts ≡ true
  pub parts : are_parts 0 (length line.sectors) line.parts ≡ true
  pub plus : list_all is_plus line.plus ≡ true
  pub few : length line.plus ≤ 16
  pub total : is_amount line.total ≡ true
  pub roe : is_rate line.roe ≡ true

eight_tests : (a b c d e f g h : Bool) → (a && b && c && d && e && f && g && h) ≡ true
    → (a ≡ true) × (b ≡ true) × (c ≡ true) × (d ≡ true) × (e ≡ true) × (f ≡ true) × (g ≡ true) × (h ≡ true)
eight_tests a b c d e f g h x = (grind arith, grind arith, grind arith, grind arith, grind arith, grind arith, grind arith, grind arith)

pub line_parts : (line : CalculationLine) → is_line line ≡ true → LineParts line
unfolding is_line
line_parts line h =
    let tests = eight_tests (is_city line.from) (list_all is_flown line.sectors) (is_led line.parts) (are_parts 0 (length line.sectors) line.parts) (list_all is_plus line.plus) (nat_le (length line.plus) 16) (is_amount line.total) (is_rate line.roe) h in
    record { from = tests.0; sectors = tests.1; led = tests.2; parts = tests.3; plus = tests.4; few = leb-true (length line.plus) 16 tests.5; total = tests.6; roe = tests.7 }

led_parts : (parts : List LinePart) → is_led parts ≡ true → (0 < length parts) × (leads_without_gap parts ≡ true)
led_parts [] h = absurd cc
led_parts (first ∷ others) h = (omega arith, h)

pub line_way : (line : CalculationLine) → is_line line ≡ true → Way (start line.from) (pieces_of line) line
unfolding pieces_of
line_way line h =
    let tests = line_parts line h in
    let led = led_parts line.parts tests.led in
    let between : IsBetween (at line.from line.sectors line.parts (last_end 0 line.parts)) = record { none_pending = refl; no_gap = refl; some_part = led.0 } in
    let last : IsBetween (record { from = line.from; closed = line.sectors; parts = line.parts; begun = last_end 0 line.parts; gap = None; pending = []; plus = line.plus }) = record { none_pending = refl; no_gap = refl; some_part = led.0 } in
    parts_way line.parts line.from [] line.sectors [] 0 (plus_ups_of line.plus ++ (End (record { total = line.total; roe = line.roe }) ∷ [])) line (inr led.1) tests.sectors tests.parts
    (plus_ups_way line.plus (at line.from line.sectors line.parts (last_end 0 line.parts)) (End (record { total = line.total; roe = line.roe }) ∷ []) line tests.plus (let few = tests.few in omega arith) between
    ((tests.total, tests.roe, last), (refl, refl)))
