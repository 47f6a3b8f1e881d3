-- Pieces that lead to a whole line, as they are read.
use Rattle.std.proofs.Common.{◌≡◌, ◌∙◌, ◌<◌, ◌≤◌, ◌+◌, ◌-◌, ℕ, zero, suc, Bool, true, false, ◌||◌, ◌==◌, List, [], ◌∷◌, ◌++◌, length, None, inl, inr, codes, refl, sym, ap, subst, arith, length-append}
use Rattle.std.specs.Prelude.{is_some}
use Rattle.std.specs.List.{flat_map}
use Rattle.std.proofs.lemmas.Bool.{cases_lt}
use Rattle.fare_codes.specs.Codes.{is_city}
use Rattle.fare_codes.specs.declared.cabin.Cabin.TheVariants.{F}
use Rattle.fare_codes.specs.declared.city.City.{City}
use Rattle.fare_codes.specs.declared.kind.Kind.TheVariants.{OW}
use Rattle.fare_line.specs.declared.line.part.Letter.TheVariants.{Bare}
use Rattle.fare_line.specs.declared.line.sector.LineSector.{LineSector}
use Rattle.fare_line.specs.declared.line.part.LinePart.{LinePart}
use Rattle.fare_line.specs.declared.reading.pieces.Totals.{Totals}
use Rattle.fare_line.specs.declared.reading.pieces.Piece.{Piece}
use Rattle.fare_line.specs.declared.reading.pieces.Piece.TheVariants.{Sector, Part, Gap, Plus, End}
use Rattle.fare_line.specs.Line.{CalculationLine, gap_count, is_priced}
use Rattle.fare_line.specs.LineText.{spaced}
use Rattle.fare_line.specs.reader.Reading.{spaced_city_at}
use Rattle.fare_line.specs.reader.Pieces.{part_of}
use Rattle.fare_line.specs.reader.Draft.{DraftLine, IsDraft, IsBetween, Allowed, behind, count, ended, line_at, line_from, piece_at, start, with_piece}
use Rattle.fare_line.proofs.Readers.{Reads, Joined, Empty, joined, reads_nothing, same}
use Rattle.fare_line.proofs.Amounts.{IsText}
use Rattle.fare_line.proofs.CodeLaws.{reads_spaced_city}
use Rattle.fare_line.proofs.DraftLaws.{draft_start, draft_with}
use Rattle.fare_line.proofs.PieceAt.{IsNext, begun_room, is_between, piece_text, reads_piece}

-- what a piece leads to: the whole line at the end, else what the rest leads to
abbrev pub Behind : (DraftLine → Type 0) → DraftLine → Piece → List Piece → CalculationLine → Type 0
Behind on d (Sector sector) pieces line = on (with_piece d (Sector sector))
Behind on d (Part part) pieces line = on (with_piece d (Part part))
Behind on d (Gap city) pieces line = on (with_piece d (Gap city))
Behind on d (Plus plus) pieces line = on (with_piece d (Plus plus))
Behind on d (End totals) pieces line = (pieces ≡ []) × (line ≡ ended d totals)

-- the pieces lead from a draft to a line
abbrev pub Way : DraftLine → List Piece → CalculationLine → Type 0
Way d [] line = ⊥
Way d (piece ∷ pieces) line = Allowed d piece × Behind (λ e. Way e pieces line) d piece pieces line

-- a text leads from a draft to a line
pub record LineFrom (d : DraftLine) (line : CalculationLine) (text : List ℕ) : Type 0 where
  pub pieces : List Piece
  pub way : Way d pieces line
  pub whole : text ≡ flat_map piece_text pieces

-- ---- each draft can be led to a line

nothing : Totals
nothing = record { total = 0; roe = 0 }

abbrev Ends : DraftLine → Type 0
Ends d = (line : CalculationLine) × (text : List ℕ) × LineFrom d line text

end_between : (d : DraftLine) → IsBetween d → Ends d
unfolding nothing
end_between d between =
    (ended d nothing, flat_map piece_text (End nothing ∷ []), record { pieces = End nothing ∷ []; way = ((refl, refl, between), (refl, refl)); whole = refl })

sample_part : DraftLine → LinePart
sample_part d = part_of (count d) d.gap (record { letter = Bare; pair = None; amount = 0 }) (record { carrier = codes "AA"; class = F; kind = OW; rule = None }) 1

end_within : (d : DraftLine) → IsDraft d → 0 < length d.pending → Ends d
unfolding sample_part
end_within d draft some =
    let size : length (d.parts ++ sample_part d ∷ []) ≡ length d.parts + 1 = length-append d.parts (sample_part d ∷ []) in
    let rest = end_between (with_piece d (Part (sample_part d))) (record { none_pending = refl; no_gap = refl; some_part = omega arith }) in
    let priced : is_priced (sample_part d) ≡ true = rw draft.gap refl in
    (rest.0, flat_map piece_text (Part (sample_part d) ∷ rest.2.pieces), record { pieces = Part (sample_part d) ∷ rest.2.pieces; way = ((priced, some, refl, refl), rest.2.way); whole = refl })

sample_sector : LineSector
sample_sector = record { carrier = codes "AA"; transfer = false; to = codes "AAA" }

end_begun : (d : DraftLine) → IsDraft d → count d < 16 → length d.plus ≡ 0 → Ends d
unfolding sample_sector
end_begun d draft few none =
    let next : IsDraft (with_piece d (Sector sample_sector)) = draft_with d (Sector sample_sector) draft (refl, few, none) in
    let size : length (d.pending ++ sample_sector ∷ []) ≡ length d.pending + 1 = length-append d.pending (sample_sector ∷ []) in
    let rest = end_within (with_piece d (Sector sample_sector)) next (omega arith) in
    (rest.0, flat_map piece_text (Sector sample_sector ∷ rest.2.pieces), record { pieces = Sector sample_sector ∷ rest.2.pieces; way = ((refl, few, none), rest.2.way); whole = refl })

pub ends : (d : DraftLine) → IsDraft d → Ends d
ends d draft = elim (cases_lt 0 (length d.pending)) [
  | inl some ↦ end_within d draft some
  | inr least ↦ (let none : length d.pending ≡ 0 = omega arith in go none (is_some d.gap || (length d.parts == 0)) refl)
]
  where
    go : length d.pending ≡ 0 → (b : Bool) → (is_some d.gap || (length d.parts == 0)) ≡ b → Ends d
    go none true h = (let room = begun_room d draft none h in end_begun d draft room.0 room.1)
    go none false h = end_between d (is_between d none h)

-- ---- how many pieces may still come

pub some_flag : List LineSector → ℕ
some_flag [] = 0
some_flag (first ∷ others) = 1

flag_le : (xs : List LineSector) → some_flag xs ≤ 1
unfolding some_flag
flag_le [] = omega arith
flag_le (x ∷ xs) = omega arith

flag_some : (xs : List LineSector) → 0 < length xs → some_flag xs ≡ 1
unfolding some_flag
flag_some [] h = absurd (omega arith)
flag_some (x ∷ xs) h = refl

no_flag : some_flag [] ≡ 0
unfolding some_flag
no_flag = refl

abbrev pub room : DraftLine → ℕ
room d = (16 - count d) + (16 - count d) + some_flag d.pending + (16 - length d.plus) + 1

sector_room : (d : DraftLine) (sector : LineSector) → count d < 16 → room (with_piece d (Sector sector)) < room d
sector_room d sector few =
    let size : length (d.pending ++ sector ∷ []) ≡ length d.pending + 1 = length-append d.pending (sector ∷ []) in
    omega (arith, flag_le (d.pending ++ sector ∷ []))

part_room : (d : DraftLine) (part : LinePart) → 0 < length d.pending → part.end ≡ count d → room (with_piece d (Part part)) < room d
part_room d part some end = omega (arith, no_flag, flag_some d.pending some)

gap_room : (d : DraftLine) (city : City) → IsBetween d → count d < 15 → room (with_piece d (Gap city)) < room d
gap_room d city between few =
    let gaps : gap_count d.gap ≡ 0 = ap gap_count between.no_gap in
    omega arith

-- ---- the line from a draft on

BehindText : DraftLine → Piece → CalculationLine → List ℕ → Type 0
BehindText d (Sector sector) = LineFrom (with_piece d (Sector sector))
BehindText d (Part part) = LineFrom (with_piece d (Part part))
BehindText d (Gap city) = LineFrom (with_piece d (Gap city))
BehindText d (Plus plus) = LineFrom (with_piece d (Plus plus))
BehindText d (End totals) = Empty (ended d totals)

ends_behind : (d : DraftLine) (piece : Piece) → IsDraft d → Allowed d piece → (line : CalculationLine) × (text : List ℕ) × BehindText d piece line text
unfolding BehindText
ends_behind d (Sector sector) draft h = ends (with_piece d (Sector sector)) (draft_with d (Sector sector) draft h)
ends_behind d (Part part) draft h = ends (with_piece d (Part part)) (draft_with d (Part part) draft h)
ends_behind d (Gap city) draft h = ends (with_piece d (Gap city)) (draft_with d (Gap city) draft h)
ends_behind d (Plus plus) draft h = ends (with_piece d (Plus plus)) (draft_with d (Plus plus) draft h)
ends_behind d (End totals) draft h = (ended d totals, [], record { value = refl; none = refl })

line_to : (d : DraftLine) (piece : Piece) (line : CalculationLine) (text : List ℕ) → Allowed d piece → BehindText d piece line text → LineFrom d line (piece_text piece ++ text)
unfolding BehindText
line_to d (Sector sector) line text h l = record { pieces = Sector sector ∷ l.pieces; way = (h, l.way); whole = ap (λ (t : List ℕ). piece_text (Sector sector) ++ t) l.whole }
line_to d (Part part) line text h l = record { pieces = Part part ∷ l.pieces; way = (h, l.way); whole = ap (λ (t : List ℕ). piece_text (Part part) ++ t) l.whole }
line_to d (Gap city) line text h l = record { pieces = Gap city ∷ l.pieces; way = (h, l.way); whole = ap (λ (t : List ℕ). piece_text (Gap city) ++ t) l.whole }
line_to d (Plus plus) line text h l = record { pieces = Plus plus ∷ l.pieces; way = (h, l.way); whole = ap (λ (t : List ℕ). piece_text (Plus plus) ++ t) l.whole }
line_to d (End totals) line text h l = record { pieces = End totals ∷ []; way = (h, (refl, l.value)); whole = ap (λ (t : List ℕ). piece_text (End totals) ++ t) l.none }

line_back : (d : DraftLine) (line : CalculationLine) (text : List ℕ) (pieces : List Piece) → Way d pieces line → text ≡ flat_map piece_text pieces → Joined (IsNext d) (BehindText d) line text
unfolding BehindText
line_back d line text [] way e = absurd way
line_back d line text (Sector sector ∷ pieces) way e = record {
  first = Sector sector;
  front = piece_text (Sector sector);
  behind = flat_map piece_text pieces;
  front_is = record { allowed = way.0; spelled = refl };
  behind_is = record { pieces = pieces; way = way.1; whole = refl };
  whole = e;
}
line_back d line text (Part part ∷ pieces) way e = record {
  first = Part part;
  front = piece_text (Part part);
  behind = flat_map piece_text pieces;
  front_is = record { allowed = way.0; spelled = refl };
  behind_is = record { pieces = pieces; way = way.1; whole = refl };
  whole = e;
}
line_back d line text (Gap city ∷ pieces) way e = record {
  first = Gap city;
  front = piece_text (Gap city);
  behind = flat_map piece_text pieces;
  front_is = record { allowed = way.0; spelled = refl };
  behind_is = record { pieces = pieces; way = way.1; whole = refl };
  whole = e;
}
line_back d line text (Plus plus ∷ pieces) way e = record {
  first = Plus plus;
  front = piece_text (Plus plus);
  behind = flat_map piece_text pieces;
  front_is = record { allowed = way.0; spelled = refl };
  behind_is = record { pieces = pieces; way = way.1; whole = refl };
  whole = e;
}
line_back d line text (End totals ∷ pieces) way e = record {
  first = End totals;
  front = piece_text (End totals);
  behind = [];
  front_is = record { allowed = way.0; spelled = refl };
  behind_is = record { value = way.1.1; none = refl };
  whole = e ∙ ap (λ (k : List Piece). piece_text (End totals) ++ flat_map piece_text k) way.1.0;
}

pub reads_line_from : (n : ℕ) (d : DraftLine) → IsDraft d → room d ≤ n → Reads (LineFrom d) (line_from n d)
unfolding line_from BehindText
reads_line_from zero d draft few = absurd (omega arith)
reads_line_from (suc n) d draft few =
    same (Joined (IsNext d) (BehindText d)) (LineFrom d) (line_from (suc n) d)
    (joined (IsNext d) (BehindText d) (piece_at d) (behind (line_from n) d) (reads_piece d draft)
    (λ piece text h. next (λ (e : DraftLine) (x : IsDraft e) (y : room e ≤ n). reads_line_from n e x y) piece h.allowed)
    (λ piece text h. ends_behind d piece draft h.allowed))
    (λ line text j. subst (λ (t : List ℕ). LineFrom d line t) (sym (j.whole ∙ ap (λ (t : List ℕ). t ++ j.behind) j.front_is.spelled)) (line_to d j.first line j.behind j.front_is.allowed j.behind_is))
    (λ line text l. line_back d line text l.pieces l.way l.whole)
  where
    next : ((e : DraftLine) → IsDraft e → room e ≤ n → Reads (LineFrom e) (line_from n e)) → (piece : Piece) → Allowed d piece → Reads (BehindText d piece) (behind (line_from n) d piece)
    next others (Sector sector) h = others (with_piece d (Sector sector)) (draft_with d (Sector sector) draft h) (let less = sector_room d sector h.1 in omega arith)
    next others (Part part) h = others (with_piece d (Part part)) (draft_with d (Part part) draft h) (let less = part_room d part h.1 h.2 in omega arith)
    next others (Gap city) h = others (with_piece d (Gap city)) (draft_with d (Gap city) draft h) (let less = gap_room d city h.1 h.2 in omega arith)
    next others (Plus plus) h =
        others (with_piece d (Plus plus)) (draft_with d (Plus plus) draft h)
        (let few_plus = h.2 in let size : length (d.plus ++ plus ∷ []) ≡ length d.plus + 1 = length-append d.plus (plus ∷ []) in omega arith)
    next others (End totals) h = reads_nothing (ended d totals)

-- ---- a whole line

-- a text is that of a city and leads on to a line
abbrev pub FromCity : CalculationLine → List ℕ → Type 0
FromCity = Joined (IsText is_city spaced) (λ (city : List ℕ). LineFrom (start city))

pub reads_from_city : Reads FromCity line_at
unfolding line_at
reads_from_city =
    joined (IsText is_city spaced) (λ (city : List ℕ). LineFrom (start city)) spaced_city_at (λ (city : List ℕ). line_from 50 (start city)) reads_spaced_city
    (λ city text h. reads_line_from 50 (start city) (draft_start city h.valid) (omega (arith, no_flag)))
    (λ city text h. ends (start city) (draft_start city h.valid))
