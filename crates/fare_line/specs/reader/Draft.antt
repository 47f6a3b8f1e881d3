-- A line as far as its text is read, piece by piece.
use Rattle.std.specs.Prelude.{◌≡◌, ◌<◌, ◌≤◌, ℕ, zero, suc, ◌+◌, ◌-◌, Bool, true, List, [], ◌∷◌, ◌++◌, length, Option}
use Rattle.std.specs.Prelude.{Some, None, is_some, is_none, Result, Ok, Err, ◌==◌, ◌||◌, nat_lt, if◌then◌else◌}
use Rattle.std.specs.List.{list_all}
use Rattle.fare_codes.specs.Codes.{is_city}
use Rattle.fare_codes.specs.declared.city.City.{City}
use Rattle.fare_codes.specs.declared.limits.TheConstants.{MOST_SECTORS}
use Rattle.fare_line.specs.declared.line.sector.LineSector.{LineSector}
use Rattle.fare_line.specs.declared.line.part.LinePart.{LinePart}
use Rattle.fare_line.specs.declared.line.plus_up.PlusUp.{PlusUp}
use Rattle.fare_line.specs.declared.reading.pieces.Totals.{Totals}
use Rattle.fare_line.specs.declared.reading.pieces.Piece.{Piece}
use Rattle.fare_line.specs.declared.reading.pieces.Piece.TheVariants.{Sector, Part, Gap, Plus, End}
use Rattle.fare_line.specs.Line.{CalculationLine, are_parts, gap_count, is_amount, is_flown, is_gap, is_plus, is_priced}
use Rattle.fare_line.specs.Line.{is_rate}
use Rattle.fare_line.specs.reader.Reading.{◌>>=◌, either, spaced_city_at}
use Rattle.fare_line.specs.reader.Pieces.{gap_at, plus_at, price_at, sector_at, totals_at}

-- a line as far as it is read: its first city, the sectors of the parts that are read and how many sectors end with
-- them, gaps counted, the gap and the sectors of the part at hand, and the plus-ups
pub record DraftLine : Type 0 where
  pub from : City
  pub closed : List LineSector
  pub parts : List LinePart
  pub begun : ℕ
  pub gap : Option City
  pub pending : List LineSector
  pub plus : List PlusUp

-- how many sectors are read, gaps counted
abbrev pub count : DraftLine → ℕ
count d = d.begun + gap_count d.gap + length d.pending

-- nothing but the first city is read
abbrev pub start : City → DraftLine
start from = record { from = from; closed = []; parts = []; begun = 0; gap = None; pending = []; plus = [] }

-- how many sectors end with the last of some parts
abbrev pub last_end : ℕ → List LinePart → ℕ
last_end begun [] = begun
last_end begun (part ∷ parts) = last_end part.end parts

-- no gap stands before the first of some parts
abbrev pub leads_without_gap : List LinePart → Bool
leads_without_gap [] = true
leads_without_gap (first ∷ others) = is_none first.gap

-- a part is read, and nothing of the next
pub record IsBetween (d : DraftLine) : Type 0 where
  pub none_pending : length d.pending ≡ 0
  pub no_gap : d.gap ≡ None
  pub some_part : 0 < length d.parts

-- what holds of a line as far as it is read
pub record IsDraft (d : DraftLine) : Type 0 where
  pub from : is_city d.from ≡ true
  pub closed : list_all is_flown d.closed ≡ true
  pub parts : are_parts 0 (length d.closed) d.parts ≡ true
  pub begun : last_end 0 d.parts ≡ d.begun
  pub led : leads_without_gap d.parts ≡ true
  pub gap : is_gap d.gap ≡ true
  pub behind_part : is_some d.gap ≡ true → 0 < length d.parts
  pub gap_room : is_some d.gap ≡ true → d.begun + 2 ≤ MOST_SECTORS
  pub pending : list_all is_flown d.pending ≡ true
  pub room : count d ≤ MOST_SECTORS
  pub plus : list_all is_plus d.plus ≡ true
  pub plus_room : length d.plus ≤ MOST_SECTORS
  pub plus_behind : 0 < length d.plus → IsBetween d

-- which pieces may come next
abbrev pub Allowed : DraftLine → Piece → Type 0
Allowed d (Sector sector) = (is_flown sector ≡ true) × (count d < MOST_SECTORS) × (length d.plus ≡ 0)
Allowed d (Part part) = (is_priced part ≡ true) × (0 < length d.pending) × (part.end ≡ count d) × (part.gap ≡ d.gap)
Allowed d (Gap city) = (is_city city ≡ true) × IsBetween d × (count d < MOST_SECTORS - 1) × (length d.plus ≡ 0)
Allowed d (Plus plus) = (is_plus plus ≡ true) × IsBetween d × (length d.plus < MOST_SECTORS)
Allowed d (End totals) = (is_amount totals.total ≡ true) × (is_rate totals.roe ≡ true) × IsBetween d

-- the line with a piece more
abbrev pub with_piece : DraftLine → Piece → DraftLine
with_piece d (Sector sector) = record d { pending = d.pending ++ sector ∷ [] }
with_piece d (Part part) =
    record d {
      closed = d.closed ++ d.pending;
      parts = d.parts ++ part ∷ [];
      begun = part.end;
      gap = None;
      pending = [];
    }
with_piece d (Gap city) = record d { gap = Some city }
with_piece d (Plus plus) = record d { plus = d.plus ++ plus ∷ [] }
with_piece d (End totals) = d

-- the whole line
abbrev pub ended : DraftLine → Totals → CalculationLine
ended d totals =
    record { from = d.from; sectors = d.closed; parts = d.parts; plus = d.plus; total = totals.total; roe = totals.roe }

-- a sector, as a piece
abbrev pub sector_piece : List ℕ → Result (Piece × List ℕ) ℕ
sector_piece bytes = sector_at bytes >>= λ x. Ok (Sector x.0, x.1)

-- the price of the part at hand, as a piece
abbrev pub part_piece : DraftLine → List ℕ → Result (Piece × List ℕ) ℕ
part_piece d bytes = price_at (count d) d.gap bytes >>= λ x. Ok (Part x.0, x.1)

-- a gap, as a piece
abbrev pub gap_piece : List ℕ → Result (Piece × List ℕ) ℕ
gap_piece bytes = gap_at bytes >>= λ x. Ok (Gap x.0, x.1)

-- a plus-up, as a piece
abbrev pub plus_piece : List ℕ → Result (Piece × List ℕ) ℕ
plus_piece bytes = plus_at bytes >>= λ x. Ok (Plus x.0, x.1)

-- the total and the rate, as a piece
abbrev pub end_piece : List ℕ → Result (Piece × List ℕ) ℕ
end_piece bytes = totals_at bytes >>= λ x. Ok (End x.0, x.1)

-- behind a sector stands another one, where there is room, or the price of the part
unfoldable pub within_at : DraftLine → List ℕ → Result (Piece × List ℕ) ℕ
within_at d bytes =
    if nat_lt (count d) MOST_SECTORS then either (sector_piece bytes) (part_piece d bytes) else part_piece d bytes

-- behind the parts stands a plus-up, where there is room, or the end
unfoldable pub closing_at : DraftLine → List ℕ → Result (Piece × List ℕ) ℕ
closing_at d bytes =
    if nat_lt (length d.plus) MOST_SECTORS then either (plus_piece bytes) (end_piece bytes) else end_piece bytes

-- a further part begins with a sector, or with a gap, where there is room for a sector behind it
unfoldable pub further_at : List ℕ → Result (Piece × List ℕ) ℕ
further_at bytes = either (sector_piece bytes) (gap_piece bytes)

-- behind a part stands a further part, where there is room, a plus-up or the end
unfoldable pub between_at : DraftLine → List ℕ → Result (Piece × List ℕ) ℕ
between_at d bytes =
    if nat_lt (count d) (MOST_SECTORS - 1) then either (further_at bytes) (closing_at d bytes)
    else (if nat_lt (count d) MOST_SECTORS then either (sector_piece bytes) (closing_at d bytes)
    else closing_at d bytes)

-- the piece that stands next
unfoldable pub piece_at : DraftLine → List ℕ → Result (Piece × List ℕ) ℕ
piece_at d bytes =
    if nat_lt 0 (length d.pending) then within_at d bytes
    else (if is_some d.gap || (length d.parts == 0) then sector_piece bytes
    else (if nat_lt 0 (length d.plus) then closing_at d bytes else between_at d bytes))

-- what follows a piece: the whole line behind the end, else what is read from then on
abbrev pub behind :
    (DraftLine → List ℕ → Result (CalculationLine × List ℕ) ℕ) → DraftLine → Piece → List ℕ
    → Result (CalculationLine × List ℕ) ℕ
behind on d (Sector sector) rest = on (with_piece d (Sector sector)) rest
behind on d (Part part) rest = on (with_piece d (Part part)) rest
behind on d (Gap city) rest = on (with_piece d (Gap city)) rest
behind on d (Plus plus) rest = on (with_piece d (Plus plus)) rest
behind on d (End totals) rest = Ok (ended d totals, rest)

-- the line from a draft on, in so many pieces at most
unfoldable pub line_from : ℕ → DraftLine → List ℕ → Result (CalculationLine × List ℕ) ℕ
line_from zero d bytes = Err (length bytes)
line_from (suc pieces) d bytes = piece_at d bytes >>= λ x. behind (line_from pieces) d x.0 x.1

-- a line, which has at most 50 pieces
unfoldable pub line_at : List ℕ → Result (CalculationLine × List ℕ) ℕ
line_at bytes = spaced_city_at bytes >>= λ x. line_from 50 (start x.0) x.1

-- all of a text is a line; else how many bytes are left where no line goes on
unfoldable pub whole_line : List ℕ → Result CalculationLine ℕ
whole_line bytes = line_at bytes >>= λ x. if length x.1 == 0 then Ok x.0 else Err (length x.1)
