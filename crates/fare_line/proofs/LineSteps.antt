-- The line from a draft on, a piece at a time.
use Rattle.std.proofs.Common.{◌≡◌, ◌∙◌, ◌<◌, ◌-◌, ℕ, zero, suc, List, length, Result, Ok, Err, refl, ap, arith}
use Rattle.fare_line.specs.declared.reading.pieces.Piece.{Piece}
use Rattle.fare_line.specs.declared.reading.pieces.Piece.TheVariants.{Sector, Part, Gap, Plus, End}
use Rattle.fare_line.specs.declared.reading.pieces.Totals.{Totals}
use Rattle.fare_line.specs.Line.{CalculationLine}
use Rattle.fare_line.specs.reader.Reading.{◌>>=◌}
use Rattle.fare_line.specs.reader.Draft.{DraftLine, behind, ended, line_from, piece_at, with_piece}

one_piece : (left : ℕ) (d : DraftLine) (bytes : List ℕ) → 0 < left → line_from left d bytes ≡ (piece_at d bytes >>= λ x. behind (line_from (left - 1)) d x.0 x.1)
unfolding line_from
one_piece zero d bytes some = absurd (omega arith)
one_piece (suc n) d bytes some = ap (λ (k : ℕ). piece_at d bytes >>= λ x. behind (line_from k) d x.0 x.1) (omega arith)

pub no_piece : (left : ℕ) (d : DraftLine) (bytes : List ℕ) (stop : ℕ) → 0 < left → piece_at d bytes ≡ Err stop → line_from left d bytes ≡ Err stop
no_piece left d bytes stop some e = one_piece left d bytes some ∙ rw e refl

pub last_piece : (left : ℕ) (d : DraftLine) (bytes rest : List ℕ) (totals : Totals) → 0 < left → piece_at d bytes ≡ Ok (End totals, rest) → line_from left d bytes ≡ Ok (ended d totals, rest)
last_piece left d bytes rest totals some e = one_piece left d bytes some ∙ rw e refl

-- a piece that isn't the end
pub goes_on : (on : DraftLine → List ℕ → Result (CalculationLine × List ℕ) ℕ) (d : DraftLine) (piece : Piece) (rest : List ℕ) → ((totals : Totals) → piece ≡ End totals → ⊥)
    → behind on d piece rest ≡ on (with_piece d piece) rest
goes_on on d (Sector sector) rest h = refl
goes_on on d (Part part) rest h = refl
goes_on on d (Gap city) rest h = refl
goes_on on d (Plus plus) rest h = refl
goes_on on d (End totals) rest h = absurd (h totals refl)

pub next_piece : (left : ℕ) (d : DraftLine) (bytes rest : List ℕ) (piece : Piece) → 0 < left → piece_at d bytes ≡ Ok (piece, rest) → ((totals : Totals) → piece ≡ End totals → ⊥)
    → line_from left d bytes ≡ line_from (left - 1) (with_piece d piece) rest
next_piece left d bytes rest piece some e h = one_piece left d bytes some ∙ rw e (goes_on (line_from (left - 1)) d piece rest h)

pub none_left : (left : ℕ) (d : DraftLine) (bytes : List ℕ) → left ≡ 0 → line_from left d bytes ≡ Err (length bytes)
unfolding line_from
none_left left d bytes e = rw e refl
