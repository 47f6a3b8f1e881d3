-- The figures of a line beside those of the line of its construction.
use Rattle.std.specs.Prelude.{ℕ, ◌+◌, ◌-◌, Bool, true, false, not, List, length, find, Option, Some, None, unwrap_or}
use Rattle.std.specs.Prelude.{slice_get, bytes_eq, ◌==◌, ◌&&◌}
use Rattle.fare_codes.specs.declared.city.City.{City}
use Rattle.fare_rules.specs.Numbers.{numbers}
use Rattle.fare_line.specs.declared.line.part.Letter.{Letter}
use Rattle.fare_line.specs.declared.line.part.Letter.TheVariants.{Bare, Mileage}
use Rattle.fare_line.specs.declared.line.part.LinePart.{LinePart}

-- two letters are the same
abbrev pub same_letter : Letter → Letter → Bool
same_letter Bare Bare = true
same_letter (Mileage a) (Mileage b) = a == b
same_letter _ _ = false

-- two pairs of cities are the same, or neither is there
abbrev pub same_pair : Option (City × City) → Option (City × City) → Bool
same_pair None None = true
same_pair (Some a) (Some b) = bytes_eq a.0 b.0 && bytes_eq a.1 b.1
same_pair _ _ = false

-- two parts have the same letter, pair and amount
abbrev pub has_figures_of : LinePart → LinePart → Bool
has_figures_of a b = same_letter a.letter b.letter && same_pair a.pair b.pair && (a.amount == b.amount)

-- of two parts just one is there, or they differ in letter, pair or amount
abbrev pub differ_in_figures : Option LinePart → Option LinePart → Bool
differ_in_figures (Some a) (Some b) = not (has_figures_of a b)
differ_in_figures None None = false
differ_in_figures _ _ = true

-- the parts at a place, from 1, differ in letter, pair or amount
abbrev pub differs_at : List LinePart → List LinePart → ℕ → Bool
differs_at parts others k = differ_in_figures (slice_get parts (k - 1)) (slice_get others (k - 1))

-- the first part of a line that differs in letter, pair or amount from that of another line, else the number of parts
-- plus 1
unfoldable pub first_figure : List LinePart → List LinePart → ℕ
first_figure parts others =
    unwrap_or (find (differs_at parts others) (numbers 1 (length parts + 1))) (length parts + 1)
