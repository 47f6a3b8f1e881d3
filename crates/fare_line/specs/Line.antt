-- What a calculation line is.
use Rattle.std.specs.Prelude.{ℕ, ◌+◌, ◌-◌, ◌^◌, Bool, true, false, List, [], ◌∷◌, length, Option, Some, None, is_none}
use Rattle.std.specs.Prelude.{◌==◌, ◌&&◌, ◌||◌, nat_lt, nat_le}
use Rattle.std.specs.List.{list_all}
use Rattle.fare_codes.specs.declared.city.City.{City}
use Rattle.fare_codes.specs.declared.limits.TheConstants.{MOST_SECTORS}
use Rattle.fare_codes.specs.declared.rule_id.RuleId.{RuleId}
use Rattle.fare_codes.specs.Codes.{is_city, is_carrier, is_rule_id}
use Rattle.fare_line.specs.declared.line.part.Letter.{Letter}
use Rattle.fare_line.specs.declared.line.part.Letter.TheVariants.{Bare, Mileage}
use Rattle.fare_line.specs.declared.line.sector.LineSector.{LineSector}
use Rattle.fare_line.specs.declared.line.part.LinePart.{LinePart}
use Rattle.fare_line.specs.declared.line.plus_up.PlusUp.{PlusUp}

-- a line: its first city, its flown sectors, its parts and plus-ups, the total in hundredths and the rate in millionths
pub record CalculationLine : Type 0 where
  pub from : City
  pub sectors : List LineSector
  pub parts : List LinePart
  pub plus : List PlusUp
  pub total : ℕ
  pub roe : ℕ

-- an amount of a line has at most nine digits before the point
abbrev pub is_amount : ℕ → Bool
is_amount hundredths = nat_lt hundredths (10 ^ 11)

-- a rate has at most seven digits before the point
abbrev pub is_rate : ℕ → Bool
is_rate millionths = nat_lt millionths (10 ^ 13)

-- a unit is a number 1 to MOST_SECTORS
abbrev pub is_unit : ℕ → Bool
is_unit unit = nat_le 1 unit && nat_le unit MOST_SECTORS

-- a surcharge is 0, 5, 10, 15, 20 or 25 hundredths
abbrev pub is_surcharge : ℕ → Bool
is_surcharge s = (s == 0) || (s == 5) || (s == 10) || (s == 15) || (s == 20) || (s == 25)

-- a letter is nothing or that of a surcharge
abbrev pub is_letter : Letter → Bool
is_letter Bare = true
is_letter (Mileage s) = is_surcharge s

-- a pair of cities stands only behind a letter that isn't empty
abbrev pub is_pair : Letter → Option (City × City) → Bool
is_pair letter None = true
is_pair Bare (Some pair) = false
is_pair (Mileage s) (Some pair) = is_city pair.0 && is_city pair.1

-- a rule is nothing or an id
abbrev pub is_rule : Option RuleId → Bool
is_rule None = true
is_rule (Some id) = is_rule_id id

-- a gap is nothing or leads to a city
abbrev pub is_gap : Option City → Bool
is_gap None = true
is_gap (Some city) = is_city city

-- the carrier and the city of a sector are in their forms
abbrev pub is_flown : LineSector → Bool
is_flown sector = is_carrier sector.carrier && is_city sector.to

-- a plus-up has a unit and an amount
abbrev pub is_plus : PlusUp → Bool
is_plus plus = is_unit plus.unit && is_amount plus.amount

-- what a part says of its gap, amount, fare and unit is in its form
abbrev pub is_priced : LinePart → Bool
is_priced part =
    is_gap part.gap && is_letter part.letter && is_pair part.letter part.pair && is_amount part.amount
    && is_carrier part.carrier && is_rule part.rule && is_unit part.unit

-- a gap is one sector
abbrev pub gap_count : Option City → ℕ
gap_count None = 0
gap_count (Some city) = 1

-- how many sectors are flown in a part that begins behind so many sectors of the line
abbrev pub flown_count : ℕ → LinePart → ℕ
flown_count begun part = part.end - (begun + gap_count part.gap)

-- parts that begin behind so many sectors of the line share so many flown ones among them: each ends with the line's
-- 16th sector at the latest and has at least one flown sector, and none is left over
unfoldable pub are_parts : ℕ → ℕ → List LinePart → Bool
are_parts begun flown [] = flown == 0
are_parts begun flown (part ∷ parts) =
    is_priced part && nat_lt (begun + gap_count part.gap) part.end && nat_le part.end MOST_SECTORS
    && nat_le (flown_count begun part) flown && are_parts part.end (flown - flown_count begun part) parts

-- there is a first part, and no gap before it
abbrev pub is_led : List LinePart → Bool
is_led [] = false
is_led (first ∷ others) = is_none first.gap

-- a line has a part and no gap before the first, its parts share its flown sectors, it has at most MOST_SECTORS
-- sectors, gaps counted, and as many plus-ups, and each code, amount and number is in its form
unfoldable pub is_line : CalculationLine → Bool
is_line line =
    is_city line.from && list_all is_flown line.sectors && is_led line.parts
    && are_parts 0 (length line.sectors) line.parts && list_all is_plus line.plus
    && nat_le (length line.plus) MOST_SECTORS && is_amount line.total && is_rate line.roe
