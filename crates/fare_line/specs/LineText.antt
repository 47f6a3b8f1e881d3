-- The one text of each calculation line.
use Rattle.std.specs.Prelude.{ℕ, Bool, true, false, List, [], ◌∷◌, ◌++◌, take, drop, Option, Some, None, ◌==◌, codes}
use Rattle.std.specs.Prelude.{decimal, if◌then◌else◌}
use Rattle.std.specs.List.{flat_map}
use Rattle.fare_codes.specs.declared.city.City.{City}
use Rattle.fare_codes.specs.declared.carrier.Carrier.{Carrier}
use Rattle.fare_codes.specs.declared.rule_id.RuleId.{RuleId}
use Rattle.fare_codes.specs.declared.cabin.Cabin.{Cabin}
use Rattle.fare_codes.specs.declared.kind.Kind.{Kind}
use Rattle.fare_codes.specs.Numbers.{nuc_text, rate_text}
use Rattle.fare_codes.specs.Words.{cabin_text, kind_text}
use Rattle.fare_line.specs.declared.line.part.Letter.{Letter}
use Rattle.fare_line.specs.declared.line.part.Letter.TheVariants.{Bare, Mileage}
use Rattle.fare_line.specs.declared.line.sector.LineSector.{LineSector}
use Rattle.fare_line.specs.declared.line.part.LinePart.{LinePart}
use Rattle.fare_line.specs.declared.line.plus_up.PlusUp.{PlusUp}
use Rattle.fare_line.specs.Line.{CalculationLine, flown_count}

-- a text with the one space behind it that sets it off from the next
abbrev pub spaced : List ℕ → List ℕ
spaced text = text ++ codes " "

-- a transfer is marked `X/` before its city
abbrev pub transfer_text : Bool → List ℕ
transfer_text true = codes "X/"
transfer_text false = []

-- a sector is its carrier and the city that it reaches
abbrev pub sector_text : LineSector → List ℕ
sector_text sector = spaced sector.carrier ++ transfer_text sector.transfer ++ spaced sector.to

-- the letter of a surcharge has its hundredths before it where they aren't 0
abbrev pub letter_text : Letter → List ℕ
letter_text Bare = []
letter_text (Mileage s) = (if s == 0 then [] else decimal s) ++ codes "M"

-- a pair is its two cities
abbrev pub pair_text : Option (City × City) → List ℕ
pair_text None = []
pair_text (Some pair) = pair.0 ++ pair.1

-- a mark is the letter, the pair and the amount
abbrev pub mark_text : Letter → Option (City × City) → ℕ → List ℕ
mark_text letter pair amount = letter_text letter ++ pair_text pair ++ nuc_text amount

-- the free rule isn't written
abbrev pub rule_text : Option RuleId → List ℕ
rule_text None = []
rule_text (Some id) = id

-- a fare's tag is its carrier, its class, its kind and its rule
abbrev pub tag_text : Carrier → Cabin → Kind → Option RuleId → List ℕ
tag_text carrier class kind rule = carrier ++ cabin_text class ++ kind_text kind ++ rule_text rule

-- behind the sectors of a part stand its mark, its fare's tag and its unit
abbrev pub price_text : LinePart → List ℕ
price_text part =
    spaced (mark_text part.letter part.pair part.amount)
    ++ tag_text part.carrier part.class part.kind part.rule ++ codes "/" ++ spaced (decimal part.unit)

-- a gap is the city to which the surface sector leads
abbrev pub gap_text : Option City → List ℕ
gap_text None = []
gap_text (Some city) = codes "// " ++ spaced city

-- a part is its gap, its flown sectors and its price
abbrev pub part_text : List LineSector → LinePart → List ℕ
part_text sectors part = gap_text part.gap ++ flat_map sector_text sectors ++ price_text part

-- parts that begin behind so many sectors of the line, one after the other with their flown sectors
unfoldable pub parts_text : ℕ → List LineSector → List LinePart → List ℕ
parts_text begun sectors [] = []
parts_text begun sectors (part ∷ parts) =
    part_text (take (flown_count begun part) sectors) part
    ++ parts_text part.end (drop (flown_count begun part) sectors) parts

-- a plus-up is its unit and its amount
abbrev pub plus_text : PlusUp → List ℕ
plus_text plus = codes "P/" ++ spaced (decimal plus.unit) ++ spaced (nuc_text plus.amount)

-- the total and the rate
abbrev pub totals_text : ℕ → ℕ → List ℕ
totals_text total roe = codes "NUC" ++ nuc_text total ++ codes "END ROE" ++ rate_text roe

-- a line is its first city, its parts, its plus-ups, and the total and the rate
unfoldable pub line_text : CalculationLine → List ℕ
line_text line =
    spaced line.from ++ parts_text 0 line.sectors line.parts ++ flat_map plus_text line.plus
    ++ totals_text line.total line.roe
