-- How the pieces of a line's text are read.
use Rattle.std.specs.Prelude.{ℕ, zero, suc, ◌*◌, Bool, true, false, List, [], ◌∷◌, ◌++◌, length, Option, Some, None}
use Rattle.std.specs.Prelude.{Result, Ok, ◌&&◌, nat_lt, codes, if◌then◌else◌}
use Rattle.fare_codes.specs.Codes.{is_code_character}
use Rattle.fare_codes.specs.declared.cabin.Cabin.{Cabin}
use Rattle.fare_codes.specs.declared.cabin.Cabin.TheVariants.{F, C, Y}
use Rattle.fare_codes.specs.declared.carrier.Carrier.{Carrier}
use Rattle.fare_codes.specs.declared.city.City.{City}
use Rattle.fare_codes.specs.declared.kind.Kind.{Kind}
use Rattle.fare_codes.specs.declared.kind.Kind.TheVariants.{OW, HR}
use Rattle.fare_codes.specs.declared.rule_id.RuleId.{RuleId}
use Rattle.fare_line.specs.declared.reading.byte_kind.ByteKind.TheVariants.{This}
use Rattle.fare_line.specs.declared.line.part.Letter.{Letter}
use Rattle.fare_line.specs.declared.line.part.Letter.TheVariants.{Bare, Mileage}
use Rattle.fare_line.specs.declared.line.sector.LineSector.{LineSector}
use Rattle.fare_line.specs.declared.line.part.LinePart.{LinePart}
use Rattle.fare_line.specs.declared.line.plus_up.PlusUp.{PlusUp}
use Rattle.fare_line.specs.declared.reading.marks.Mark.{Mark}
use Rattle.fare_line.specs.declared.reading.marks.Tag.{Tag}
use Rattle.fare_line.specs.declared.reading.pieces.Totals.{Totals}
use Rattle.fare_line.specs.reader.Reading.{◌>>=◌, either, byte_at, word_at, one_of, scan, city_at, spaced_city_at}
use Rattle.fare_line.specs.reader.Reading.{carrier_at, amount_at, rate_at, unit_at}

-- a sector of a carrier, to a city that is a transfer or none
unfoldable pub sector_to : Carrier → Bool → List ℕ → Result (LineSector × List ℕ) ℕ
sector_to carrier transfer bytes = do
  city ← spaced_city_at bytes
  Ok (record { carrier = carrier; transfer = transfer; to = city.0 }, city.1)

-- a sector of a carrier to a transfer
unfoldable pub transfer_to : Carrier → List ℕ → Result (LineSector × List ℕ) ℕ
transfer_to carrier bytes = do
  mark ← word_at (codes "X/") bytes
  sector_to carrier true mark.1

-- a sector
unfoldable pub sector_at : List ℕ → Result (LineSector × List ℕ) ℕ
sector_at bytes = do
  carrier ← carrier_at bytes
  space ← byte_at (This 32) carrier.1
  either (transfer_to carrier.0 space.1) (sector_to carrier.0 false space.1)

-- the letters behind `M`
abbrev pub later_letters : List (List ℕ)
later_letters = codes "5M" ∷ codes "10M" ∷ codes "15M" ∷ codes "20M" ∷ codes "25M" ∷ []

-- a letter that isn't empty
unfoldable pub letter_at : List ℕ → Result (Letter × List ℕ) ℕ
letter_at bytes = do
  step ← one_of (codes "M") later_letters bytes
  Ok (Mileage (5 * step.0), step.1)

-- the amount behind a letter, without a pair
unfoldable pub unpaired_at : Letter → List ℕ → Result (Mark × List ℕ) ℕ
unpaired_at letter bytes = do
  amount ← amount_at bytes
  Ok (record { letter = letter; pair = None; amount = amount.0 }, amount.1)

-- the pair and the amount behind a letter
unfoldable pub paired_at : Letter → List ℕ → Result (Mark × List ℕ) ℕ
paired_at letter bytes = do
  a ← city_at bytes
  b ← city_at a.1
  amount ← amount_at b.1
  Ok (record { letter = letter; pair = Some (a.0, b.0); amount = amount.0 }, amount.1)

-- a mark with a letter
unfoldable pub lettered_at : List ℕ → Result (Mark × List ℕ) ℕ
lettered_at bytes = do
  letter ← letter_at bytes
  either (paired_at letter.0 letter.1) (unpaired_at letter.0 letter.1)

-- a mark
unfoldable pub mark_at : List ℕ → Result (Mark × List ℕ) ℕ
mark_at bytes = either (lettered_at bytes) (unpaired_at Bare bytes)

-- the classes behind `F`
abbrev pub later_classes : List (List ℕ)
later_classes = codes "C" ∷ codes "Y" ∷ []

-- the cabin of an index
abbrev pub cabin_of : ℕ → Cabin
cabin_of zero = F
cabin_of (suc zero) = C
cabin_of (suc (suc n)) = Y

-- a class
unfoldable pub class_at : List ℕ → Result (Cabin × List ℕ) ℕ
class_at bytes = do
  found ← one_of (codes "F") later_classes bytes
  Ok (cabin_of found.0, found.1)

-- the kinds behind `OW`
abbrev pub later_kinds : List (List ℕ)
later_kinds = codes "HR" ∷ []

-- the kind of fare of an index
abbrev pub kind_of : ℕ → Kind
kind_of zero = OW
kind_of (suc n) = HR

-- a kind of fare
unfoldable pub kind_at : List ℕ → Result (Kind × List ℕ) ℕ
kind_at bytes = do
  found ← one_of (codes "OW") later_kinds bytes
  Ok (kind_of found.0, found.1)

-- a character more of a rule's id
abbrev pub with_character : List ℕ → ℕ → Option (List ℕ)
with_character id byte = if is_code_character byte && nat_lt (length id) 8 then Some (id ++ byte ∷ []) else None

-- the rule of an id, which is the free rule where it is empty
abbrev pub rule_of : List ℕ → Option RuleId
rule_of [] = None
rule_of (first ∷ others) = Some (first ∷ others)

-- a rule and a slash
unfoldable pub rule_at : List ℕ → Result (Option RuleId × List ℕ) ℕ
rule_at bytes = do
  id ← scan with_character 47 [] bytes
  Ok (rule_of id.0, id.1)

-- a tag and a slash
unfoldable pub tag_at : List ℕ → Result (Tag × List ℕ) ℕ
tag_at bytes = do
  carrier ← carrier_at bytes
  class ← class_at carrier.1
  kind ← kind_at class.1
  rule ← rule_at kind.1
  Ok (record { carrier = carrier.0; class = class.0; kind = kind.0; rule = rule.0 }, rule.1)

-- the part of a mark, a tag and a unit that ends with the sector of a number, behind a gap or none
abbrev pub part_of : ℕ → Option City → Mark → Tag → ℕ → LinePart
part_of end gap mark tag unit = record {
  end = end;
  letter = mark.letter;
  pair = mark.pair;
  amount = mark.amount;
  carrier = tag.carrier;
  class = tag.class;
  kind = tag.kind;
  rule = tag.rule;
  unit = unit;
  gap = gap;
}

-- what stands behind the sectors of a part
unfoldable pub price_at : ℕ → Option City → List ℕ → Result (LinePart × List ℕ) ℕ
price_at end gap bytes = do
  mark ← mark_at bytes
  space ← byte_at (This 32) mark.1
  tag ← tag_at space.1
  unit ← unit_at tag.1
  Ok (part_of end gap mark.0 tag.0 unit.0, unit.1)

-- a gap
unfoldable pub gap_at : List ℕ → Result (City × List ℕ) ℕ
gap_at bytes = do
  mark ← word_at (codes "// ") bytes
  spaced_city_at mark.1

-- a plus-up
unfoldable pub plus_at : List ℕ → Result (PlusUp × List ℕ) ℕ
plus_at bytes = do
  mark ← word_at (codes "P/") bytes
  unit ← unit_at mark.1
  amount ← amount_at unit.1
  space ← byte_at (This 32) amount.1
  Ok (record { unit = unit.0; amount = amount.0 }, space.1)

-- the total and the rate
unfoldable pub totals_at : List ℕ → Result (Totals × List ℕ) ℕ
totals_at bytes = do
  mark ← word_at (codes "NUC") bytes
  total ← amount_at mark.1
  behind ← word_at (codes "END ROE") total.1
  roe ← rate_at behind.1
  Ok (record { total = total.0; roe = roe.0 }, roe.1)
