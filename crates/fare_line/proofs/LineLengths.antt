-- How long the text of a line may be.
use Rattle.std.proofs.Common.{◌≡◌, ◌∙◌, ◌<◌, ◌≤◌, ◌+◌, ◌-◌, ◌*◌, ◌/◌, ◌%◌, ◌^◌, ℕ, zero, suc, Bool, true, false, ◌==◌, List, [], ◌∷◌, ◌++◌, length, take, drop, get_or, Option, Some, None, decimal, codes, nat_le, refl, sym, ap, subst, arith, length-append, length-drop}
use Rattle.std.specs.List.{flat_map, list_all}
use Rattle.std.proofs.lemmas.Bool.{eqb-true, leb-true, ltb-true}
use Rattle.std.proofs.lemmas.Fmt.{length-decimal-le}
use Rattle.std.proofs.lemmas.List.{length-take, length-take-le}
use Rattle.std.specs.Char.{is_ascii_uppercase}
use Rattle.fare_codes.specs.Numbers.{nuc_text, rate_text}
use Rattle.fare_codes.specs.Codes.{is_carrier, is_city, is_code_character}
use Rattle.fare_codes.specs.Words.{cabin_text, kind_text}
use Rattle.fare_codes.specs.declared.cabin.Cabin.{Cabin}
use Rattle.fare_codes.specs.declared.cabin.Cabin.TheVariants.{F, C, Y}
use Rattle.fare_codes.specs.declared.city.City.{City}
use Rattle.fare_codes.specs.declared.kind.Kind.{Kind}
use Rattle.fare_codes.specs.declared.kind.Kind.TheVariants.{OW, HR}
use Rattle.fare_codes.specs.declared.rule_id.RuleId.{RuleId}
use Rattle.fare_line.specs.declared.line.part.Letter.{Letter}
use Rattle.fare_line.specs.declared.line.part.Letter.TheVariants.{Bare, Mileage}
use Rattle.fare_line.specs.declared.line.sector.LineSector.{LineSector}
use Rattle.fare_line.specs.declared.line.part.LinePart.{LinePart}
use Rattle.fare_line.specs.declared.line.plus_up.PlusUp.{PlusUp}
use Rattle.fare_line.specs.Line.{CalculationLine, are_parts, flown_count, is_amount, is_flown, is_gap, is_letter, is_line, is_pair, is_plus, is_priced, is_rate, is_rule, is_unit}
use Rattle.fare_line.specs.LineText.{gap_text, letter_text, line_text, mark_text, pair_text, part_text, parts_text, plus_text, price_text, rule_text, sector_text, spaced, tag_text, totals_text, transfer_text}
use Rattle.fare_line.specs.reader.Draft.{last_end}
use Rattle.fare_line.specs.LongestFront.{IsLongestFront}
use Rattle.fare_line.specs.reader.Pieces.{later_letters}
use Rattle.fare_line.proofs.PartLemmas.{leads}
use Rattle.fare_line.proofs.Words.{both_tests}
use Rattle.fare_line.proofs.Amounts.{nuc_is, rate_is, unit_range}
use Rattle.fare_line.proofs.CodeLaws.{index_of, steps_of}
use Rattle.fare_line.proofs.RuleLaws.{id_parts}
use Rattle.fare_line.proofs.MarkLaws.{seven_tests}
use Rattle.fare_line.proofs.DraftLaws.{flown_le}
use Rattle.fare_line.proofs.LineWays.{all_take, gap_valid, line_parts}

city_length : (city : List ℕ) → is_city city ≡ true → length city ≡ 3
city_length city h = eqb-true (length city) 3 (both_tests (length city == 3) (list_all is_ascii_uppercase city) h).0

carrier_length : (carrier : List ℕ) → is_carrier carrier ≡ true → length carrier ≡ 2
carrier_length carrier h = eqb-true (length carrier) 2 (both_tests (length carrier == 2) (list_all is_code_character carrier) h).0

spaced_length : (text : List ℕ) → length (spaced text) ≡ length text + 1
spaced_length text = length-append text (codes " ")

nuc_length : (n : ℕ) → is_amount n ≡ true → length (nuc_text n) ≤ 13
nuc_length n h =
    let below : n < 10 ^ 11 = ltb-true n (10 ^ 11) h in
    let whole : n / 100 < 10 ^ 10 = omega arith in
    let digits = length-decimal-le 10 (n / 100) (omega arith) whole (omega arith) in
    let pieces = nuc_is n (n / 100) (n % 100) (omega arith) (omega arith) in
    let size : length (nuc_text n) ≡ length (decimal (n / 100)) + 1 + 2 =
    ap length (sym pieces) ∙ length-append (decimal (n / 100) ++ 46 ∷ []) ((48 + n % 100 / 10) ∷ (48 + n % 100 % 10) ∷ []) ∙ ap (λ (k : ℕ). k + 2) (length-append (decimal (n / 100)) (46 ∷ [])) in
    omega arith

rate_length : (n : ℕ) → is_rate n ≡ true → length (rate_text n) ≤ 17
rate_length n h =
    let below : n < 10 ^ 13 = ltb-true n (10 ^ 13) h in
    let whole : n / 1_000_000 < 10 ^ 10 = omega arith in
    let digits = length-decimal-le 10 (n / 1_000_000) (omega arith) whole (omega arith) in
    let pieces = rate_is n (n / 1_000_000) (n / 10_000 % 100) (n / 100 % 100) (n % 100) (omega arith) (omega arith) (omega arith) (omega arith) in
    let size : length (rate_text n) ≡ length (decimal (n / 1_000_000)) + 1 + 6 =
    ap length (sym pieces) ∙ length-append (decimal (n / 1_000_000) ++ 46 ∷ []) _ ∙ ap (λ (k : ℕ). k + 6) (length-append (decimal (n / 1_000_000)) (46 ∷ [])) in
    omega arith

letter_length : (letter : Letter) → is_letter letter ≡ true → length (letter_text letter) ≤ 3
letter_length Bare h = omega arith
letter_length (Mileage s) h =
    let at = index_of s h in
    let word : letter_text (Mileage s) ≡ get_or (codes "M" ∷ later_letters) at.0 [] = ap (λ (k : ℕ). letter_text (Mileage k)) at.2 ∙ sym (steps_of at.0 at.1).1 in
    subst (λ (t : List ℕ). length t ≤ 3) (sym word) (short at.0 at.1)
  where
    short : (i : ℕ) → nat_le i 5 ≡ true → length (get_or (codes "M" ∷ later_letters) i []) ≤ 3
    short zero h = omega arith
    short (suc zero) h = omega arith
    short (suc (suc zero)) h = omega arith
    short (suc (suc (suc zero))) h = omega arith
    short (suc (suc (suc (suc zero)))) h = omega arith
    short (suc (suc (suc (suc (suc zero))))) h = omega arith
    short (suc (suc (suc (suc (suc (suc i)))))) h = absurd (omega (arith, leb-true (suc (suc (suc (suc (suc (suc i)))))) 5 h))

pair_length : (letter : Letter) (pair : Option (City × City)) → is_pair letter pair ≡ true → length (pair_text pair) ≤ 6
pair_length letter None h = omega arith
pair_length Bare (Some pair) h = absurd cc
pair_length (Mileage s) (Some pair) h =
    let cities = both_tests (is_city pair.0) (is_city pair.1) h in
    omega (arith, length-append pair.0 pair.1, city_length pair.0 cities.0, city_length pair.1 cities.1)

rule_length : (rule : Option RuleId) → is_rule rule ≡ true → length (rule_text rule) ≤ 8
rule_length None h = omega arith
rule_length (Some id) h = (id_parts id h).1

cabin_length : (cabin : Cabin) → length (cabin_text cabin) ≡ 1
cabin_length F = refl
cabin_length C = refl
cabin_length Y = refl

kind_length : (kind : Kind) → length (kind_text kind) ≡ 2
kind_length OW = refl
kind_length HR = refl

gap_length : (gap : Option City) → is_gap gap ≡ true → length (gap_text gap) ≤ 7
gap_length None h = omega arith
gap_length (Some city) h = omega (arith, length-append (codes "// ") (spaced city), spaced_length city, city_length city h)

transfer_length : (transfer : Bool) → length (transfer_text transfer) ≤ 2
transfer_length true = omega arith
transfer_length false = omega arith

sector_length : (sector : LineSector) → is_flown sector ≡ true → length (sector_text sector) ≤ 9
sector_length sector h =
    let tests = both_tests (is_carrier sector.carrier) (is_city sector.to) h in
    omega (
      arith,
      length-append (spaced sector.carrier ++ transfer_text sector.transfer) (spaced sector.to),
      length-append (spaced sector.carrier) (transfer_text sector.transfer),
      spaced_length sector.carrier,
      spaced_length sector.to,
      carrier_length sector.carrier tests.0,
      city_length sector.to tests.1,
      transfer_length sector.transfer,
    )

sectors_length : (sectors : List LineSector) → list_all is_flown sectors ≡ true → length (flat_map sector_text sectors) ≤ 9 * length sectors
sectors_length [] h = omega arith
sectors_length (sector ∷ sectors) h =
    let tests = both_tests (is_flown sector) (list_all is_flown sectors) h in
    omega (arith, length-append (sector_text sector) (flat_map sector_text sectors), sector_length sector tests.0, sectors_length sectors tests.1)

unit_length : (unit : ℕ) → is_unit unit ≡ true → length (spaced (decimal unit)) ≤ 3
unit_length unit h =
    let range = unit_range unit h in
    omega (arith, spaced_length (decimal unit), length-decimal-le 2 unit (omega arith) (omega arith) (omega (arith, range.1)))

-- four lengths and five
four : (a b c d : List ℕ) → length (a ++ b ++ c ++ d) ≡ length a + length b + length c + length d
four a b c d = omega (arith, length-append (a ++ b ++ c) d, length-append (a ++ b) c, length-append a b)

three : (a b c : List ℕ) → length (a ++ b ++ c) ≡ length a + length b + length c
three a b c = omega (arith, length-append (a ++ b) c, length-append a b)

price_length : (part : LinePart) → is_priced part ≡ true → length (price_text part) ≤ 40
price_length part h =
    let tests = seven_tests (is_gap part.gap) (is_letter part.letter) (is_pair part.letter part.pair) (is_amount part.amount) (is_carrier part.carrier) (is_rule part.rule) (is_unit part.unit) h in
    let mark = three (letter_text part.letter) (pair_text part.pair) (nuc_text part.amount) in
    let tag = four part.carrier (cabin_text part.class) (kind_text part.kind) (rule_text part.rule) in
    let whole = four (spaced (mark_text part.letter part.pair part.amount)) (tag_text part.carrier part.class part.kind part.rule) (codes "/") (spaced (decimal part.unit)) in
    omega (
      arith,
      spaced_length (mark_text part.letter part.pair part.amount),
      letter_length part.letter tests.1,
      pair_length part.letter part.pair tests.2,
      nuc_length part.amount tests.3,
      carrier_length part.carrier tests.4,
      cabin_length part.class,
      kind_length part.kind,
      rule_length part.rule tests.5,
      unit_length part.unit tests.6,
    )

parts_length : (parts : List LinePart) (begun : ℕ) (sectors : List LineSector) → list_all is_flown sectors ≡ true → are_parts begun (length sectors) parts ≡ true
    → length (parts_text begun sectors parts) ≤ 9 * length sectors + 47 * length parts
unfolding parts_text
parts_length [] begun sectors all h = omega arith
parts_length (part ∷ parts) begun sectors all h =
    let lead = leads begun (length sectors) part parts h in
    let fits = lead.fits in
    let flown = all_take (flown_count begun part) sectors all in
    let own : length (take (flown_count begun part) sectors) ≡ flown_count begun part = omega (arith, length-take (flown_count begun part) sectors) in
    let left : length (drop (flown_count begun part) sectors) ≡ length sectors - flown_count begun part = length-drop (flown_count begun part) sectors in
    let rest = parts_length parts part.end (drop (flown_count begun part) sectors) flown.1 (ap (λ (k : ℕ). are_parts part.end k parts) left ∙ lead.rest) in
    let whole = length-append (part_text (take (flown_count begun part) sectors) part) (parts_text part.end (drop (flown_count begun part) sectors) parts) in
    let first = three (gap_text part.gap) (flat_map sector_text (take (flown_count begun part) sectors)) (price_text part) in
    omega (arith, gap_length part.gap (gap_valid part lead.priced), sectors_length (take (flown_count begun part) sectors) flown.0, price_length part lead.priced)

last_le : (parts : List LinePart) (begun flown : ℕ) → are_parts begun flown parts ≡ true → begun ≤ 16 → last_end begun parts ≤ 16
last_le [] begun flown h few = few
last_le (part ∷ parts) begun flown h few =
    let lead = leads begun flown part parts h in
    last_le parts part.end (flown - flown_count begun part) lead.rest lead.ends

plus_ups_length : (plus : List PlusUp) → list_all is_plus plus ≡ true → length (flat_map plus_text plus) ≤ 19 * length plus
plus_ups_length [] h = omega arith
plus_ups_length (one ∷ others) h =
    let tests = both_tests (is_plus one) (list_all is_plus others) h in
    let forms = both_tests (is_unit one.unit) (is_amount one.amount) tests.0 in
    omega (
      arith,
      length-append (plus_text one) (flat_map plus_text others),
      three (codes "P/") (spaced (decimal one.unit)) (spaced (nuc_text one.amount)),
      spaced_length (nuc_text one.amount),
      unit_length one.unit forms.0,
      nuc_length one.amount forms.1,
      plus_ups_length others tests.1,
    )

-- no line's text is longer than 2,000 bytes
pub line_length : (line : CalculationLine) → is_line line ≡ true → length (line_text line) ≤ 2_000
unfolding line_text
line_length line h =
    let tests = line_parts line h in
    let bounds = flown_le line.parts 0 (length line.sectors) tests.parts in
    let last = last_le line.parts 0 (length line.sectors) tests.parts (omega arith) in
    let few = tests.few in
    omega (
      arith,
      four (spaced line.from) (parts_text 0 line.sectors line.parts) (flat_map plus_text line.plus) (totals_text line.total line.roe),
      four (codes "NUC") (nuc_text line.total) (codes "END ROE") (rate_text line.roe),
      spaced_length line.from,
      city_length line.from tests.from,
      parts_length line.parts 0 line.sectors tests.sectors tests.parts,
      plus_ups_length line.plus tests.plus,
      nuc_length line.total tests.total,
      rate_length line.roe tests.roe,
      bounds.0,
      bounds.1,
      last,
      few,
    )

-- nor is what could have become one
pub front_length : (bytes : List ℕ) (count : ℕ) → IsLongestFront bytes count → count ≤ 2_000
front_length bytes count front =
    let begins = front.begins in
    let within = front.within in
    let size : length (take count bytes) ≡ count = length-take-le count bytes within in
    omega (arith, line_length begins.0 begins.2, ap length begins.3, length-append (take count bytes) begins.1)
