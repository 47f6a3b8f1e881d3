-- The values of the answers are read back from their texts.
use Rattle.std.proofs.Common.{◌≡◌, ◌≤◌, ◌<◌, ◌^◌, ℕ, suc, max, List, [], ◌∷◌, length, map, Option, Some, None, refl, sym, ap, ◌∙◌, arith, append-nil}
use Rattle.std.specs.Prelude.{option_and_then, option_map, decimal}
use Rattle.std.specs.List.{All}
use Rattle.json.specs.Json as json
use Rattle.json.specs.Lex.{tokens}
use Rattle.json.specs.Token.{Token}
use Rattle.json.specs.Tree as tree
use Rattle.json.proofs.Printed.Decimals.{IsNumber-decimal}
use Rattle.json.proofs.Printed.Tokens.{tokens-print}
use Rattle.json.proofs.Printed.Trees.{ArePrintable-json_tokens, value-json_tokens}
use Rattle.serde_json.specs.Data.{Data, Items, array, number, string, unsigned}
use Rattle.serde_json.specs.Read.{read, number_of, of_json, of_items, max_depth}
use Rattle.serde_json.specs.View.{items_of}
use Rattle.serde_json.specs.Written.{outline, items_outline, compact_text}
use Rattle.serde_json.proofs.Numbers.{number_of-decimal}
use Rattle.serde_json.proofs.Texts.{print-outline}
use Rattle.fare_trip.specs.Itinerary.{Itinerary}
use Rattle.fare_tariff.specs.Tariff.{Tariff}
use Rattle.fare_rules.specs.FirstK.{Priced}
use Rattle.fare_line.specs.Line.{CalculationLine}
use Rattle.fare_audit.specs.declared.verdict.Verdict.{Verdict}
use Rattle.fare_audit.specs.declared.verdict.Verdict.TheVariants.{OtherTrip, NoRecord, Broken, Figures, Lawful}
use Rattle.fare_sentences.specs.VerdictWords.{verdict_words}
use Rattle.fare_json.specs.AuditData.{audit_data, named_data, verdict_data}
use Rattle.fare_json.specs.BestData.{entry_data, first_data}
use Rattle.fare_json.specs.BatchData.{batch_data, item_data}
use Rattle.fare_json.specs.Counts.{AreEditionCounts, AreVerdictCounts, IsCount}
use Rattle.fare_json.specs.FaultData.{refusal_data}
use Rattle.fare_json.specs.ListData.{list_data, listed_data}
use Rattle.fare_json.specs.QuotationData.{count, edition_data}
use Rattle.fare_json.specs.ReadBack.{IsReadable, IsReadBack}

-- the value that a JSON tree gives, where it is the whole of a text
abbrev whole : Option (json.Json × List Token) → Option Data
whole found = option_and_then of_json (option_and_then (λ p. json.if_last p.0 p.1) found)

-- a value that can be read back and isn't too deep is read back
pub is_read_back : (value : Data) → IsReadable 8 value → IsReadBack value
is_read_back value readable =
    let written = outline value in
    let shallow = readable.shallow in
    let printed : tokens (compact_text value) ≡ tree.json_tokens written = rw (← print-outline value) (tokens-print _ (ArePrintable-json_tokens _ readable.numbers)) in
    ap whole (ap (json.value max_depth) (printed ∙ sym (append-nil _)) ∙ value-json_tokens written max_depth [] (omega (arith, shallow))) ∙ readable.reads

-- the greater of two is at most what both are
pub both_at_most : (a b most : ℕ) → a ≤ most → b ≤ most → max a b ≤ most
both_at_most a b most h k = omega (arith, h, k)

-- the values of a list can all be read back
unfoldable pub EachReadable : ℕ → List Data → Type 0
EachReadable most [] = Unit {0}
EachReadable most (one ∷ rest) = IsReadable most one × EachReadable most rest

pub items_read : (most : ℕ) (all : List Data) → EachReadable most all → of_items (items_outline (items_of all)) ≡ Some (items_of all)
unfolding EachReadable
items_read most [] each = refl
items_read most (one ∷ rest) each = rw (each.0.reads, items_read most rest each.1) refl

pub items_numbers : (most : ℕ) (all : List Data) → EachReadable most all → tree.ItemsHaveNumbers (items_outline (items_of all))
unfolding EachReadable
items_numbers most [] each = tt
items_numbers most (one ∷ rest) each = (each.0.numbers, items_numbers most rest each.1)

pub items_shallow : (most : ℕ) (all : List Data) → EachReadable most all → tree.items_depth (items_outline (items_of all)) ≤ most
unfolding EachReadable
items_shallow most [] each = omega arith
items_shallow most (one ∷ rest) each = both_at_most _ _ most each.0.shallow (items_shallow most rest each.1)

pub array_readable : (most : ℕ) (all : List Data) → EachReadable most all → IsReadable (suc most) (array (items_of all))
array_readable most all each = record {
  reads = rw (items_read most all each) refl;
  numbers = items_numbers most all each;
  shallow = let deep = items_shallow most all each in omega (arith, deep);
}

-- values that can be read back are those of a list
pub from_all : {A : Type 0} (most : ℕ) (value : A → Data) (all : List A) → All (λ one. IsReadable most (value one)) all → EachReadable most (map value all)
unfolding EachReadable
from_all most value [] each = tt
from_all most value (one ∷ rest) each = (each 0 one (omega arith), from_all most value rest (λ k d within. each (suc k) d (omega arith)))

pub from_each : {A : Type 0} (most : ℕ) (value : A → Data) (all : List A) → ((one : A) → IsReadable most (value one)) → EachReadable most (map value all)
unfolding EachReadable
from_each most value [] each = tt
from_each most value (one ∷ rest) each = (each one, from_each most value rest each)

-- the same of one that nests less deeply
pub is_read_back_within : (value : Data) → IsReadable 5 value → IsReadBack value
is_read_back_within value readable =
    is_read_back value (record { reads = readable.reads; numbers = readable.numbers; shallow = let s = readable.shallow in omega (arith, s) })

pub refusal_readable : (text words : List ℕ) → IsReadable 5 (refusal_data text words)
unfolding refusal_data
refusal_readable text words = record { reads = refl; numbers = ((tt, (tt, tt)), tt); shallow = omega arith }

pub count_is_read : (n : ℕ) → n < 2 ^ 64 → of_json (outline (count n)) ≡ Some (count n)
count_is_read n fits = ap (option_map number) (number_of-decimal n fits)

pub edition_readable : (tariff : Tariff) → tariff.number < 2 ^ 64 → IsReadable 1 (edition_data tariff)
unfolding edition_data
edition_readable tariff fits = record {
  reads = rw (number_of-decimal tariff.number fits) refl;
  numbers = (tt, (IsNumber-decimal tariff.number fits, tt));
  shallow = omega arith;
}

entry_readable : (tariff : Tariff) (trip : Itinerary) (one : Priced) → IsReadable 1 (entry_data tariff trip one)
unfolding entry_data
entry_readable tariff trip one = record { reads = refl; numbers = (tt, (tt, tt)); shallow = omega arith }

-- an object of two members, the names being those of the first constructions
pub first_reads_back : (tariff : Tariff) (trip : Itinerary) (first : List Priced) → IsReadable 1 (edition_data tariff) → IsReadBack (first_data tariff trip first)
unfolding first_data
first_reads_back tariff trip first edition =
    let entries = array_readable 1 (map (entry_data tariff trip) first) (from_each 1 (entry_data tariff trip) first (entry_readable tariff trip)) in
    is_read_back _ (record {
      reads = rw (edition.reads, items_read 1 (map (entry_data tariff trip) first) (from_each 1 (entry_data tariff trip) first (entry_readable tariff trip))) refl;
      numbers = (entries.numbers, (edition.numbers, tt));
      shallow = let a = entries.shallow in let b = edition.shallow in omega (arith, a, b);
    })

pub listed_readable : (tariff : Tariff) → tariff.number < 2 ^ 64 → length tariff.records < 2 ^ 64 → IsReadable 1 (listed_data tariff)
unfolding listed_data
listed_readable tariff fits many = record {
  reads = rw (number_of-decimal tariff.number fits, number_of-decimal (length tariff.records) many) refl;
  numbers = (tt, (IsNumber-decimal tariff.number fits, (IsNumber-decimal (length tariff.records) many, tt)));
  shallow = omega arith;
}

pub list_reads_back : (editions : List Tariff) → All (λ tariff. IsReadable 1 (listed_data tariff)) editions → IsReadBack (list_data editions)
unfolding list_data
list_reads_back editions each =
    let all = array_readable 1 (map listed_data editions) (from_all 1 listed_data editions each) in
    is_read_back _ (record {
      reads = rw (items_read 1 (map listed_data editions) (from_all 1 listed_data editions each)) refl;
      numbers = (all.numbers, tt);
      shallow = let a = all.shallow in omega (arith, a);
    })

named_readable : (verdict : Verdict) (words : List ℕ) → AreVerdictCounts verdict → IsReadable 1 (named_data verdict words)
named_readable (OtherTrip sector) words fits = record {
  reads = rw (number_of-decimal sector fits) refl;
  numbers = (tt, (IsNumber-decimal sector fits, (tt, tt)));
  shallow = omega arith;
}
named_readable (NoRecord place) words fits = record {
  reads = rw (number_of-decimal place fits) refl;
  numbers = (tt, (IsNumber-decimal place fits, (tt, tt)));
  shallow = omega arith;
}
named_readable (Broken broken) words fits = record {
  reads = rw (number_of-decimal broken.place fits.0, number_of-decimal broken.rule fits.1) refl;
  numbers = (tt, (IsNumber-decimal broken.place fits.0, (IsNumber-decimal broken.rule fits.1, (tt, tt))));
  shallow = omega arith;
}
named_readable (Figures place) words fits = record {
  reads = rw (number_of-decimal place fits) refl;
  numbers = (tt, (IsNumber-decimal place fits, (tt, tt)));
  shallow = omega arith;
}
named_readable (Lawful price over) words fits = record { reads = refl; numbers = (tt, (tt, (tt, (tt, tt)))); shallow = omega arith }

pub audit_reads_back : (tariff : Tariff) (line : CalculationLine) (verdict : Verdict) → tariff.number < 2 ^ 64 → AreVerdictCounts verdict → IsReadBack (audit_data tariff line verdict)
unfolding audit_data verdict_data
audit_reads_back tariff line verdict fits numbers_fit =
    let edition = edition_readable tariff fits in
    let named = named_readable verdict (verdict_words (length line.parts) verdict) numbers_fit in
    is_read_back _ (record {
      reads = rw (edition.reads, named.reads) refl;
      numbers = (edition.numbers, (named.numbers, tt));
      shallow = let a = edition.shallow in let b = named.shallow in omega (arith, a, b);
    })

pub list_reads_back_counted : (editions : List Tariff) → All AreEditionCounts editions → IsReadBack (list_data editions)
list_reads_back_counted editions counts =
    list_reads_back editions (λ k d below. let both = counts k d below in listed_readable _ both.0 both.1)

item_readable : (item : Data × ℕ) → IsReadable 5 item.0 → IsCount item.1 → IsReadable 6 (item_data item)
unfolding item_data
item_readable item readable fits = record {
  reads = rw (readable.reads, number_of-decimal item.1 fits) refl;
  numbers = (readable.numbers, (IsNumber-decimal item.1 fits, tt));
  shallow = let s = readable.shallow in omega (arith, s);
}

pub batch_reads_back : (items : List (Data × ℕ)) → All (λ item. IsReadable 5 item.0 × IsCount item.1) items → IsReadBack (batch_data items)
unfolding batch_data
batch_reads_back items each =
    let readable = from_all 6 item_data items (λ k d below. let both = each k d below in item_readable _ both.0 both.1) in
    let all = array_readable 6 (map item_data items) readable in
    is_read_back _ (record {
      reads = rw (items_read 6 (map item_data items) readable) refl;
      numbers = (all.numbers, tt);
      shallow = let a = all.shallow in omega (arith, a);
    })
