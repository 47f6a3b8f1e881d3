-- Findings, one row further.
use Rattle.std.proofs.Common.{◌≡◌, ◌<◌, ◌≤◌, ℕ, zero, suc, ◌+◌, Bool, true, false, cond, ◌||◌, List, [], ◌∷◌, ◌++◌, length, drop, get_or, map, Option, None, option_map, refl, ap, sym, ◌∙◌, arith}
use Rattle.std.proofs.Math.Numerals.{add-one}
use Rattle.std.proofs.Math.Seq.{drop-length}
use Rattle.std.proofs.lemmas.List.{length-map, map-append}
use Rattle.fare_records.specs.declared.record.Record.{Record}
use Rattle.fare_tariff.specs.Check.{fault_at}
use Rattle.fare_csv.specs.declared.text_fault.TextFault.{TextFault}
use Rattle.fare_csv.specs.declared.text_fault.TextFault.TheVariants.{NoHeader}
use Rattle.fare_csv.specs.declared.head.Version.{Version}
use Rattle.fare_csv.specs.CheckedFault.{checked_fault}
use Rattle.fare_csv.specs.Rows.{Fields}
use Rattle.fare_csv.specs.TariffText.{number_after}
use Rattle.fare_csv.specs.Spelled.{is_end}
use Rattle.fare_check.specs.Faults.{Finding, at_end, check_findings, check_findings_from, faulty_from, findings_from, of_row, reading_findings, row_fault, version_of}
use Rattle.fare_check.proofs.PlacesLeft.{as_many_left}

-- what a taken row says of the rows that were left
taken : (rows more : List Fields) (row : Fields) (found : Bool) → rows ≡ cond found (row ∷ more) [] → found ≡ true → rows ≡ row ∷ more
taken rows more row found h e = h ∙ ap (λ t. cond t (row ∷ more) []) e

not_taken : (rows more : List Fields) (row : Fields) (found : Bool) → rows ≡ cond found (row ∷ more) [] → found ≡ false → rows ≡ []
not_taken rows more row found h e = h ∙ ap (λ t. cond t (row ∷ more) []) e

-- the rows behind it are one fewer
pub one_fewer : (count place : ℕ) (rows more : List Fields) (row : Fields) (found : Bool) → rows ≡ cond found (row ∷ more) [] → found ≡ true → count ≤ place + length rows → count ≤ (place + 1) + length more
one_fewer count place rows more row found h e enough = omega (arith, ap length (taken rows more row found h e))

-- what is left of a list from a place on
record Next (xs : List Record) (place : ℕ) : Type 0 where
  one : Record
  there : get_or xs place one ≡ one
  left : drop place xs ≡ one ∷ drop (suc place) xs

next : (xs : List Record) (place : ℕ) → place < length xs → Next xs place
next [] place h = absurd (omega arith)
next (x ∷ xs) zero h = record { one = x; there = refl; left = refl }
next (x ∷ xs) (suc place) h = let n = next xs place (omega arith) in record { one = n.one; there = n.there; left = n.left }

no_row : (all : List Record) (place : ℕ) (rest : List Record) → check_findings_from all place rest [] ≡ []
unfolding check_findings_from
no_row all place [] = refl
no_row all place (one ∷ rest) = refl

module _ (line : Finding → List ℕ) where
  -- the findings of a row and of those behind it
  pub row_step : (version : Option Version) (ended behind : Bool) (number after : ℕ) (rows more : List Fields) (row : Fields) (found : Bool) (fault : Option TextFault)
      → rows ≡ cond found (row ∷ more) [] → found ≡ true → fault ≡ row_fault version ended number row → after ≡ number_after number → behind ≡ (ended || is_end row)
      → map line (findings_from version ended number rows) ≡ map line (of_row row fault) ++ map line (findings_from version behind after more)
  unfolding findings_from
  row_step version ended behind number after rows more row found fault h e of_row_is number_is end_is =
      ap (λ l. map line (findings_from version ended number l)) (taken rows more row found h e)
      ∙ map-append line (of_row row (row_fault version ended number row)) (findings_from version (ended || is_end row) (number_after number) more)
      ∙ (λ i. map line (of_row row (sym of_row_is i)) ++ map line (findings_from version (sym end_is i) (sym number_is i) more))

  -- no row
  pub row_end : (version : Option Version) (ended : Bool) (number : ℕ) (rows more : List Fields) (row : Fields) (found : Bool) → rows ≡ cond found (row ∷ more) [] → found ≡ false
      → map line (findings_from version ended number rows) ≡ map line (at_end ended number)
  unfolding findings_from
  row_end version ended number rows more row found h e = ap (λ l. map line (findings_from version ended number l)) (not_taken rows more row found h e)

  -- the check findings of a record and of those behind it
  pub check_step : (all : List Record) (place : ℕ) (rows more : List Fields) (row : Fields) (found : Bool) (fault : Option TextFault)
      → rows ≡ cond found (row ∷ more) [] → found ≡ true → place < length all → ((d : Record) → fault ≡ option_map checked_fault (fault_at all place (get_or all place d)))
      → map line (check_findings_from all place (drop place all) rows) ≡ map line (of_row row fault) ++ map line (check_findings_from all (place + 1) (drop (place + 1) all) more)
  unfolding check_findings_from
  check_step all place rows more row found fault h e within is =
      let n = next all place within in
      let left : drop place all ≡ n.one ∷ drop (place + 1) all = rw (add-one place) n.left in
      let here : option_map checked_fault (fault_at all place n.one) ≡ fault = sym (is n.one ∙ ap (λ one. option_map checked_fault (fault_at all place one)) n.there) in
      (λ i. map line (check_findings_from all place (left i) (taken rows more row found h e i)))
      ∙ map-append line (of_row row (option_map checked_fault (fault_at all place n.one))) (check_findings_from all (place + 1) (drop (place + 1) all) more)
      ∙ ap (λ f. map line (of_row row f) ++ map line (check_findings_from all (place + 1) (drop (place + 1) all) more)) here

  -- no row is left, and no record
  pub check_stop : (all : List Record) (place : ℕ) (rows more : List Fields) (row : Fields) (found : Bool) → rows ≡ cond found (row ∷ more) [] → found ≡ false
      → map line (check_findings_from all place (drop place all) rows) ≡ []
  check_stop all place rows more row found h e =
      ap (λ l. map line (check_findings_from all place (drop place all) l)) (not_taken rows more row found h e) ∙ ap (map line) (no_row all place (drop place all))

  pub check_end : (all : List Record) (place : ℕ) (rows : List Fields) → place ≡ length all → map line (check_findings_from all place (drop place all) rows) ≡ []
  unfolding check_findings_from
  check_end all place rows e =
      let none : drop place all ≡ [] = ap (λ n. drop n all) e ∙ drop-length all in
      ap (λ l. map line (check_findings_from all place l rows)) none

  -- behind HEAD, and without a row
  pub behind_head : (all : List Record) (rows more : List Fields) (row : Fields) (found : Bool) → rows ≡ cond found (row ∷ more) [] → found ≡ true
      → map line (check_findings all rows) ≡ map line (check_findings_from all 0 all more)
  behind_head all rows more row found h e = ap (λ l. map line (check_findings all l)) (taken rows more row found h e)

  pub without_rows : (all : List Record) (rows more : List Fields) (row : Fields) (found : Bool) → rows ≡ cond found (row ∷ more) [] → found ≡ false → map line (check_findings all rows) ≡ []
  without_rows all rows more row found h e = ap (λ l. map line (check_findings all l)) (not_taken rows more row found h e)

  -- a text without a row, and one with rows
  pub reading_of_none : (rows : List Fields) → rows ≡ [] → map line (reading_findings rows) ≡ line (record { fault = NoHeader; row = None }) ∷ []
  unfolding reading_findings
  reading_of_none rows e = ap (λ l. map line (reading_findings l)) e

  pub reading_of_some : (rows : List Fields) (version : Option Version) → 0 < length rows → version ≡ version_of rows → map line (reading_findings rows) ≡ map line (findings_from version false 1 rows)
  unfolding reading_findings
  reading_of_some [] version h e = absurd (omega arith)
  reading_of_some (row ∷ rows) version h e = ap (λ v. map line (findings_from v false 1 (row ∷ rows))) (sym e)

  -- without a place that is left there is no finding, and with some there are as many
  pub none_further : (all : List Record) (left : List ℕ) (place : ℕ) (rows : List Fields) → left ≡ faulty_from all place → length all ≤ place + length rows → length left ≡ 0
      → map line (check_findings_from all place (drop place all) rows) ≡ []
  none_further all left place rows e h none = go (check_findings_from all place (drop place all) rows) (as_many_left all left place rows e h ∙ none)
    where
      go : (found : List Finding) → length found ≡ 0 → map line found ≡ []
      go [] z = refl
      go (first ∷ more) z = absurd (omega (arith, z))

  pub some_further : (all : List Record) (left : List ℕ) (place : ℕ) (rows : List Fields) → left ≡ faulty_from all place → length all ≤ place + length rows
      → length (map line (check_findings_from all place (drop place all) rows)) ≡ length left
  some_further all left place rows e h = length-map (check_findings_from all place (drop place all) rows) line ∙ as_many_left all left place rows e h
