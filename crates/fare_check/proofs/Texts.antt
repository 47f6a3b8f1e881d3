-- The check text of a text that is an edition, and of one that has faults.
use Rattle.std.proofs.Common.{◌≡◌, ℕ, true, List, [], ◌∷◌, map, Option, Some, None, option_map, is_err, is_ok, refl, ap, sym, ◌∙◌}
use Rattle.std.specs.Prelude.{Result, Ok, Err}
use Rattle.std.proofs.lemmas.List.{append-nil}
use Rattle.fare_records.specs.declared.record.Record.{Record}
use Rattle.fare_ports.specs.Memory.{◌>>=◌}
use Rattle.fare_tariff.specs.declared.check.check_fault.CheckFault.{CheckFault}
use Rattle.fare_tariff.specs.Check.{check_edition, first_fault, unless}
use Rattle.fare_tariff.specs.Tariff.{Tariff}
use Rattle.fare_csv.specs.declared.text_fault.TextFault.{TextFault}
use Rattle.fare_csv.specs.declared.head.Version.{Version}
use Rattle.fare_csv.specs.Rows.{Fields, rows_of}
use Rattle.fare_csv.specs.CheckedFault.{checked_fault}
use Rattle.fare_csv.specs.TariffText.{checked, edition_of, tariff_of}
use Rattle.fare_check.specs.declared.report.Report.{Report}
use Rattle.fare_check.specs.CheckText.{check_text, checked_line, checked_text, finding_lines, line_of, lines_or, lines_text}
use Rattle.fare_check.specs.Faults.{Finding, check_findings, fault_found, fault_in, faults_of, filed_records, findings, first_of, read_or_none, reading_findings, version_of}
use Rattle.fare_check.specs.Reports.{WasTold, finished}
use Rattle.fare_check.proofs.Law.{filed_of, findings_read, findings_unread, first_is_editions, none_found}

-- the first fault of an edition and of a broken text
pub first_of_edition : (text : List ℕ) (tariff : Tariff) → edition_of text ≡ Ok tariff → None ≡ first_of (faults_of text)
first_of_edition text tariff e = sym (first_is_editions text ∙ ap fault_in e)

pub first_of_broken : (text : List ℕ) (fault : TextFault) → edition_of text ≡ Err fault → Some fault ≡ first_of (faults_of text)
first_of_broken text fault e = sym (first_is_editions text ∙ ap fault_in e)

-- the text of an edition
pub text_of_edition : (text : List ℕ) (tariff : Tariff) → edition_of text ≡ Ok tariff → checked_line tariff ≡ check_text text
unfolding check_text
text_of_edition text tariff e =
    let none : findings (rows_of text) ≡ [] = none_found (findings (rows_of text)) (sym (first_of_edition text tariff e)) in
    sym (λ i. lines_or (checked_text (e i)) (map (line_of (version_of (rows_of text)) (filed_records (rows_of text))) (none i)))

-- the text of a broken one
pub text_of_broken : (text : List ℕ) (fault : TextFault) → edition_of text ≡ Err fault → lines_text (finding_lines (rows_of text)) ≡ check_text text
unfolding check_text
text_of_broken text fault e = by (findings (rows_of text)) (sym (first_of_broken text fault e))
  where
    by : (found : List Finding) → first_of (map fault_found found) ≡ Some fault
        → lines_text (map (line_of (version_of (rows_of text)) (filed_records (rows_of text))) found) ≡ lines_or (checked_text (edition_of text)) (map (line_of (version_of (rows_of text)) (filed_records (rows_of text))) found)
    by [] h = cc h
    by (first ∷ more) h = refl

-- the edition that records which can be read make, unless there is a fault
made : (text : List ℕ) (tariff : Tariff) → tariff_of (rows_of text) ≡ Ok tariff → edition_of text ≡ checked (unless (first_fault tariff.records) tariff)
unfolding edition_of
made text tariff e = ap (λ reading. reading >>= (λ t. checked (check_edition t.number t.effective t.records))) e

pub made_whole : (text : List ℕ) (tariff : Tariff) → tariff_of (rows_of text) ≡ Ok tariff → None ≡ option_map checked_fault (first_fault tariff.records) → edition_of text ≡ Ok tariff
made_whole text tariff e none = made text tariff e ∙ go (first_fault tariff.records) none
  where
    go : (fault : Option CheckFault) → None ≡ option_map checked_fault fault → checked (unless fault tariff) ≡ Ok tariff
    go None h = refl
    go (Some fault) h = cc

pub made_broken : (text : List ℕ) (tariff : Tariff) (fault : TextFault) → tariff_of (rows_of text) ≡ Ok tariff → Some fault ≡ option_map checked_fault (first_fault tariff.records) → edition_of text ≡ Err fault
made_broken text tariff fault e some = made text tariff e ∙ go (first_fault tariff.records) some
  where
    go : (found : Option CheckFault) → Some fault ≡ option_map checked_fault found → checked (unless found tariff) ≡ Err fault
    go None h = cc
    go (Some found) h = cc

-- where records can't be read there is no edition
pub unread_broken : (text : List ℕ) (fault : TextFault) → tariff_of (rows_of text) ≡ Err fault → edition_of text ≡ Err fault
unfolding edition_of
unread_broken text fault e = ap (λ reading. reading >>= (λ t. checked (check_edition t.number t.effective t.records))) e

-- a report from its beginning to its end
told_whole : (before after : Report) (lines all : List (List ℕ)) (text : List ℕ) → ((some : List (List ℕ)) → finished before some ≡ lines_text some) → WasTold before lines after → lines ≡ all → text ≡ finished after [] → text ≡ lines_text all
told_whole before after lines all text new told same is = is ∙ (told []).text ∙ new _ ∙ ap lines_text (append-nil lines ∙ same)

module _ (rows : List Fields) (version : Option Version) (records : List Record) (version_is : version ≡ version_of rows) (before after : Report) (text : List ℕ)
    (new : (some : List (List ℕ)) → finished before some ≡ lines_text some) (is : text ≡ finished after []) where
  -- the records can't be read
  pub reading_alone : records ≡ [] → is_err (tariff_of rows) ≡ true → WasTold before (map (line_of version records) (reading_findings rows)) after → text ≡ lines_text (finding_lines rows)
  reading_alone none unread told = go (tariff_of rows) refl unread
    where
      go : (reading : Result Tariff TextFault) → tariff_of rows ≡ reading → is_err reading ≡ true → text ≡ lines_text (finding_lines rows)
      go (Ok tariff) e h = cc h
      go (Err fault) e h =
          let filed : records ≡ filed_records rows = none ∙ sym (ap read_or_none e) in
          told_whole before after _ _ text new told (λ i. map (line_of (version_is i) (filed i)) (sym (findings_unread rows fault e) i)) is

  -- they can be read
  pub beside_alone : records ≡ filed_records rows → is_ok (tariff_of rows) ≡ true → WasTold before (map (line_of version records) (check_findings records rows)) after → text ≡ lines_text (finding_lines rows)
  beside_alone filed read told = go (tariff_of rows) refl read
    where
      go : (reading : Result Tariff TextFault) → tariff_of rows ≡ reading → is_ok reading ≡ true → text ≡ lines_text (finding_lines rows)
      go (Err fault) e h = cc h
      go (Ok tariff) e h =
          let found : check_findings records rows ≡ findings rows = ap (λ r. check_findings r rows) (filed ∙ filed_of rows tariff e) ∙ sym (findings_read rows tariff e) in
          told_whole before after _ _ text new told (λ i. map (line_of (version_is i) (filed i)) (found i)) is
