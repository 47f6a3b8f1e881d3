-- The first of a text's faults is the one that reading its edition answers.
use Rattle.std.proofs.Common.{◌≡◌, ◌<◌, ◌≤◌, ℕ, suc, length, ◌+◌, Bool, true, false, cond, ◌||◌, List, [], ◌∷◌, ◌++◌, map, Option, Some, None, option_map, is_ok, refl, ap, sym, ◌∙◌, arith, codes}
use Rattle.std.specs.Prelude.{Result, Ok, Err, ◌==◌}
use Rattle.std.specs.Option.{option_or}
use Rattle.std.specs.Str.{bytes_eq}
use Rattle.std.proofs.lemmas.Bool.Decides.{nat_tests}
use Rattle.fare_ports.specs.Memory.{◌>>=◌}
use Rattle.fare_codes.specs.declared.day.Day.{Day}
use Rattle.std.proofs.lemmas.Slice.Eq.{bytes_eq-Decides}
use Rattle.fare_records.specs.declared.record.Record.{Record}
use Rattle.fare_tariff.specs.declared.check.check_fault.CheckFault.{CheckFault}
use Rattle.fare_tariff.specs.Tariff.{Tariff}
use Rattle.fare_tariff.specs.Check.{check_edition, fault_at, first_fault, first_fault_from, unless}
use Rattle.fare_csv.specs.declared.text_fault.TextFault.{TextFault}
use Rattle.fare_csv.specs.declared.text_fault.TextFault.TheVariants.{NoHeader}
use Rattle.fare_csv.specs.declared.head.Version.{Version}
use Rattle.fare_csv.specs.declared.head.Head.{Head}
use Rattle.fare_csv.specs.CheckedFault.{checked_fault}
use Rattle.fare_csv.specs.Fields.{counted, field, in_form}
use Rattle.fare_csv.specs.Head.{head_of, read_version}
use Rattle.fare_csv.specs.Rows.{Fields, rows_of}
use Rattle.fare_csv.specs.TariffText.{checked, edition_of, end_of, ended_by, followed_by, headed, nothing_after, number_after, record_of, records_of, tariff_of}
use Rattle.fare_csv.specs.Spelled.{is_end, is_head}
use Rattle.fare_check.specs.Faults.{Finding, check_findings, check_findings_from, fault_found, fault_in, faults_of, filed_records, findings, findings_from, first_of, head_fault, of_row, read_or_none, reading_findings, record_fault, row_fault, told_version, unless_any}

-- the first fault of some findings
abbrev first_found : List Finding → Option TextFault
first_found found = first_of (map fault_found found)

-- END, and the rows behind it
behind_end : (version : Option Version) (number : ℕ) (end : Result (Unit {0}) TextFault) (row : Fields) (rows : List Fields) → first_found (of_row row (fault_in end) ++ findings_from version true (number_after number) rows) ≡ fault_in (ended_by (end >>= (λ done. nothing_after number rows)))
unfolding ended_by nothing_after findings_from row_fault
behind_end version number (Err fault) row rows = refl
behind_end version number (Ok done) row [] = refl
behind_end version number (Ok done) row (next ∷ rows) = refl

-- a record, and the findings behind it
at_record : (reading : Result Record TextFault) (others : Result (List Record) TextFault) (row : Fields) (more : List Finding) → first_found more ≡ fault_in others → first_found (of_row row (fault_in reading) ++ more) ≡ fault_in (followed_by reading others)
unfolding followed_by
at_record (Err fault) others row more h = refl
at_record (Ok one) (Ok records) row more h = h
at_record (Ok one) (Err fault) row more h = h

later : (number : ℕ) → 2 ≤ number → 2 ≤ number_after number
later number h = omega arith

not_first : (number : ℕ) → 2 ≤ number → (number == 1) ≡ false
not_first number h = grind (arith, nat_tests)

-- of the rows behind HEAD
pub first_in_rows : (version : Version) (number : ℕ) (rows : List Fields) → 2 ≤ number → first_found (findings_from (Some version) false number rows) ≡ fault_in (records_of version number rows)
unfolding findings_from records_of row_fault record_fault end_of
first_in_rows version number [] h = refl
first_in_rows version number (row ∷ rows) h = go (number == 1) (is_end row) (not_first number h) (first_in_rows version (number_after number) rows (later number h))
  where
    go : (first end : Bool) → first ≡ false → first_found (findings_from (Some version) false (number_after number) rows) ≡ fault_in (records_of version (number_after number) rows)
        → first_found (of_row row (cond first (head_fault row) (cond end (fault_in (counted number 1 row)) (fault_in (record_of version number row)))) ++ findings_from (Some version) (false || end) (number_after number) rows) ≡ fault_in (cond end (ended_by (counted number 1 row >>= (λ done. nothing_after number rows))) (followed_by (record_of version number row) (records_of version (number_after number) rows)))
    go true end h further = cc
    go false true h further = behind_end (Some version) number (counted number 1 row) row rows
    go false false h further = at_record (record_of version number row) (records_of version (number_after number) rows) row (findings_from (Some version) false (number_after number) rows) further

-- the version of a HEAD that is read
version_kept : (number : Option ℕ) (day : Option Day) (version : Version) (head : Head) → (in_form 1 3 number >>= (λ n. in_form 1 4 day >>= (λ d. Ok (record { version = version; number = n; effective = d })))) ≡ Ok head → Some version ≡ Some head.version
version_kept None day version head h = cc h
version_kept (Some n) None version head h = cc h
version_kept (Some n) (Some d) version head h =
    let same : record { version = version; number = n; effective = d } ≡ head = cc h in
    ap (λ (one : Head). Some one.version) same

version_read : (count : Result (Unit {0}) TextFault) (version : Option Version) (next : Version → Result Head TextFault) (head : Head) → ((v : Version) → next v ≡ Ok head → Some v ≡ Some head.version) → (count >>= (λ done. in_form 1 2 version >>= next)) ≡ Ok head → version ≡ Some head.version
version_read (Err fault) version next head kept h = cc h
version_read (Ok done) None next head kept h = cc h
version_read (Ok done) (Some v) next head kept h = kept v h

pub head_version : (row : Fields) (head : Head) → head_of row ≡ Ok head → read_version (field row 1) ≡ Some head.version
unfolding head_of
head_version row head h = version_read (counted 1 4 row) (read_version (field row 1)) _ head (λ v. version_kept _ _ v head) h

-- a row of HEAD is none of END
head_is_no_end : (row : Fields) → is_head row ≡ true → is_end row ≡ false
head_is_no_end row h =
    let name : field row 0 ≡ codes "HEAD" = (bytes_eq-Decides (field row 0) (codes "HEAD")).0 h in
    ap (λ n. bytes_eq n (codes "END")) name

-- a fault of records is one of what is made from them
kept_fault : {A B : Type 0} (reading : Result A TextFault) (make : A → B) → fault_in (reading >>= (λ value. Ok (make value))) ≡ fault_in reading
kept_fault (Ok value) make = refl
kept_fault (Err fault) make = refl

-- the edition of a HEAD and of records
abbrev edition_with : Head → List Record → Tariff
edition_with head records = record { number = head.number; effective = head.effective; records = records }

-- of a text whose first record is HEAD
headed_first : (row : Fields) (rows : List Fields) → is_head row ≡ true → (reading : Result Head TextFault) → head_of row ≡ reading
    → first_found (of_row row (fault_in reading) ++ findings_from (told_version row) (is_end row) 2 rows) ≡ fault_in {A = Tariff} (reading >>= (λ head. records_of head.version 2 rows >>= (λ records. Ok (edition_with head records))))
unfolding told_version
headed_first row rows h (Err fault) e = refl
headed_first row rows h (Ok head) e =
    let version : told_version row ≡ Some head.version = told row h ∙ head_version row head e in
    let open_end : is_end row ≡ false = head_is_no_end row h in
    (λ i. first_found (findings_from (version i) (open_end i) 2 rows))
    ∙ first_in_rows head.version 2 rows (omega arith)
    ∙ sym (kept_fault (records_of head.version 2 rows) (edition_with head))
  where
    told : (row : Fields) → is_head row ≡ true → told_version row ≡ read_version (field row 1)
    told row h = rw h refl

-- of the faults of reading
pub first_of_reading : (rows : List Fields) → first_found (reading_findings rows) ≡ fault_in (tariff_of rows)
unfolding reading_findings tariff_of findings_from row_fault head_fault headed
first_of_reading [] = refl
first_of_reading (row ∷ rows) = go (is_head row) refl
  where
    go : (head : Bool) → is_head row ≡ head → first_found (findings_from (told_version row) false 1 (row ∷ rows)) ≡ fault_in (cond head (headed row rows) (Err NoHeader))
    go true h = rw h (headed_first row rows h (head_of row) refl)
    go false h = rw h refl

-- of check faults
at_place : (here later : Option CheckFault) (row : Fields) (more : List Finding) → first_found more ≡ option_map checked_fault later → first_found (of_row row (option_map checked_fault here) ++ more) ≡ option_map checked_fault (option_or here later)
at_place None later row more h = h
at_place (Some fault) later row more h = refl

first_in_records : (all : List Record) (version : Version) (number place : ℕ) (rows : List Fields) (records : List Record) → records_of version number rows ≡ Ok records → first_found (check_findings_from all place records rows) ≡ option_map checked_fault (first_fault_from all place records)
unfolding check_findings_from first_fault_from records_of ended_by followed_by
first_in_records all version number place [] records h = cc h
first_in_records all version number place (row ∷ rows) [] h = refl
first_in_records all version number place (row ∷ rows) (one ∷ rest) h =
    go (λ e. first_in_records all version (number_after number) (place + 1) rows rest e) (is_end row) (end_of number row rows) (record_of version number row) (records_of version (number_after number) rows) refl h
  where
    go : (records_of version (number_after number) rows ≡ Ok rest → first_found (check_findings_from all (place + 1) rest rows) ≡ option_map checked_fault (first_fault_from all (place + 1) rest))
        → (end : Bool) (last : Result (Unit {0}) TextFault) (first : Result Record TextFault) (others : Result (List Record) TextFault) → records_of version (number_after number) rows ≡ others → cond end (ended_by last) (followed_by first others) ≡ Ok (one ∷ rest)
        → first_found (of_row row (option_map checked_fault (fault_at all place one)) ++ check_findings_from all (place + 1) rest rows) ≡ option_map checked_fault (option_or (fault_at all place one) (first_fault_from all (place + 1) rest))
    go later true (Ok done) first others e h = cc h
    go later true (Err fault) first others e h = cc h
    go later false last (Err fault) others e h = cc h
    go later false last (Ok x) (Err fault) e h = cc h
    go later false last (Ok x) (Ok xs) e h =
        let same_rest : xs ≡ rest = cc h in
        at_place (fault_at all place one) (first_fault_from all (place + 1) rest) row (check_findings_from all (place + 1) rest rows)
        (later (e ∙ ap Ok same_rest))

first_of_records : (rows : List Fields) (tariff : Tariff) → tariff_of rows ≡ Ok tariff → first_found (check_findings tariff.records rows) ≡ option_map checked_fault (first_fault tariff.records)
unfolding tariff_of headed
first_of_records [] tariff h = cc h
first_of_records (row ∷ rows) tariff h = go (is_head row) (head_of row) h
  where
    by : (head : Head) (reading : Result (List Record) TextFault) → records_of head.version 2 rows ≡ reading → (reading >>= (λ records. Ok (record { number = head.number; effective = head.effective; records = records }))) ≡ Ok tariff → first_found (check_findings_from tariff.records 0 tariff.records rows) ≡ option_map checked_fault (first_fault tariff.records)
    by head (Err fault) e h = cc h
    by head (Ok records) e h =
        let whole : record { number = head.number; effective = head.effective; records = records } ≡ tariff = cc h in
        let filed : records ≡ tariff.records = ap (λ (t : Tariff). t.records) whole in
        first_in_records tariff.records head.version 2 0 rows tariff.records (e ∙ ap Ok filed)

    go : (named : Bool) (reading : Result Head TextFault) → cond named (reading >>= (λ head. records_of head.version 2 rows >>= (λ records. Ok (record { number = head.number; effective = head.effective; records = records })))) (Err NoHeader) ≡ Ok tariff → first_found (check_findings_from tariff.records 0 tariff.records rows) ≡ option_map checked_fault (first_fault tariff.records)
    go false reading h = cc h
    go true (Err fault) h = cc h
    go true (Ok head) h = by head (records_of head.version 2 rows) refl h

-- no first fault, no finding; and a first fault, a finding
pub none_found : (found : List Finding) → first_found found ≡ None → found ≡ []
none_found [] h = refl
none_found (first ∷ more) h = cc h

pub none_first : (found : List Finding) → found ≡ [] → first_found found ≡ None
none_first found h = ap first_found h

-- where there is a finding, check faults don't count
kept_first : (found others : List Finding) (fault : TextFault) → first_found found ≡ Some fault → first_found (unless_any found others) ≡ Some fault
kept_first [] others fault h = cc h
kept_first (first ∷ more) others fault h = h

pub others_first : (found others : List Finding) → found ≡ [] → unless_any found others ≡ others
others_first found others h = ap (λ one. unless_any one others) h

-- what a check answers has the first fault
of_check : (fault : Option CheckFault) (tariff : Tariff) → option_map checked_fault fault ≡ fault_in (checked (unless fault tariff))
of_check None tariff = refl
of_check (Some fault) tariff = refl

-- the records of rows that are read
pub filed_of : (rows : List Fields) (tariff : Tariff) → tariff_of rows ≡ Ok tariff → filed_records rows ≡ tariff.records
filed_of rows tariff h = ap read_or_none h

-- records that are read have a row each, behind that of HEAD
as_many_rows : (version : Version) (number : ℕ) (rows : List Fields) (records : List Record) → records_of version number rows ≡ Ok records → length records ≤ length rows
unfolding records_of ended_by followed_by
as_many_rows version number [] records h = cc h
as_many_rows version number (row ∷ rows) records h =
    go (λ more e. as_many_rows version (number_after number) rows more e) (is_end row) (end_of number row rows) (record_of version number row) (records_of version (number_after number) rows) refl h
  where
    go : ((more : List Record) → records_of version (number_after number) rows ≡ Ok more → length more ≤ length rows)
        → (end : Bool) (last : Result (Unit {0}) TextFault) (first : Result Record TextFault) (others : Result (List Record) TextFault) → records_of version (number_after number) rows ≡ others → cond end (ended_by last) (followed_by first others) ≡ Ok records → length records ≤ suc (length rows)
    go later true (Ok done) first others e h = let none : [] ≡ records = cc h in omega (arith, ap length none)
    go later true (Err fault) first others e h = cc h
    go later false last (Err fault) others e h = cc h
    go later false last (Ok one) (Err fault) e h = cc h
    go later false last (Ok one) (Ok more) e h =
        let whole : one ∷ more ≡ records = cc h in
        omega (arith, ap length whole, later more e)

rows_enough : (rows : List Fields) (tariff : Tariff) → tariff_of rows ≡ Ok tariff → length tariff.records < length rows
unfolding tariff_of headed
rows_enough [] tariff h = cc h
rows_enough (row ∷ rows) tariff h = go (is_head row) (head_of row) h
  where
    by : (head : Head) (reading : Result (List Record) TextFault) → records_of head.version 2 rows ≡ reading → (reading >>= (λ records. Ok (edition_with head records))) ≡ Ok tariff → length tariff.records < suc (length rows)
    by head (Err fault) e h = cc h
    by head (Ok records) e h =
        let whole : edition_with head records ≡ tariff = cc h in
        let filed : records ≡ tariff.records = ap (λ (t : Tariff). t.records) whole in
        omega (arith, ap length filed, as_many_rows head.version 2 rows records e)

    go : (named : Bool) (reading : Result Head TextFault) → cond named (reading >>= (λ head. records_of head.version 2 rows >>= (λ records. Ok (edition_with head records)))) (Err NoHeader) ≡ Ok tariff → length tariff.records < suc (length rows)
    go false reading h = cc h
    go true (Err fault) h = cc h
    go true (Ok head) h = by head (records_of head.version 2 rows) refl h

pub filed_enough : (rows : List Fields) → is_ok (tariff_of rows) ≡ true → length (filed_records rows) < length rows
filed_enough rows h = go (tariff_of rows) refl h
  where
    go : (reading : Result Tariff TextFault) → tariff_of rows ≡ reading → is_ok reading ≡ true → length (read_or_none reading) < length rows
    go (Err fault) e h = cc h
    go (Ok tariff) e h = rows_enough rows tariff e

-- the findings of rows that can be read, and of others
pub findings_read : (rows : List Fields) (tariff : Tariff) → tariff_of rows ≡ Ok tariff → findings rows ≡ check_findings tariff.records rows
unfolding findings
findings_read rows tariff e =
    let none : reading_findings rows ≡ [] = none_found _ (first_of_reading rows ∙ ap fault_in e) in
    others_first _ (check_findings (filed_records rows) rows) none
    ∙ ap (λ records. check_findings records rows) (filed_of rows tariff e)

pub findings_unread : (rows : List Fields) (fault : TextFault) → tariff_of rows ≡ Err fault → findings rows ≡ reading_findings rows
unfolding findings
findings_unread rows fault e = go (reading_findings rows) (check_findings (filed_records rows) rows) (first_of_reading rows ∙ ap fault_in e)
  where
    go : (found others : List Finding) → first_found found ≡ Some fault → unless_any found others ≡ found
    go [] others h = cc h
    go (first ∷ more) others h = refl

-- the law
pub first_is_editions : (text : List ℕ) → first_of (faults_of text) ≡ fault_in (edition_of text)
unfolding findings edition_of
first_is_editions text = go (tariff_of (rows_of text)) refl
  where
    go : (reading : Result Tariff TextFault) → tariff_of (rows_of text) ≡ reading
        → first_found (unless_any (reading_findings (rows_of text)) (check_findings (filed_records (rows_of text)) (rows_of text)))
        ≡ fault_in (reading >>= (λ tariff. checked (check_edition tariff.number tariff.effective tariff.records)))
    go (Err fault) e = kept_first _ _ fault (first_of_reading (rows_of text) ∙ ap fault_in e)
    go (Ok tariff) e =
        let none : reading_findings (rows_of text) ≡ [] = none_found _ (first_of_reading (rows_of text) ∙ ap fault_in e) in
        ap first_found (others_first _ (check_findings (filed_records (rows_of text)) (rows_of text)) none)
        ∙ ap (λ records. first_found (check_findings records (rows_of text))) (filed_of (rows_of text) tariff e)
        ∙ first_of_records (rows_of text) tariff e
        ∙ of_check (first_fault tariff.records) (record { number = tariff.number; effective = tariff.effective; records = tariff.records })
