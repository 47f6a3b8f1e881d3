-- The rows that are left, one row further.
use Rattle.std.proofs.Common.{◌≡◌, ◌≤◌, ◌<◌, ◌+◌, ◌-◌, ℕ, zero, suc, List, [], ◌∷◌, ◌++◌, length, take, drop, Bool, true, false, Option, Some, None, refl, sym, ap, ◌∙◌, arith, add-one, if◌then◌else◌}
use Rattle.std.specs.Prelude.{◌==◌, ◌&&◌, not}
use Rattle.std.specs.Borrow.{Bor}
use Rattle.std.proofs.lemmas.Bool.{false≢true}
use Rattle.csv.specs.Machine.{Read, ends_at_end, field_after, fields_after, is_end, next_record, step}
use Rattle.csv.specs.Reading.{ExplainsRead, NextIs, ReadRecord, ReadsNext, Ready, reader_trim, stops_reader, default_config, has_failed, records_from, records_next, source_of, strip_bom}
use Rattle.csv.specs.declared.error.ErrorKind.{ErrorKind}
use Rattle.csv.specs.declared.error.ErrorKind.TheVariants as kind
use Rattle.csv.specs.declared.reader.Reader.{Reader}
use Rattle.csv.specs.declared.reader.Trim.TheVariants as trim
use Rattle.csv.specs.declared.parser.State.{State}
use Rattle.csv.specs.declared.parser.State.TheVariants as st
use Rattle.fare_csv.specs.Rows.{Fields, rows_from, rows_if_known, rows_of}
use Rattle.fare_csv.specs.RowsLeft.{IsRowReader, IsRowReaderUnlessFailed, rows_left, slice_rest}

-- what a read leaves, by the read
rest-of : (p found : Read) → Some p ≡ Some found → found.2 ≡ p.2
rest-of p found e = let same : found ≡ p = cc e in ap (λ (q : Read). q.2) same

-- a row takes a byte at least, where there is one
next-shorter : (state : State) (fields : Fields) (field rest : List ℕ) (found : Read)
    → next_record default_config state fields field rest ≡ Some found → length found.2 ≤ length rest - 1
unfolding next_record
next-shorter state fields field [] found e = by (ends_at_end state) refl
  where
    by : (b : Bool) → ends_at_end state ≡ b → length found.2 ≤ 0 - 1
    by true t = rw (rest-of (fields ++ (field ∷ []), st.StartRecord, []) found (rw t at e)) (omega arith)
    by false f = absurd (cc (rw f at e))
next-shorter state fields field (byte ∷ rest) found e =
    by (is_end (step default_config state byte).1) refl
    (next-shorter (step default_config state byte).0 (fields_after (step default_config state byte).1 fields field) (field_after (step default_config state byte).1 byte field) rest found)
  where
    by : (b : Bool) → is_end (step default_config state byte).1 ≡ b
        → (next_record default_config (step default_config state byte).0 (fields_after (step default_config state byte).1 fields field) (field_after (step default_config state byte).1 byte field) rest ≡ Some found
        → length found.2 ≤ length rest - 1)
        → length found.2 ≤ length (byte ∷ rest) - 1
    by true t shorter = rw (rest-of (fields_after (step default_config state byte).1 fields field, (step default_config state byte).0, rest) found (rw t at e)) (omega arith)
    by false f shorter = let fewer = shorter (rw f at e) in omega (arith, fewer)

-- a text of no bytes gives a row at most
after-nothing : (state : State) (found : Read) (n : ℕ) → next_record default_config state [] [] [] ≡ Some found
    → records_from default_config n found.1 found.2 ≡ []
unfolding next_record records_from
after-nothing state found n e = by (ends_at_end state) refl
  where
    none : (m : ℕ) → records_from default_config m st.StartRecord [] ≡ []
    none zero = refl
    none (suc m) = refl

    by : (b : Bool) → ends_at_end state ≡ b → records_from default_config n found.1 found.2 ≡ []
    by true t =
        let same : found ≡ ([] ++ ([] ∷ []), st.StartRecord, []) = cc (rw t at e) in
        rw same (none n)
    by false f = absurd (cc (rw f at e))

-- what is left after a row, by the turns that are left
after : (n m : ℕ) (state : State) (rest : List ℕ) (found : Read) → (0 < length rest → length found.2 < n) → (0 < length rest → length found.2 < m)
    → next_record default_config state [] [] rest ≡ Some found
    → (length found.2 < n → length found.2 < m → records_from default_config n found.1 found.2 ≡ records_from default_config m found.1 found.2)
    → records_from default_config n found.1 found.2 ≡ records_from default_config m found.1 found.2
after n m state [] found h k e same = after-nothing state found n e ∙ sym (after-nothing state found m e)
after n m state (byte ∷ rest) found h k e same = same (h (omega arith)) (k (omega arith))

-- more turns than bytes give every row
enough : (n m : ℕ) (state : State) (rest : List ℕ) → length rest < n → length rest < m
    → records_from default_config n state rest ≡ records_from default_config m state rest
unfolding records_from
enough zero m state rest h k = absurd (omega arith)
enough (suc n) zero state rest h k = absurd (omega arith)
enough (suc n) (suc m) state rest h k = by (next_record default_config state [] [] rest) refl
    (λ found e less more. enough n m found.1 found.2 less more)
  where
    by : (o : Option Read) → next_record default_config state [] [] rest ≡ o
        → ((found : Read) → next_record default_config state [] [] rest ≡ Some found → length found.2 < n → length found.2 < m
        → records_from default_config n found.1 found.2 ≡ records_from default_config m found.1 found.2)
        → records_next (records_from default_config n) o ≡ records_next (records_from default_config m) o
    by None e same = refl
    by (Some found) e same = ap (λ (rows : List Fields). found.0 ∷ rows) (let shorter = next-shorter state [] [] rest found e in after n m state rest found (λ some. omega (arith, shorter)) (λ some. omega (arith, shorter)) e (same found e))

-- the rows of a text are those that are left at its start
pub rows_of-from : (text : List ℕ) → rows_of text ≡ rows_from st.StartRecord (strip_bom text)
unfolding rows_of rows_from
rows_of-from text = refl

-- a row, and then the rows after it
pub rows_from-more : (state : State) (rest : List ℕ) (found : Read) → next_record default_config state [] [] rest ≡ Some found
    → rows_from state rest ≡ found.0 ∷ rows_from found.1 found.2
unfolding rows_from records_from
rows_from-more state rest found e =
    let shorter = next-shorter state [] [] rest found e in
    rw (add-one, e) (ap (λ (rows : List Fields). found.0 ∷ rows)
    (after (length rest) (length found.2 + 1) state rest found (λ some. omega (arith, shorter)) (λ some. omega arith) e
    (enough (length rest) (length found.2 + 1) found.1 found.2)))

-- no further row
pub rows_from-end : (state : State) (rest : List ℕ) → next_record default_config state [] [] rest ≡ None → rows_from state rest ≡ []
unfolding rows_from records_from
rows_from-end state rest e = rw (add-one, e) refl

-- a reader of a slice that has not failed has some text left
known-rest : (reader : Reader (Bor (List ℕ))) → has_failed reader ≡ false → (rest : List ℕ) × (source_of slice_rest reader ≡ Some rest)
known-rest reader going = by (not reader.bom_checked && (reader.at == 0) && (reader.filled == 0)) refl
  where
    by : (b : Bool) → not reader.bom_checked && (reader.at == 0) && (reader.filled == 0) ≡ b → (rest : List ℕ) × (source_of slice_rest reader ≡ Some rest)
    by true t = (strip_bom reader.rdr.now, rw (going, t) refl)
    by false f = (drop reader.at (take reader.filled reader.buffer) ++ reader.rdr.now, rw (going, f) refl)

-- a read that found a row gives it in front of what is left
found-row : (state : State) (rest : List ℕ) (row : Fields) (next : State) (left : Option (List ℕ))
    → ReadsNext default_config state (Some rest) left true row next → rows_from state rest ≡ row ∷ rows_if_known next left
unfolding rows_if_known
found-row state rest row next None h = absurd h
found-row state rest row next (Some after_row) h = by (next_record default_config state [] [] rest) refl h
  where
    by : (o : Option Read) → next_record default_config state [] [] rest ≡ o → NextIs o true row next after_row → rows_from state rest ≡ row ∷ rows_from next after_row
    by None e n = absurd (false≢true (sym n))
    by (Some found) e n = rows_from-more state rest found e ∙ rw (n.1, n.2, n.3) refl

-- a read that found none: nothing is left
found-none : (state : State) (rest : List ℕ) (row : Fields) (next : State) (left : Option (List ℕ))
    → ReadsNext default_config state (Some rest) left false row next → rows_from state rest ≡ []
found-none state rest row next None h = absurd h
found-none state rest row next (Some after_row) h = by (next_record default_config state [] [] rest) refl h
  where
    by : (o : Option Read) → next_record default_config state [] [] rest ≡ o → NextIs o false row next after_row → rows_from state rest ≡ []
    by None e n = rows_from-end state rest e
    by (Some found) e n = absurd (false≢true n.0)

-- a reader that has failed has no rows left
pub rows_left-failed : (reader : Reader (Bor (List ℕ))) → has_failed reader ≡ true → rows_left reader ≡ []
unfolding rows_if_known
rows_left-failed reader failed = rw failed refl

-- the rows that a reader has left, by its text
rows_left-known : (reader : Reader (Bor (List ℕ))) (rest : List ℕ) → source_of slice_rest reader ≡ Some rest → rows_left reader ≡ rows_from reader.state rest
unfolding rows_if_known
rows_left-known reader rest e = rw e refl

-- a read that found a row took it off the front of the rows that were left
pub rows_left-more : (old new : Reader (Bor (List ℕ))) (row : Fields) → has_failed old ≡ false → old.config ≡ default_config
    → ReadRecord slice_rest old new true row → rows_left old ≡ row ∷ rows_left new
rows_left-more old new row going plain read =
    let (rest, known) = known-rest old going in
    let next = rw (plain, known) at read.0 in
    rows_left-known old rest known ∙ found-row old.state rest row new.state _ next ∙ rw read.1 refl

-- a read that found none had no row left
pub rows_left-end : (old new : Reader (Bor (List ℕ))) (row : Fields) → has_failed old ≡ false → old.config ≡ default_config
    → ReadRecord slice_rest old new false row → rows_left old ≡ []
rows_left-end old new row going plain read =
    let (rest, known) = known-rest old going in
    let next = rw (plain, known) at read.0 in
    rows_left-known old rest known ∙ found-none old.state rest row new.state _ next

-- what a read that isn't refused takes off the rows that were left
pub rows_left-read : (old new : Reader (Bor (List ℕ))) (found : Bool) (row : Fields) → IsRowReaderUnlessFailed old
    → (has_failed old ≡ true → found ≡ false)
    → (reader_trim old ≡ trim.None → Ready old → ReadRecord slice_rest old new found row)
    → rows_left old ≡ (if found then row ∷ rows_left new else [])
rows_left-read old new found row plain stopped reads = by (has_failed old) refl found refl
  where
    by : (failed : Bool) → has_failed old ≡ failed → (b : Bool) → found ≡ b → rows_left old ≡ (if b then row ∷ rows_left new else [])
    by true f true e = absurd (false≢true (sym (stopped f) ∙ e))
    by true f false e = rows_left-failed old f
    by false f true e =
        let is = plain f in
        rows_left-more old new row f is.config (rw e at (reads is.trim is.ready))
    by false f false e =
        let is = plain f in
        rows_left-end old new row f is.config (rw e at (reads is.trim is.ready))

-- a read of rows is refused for the source or for memory alone, and then the reader has failed
pub refusal-stops : (old new : Reader (Bor (List ℕ))) (why : ErrorKind) → IsRowReader old → ExplainsRead slice_rest old new false why → stops_reader why ≡ true
refusal-stops old new (kind.Io e) is h = refl
refusal-stops old new kind.OutOfMemory is h = refl
refusal-stops old new (kind.UnequalLengths pos expected len) is h = absurd (false≢true (sym h.0 ∙ is.flexible))
refusal-stops old new (kind.Utf8 pos err) is h = absurd (false≢true h.0)
refusal-stops old new (kind.Serialize text) is h = absurd h
refusal-stops old new (kind.Deserialize pos err) is h = absurd h

-- after a refusal nothing is left
pub rows_left-refused : (old new : Reader (Bor (List ℕ))) (why : ErrorKind) → IsRowReaderUnlessFailed old
    → (has_failed old ≡ true → ⊥) → has_failed new ≡ stops_reader why → (Ready old → ExplainsRead slice_rest old new false why)
    → rows_left new ≡ []
rows_left-refused old new why plain going fails explains = by (has_failed old) refl
  where
    by : (failed : Bool) → has_failed old ≡ failed → rows_left new ≡ []
    by true f = absurd (going f)
    by false f =
        let is = plain f in
        rows_left-failed new (fails ∙ refusal-stops old new why is (explains is.ready))
