-- The records that are left to read, behind those that were read.
use Rattle.std.proofs.Common.{◌≡◌, ℕ, List, [], ◌∷◌, ◌++◌, Bool, true, false, refl, sym, ap, ◌∙◌, append_assoc, if◌then◌else◌}
use Rattle.std.specs.Prelude.{Result, Ok, Err, codes}
use Rattle.std.specs.Str.{bytes_eq}
use Rattle.std.proofs.lemmas.List.{append-nil}
use Rattle.fare_records.specs.declared.record.Record.{Record}
use Rattle.fare_csv.specs.declared.text_fault.TextFault.{TextFault}
use Rattle.fare_csv.specs.declared.text_fault.TextFault.TheVariants.{NoEnd}
use Rattle.fare_csv.specs.declared.head.Version.{Version}
use Rattle.fare_csv.specs.Rows.{Fields}
use Rattle.fare_csv.specs.Fields.{field}
use Rattle.fare_csv.specs.Pieces.{records_each}
use Rattle.fare_csv.specs.TariffText.{end_of, ended_by, followed_by, number_after, record_of, records_of}

-- records in front of those of a reading
unfoldable pub behind : List Record → Result (List Record) TextFault → Result (List Record) TextFault
behind front (Ok more) = Ok (front ++ more)
behind front (Err fault) = Err fault

pub behind-none : (reading : Result (List Record) TextFault) → behind [] reading ≡ reading
unfolding behind
behind-none (Ok more) = refl
behind-none (Err fault) = refl

-- one more record in front
pub behind-followed : (front : List Record) (one : Record) (others : Result (List Record) TextFault)
    → behind front (followed_by (Ok one) others) ≡ behind (front ++ (one ∷ [])) others
unfolding behind followed_by
behind-followed front one (Ok more) = ap Ok (sym (append_assoc front (one ∷ []) more))
behind-followed front one (Err fault) = refl

-- the fault of a record is that of the records
pub fault-followed : (front : List Record) (fault : TextFault) (first : Result Record TextFault) (others : Result (List Record) TextFault)
    → first ≡ Err fault → behind front (followed_by first others) ≡ Err fault
unfolding behind followed_by
fault-followed front fault first others h = rw h refl

-- and so is that of END
pub fault-ended : (front : List Record) (fault : TextFault) (end : Result (Unit {0}) TextFault)
    → end ≡ Err fault → behind front (ended_by end) ≡ Err fault
unfolding behind ended_by
fault-ended front fault end h = rw h refl

-- END gives the records that were read
pub behind-ended : (front : List Record) → behind front (ended_by (Ok tt)) ≡ Ok front
unfolding behind ended_by
behind-ended front = ap Ok (append-nil front)

-- after a row that isn't END, what is left is its record and the records of the rows behind it
pub behind-record : (front : List Record) (version : Version) (number : ℕ) (found : Bool) (row : Fields) (rows left : List Fields) (whole : Result (List Record) TextFault)
    → left ≡ (if found then row ∷ rows else []) → found ≡ true → bytes_eq (field row 0) (codes "END") ≡ false
    → behind front (records_of version number left) ≡ whole
    → behind front (followed_by (record_of version number row) (records_of version (number_after number) rows)) ≡ whole
unfolding records_of
behind-record front version number found row rows left whole taken f other h = rw (taken, f, other) at h

-- after END, what is left is what END gives
pub behind-end : (front : List Record) (version : Version) (number : ℕ) (found : Bool) (row : Fields) (rows left : List Fields) (whole : Result (List Record) TextFault)
    → left ≡ (if found then row ∷ rows else []) → found ≡ true → bytes_eq (field row 0) (codes "END") ≡ true
    → behind front (records_of version number left) ≡ whole
    → behind front (ended_by (end_of number row rows)) ≡ whole
unfolding records_of
behind-end front version number found row rows left whole taken f is h = rw (taken, f, is) at h

-- where no row is left there is no END
pub behind-nothing : (front : List Record) (version : Version) (number : ℕ) (found : Bool) (row : Fields) (rows left : List Fields) (whole : Result (List Record) TextFault)
    → left ≡ (if found then row ∷ rows else []) → found ≡ false
    → behind front (records_of version number left) ≡ whole → whole ≡ Err (NoEnd number)
unfolding records_of behind
behind-nothing front version number found row rows left whole taken f h = sym (rw (taken, f) at h)

-- after a row, what is left to read by itself is its record and the records of the rows behind it
pub behind-each : (front : List Record) (version : Version) (found : Bool) (row : Fields) (rows left : List Fields) (whole : Result (List Record) TextFault)
    → left ≡ (if found then row ∷ rows else []) → found ≡ true → behind front (records_each version left) ≡ whole
    → behind front (followed_by (record_of version 2 row) (records_each version rows)) ≡ whole
unfolding records_each
behind-each front version found row rows left whole taken f h = rw (taken, f) at h

-- where no row is left, the records that were read are all
pub behind-last : (front : List Record) (version : Version) (found : Bool) (row : Fields) (rows left : List Fields) (whole : Result (List Record) TextFault)
    → left ≡ (if found then row ∷ rows else []) → found ≡ false → behind front (records_each version left) ≡ whole → whole ≡ Ok front
unfolding records_each behind
behind-last front version found row rows left whole taken f h = sym (rw (taken, f) at h) ∙ ap Ok (append-nil front)
