-- The records of a text by those of its pieces.
use Rattle.std.proofs.Common.{◌≡◌, ℕ, List, [], ◌∷◌, ◌++◌, Bool, true, false, refl, ap, append_assoc, map, if◌then◌else◌}
use Rattle.std.specs.Prelude.{Result, Ok, Err, codes, IfOk}
use Rattle.std.specs.Borrow.{Bor}
use Rattle.std.specs.Global.{Vec}
use Rattle.std.specs.List.{AllZip, concat}
use Rattle.std.specs.Str.{bytes_eq}
use Rattle.std.proofs.lemmas.Slice.Eq.{bytes_eq-Decides}
use Rattle.csv.proofs.OnLiterals.{csv_on_literals}
use Rattle.fare_records.specs.declared.record.Record.{Record}
use Rattle.fare_csv.specs.declared.pieces.NotInPieces.{NotInPieces}
use Rattle.fare_csv.specs.declared.head.Head.{Head}
use Rattle.fare_csv.specs.declared.head.Version.{Version}
use Rattle.fare_csv.specs.declared.text_fault.TextFault.{TextFault}
use Rattle.fare_csv.specs.Fields.{counted, field}
use Rattle.fare_csv.specs.Head.{head_of}
use Rattle.fare_csv.specs.Joined.{joined}
use Rattle.fare_csv.specs.Pieces.{IsHeadAlone, IsRead, is_unmarked, is_whole, records_each}
use Rattle.fare_csv.specs.RecordKind.{kind_named}
use Rattle.fare_csv.specs.Rows.{Fields, rows_of}
use Rattle.fare_csv.specs.TariffText.{end_of, ended_by, followed_by, headed, nothing_after, number_after, record_of, record_of_kind, records_of, tariff_of}
use Rattle.fare_csv.proofs.Renumbered.{record-renumbered, records-renumbered}
use Rattle.fare_csv.proofs.RowsOfPieces.{rows_of-behind, unmarked-behind}

-- a row that spells a record isn't that of END
not-end : (version : Version) (n : ℕ) (row : Fields) (one : Record) → record_of version n row ≡ Ok one → bytes_eq (field row 0) (codes "END") ≡ false
unfolding record_of record_of_kind kind_named
not-end version n row one h = by (bytes_eq (field row 0) (codes "END")) refl
  where
    by : (b : Bool) → bytes_eq (field row 0) (codes "END") ≡ b → b ≡ false
    by false e = refl
    by true e = absurd (cc (rw (ap kind_named ((bytes_eq-Decides (field row 0) (codes "END")).0 e)) at h))

-- the records of a row and of the rows behind it
record Both (first : Result Record TextFault) (others : Result (List Record) TextFault) (records : List Record) : Type 0 where
  one : Record
  more : List Record
  first_is : first ≡ Ok one
  others_are : others ≡ Ok more
  records_are : records ≡ one ∷ more

both-of : (first : Result Record TextFault) (others : Result (List Record) TextFault) (records : List Record)
    → followed_by first others ≡ Ok records → Both first others records
unfolding followed_by
both-of (Ok one) (Ok more) records h = record { one = one; more = more; first_is = refl; others_are = refl; records_are = cc h }
both-of (Ok one) (Err fault) records h = absurd (cc h)
both-of (Err fault) others records h = absurd (cc h)

-- a record in front of those of the rows behind it
one-further : (version : Version) (n : ℕ) (row : Fields) (rows : List Fields) (one : Record) (more : List Record)
    → record_of version 2 row ≡ Ok one → records_of version (number_after n) rows ≡ Ok more → records_of version n (row ∷ rows) ≡ Ok (one ∷ more)
unfolding records_of followed_by
one-further version n row rows one more first others =
    rw (not-end version 2 row one first, record-renumbered version 2 n row one first, others) refl

-- records that rows spell, in front of those up to END
in-front : (version : Version) (n : ℕ) (front behind : List Fields) (records more : List Record)
    → records_each version front ≡ Ok records → records_of version 2 behind ≡ Ok more → records_of version n (front ++ behind) ≡ Ok (records ++ more)
unfolding records_each
in-front version n [] behind records more h k =
    let none : records ≡ [] = cc h in
    rw none (records-renumbered version 2 n behind more k)
in-front version n (row ∷ front) behind records more h k =
    let parts = both-of (record_of version 2 row) (records_each version front) records h in
    rw parts.records_are
    (one-further version n row (front ++ behind) parts.one (parts.more ++ more) parts.first_is
    (in-front version (number_after n) front behind parts.more more parts.others_are k))

-- the records of a piece in front of those of the pieces behind it
record Joined (found : Result (Vec Record) NotInPieces) (others : Result (List Record) NotInPieces) (records : List Record) : Type 0 where
  one : Vec Record
  more : List Record
  found_is : found ≡ Ok one
  others_are : others ≡ Ok more
  records_are : records ≡ one.items ++ more

joined-of : (found : Result (Vec Record) NotInPieces) (read : List (Result (Vec Record) NotInPieces)) (records : List Record)
    → joined (found ∷ read) ≡ Ok records → Joined found (joined read) records
unfolding joined
joined-of (Err fault) read records h = absurd (cc h)
joined-of (Ok one) read records h = by (joined read) refl
  where
    by : (others : Result (List Record) NotInPieces) → joined read ≡ others → Joined (Ok one) (joined read) records
    by (Ok more) e = record { one = one; more = more; found_is = refl; others_are = e; records_are = cc (rw e at h) }
    by (Err fault) e = absurd (cc (rw e at h))

-- what the pieces of a text gave, and the records up to END of what is left behind them, are the records of the text
pub pieces-in-front : (version : Version) (pieces : List (Bor (List ℕ))) (read : List (Result (Vec Record) NotInPieces)) (left : List ℕ) (records more : List Record)
    → AllZip (λ piece found. IfOk found (λ records. IsRead version piece.now records.items)) pieces read
    → joined read ≡ Ok records → is_unmarked left ≡ true → records_of version 2 (rows_of left) ≡ Ok more
    → (is_unmarked (concat (map (λ piece. piece.now) pieces) ++ left) ≡ true)
    × (records_of version 2 (rows_of (concat (map (λ piece. piece.now) pieces) ++ left)) ≡ Ok (records ++ more))
unfolding joined
pieces-in-front version [] [] left records more each h unmarked last =
    let none : records ≡ [] = cc h in
    (unmarked, rw none last)
pieces-in-front version [] (found ∷ read) left records more each h unmarked last = absurd each
pieces-in-front version (piece ∷ pieces) [] left records more each h unmarked last = absurd each
pieces-in-front version (piece ∷ pieces) (found ∷ read) left records more each h unmarked last =
    let parts = joined-of found read records h in
    let is : IsRead version piece.now parts.one.items = rw parts.found_is at each.0 in
    let behind = pieces-in-front version pieces read left parts.more more each.1 parts.others_are unmarked last in
    let texts = concat (map (λ (p : Bor (List ℕ)). p.now) pieces) in
    let text : (piece.now ++ texts) ++ left ≡ piece.now ++ (texts ++ left) = append_assoc piece.now texts left in
    let rows = rows_of-behind piece.now (texts ++ left) is.whole behind.0 in
    let all : (parts.one.items ++ parts.more) ++ more ≡ parts.one.items ++ (parts.more ++ more) = append_assoc parts.one.items parts.more more in
    rw (text, parts.records_are, all) (
      unmarked-behind piece.now (texts ++ left) is.whole behind.0,
      rw rows (in-front version 2 (rows_of piece.now) (rows_of (texts ++ left)) parts.one.items (parts.more ++ more) is.reading behind.1),
    )

-- the pieces of a text are read as the text
pub pieces_records : (version : Version) (pieces : List (Bor (List ℕ))) (read : List (Result (Vec Record) NotInPieces)) (left text : List ℕ) (records more : List Record)
    → AllZip (λ piece found. IfOk found (λ records. IsRead version piece.now records.items)) pieces read
    → joined read ≡ Ok records → is_unmarked left ≡ true → records_of version 2 (rows_of left) ≡ Ok more
    → concat (map (λ piece. piece.now) pieces) ++ left ≡ text
    → records_of version 2 (rows_of text) ≡ Ok (records ++ more)
pieces_records version pieces read left text records more each h unmarked last cut =
    rw (← cut) ((pieces-in-front version pieces read left records more each h unmarked last).1)

-- and a text of such pieces doesn't begin as a byte order mark does
pub pieces_unmarked : (version : Version) (pieces : List (Bor (List ℕ))) (read : List (Result (Vec Record) NotInPieces)) (left text : List ℕ) (records more : List Record)
    → AllZip (λ piece found. IfOk found (λ records. IsRead version piece.now records.items)) pieces read
    → joined read ≡ Ok records → is_unmarked left ≡ true → records_of version 2 (rows_of left) ≡ Ok more
    → concat (map (λ piece. piece.now) pieces) ++ left ≡ text
    → is_unmarked text ≡ true
pieces_unmarked version pieces read left text records more each h unmarked last cut =
    rw (← cut) ((pieces-in-front version pieces read left records more each h unmarked last).0)

-- a row that is taken and has none behind it is alone
pub head_alone : (rows behind last : List Fields) (found more : Bool) (row next : Fields) (head : Head)
    → rows ≡ (if found then row ∷ behind else []) → found ≡ true → behind ≡ (if more then next ∷ last else []) → more ≡ false
    → bytes_eq (field row 0) (codes "HEAD") ≡ true → head_of row ≡ Ok head → IsHeadAlone rows head
head_alone rows behind last found more row next head taken f taken_next none named reading = record {
  row = row;
  only = rw (taken, f, taken_next, none) refl;
  named = named;
  reading = reading;
}

-- a HEAD in whole lines, and the records of what stands behind it, are the tariff of the text
pub tariff_in_pieces : (first body text : List ℕ) (head : Head) (records : List Record) → text ≡ first ++ body → is_whole first ≡ true
    → is_unmarked body ≡ true → IsHeadAlone (rows_of first) head → records_of head.version 2 (rows_of body) ≡ Ok records
    → tariff_of (rows_of text) ≡ Ok (record { number = head.number; effective = head.effective; records = records })
unfolding tariff_of headed
tariff_in_pieces first body text head records cut whole unmarked alone reading =
    rw (cut, rows_of-behind first body whole unmarked, alone.only, alone.named, alone.reading, reading) refl

-- a text that is just the line of END has no records
end-alone : (version : Version) → records_of version 2 (rows_of (codes "END\n")) ≡ Ok []
unfolding csv_on_literals rows_of records_of ended_by end_of nothing_after counted
end-alone version = refl

pub none_before_end : (version : Version) (left : List ℕ) → bytes_eq left (codes "END\n") ≡ true → records_of version 2 (rows_of left) ≡ Ok []
none_before_end version left h = rw ((bytes_eq-Decides left (codes "END\n")).0 h) (end-alone version)
