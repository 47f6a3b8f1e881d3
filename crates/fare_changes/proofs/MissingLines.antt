-- The lines of the records that others don't hold, one record further.
use Rattle.std.proofs.Common.{◌≡◌, ℕ, ◌+◌, ◌<◌, ◌≤◌, Bool, true, false, cond, List, [], ◌∷◌, ◌++◌, length, take, get_or, filter, refl, ap, sym, ◌∙◌, append-nil, arith}
use Rattle.std.specs.List.{flat_map}
use Rattle.std.proofs.lemmas.Grind.{flat_map-append}
use Rattle.std.proofs.lemmas.List.{take_all}
use Rattle.std.proofs.lemmas.List.Elements.{filter_more}
use Rattle.std.proofs.lemmas.List.Filters.{length-filter_more}
use Rattle.fare_records.specs.declared.record.Record.{Record}
use Rattle.fare_changes.specs.Diff.{is_missing, only_in}
use Rattle.fare_changes.specs.DiffText.{marked}

-- the lines of what stands alone where a test is true
one_alone : (sign : List ℕ) (t : Bool) (one : Record) → flat_map (marked sign) (cond t (one ∷ []) []) ≡ cond t (marked sign one) []
one_alone sign true one = append-nil (marked sign one)
one_alone sign false one = refl

-- the lines so far and that of the next record, where the others don't hold it
pub lines_more : (sign : List ℕ) (records others : List Record) (place : ℕ) (one : Record) (text after : List ℕ)
    → place < length records → one ≡ get_or records place one
    → text ≡ flat_map (marked sign) (only_in (take place records) others)
    → after ≡ text ++ cond (is_missing others one) (marked sign one) []
    → after ≡ flat_map (marked sign) (only_in (take (place + 1) records) others)
lines_more sign records others place one text after below is so_far added =
    let p : Record → Bool = is_missing others in
    let next : filter p (take (place + 1) records) ≡ filter p (take place records) ++ cond (p one) (one ∷ []) [] =
    filter_more p records place one below ∙ ap (λ r. filter p (take place records) ++ cond (p r) (r ∷ []) []) (sym is) in
    added ∙ ap (λ t. t ++ cond (p one) (marked sign one) []) so_far
    ∙ ap (λ t. flat_map (marked sign) (filter p (take place records)) ++ t) (sym (one_alone sign (p one) one))
    ∙ sym (flat_map-append (marked sign) (filter p (take place records)) (cond (p one) (one ∷ []) []))
    ∙ ap (flat_map (marked sign)) (sym next)

-- how many there are so far, and the next record
pub count_more : (records others : List Record) (place : ℕ) (one : Record) (count after : ℕ)
    → place < length records → one ≡ get_or records place one
    → count ≡ length (only_in (take place records) others) → after ≡ count + cond (is_missing others one) 1 0
    → after ≡ length (only_in (take (place + 1) records) others)
count_more records others place one count after below is so_far added =
    let p : Record → Bool = is_missing others in
    let next : length (filter p (take (place + 1) records)) ≡ length (filter p (take place records)) + cond (p one) 1 0 =
    length-filter_more p records place one below ∙ ap (λ r. length (filter p (take place records)) + cond (p r) 1 0) (sym is) in
    added ∙ ap (λ n. n + cond (p one) 1 0) so_far ∙ sym next

-- a count is at most one more
pub one_at_most : (t : Bool) (count place after : ℕ) → count ≤ place → after ≡ count + cond t 1 0 → after ≤ place + 1
one_at_most true count place after few added = omega (arith, added)
one_at_most false count place after few added = omega (arith, added)

-- after all records the lines are those of all that the others don't hold, and so is their number
pub each_line : (sign : List ℕ) (records others : List Record) (place : ℕ) (text : List ℕ) → length records ≤ place
    → text ≡ flat_map (marked sign) (only_in (take place records) others) → text ≡ flat_map (marked sign) (only_in records others)
each_line sign records others place text past so_far =
    so_far ∙ ap (λ l. flat_map (marked sign) (only_in l others)) (take_all place records past)

pub each_counted : (records others : List Record) (place count : ℕ) → length records ≤ place
    → count ≡ length (only_in (take place records) others) → count ≡ length (only_in records others)
each_counted records others place count past so_far =
    so_far ∙ ap (λ l. length (only_in l others)) (take_all place records past)
