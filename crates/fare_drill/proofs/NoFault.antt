-- A list of records with rising ranks, each of which names what is filed, has no fault.
use Rattle.std.proofs.Common.{◌≡◌, ℕ, ◌+◌, ◌-◌, ◌<◌, ◌≤◌, Bool, true, false, List, [], ◌∷◌, ◌++◌, length, take, None, option_map, refl, sym, ap, ◌∙◌, arith, append_assoc, max, count_by, inl, inr}
use Rattle.std.proofs.Math.Seq.{take-append_seam}
use Rattle.std.proofs.lemmas.Bool.{cases_Bool, lt-leb, le-ltb}
use Rattle.std.proofs.lemmas.List.{length_push, length-append}
use Rattle.fare_records.specs.declared.record.Record.{Record}
use Rattle.fare_records.specs.declared.record.Record.TheVariants as filed
use Rattle.fare_tariff.specs.Lookup.{number_at, is_fare_between}
use Rattle.fare_tariff.specs.Check.{first_fault, first_fault_from, kind_of, first_number, has_key_of, names_unknown_city, names_unknown_rule, names_unknown_currency, is_one_too_many, has_same_points, is_zero_mileage, is_out_of_limit, overlap_of, is_fare_over, key_of}
use Rattle.fare_drill.proofs.RisingLists.{Rising, Rising-append, rising_wider, no_place, few_pass}
use Rattle.fare_drill.proofs.Ranks.{rank, same_key, same_fare_over, fare_rank, eight_ranks}

-- a record names what the list files, two cities that differ, and a mileage above zero
pub record IsFit (all : List Record) (one : Record) : Type 0 where
  pub known_city : names_unknown_city all one ≡ false
  pub known_rule : names_unknown_rule all one ≡ false
  pub known_currency : names_unknown_currency all one ≡ false
  pub points_differ : has_same_points one ≡ false
  pub above_zero : is_zero_mileage one ≡ false

-- a test that tells a rank fails of what ranks below it
fails_below : (p : Record → Bool) (top : ℕ) → ((x : Record) → p x ≡ true → top ≡ rank x) → (x : Record) → rank x < top → p x ≡ false
fails_below p top tells x low = elim (cases_Bool (p x)) [
  | inl passes ↦ absurd (omega (arith, tells x passes))
  | inr fails ↦ fails
]

-- no fare before this one has its key
no_overlap : (all earlier : List Record) (one : Record) → Rising rank (IsFit all) 0 earlier (rank one) → overlap_of earlier one ≡ None
no_overlap all earlier (filed.Fare r) h =
    ap (option_map number_at) (no_place rank (IsFit all) (is_fare_over (key_of r) r.season) (rank (filed.Fare r)) 0 earlier (rank (filed.Fare r)) h (omega arith) (fails_below _ _ (same_fare_over r)))
no_overlap all earlier _ h = refl

-- there are few fares of its from, to and indicator before it
not_too_many : (all earlier : List Record) (one : Record) (low : ℕ) → Rising rank (IsFit all) 0 earlier low → is_one_too_many earlier one ≡ false
not_too_many all earlier (filed.Fare r) low h =
    let few : count_by (is_fare_between r.from r.to r.ind) earlier ≤ (fare_rank r.from r.to + 8) - max (fare_rank r.from r.to) 0 = few_pass rank (IsFit all) (is_fare_between r.from r.to r.ind) (fare_rank r.from r.to) (fare_rank r.from r.to + 8) 0 earlier low h (eight_ranks r.from r.to r.ind) in
    lt-leb 64 (count_by (is_fare_between r.from r.to r.ind) earlier) (omega (arith, few))
not_too_many all earlier _ low h = refl

-- a fit record that ranks above all before it has no check kind
no_kind : (all earlier : List Record) (one : Record) → IsFit all one → Rising rank (IsFit all) 0 earlier (rank one) → length earlier < 400_000 → kind_of all earlier one ≡ None
unfolding kind_of
no_kind all earlier one fit h few =
    let no_duplicate : first_number (has_key_of one) earlier ≡ None = ap (option_map number_at) (no_place rank (IsFit all) (has_key_of one) (rank one) 0 earlier (rank one) h (omega arith) (fails_below _ _ (same_key one))) in
    let enough = not_too_many all earlier one (rank one) h in
    let within : is_out_of_limit earlier ≡ false = le-ltb 400_001 (length earlier + 2) (omega arith) in
    rw (no_duplicate, fit.known_city, fit.known_rule, fit.known_currency, enough, fit.points_differ, fit.above_zero, within, no_overlap all earlier one h) refl

-- what is left of a list has no fault
none_left : (all done rest : List Record) (low high : ℕ) → all ≡ done ++ rest → Rising rank (IsFit all) 0 done low → Rising rank (IsFit all) low rest high → length all ≤ 400_000 → first_fault_from all (length done) rest ≡ None
unfolding first_fault_from Rising
none_left all done [] low high is before after few = refl
none_left all done (x ∷ xs) low high is before after few =
    let seam : take (length done) all ≡ done = ap (take (length done)) is ∙ take-append_seam done (x ∷ xs) in
    let size : length all ≡ length done + length (x ∷ xs) = ap length is ∙ length-append done (x ∷ xs) in
    let here : kind_of all done x ≡ None = no_kind all done x after.0 (rising_wider rank (IsFit all) 0 0 done low (rank x) before (omega arith) after.1) (omega (arith, size)) in
    let grown : Rising rank (IsFit all) 0 (done ++ x ∷ []) (rank x + 1) = Rising-append rank (IsFit all) 0 done low (x ∷ []) (rank x + 1) before (after.0, after.1, omega arith) in
    let later : first_fault_from all (length (done ++ x ∷ [])) xs ≡ None = none_left all (done ++ x ∷ []) xs (rank x + 1) high (is ∙ sym (append_assoc done (x ∷ []) xs)) grown after.2 few in
    rw (seam, here) (rw length_push at later)

-- a list with rising ranks has none
pub no_fault : (all : List Record) (high : ℕ) → Rising rank (IsFit all) 0 all high → length all ≤ 400_000 → first_fault all ≡ None
unfolding Rising
no_fault all high rises few = none_left all [] all 0 high refl (omega arith) rises few
