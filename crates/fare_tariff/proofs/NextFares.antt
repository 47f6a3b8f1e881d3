-- The next fare with a fare's cities and indicator, by the places of its key and by the numbers of such fares.
use Rattle.std.proofs.Common.{◌≡◌, ℕ, ◌+◌, ◌-◌, ◌<◌, ◌≤◌, Bool, true, List, [], ◌∷◌, length, get_or, drop, Option, Some, None, IfSome, IsSomeAnd, option_map, option_and_then, is_none, slice_get, refl, ap, sym, ◌∙◌, arith, inl, inr, zero, suc, add-one}
use Rattle.std.specs.List.{position_from}
use Rattle.std.proofs.lemmas.Bool.{cases_Bool}
use Rattle.std.proofs.lemmas.List.{length-drop}
use Rattle.std.proofs.lemmas.Option.{same_Some, slice_get_within, get_or_from_slice_get}
use Rattle.fare_codes.specs.declared.city.City.{City}
use Rattle.fare_codes.specs.declared.indicator.Indicator.{Indicator}
use Rattle.fare_index.specs.declared.key.Key.TheVariants.{Fares}
use Rattle.fare_records.specs.declared.limits.TheConstants.{MOST_PLACES, MOST_RECORDS}
use Rattle.fare_records.specs.declared.record.Record.{Record}
use Rattle.fare_records.specs.declared.record.Record.TheVariants as filed
use Rattle.fare_tariff.specs.Check.{first_fault}
use Rattle.fare_tariff.specs.Filed.{IsFareBetween}
use Rattle.fare_records.specs.Keyed.{has_own_key, own_key}
use Rattle.fare_tariff.specs.Lookup.{fare_at, is_fare_between, next_beside, next_fare, nth_fare, number_at, numbers_from}
use Rattle.fare_records.specs.Record.{FareRecord}
use Rattle.fare_tariff.specs.Tariff.{Tariff}
use Rattle.fare_records.proofs.Chain.{found_from}
use Rattle.fare_tariff.proofs.FoundByKey.{fare_tells}
use Rattle.fare_tariff.proofs.FoundFares.{fare_at-some, filed_nth, nth_at}
use Rattle.fare_tariff.proofs.FoundOptions.{of_value}

-- the number of the first place is that of the place, of a list that begins two later
two_later : (test : Record → Bool) (from : ℕ) (xs : List Record)
    → option_map number_at (position_from test from xs) ≡ position_from test (from + 2) xs
two_later test from [] = refl
two_later test from (x ∷ xs) =
    elim (cases_Bool (test x)) [
      | inl t ↦ rw t refl
      | inr f ↦
          let same : from + 1 + 2 ≡ from + 2 + 1 = omega arith in
          rw f (two_later test (from + 1) xs ∙ ap (λ n. position_from test n xs) same)
    ]

module _ (tariff : Tariff) (number : ℕ) (fare : FareRecord) (filed_there : fare_at tariff number ≡ Some fare) where
  -- the record of a fare is one of the list
  fare_within : number - 2 < length tariff.records
  fare_within = slice_get_within tariff.records (number - 2) (filed.Fare fare) (fare_at-some tariff number fare filed_there).1

  -- the next place with the key of a fare is that of the next fare
  pub next_found : (next : Option ℕ)
      → ((d : Record) → next ≡ position_from (has_own_key (own_key (get_or tariff.records (number - 2) d))) (number - 2 + 1) (drop (number - 2 + 1) tariff.records))
      → option_map number_at next ≡ next_fare tariff number
  next_found next found =
      let at = fare_at-some tariff number fare filed_there in
      let low = at.0 in
      let test = is_fare_between fare.from fare.to fare.ind in
      let here : get_or tariff.records (number - 2) (filed.Fare fare) ≡ filed.Fare fare = get_or_from_slice_get tariff.records (number - 2) (filed.Fare fare) (filed.Fare fare) at.1 in
      let tells : has_own_key (Fares fare.from fare.to fare.ind) ≡ test = λ i one. fare_tells fare.from fare.to fare.ind one i in
      let place : number - 2 + 1 ≡ number - 1 = omega arith in
      let after : number - 1 + 2 ≡ number + 1 = omega arith in
      let by_test : next ≡ position_from test (number - 1) (drop (number - 1) tariff.records) =
      found (filed.Fare fare)
      ∙ ap (λ (one : Record). position_from (has_own_key (own_key one)) (number - 2 + 1) (drop (number - 2 + 1) tariff.records)) here
      ∙ ap (λ (t : Record → Bool). position_from t (number - 2 + 1) (drop (number - 2 + 1) tariff.records)) tells
      ∙ ap (λ n. position_from test n (drop n tariff.records)) place in
      ap (option_map number_at) by_test
      ∙ two_later test (number - 1) (drop (number - 1) tariff.records)
      ∙ ap (λ n. position_from test n (drop (number - 1) tariff.records)) after
      ∙ sym (ap (option_and_then (next_beside tariff number)) filed_there)

  -- and it is that of a record of the list
  pub next_within : (next : Option ℕ)
      → ((d : Record) → next ≡ position_from (has_own_key (own_key (get_or tariff.records (number - 2) d))) (number - 2 + 1) (drop (number - 2 + 1) tariff.records))
      → length tariff.records ≤ MOST_RECORDS → IfSome next (λ place. place < MOST_PLACES)
  next_within next found few =
      let own = own_key (get_or tariff.records (number - 2) (filed.Fare fare)) in
      of_value next (λ place. place < MOST_PLACES) (λ place there.
      let at = found_from (has_own_key own) (number - 2 + 1) (drop (number - 2 + 1) tariff.records) place (sym (found (filed.Fare fare)) ∙ there) in
      omega (arith, at.within, length-drop (number - 2 + 1) tariff.records, few, fare_within))

-- the first number of a list is that of the first place
first_of : (test : Record → Bool) (first : ℕ) (xs : List Record)
    → slice_get (numbers_from test first xs) 0 ≡ position_from test first xs
first_of test first [] = refl
first_of test first (x ∷ xs) =
    elim (cases_Bool (test x)) [
      | inl t ↦ rw t refl
      | inr f ↦ rw f (first_of test (first + 1) xs)
    ]

-- what comes behind a number of the rest of a list
after_later : (test : Record → Bool) (first : ℕ) (x : Record) (xs : List Record) (k number : ℕ)
    → slice_get (numbers_from test (first + 1) xs) k ≡ Some number
    → position_from test (number + 1) (drop (number + 1 - (first + 1)) xs) ≡ slice_get (numbers_from test (first + 1) xs) (suc k)
    → position_from test (number + 1) (drop (number + 1 - first) (x ∷ xs)) ≡ slice_get (numbers_from test (first + 1) xs) (suc k)
after_later test first x xs k number h further =
    let nth = nth_at test (first + 1) xs k number h in
    let one_less : number + 1 - first ≡ suc (number + 1 - (first + 1)) = omega (arith, nth.numbered) in
    rw one_less further

-- the number behind the k-th is that of the first place behind it
after_nth : (test : Record → Bool) (first : ℕ) (xs : List Record) (k number : ℕ)
    → slice_get (numbers_from test first xs) k ≡ Some number
    → position_from test (number + 1) (drop (number + 1 - first) xs) ≡ slice_get (numbers_from test first xs) (suc k)
after_nth test first [] k number h = cc
after_nth test first (x ∷ xs) zero number h =
    elim (cases_Bool (test x)) [
      | inl t ↦
          let here : Some first ≡ Some number = rw t at h in
          let same : first ≡ number = same_Some first number here in
          let one : number + 1 - first ≡ suc zero = omega arith in
          let next : number + 1 ≡ first + 1 = omega arith in
          rw (t, one, next) (sym (first_of test (first + 1) xs))
      | inr f ↦
          let later : slice_get (numbers_from test (first + 1) xs) zero ≡ Some number = rw f at h in
          rw f (after_later test first x xs zero number later (after_nth test (first + 1) xs zero number later))
    ]
after_nth test first (x ∷ xs) (suc k) number h =
    elim (cases_Bool (test x)) [
      | inl t ↦
          let later : slice_get (numbers_from test (first + 1) xs) k ≡ Some number = rw t at h in
          rw t (after_later test first x xs k number later (after_nth test (first + 1) xs k number later))
      | inr f ↦
          let later : slice_get (numbers_from test (first + 1) xs) (suc k) ≡ Some number = rw f at h in
          rw f (after_later test first x xs (suc k) number later (after_nth test (first + 1) xs (suc k) number later))
    ]

-- the next fare after the k-th from a city to another for an indicator is the one after it
pub next_of_nth : (tariff : Tariff) (from to : City) (ind : Indicator) (k number : ℕ)
    → is_none (first_fault tariff.records) ≡ true → nth_fare tariff from to ind k ≡ Some number
    → next_fare tariff number ≡ nth_fare tariff from to ind (k + 1)
next_of_nth tariff from to ind k number valid h =
    go (fare_at tariff number) refl (filed_nth tariff from to ind k number valid h).0
  where
    go : (o : Option FareRecord) → fare_at tariff number ≡ o → IsSomeAnd o (IsFareBetween from to ind)
        → next_fare tariff number ≡ nth_fare tariff from to ind (k + 1)
    go None e between = absurd between
    go (Some fare) e between =
        let test = is_fare_between from to ind in
        let less : number - 1 ≡ number + 1 - 2 = omega arith in
        let own : next_beside tariff number fare ≡ position_from test (number + 1) (drop (number - 1) tariff.records) =
        λ i. position_from (is_fare_between (between.of_from i) (between.of_to i) (between.of_ind i)) (number + 1) (drop (number - 1) tariff.records) in
        ap (option_and_then (next_beside tariff number)) e
        ∙ own
        ∙ ap (λ n. position_from test (number + 1) (drop n tariff.records)) less
        ∙ after_nth test 2 tariff.records k number h
        ∙ ap (nth_fare tariff from to ind) (sym (add-one k))
