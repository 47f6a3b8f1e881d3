-- A reference is the amount of a fare that is filed between its cities.
use Rattle.std.proofs.Common.{◌≡◌, ℕ, zero, suc, ◌+◌, ◌-◌, ◌<◌, ◌≤◌, true, false, List, [], ◌∷◌, length, get_or, leb, refl, ap, sym, subst, ◌∙◌, ◌⊎◌, inl, inr, arith}
use Rattle.std.specs.Prelude.{Option, Some, None, option_map, option_and_then, bytes_eq, position, slice_get}
use Rattle.std.specs.Option.{option_or}
use Rattle.std.proofs.lemmas.Bool.{and_parts, cases_Bool, le-leb, leb-true, both_ways}
use Rattle.std.proofs.lemmas.Slice.Eq.{bytes_eq-Decides}
use Rattle.std.proofs.lemmas.List.Quantifiers.{position-Some}
use Rattle.fare_codes.specs.declared.city.City.{City}
use Rattle.fare_codes.specs.declared.day.Day.{Day}
use Rattle.fare_codes.specs.declared.indicator.Indicator.{Indicator}
use Rattle.fare_codes.specs.declared.month_day.MonthDay.{MonthDay}
use Rattle.fare_codes.specs.Day.{month_day_of}
use Rattle.fare_codes.specs.Season.{season_holds}
use Rattle.fare_records.specs.declared.fare_key.FareKey.{FareKey}
use Rattle.fare_records.specs.declared.record.Record.{Record}
use Rattle.fare_records.specs.declared.record.Record.TheVariants as filed
use Rattle.fare_records.specs.Record.{FareRecord}
use Rattle.fare_tariff.specs.Tariff.{Tariff}
use Rattle.fare_tariff.specs.Lookup.{fare_in, fare_at, fare_number, number_at, has_key, is_fare_on}
use Rattle.fare_rules.specs.Valid.{HasNoFareToItself}
use Rattle.fare_rules.specs.Reference.{reference, amount_on, key_by, every_carrier}

-- a fare of an edition that has an amount and runs between two cities
pub record IsFiled (tariff : Tariff) (from to : City) (amount : ℕ) : Type 0 where
  pub number : ℕ
  pub fare : FareRecord
  pub filed : fare_at tariff number ≡ Some fare
  pub costs : fare.amount ≡ amount
  pub runs_from : bytes_eq fare.from from ≡ true
  pub runs_to : bytes_eq fare.to to ≡ true

no_record : Record
no_record = filed.Tpm (record { from = []; to = []; miles = 0 })

none_some : {A : Type 0} (x : A) → None ≡ Some x → ⊥
none_some x e = cc

some_same : {A : Type 0} (x y : A) → Some x ≡ Some y → x ≡ y
some_same x y e = cc

false_true : false ≡ true → ⊥
false_true e = cc

-- a record that files a fare of a key on a day files some fare with that key
fare_on : (key : FareKey) (on : MonthDay) (one : Record) → is_fare_on key on one ≡ true
    → (fare : FareRecord) × (fare_in one ≡ Some fare) × (has_key key fare ≡ true)
fare_on key on (filed.Fare r) e = (r, refl, (and_parts (has_key key r) (season_holds r.season on) e).0)
fare_on key on _ e = absurd (false_true e)

got : {A : Type 0} (xs : List A) (i : ℕ) (d : A) → i < length xs → slice_get xs i ≡ Some (get_or xs i d)
got [] i d h = absurd (omega arith)
got (x ∷ xs) zero d h = refl
got (x ∷ xs) (suc i) d h = got xs i d (omega arith)

numbered : (o : Option ℕ) (n : ℕ) → option_map number_at o ≡ Some n → (i : ℕ) × (o ≡ Some i) × (i + 2 ≡ n)
numbered None n e = absurd (none_some n e)
numbered (Some i) n e = (i, refl, some_same (i + 2) n e)

at_number : (tariff : Tariff) (i : ℕ) (one : Record) (fare : FareRecord) → slice_get tariff.records i ≡ Some one
    → fare_in one ≡ Some fare → fare_at tariff (i + 2) ≡ Some fare
at_number tariff i one fare e f =
    let back : (i + 2) - 2 ≡ i = omega arith in
    rw (le-leb 2 (i + 2) (omega arith), back, e) f

-- the number of the fare of a key on a day is that of a fare with that key
pub numbered_fare : (tariff : Tariff) (key : FareKey) (on : MonthDay) (n : ℕ) → fare_number tariff key on ≡ Some n
    → (fare : FareRecord) × (fare_at tariff n ≡ Some fare) × (has_key key fare ≡ true)
numbered_fare tariff key on n e =
    let place = numbered (position (is_fare_on key on) tariff.records) n e in
    let i = place.0 in
    let d : Record = no_record in
    let holds = position-Some (is_fare_on key on) tariff.records i d place.1 in
    let one : Record = get_or tariff.records i d in
    let found = fare_on key on one holds.1 in
    (found.0, subst (λ m. fare_at tariff m ≡ Some found.0) place.2 (at_number tariff i one found.0 (got tariff.records i d holds.0) found.1), found.2)

-- the parts of a key that are its cities
key_cities : (key : FareKey) (fare : FareRecord) → has_key key fare ≡ true
    → (bytes_eq fare.from key.from ≡ true) × (bytes_eq fare.to key.to ≡ true)
key_cities key fare e =
    let a = and_parts _ _ e in
    let b = and_parts _ _ a.0 in
    let c = and_parts _ _ b.0 in
    let d = and_parts _ _ c.0 in
    let f = and_parts _ _ d.0 in
    and_parts _ _ f.0

mapped : (o : Option FareRecord) (amount : ℕ) → option_map (λ r. r.amount) o ≡ Some amount
    → (fare : FareRecord) × (o ≡ Some fare) × (fare.amount ≡ amount)
mapped None amount e = absurd (none_some amount e)
mapped (Some fare) amount e = (fare, refl, some_same fare.amount amount e)

chained : {A B : Type 0} (f : A → Option B) (o : Option A) (y : B) → option_and_then f o ≡ Some y
    → (x : A) × (o ≡ Some x) × (f x ≡ Some y)
chained f None y e = absurd (none_some y e)
chained f (Some x) y e = (x, refl, e)

-- the amount of a key on a day is that of a fare between the key's cities
amount_is_filed : (tariff : Tariff) (key : FareKey) (on : Day) (amount : ℕ) → amount_on tariff key on ≡ Some amount
    → IsFiled tariff key.from key.to amount
amount_is_filed tariff key on amount e =
    let m = mapped (option_and_then (fare_at tariff) (fare_number tariff key (month_day_of on))) amount e in
    let c = chained (fare_at tariff) (fare_number tariff key (month_day_of on)) m.0 m.1 in
    let f = numbered_fare tariff key (month_day_of on) c.0 c.1 in
    let same : f.0 ≡ m.0 = some_same f.0 m.0 (sym f.1 ∙ c.2) in
    let cities = key_cities key f.0 f.2 in
    record {
      number = c.0;
      fare = f.0;
      filed = f.1;
      costs = ap (λ (r : FareRecord). r.amount) same ∙ m.2;
      runs_from = cities.0;
      runs_to = cities.1;
    }

either_is : (a b : Option ℕ) (amount : ℕ) → option_or a b ≡ Some amount → (a ≡ Some amount) ⊎ (b ≡ Some amount)
either_is None b amount e = inr e
either_is (Some x) b amount e = inl e

-- a reference is the amount of a fare between its cities
pub reference_is_filed : (tariff : Tariff) (from to : City) (ind : Indicator) (fare : FareRecord) (on : Day)
    (amount : ℕ) → reference tariff from to ind fare on ≡ Some amount → IsFiled tariff from to amount
unfolding reference
reference_is_filed tariff from to ind fare on amount e =
    elim (either_is (amount_on tariff (key_by from to ind fare fare.carrier) on) (amount_on tariff (key_by from to ind fare every_carrier) on) amount e) [
      | inl f ↦ amount_is_filed tariff (key_by from to ind fare fare.carrier) on amount f
      | inr f ↦ amount_is_filed tariff (key_by from to ind fare every_carrier) on amount f
    ]

unless_some : (o : Option ℕ) → ((amount : ℕ) → o ≡ Some amount → ⊥) → o ≡ None
unless_some None h = refl
unless_some (Some amount) h = absurd (h amount refl)

same_bytes : (a b : List ℕ) → bytes_eq a b ≡ true → a ≡ b
same_bytes a b e = (bytes_eq-Decides a b).0 e

to_itself : (tariff : Tariff) (city : City) (amount : ℕ) → HasNoFareToItself tariff → IsFiled tariff city city amount
    → ⊥
to_itself tariff city amount differ f =
    let same : f.fare.from ≡ f.fare.to = same_bytes _ _ f.runs_from ∙ sym (same_bytes _ _ f.runs_to) in
    both_ways (bytes_eq f.fare.from f.fare.to) (differ f.number f.fare f.filed) ((bytes_eq-Decides f.fare.from f.fare.to).1 same)

-- no reference runs from a city to itself, where no fare does
pub no_reference : (tariff : Tariff) (city : City) (ind : Indicator) (fare : FareRecord) (on : Day)
    → HasNoFareToItself tariff → reference tariff city city ind fare on ≡ None
no_reference tariff city ind fare on differ =
    unless_some (reference tariff city city ind fare on) (λ amount e. to_itself tariff city amount differ (reference_is_filed tariff city city ind fare on amount e))

got_within : {A : Type 0} (xs : List A) (i : ℕ) (x : A) → slice_get xs i ≡ Some x → i < length xs
got_within [] i x e = absurd (none_some x e)
got_within (y ∷ ys) zero x e = omega arith
got_within (y ∷ ys) (suc i) x e = let h : i < length ys = got_within ys i x e in omega arith

-- the number of a fare is that of a record
pub number_of_record : (tariff : Tariff) (number : ℕ) (fare : FareRecord) → fare_at tariff number ≡ Some fare
    → (2 ≤ number) × (number < length tariff.records + 2)
number_of_record tariff number fare e =
    elim (cases_Bool (leb 2 number)) [
      | inl t ↦
          let low : 2 ≤ number = leb-true 2 number t in
          let got = chained fare_in (slice_get tariff.records (number - 2)) fare (rw t at e) in
          let within : number - 2 < length tariff.records = got_within tariff.records (number - 2) got.0 got.1 in
          (low, omega arith)
      | inr f ↦ absurd (none_some fare (rw f at e))
    ]
