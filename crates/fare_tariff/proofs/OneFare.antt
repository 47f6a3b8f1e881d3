-- In an edition one record at most files a fare with a key whose season holds a day.
use Rattle.std.proofs.Common.{◌≡◌, ℕ, ◌-◌, ◌<◌, ◌≤◌, Bool, true, false, cond, ◌&&◌, List, [], ◌∷◌, length, get_or, take, Option, Some, None, IsSomeAnd, is_none, option_map, slice_get, position, bytes_eq, nat_lt, refl, ap, subst, sym, ◌∙◌, arith, zero, suc}
use Rattle.std.specs.List.{position_or_len}
use Rattle.std.proofs.lemmas.Bool.{false≢true}
use Rattle.std.proofs.lemmas.Bool.Decides.{nat_tests}
use Rattle.std.proofs.lemmas.List.Sums.{fails_before_first}
use Rattle.std.proofs.lemmas.Option.{slice_get_within, get_or_from_slice_get}
use Rattle.fare_codes.specs.declared.cabin.Cabin.{Cabin}
use Rattle.fare_codes.specs.declared.cabin.Cabin.TheVariants.{F, C, Y}
use Rattle.fare_codes.specs.declared.kind.Kind.{Kind}
use Rattle.fare_codes.specs.declared.kind.Kind.TheVariants.{OW, HR}
use Rattle.fare_codes.specs.declared.month_day.MonthDay.{MonthDay}
use Rattle.fare_codes.specs.Same.{same_indicator, same_cabin, same_kind}
use Rattle.fare_records.specs.declared.record.Record.{Record}
use Rattle.fare_records.specs.declared.record.Record.TheVariants as filed
use Rattle.fare_records.specs.declared.fare_key.FareKey.{FareKey}
use Rattle.fare_records.specs.Record.{FareRecord}
use Rattle.fare_tariff.specs.Tariff.{Tariff}
use Rattle.fare_tariff.specs.Lookup.{fare_at, fare_number, has_key, is_fare_on, number_at}
use Rattle.fare_records.specs.Fields.{same_rule}
use Rattle.fare_tariff.specs.Check.{first_fault, is_fare_over, key_of}
use Rattle.fare_records.specs.Seasons.{seasons_overlap}
use Rattle.fare_tariff.specs.Filed.{FilesFareOn, IsFareOn}
use Rattle.fare_tariff.proofs.Validity.{HasNoKind, no_kind_at, option_map-none}
use Rattle.fare_tariff.proofs.Found.{bytes_eq-true}
use Rattle.fare_tariff.proofs.FoundFares.{and_true, fare_at-some, same_indicator-true, filed_on}
use Rattle.fare_records.proofs.SharedDays.{both_hold}

-- the same class by the test is the same
same_cabin-true : (a b : Cabin) → same_cabin a b ≡ true → a ≡ b
same_cabin-true F F h = refl
same_cabin-true C C h = refl
same_cabin-true Y Y h = refl
same_cabin-true _ _ h = cc

-- the same kind by the test is the same
same_kind-true : (a b : Kind) → same_kind a b ≡ true → a ≡ b
same_kind-true OW OW h = refl
same_kind-true HR HR h = refl
same_kind-true _ _ h = cc

-- the same rule field by the test is the same
same_rule-true : (a b : Option (List ℕ)) → same_rule a b ≡ true → a ≡ b
same_rule-true None None h = refl
same_rule-true (Some a) (Some b) h = ap Some (bytes_eq-true a b h)
same_rule-true _ _ h = cc

-- a fare has a key only if that is the fare's own key
pub own_key : (key : FareKey) (fare : FareRecord) → has_key key fare ≡ true → key_of fare ≡ key
own_key key fare h =
    let a = and_true (bytes_eq fare.from key.from && bytes_eq fare.to key.to && same_indicator fare.ind key.ind && bytes_eq fare.carrier key.carrier && same_cabin fare.class key.class && same_kind fare.kind key.kind) (same_rule fare.rule key.rule) h in
    let b = and_true (bytes_eq fare.from key.from && bytes_eq fare.to key.to && same_indicator fare.ind key.ind && bytes_eq fare.carrier key.carrier && same_cabin fare.class key.class) (same_kind fare.kind key.kind) a.0 in
    let c = and_true (bytes_eq fare.from key.from && bytes_eq fare.to key.to && same_indicator fare.ind key.ind && bytes_eq fare.carrier key.carrier) (same_cabin fare.class key.class) b.0 in
    let d = and_true (bytes_eq fare.from key.from && bytes_eq fare.to key.to && same_indicator fare.ind key.ind) (bytes_eq fare.carrier key.carrier) c.0 in
    let e = and_true (bytes_eq fare.from key.from && bytes_eq fare.to key.to) (same_indicator fare.ind key.ind) d.0 in
    let f = and_true (bytes_eq fare.from key.from) (bytes_eq fare.to key.to) e.0 in
    let from : fare.from ≡ key.from = bytes_eq-true fare.from key.from f.0 in
    let to : fare.to ≡ key.to = bytes_eq-true fare.to key.to f.1 in
    let ind : fare.ind ≡ key.ind = same_indicator-true fare.ind key.ind e.1 in
    let carrier : fare.carrier ≡ key.carrier = bytes_eq-true fare.carrier key.carrier d.1 in
    let class : fare.class ≡ key.class = same_cabin-true fare.class key.class c.1 in
    let kind : fare.kind ≡ key.kind = same_kind-true fare.kind key.kind b.1 in
    let rule : fare.rule ≡ key.rule = same_rule-true fare.rule key.rule a.1 in
    λ i. record { from = from i; to = to i; ind = ind i; carrier = carrier i; class = class i; kind = kind i; rule = rule i }

-- what isn't found by a test passes it nowhere
passed_over : (test : Record → Bool) (all : List Record) (place : ℕ) (one : Record) → position test all ≡ None → slice_get all place ≡ Some one → test one ≡ false
passed_over test all place one none there =
    let within : place < length all = slice_get_within all place one there in
    let same : get_or all place one ≡ one = get_or_from_slice_get all place one one there in
    let past : length all ≤ position_or_len test all = none_past (position_or_len test all) (length all) none in
    let fails : test (get_or all place one) ≡ false = fails_before_first test all place one (omega (arith, within, past)) in
    rw same at fails
  where
    none_past : (first past : ℕ) → cond (nat_lt first past) (Some first) None ≡ None → past ≤ first
    none_past first past h = grind (arith, nat_tests)

-- what stands before a place of a list stands in the list's front
in_front : (all : List Record) (i j : ℕ) (one : Record) → i < j → slice_get all i ≡ Some one → slice_get (take j all) i ≡ Some one
in_front [] i j one h there = cc
in_front (x ∷ xs) zero (suc j) one h there = there
in_front (x ∷ xs) (suc i) (suc j) one h there = in_front xs i j one (omega arith) there
in_front (x ∷ xs) i zero one h there =
    let none : ⊥ = omega (arith, h) in
    absurd none

-- of two fares at different places of an edition's list with one key, no day lies in both seasons
apart : (all : List Record) (key : FareKey) (on : MonthDay) (i j : ℕ) (f g : FareRecord) → is_none (first_fault all) ≡ true → i < j → slice_get all i ≡ Some (filed.Fare f) → slice_get all j ≡ Some (filed.Fare g) → IsFareOn key on f → IsFareOn key on g → ⊥
apart all key on i j f g valid before at_i at_j is_f is_g =
    let within : j < length all = slice_get_within all j (filed.Fare g) at_j in
    let same : get_or all j (filed.Fare g) ≡ filed.Fare g = get_or_from_slice_get all j (filed.Fare g) (filed.Fare g) at_j in
    let there : HasNoKind all (take j all) (get_or all j (filed.Fare g)) = no_kind_at all j (filed.Fare g) valid within in
    let kinds : HasNoKind all (take j all) (filed.Fare g) = rw same at there in
    let none : position (is_fare_over (key_of g) g.season) (take j all) ≡ None = option_map-none _ _ kinds.no_overlap in
    let fails : is_fare_over (key_of g) g.season (filed.Fare f) ≡ false = passed_over (is_fare_over (key_of g) g.season) (take j all) i (filed.Fare f) none (in_front all i j (filed.Fare f) before at_i) in
    let of_key : has_key (key_of g) f ≡ true = subst (λ k. has_key k f ≡ true) (sym (own_key key g is_g.of_key)) is_f.of_key in
    let overlap : seasons_overlap f.season g.season ≡ true = both_hold f.season g.season on is_f.in_season is_g.in_season in
    let passes : is_fare_over (key_of g) g.season (filed.Fare f) ≡ true = rw (of_key, overlap) refl in
    false≢true (sym fails ∙ passes)

-- the place and the fare of a number at which something holds of a fare
record FiledAt (tariff : Tariff) (P : FareRecord → Type 0) (number : ℕ) : Type 0 where
  fare : FareRecord
  not_head : 2 ≤ number
  there : slice_get tariff.records (number - 2) ≡ Some (filed.Fare fare)
  holds : P fare

filed_at : (tariff : Tariff) (P : FareRecord → Type 0) (number : ℕ) (found : Option FareRecord) → fare_at tariff number ≡ found → IsSomeAnd found P → FiledAt tariff P number
filed_at tariff P number None e h = absurd h
filed_at tariff P number (Some fare) e h =
    let p = fare_at-some tariff number fare e in
    record { fare = fare; not_head = p.0; there = p.1; holds = h }

-- two numbers that file a fare with a key on a day are one
pub one : (tariff : Tariff) (key : FareKey) (on : MonthDay) (a b : ℕ) → is_none (first_fault tariff.records) ≡ true → FilesFareOn tariff key on a → FilesFareOn tariff key on b → a ≡ b
one tariff key on a b valid files_a files_b =
    let f = filed_at tariff (IsFareOn key on) a (fare_at tariff a) refl files_a in
    let g = filed_at tariff (IsFareOn key on) b (fare_at tariff b) refl files_b in
    let not_before : a - 2 < b - 2 → ⊥ = λ h. apart tariff.records key on (a - 2) (b - 2) f.fare g.fare valid h f.there g.there f.holds g.holds in
    let not_behind : b - 2 < a - 2 → ⊥ = λ h. apart tariff.records key on (b - 2) (a - 2) g.fare f.fare valid h g.there f.there g.holds f.holds in
    grind (arith, not_before, not_behind, f.not_head, g.not_head)

-- a record at a place that passes a test is found, here or before
found_by : (test : Record → Bool) (all : List Record) (place : ℕ) (here : Record) (first : Option ℕ) → position test all ≡ first → slice_get all place ≡ Some here → test here ≡ true → (n : ℕ) × (option_map number_at first ≡ Some n)
found_by test all place here None e there passes = absurd (false≢true (sym (passed_over test all place here e there) ∙ passes))
found_by test all place here (Some p) e there passes = (number_at p, refl)

-- the number that files a fare with a key on a day is the one that the look-up answers
pub answered : (tariff : Tariff) (key : FareKey) (on : MonthDay) (n : ℕ) → is_none (first_fault tariff.records) ≡ true → FilesFareOn tariff key on n → fare_number tariff key on ≡ Some n
answered tariff key on n valid files =
    let f = filed_at tariff (IsFareOn key on) n (fare_at tariff n) refl files in
    let passes : is_fare_on key on (filed.Fare f.fare) ≡ true = rw (f.holds.of_key, f.holds.in_season) refl in
    let found = found_by (is_fare_on key on) tariff.records (n - 2) (filed.Fare f.fare) (position (is_fare_on key on) tariff.records) refl f.there passes in
    let same : found.0 ≡ n = one tariff key on found.0 n valid (filed_on tariff key on found.0 found.1) files in
    found.1 ∙ ap Some same
