-- Records of the same kind with the same key, before a place.
use Rattle.std.proofs.Common.{◌≡◌, ℕ, ◌+◌, Bool, cond, List, [], ◌∷◌, get_or, take, Option, Some, None, is_some, option_map, position, slice_get, count_by, nat_le, refl, ap, sym, ◌∙◌}
use Rattle.std.specs.List.{position_from}
use Rattle.std.proofs.lemmas.Iterator.Adapters.{position_from-zero}
use Rattle.fare_codes.specs.declared.city.City.{City}
use Rattle.fare_codes.specs.declared.indicator.Indicator.{Indicator}
use Rattle.fare_codes.specs.declared.season.Season.{Season}
use Rattle.fare_index.specs.declared.key.Key.{Key}
use Rattle.fare_index.specs.declared.key.Key.TheVariants as kind
use Rattle.fare_records.specs.declared.limits.TheConstants.{MOST_FARES_BETWEEN}
use Rattle.fare_records.specs.declared.record.Record.{Record}
use Rattle.fare_records.specs.declared.record.Record.TheVariants as filed
use Rattle.fare_records.specs.declared.fare_key.FareKey.{FareKey}
use Rattle.fare_records.specs.Record.{FareRecord}
use Rattle.fare_tariff.specs.Lookup.{is_fare_between, numbers_from, number_at}
use Rattle.fare_tariff.specs.Faulty.{clash_of}
use Rattle.fare_tariff.specs.Check.{first_number, has_key_of, is_fare_over, is_one_too_many, key_of, overlap_of}
use Rattle.fare_records.specs.Keyed.{before, own_key, has_own_key}
use Rattle.fare_tariff.proofs.FoundByKey.{city_tells, currency_tells, rule_tells, mpm_tells, tpm_tells, ema_tells}
use Rattle.fare_tariff.proofs.Places.{position_before, too_many}

-- tests that are the same at each record find the same place
position_from-same : (f g : Record → Bool) → ((one : Record) → f one ≡ g one) → (k : ℕ) (xs : List Record) → position_from f k xs ≡ position_from g k xs
position_from-same f g same k [] = refl
position_from-same f g same k (x ∷ xs) =
    ap (λ t. cond t (Some k) (position_from f (k + 1) xs)) (same x) ∙ ap (cond (g x) (Some k)) (position_from-same f g same (k + 1) xs)

-- a record that is no fare
pub own_tells : (one other : Record) → ((fare : FareRecord) → one ≡ filed.Fare fare → ⊥) → has_own_key (own_key one) other ≡ has_key_of one other
own_tells (filed.City r) other isnt = city_tells r.code other
own_tells (filed.Cur r) other isnt = currency_tells r.country other
own_tells (filed.Rule r) other isnt = rule_tells r.id other
own_tells (filed.Fare r) other isnt = absurd (isnt r refl)
own_tells (filed.Mpm r) other isnt = mpm_tells r.from r.to r.ind other
own_tells (filed.Tpm r) other isnt = tpm_tells r.from r.to other
own_tells (filed.Ema r) other isnt = ema_tells r.from r.to r.ind r.via other

-- it clashes where an earlier record has its key
other_clash : (earlier : List Record) (one : Record) → ((fare : FareRecord) → one ≡ filed.Fare fare → ⊥) → is_some (first_number (has_key_of one) earlier) ≡ clash_of earlier one
other_clash earlier (filed.Fare r) isnt = absurd (isnt r refl)
other_clash earlier one isnt = refl

mapped_some : {A B : Type 0} (f : A → B) (o : Option A) → is_some (option_map f o) ≡ is_some o
mapped_some f None = refl
mapped_some f (Some v) = refl

-- the first record with its own key is the first of its kind with its key
pub first_other : (all : List Record) (one : Record) (own : Key) (first : Option ℕ) → ((fare : FareRecord) → one ≡ filed.Fare fare → ⊥) → own ≡ own_key one → first ≡ position_from (has_own_key own) 0 all → first ≡ position (has_key_of one) all
first_other all one own first isnt is found =
    found ∙ ap (λ k. position_from (has_own_key k) 0 all) is
    ∙ position_from-same (has_own_key (own_key one)) (has_key_of one) (λ other. own_tells one other isnt) 0 all
    ∙ sym (position_from-zero (has_key_of one) all)

-- the first record with the key of a fare at a place
pub first_fares : (all : List Record) (place : ℕ) (one : Record) (r : FareRecord) (key : FareKey) (first : Option ℕ) → one ≡ get_or all place one → one ≡ filed.Fare r → key ≡ key_of r → ((d : Record) → first ≡ position_from (has_own_key (own_key (get_or all place d))) 0 all) → first ≡ position_from (has_own_key (kind.Fares key.from key.to key.ind)) 0 all
first_fares all place one r key first read is key_is found =
    found one
    ∙ ap (λ o. position_from (has_own_key (own_key o)) 0 all) (sym read ∙ is)
    ∙ ap (λ (k : FareKey). position_from (has_own_key (kind.Fares k.from k.to k.ind)) 0 all) (sym key_is)

-- a record that is no fare clashes where the first record with its key stands before it
pub clash_other : (all : List Record) (place : ℕ) (one : Record) (first found : Option ℕ) (some : Bool) → ((fare : FareRecord) → one ≡ filed.Fare fare → ⊥) → one ≡ get_or all place one → ((d : Record) → first ≡ position_from (has_own_key (own_key (get_or all place d))) 0 all) → found ≡ before place first → some ≡ is_some found → some ≡ clash_of (take place all) one
clash_other all place one first found some isnt read at cut tells =
    tells
    ∙ ap is_some (cut ∙ ap (before place) (first_other all one (own_key (get_or all place one)) first isnt (ap own_key (sym read)) (at one)) ∙ sym (position_before (has_key_of one) place all))
    ∙ sym (mapped_some number_at (position (has_key_of one) (take place all)))
    ∙ other_clash (take place all) one isnt

-- the first overlap of a fare
pub first_over : (all : List Record) (place : ℕ) (one : Record) (r : FareRecord) (key : FareKey) (season : Season) (found first number : Option ℕ) → one ≡ filed.Fare r → key ≡ key_of r → season ≡ r.season → found ≡ position (is_fare_over key season) all → first ≡ before place found → number ≡ option_map number_at first → number ≡ overlap_of (take place all) one
first_over all place one r key season found first number is key_is season_is at cut numbered =
    numbered
    ∙ ap (option_map number_at) (cut ∙ ap (before place) at ∙ sym (position_before (is_fare_over key season) place all))
    ∙ (λ i. option_map number_at (position (is_fare_over (key_is i) (season_is i)) (take place all)))
    ∙ ap (overlap_of (take place all)) (sym is)

-- as many fares as there may be stand before a place
pub one_too_many : (all : List Record) (place : ℕ) (one : Record) (r : FareRecord) (from to : City) (ind : Indicator) (found first : Option ℕ) (many : Bool) → one ≡ filed.Fare r → from ≡ r.from → to ≡ r.to → ind ≡ r.ind → found ≡ slice_get (numbers_from (is_fare_between from to ind) 0 all) 63 → first ≡ before place found → many ≡ is_some first → many ≡ is_one_too_many (take place all) one
one_too_many all place one r from to ind found first many is from_is to_is ind_is at cut tells =
    tells
    ∙ ap is_some (cut ∙ ap (before place) at)
    ∙ sym (too_many (is_fare_between from to ind) 63 place all)
    ∙ (λ i. nat_le MOST_FARES_BETWEEN (count_by (is_fare_between (from_is i) (to_is i) (ind_is i)) (take place all)))
    ∙ ap (is_one_too_many (take place all)) (sym is)
