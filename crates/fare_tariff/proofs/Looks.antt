-- What the walks from place to place of a key look for.
use Rattle.std.proofs.Common.{◌≡◌, ℕ, ◌+◌, Bool, true, false, cond, ◌&&◌, ◌||◌, List, [], ◌∷◌, ◌++◌, Option, Some, None, max, bytes_eq, refl, ap, sym, ◌∙◌, arith}
use Rattle.std.specs.List.{position_from, list_any}
use Rattle.std.proofs.lemmas.List.Folds.{list_any-append}
use Rattle.fare_codes.specs.declared.city.City.{City}
use Rattle.fare_codes.specs.declared.indicator.Indicator.{Indicator}
use Rattle.fare_codes.specs.Same.{same_indicator}
use Rattle.fare_index.specs.declared.key.Key.{Key}
use Rattle.fare_index.specs.declared.key.Key.TheVariants as kind
use Rattle.fare_index.specs.Pairs.{extra_key}
use Rattle.fare_records.specs.declared.record.Record.{Record}
use Rattle.fare_records.specs.declared.record.Record.TheVariants as filed
use Rattle.fare_records.specs.declared.fare_key.FareKey.{FareKey}
use Rattle.fare_tariff.specs.declared.look_up.seek.Sought.{Sought}
use Rattle.fare_tariff.specs.declared.look_up.seek.Sought.TheVariants.{On, Of, Over}
use Rattle.fare_tariff.specs.Lookup.{greatest, numbers_from, is_fare_between, is_by_way_of, allowance_in}
use Rattle.fare_records.specs.Fields.{same_pair, same_via}
use Rattle.fare_records.specs.Keyed.{has_own_key, extra_miles}
use Rattle.fare_tariff.specs.Sought.{is_sought}
use Rattle.fare_records.proofs.Chain.{LooksAt}
use Rattle.fare_tariff.proofs.FoundByKey.{fare_tells, ema_tells}

-- a record that is no fare between a key's cities for its indicator isn't sought
pub sought_apart : (key : FareKey) (sought : Sought) (one : Record) → is_fare_between key.from key.to key.ind one ≡ false → is_sought key sought one ≡ false
sought_apart key (On day) (filed.Fare r) h = rw h refl
sought_apart key (Of season) (filed.Fare r) h = rw h refl
sought_apart key (Over season) (filed.Fare r) h = rw h refl
sought_apart key (On day) _ h = refl
sought_apart key (Of season) _ h = refl
sought_apart key (Over season) _ h = refl

pub sought_looks : (key : FareKey) (sought : Sought) → LooksAt (position_from (is_sought key sought)) None (kind.Fares key.from key.to key.ind)
sought_looks key sought = record {
  at_end = λ k. refl;
  passes_by = λ k x xs h. ap (λ t. cond t (Some k) (position_from (is_sought key sought) (k + 1) xs))
      (sought_apart key sought x (sym (fare_tells key.from key.to key.ind x) ∙ h));
}

pub between_looks : (from to : City) (ind : Indicator) → LooksAt (numbers_from (is_fare_between from to ind)) [] (kind.Fares from to ind)
between_looks from to ind = record {
  at_end = λ k. refl;
  passes_by = λ k x xs h. ap (λ t. cond t (k ∷ numbers_from (is_fare_between from to ind) (k + 1) xs) (numbers_from (is_fare_between from to ind) (k + 1) xs))
      (sym (fare_tells from to ind x) ∙ h);
}

-- a record without the key allows nothing by it
extra_apart : (key : Key) (one : Record) → has_own_key key one ≡ false → extra_miles key one ≡ 0
extra_apart key (filed.Ema r) h = rw h refl
extra_apart key _ h = refl

pub extra_looks : (key : Key) → LooksAt (λ k xs. greatest (extra_miles key) xs) 0 key
extra_looks key = record {
  at_end = λ k. refl;
  passes_by = λ k x xs h. omega (arith, extra_apart key x h);
}

-- a greatest number of greater ones is the greater of two greatest
greatest_max : (f g h : Record → ℕ) → ((one : Record) → h one ≡ max (f one) (g one)) → (all : List Record) → greatest h all ≡ max (greatest f all) (greatest g all)
greatest_max f g h each [] = refl
greatest_max f g h each (x ∷ xs) = omega (arith, each x, greatest_max f g h each xs)

greatest_same : (f h : Record → ℕ) → ((one : Record) → h one ≡ f one) → (all : List Record) → greatest h all ≡ greatest f all
greatest_same f h each [] = refl
greatest_same f h each (x ∷ xs) = omega (arith, each x, greatest_same f h each xs)

-- by no cities, only the allowances for every way count
no_cities : (a b : City) (ind : Indicator) (one : Record) → extra_miles (extra_key a b ind None) one ≡ allowance_in a b ind [] one
no_cities a b ind (filed.Ema r) = ap (λ t. cond t r.miles 0) (ema_tells a b ind None (filed.Ema r) ∙ ap (λ t. same_pair r.from r.to a b && same_indicator r.ind ind && t) (every_way r.via))
  where
    every_way : (via : Option City) → same_via via None ≡ is_by_way_of [] via
    every_way None = refl
    every_way (Some via) = refl
no_cities a b ind _ = refl

pub greatest_no_cities : (a b : City) (ind : Indicator) (all : List Record) → greatest (extra_miles (extra_key a b ind None)) all ≡ greatest (allowance_in a b ind []) all
greatest_no_cities a b ind all = greatest_same (allowance_in a b ind []) (extra_miles (extra_key a b ind None)) (no_cities a b ind) all

-- of two tests one at least is true where a number is given by one of them
either_way : (p q r : Bool) (miles : ℕ) → cond (p && (q || r)) miles 0 ≡ max (cond (p && q) miles 0) (cond (p && r) miles 0)
either_way true true true miles = omega arith
either_way true true false miles = omega arith
either_way true false true miles = omega arith
either_way true false false miles = refl
either_way false q r miles = refl

or_false : (p : Bool) → (p || false) ≡ p
or_false true = refl
or_false false = refl

-- a via field is one of some cities and one more
by_one_more : (cities : List City) (city : City) (via : Option City) → is_by_way_of (cities ++ city ∷ []) via ≡ (is_by_way_of cities via || same_via via (Some city))
by_one_more cities city None = refl
by_one_more cities city (Some via) = list_any-append (bytes_eq via) cities (city ∷ []) ∙ ap (λ t. list_any (bytes_eq via) cities || t) (or_false (bytes_eq via city))

one_city_more : (a b : City) (ind : Indicator) (cities : List City) (city : City) (one : Record) → allowance_in a b ind (cities ++ city ∷ []) one ≡ max (allowance_in a b ind cities one) (extra_miles (extra_key a b ind (Some city)) one)
one_city_more a b ind cities city (filed.Ema r) =
    ap (λ t. cond (same_pair r.from r.to a b && same_indicator r.ind ind && t) r.miles 0) (by_one_more cities city r.via)
    ∙ either_way (same_pair r.from r.to a b && same_indicator r.ind ind) (is_by_way_of cities r.via) (same_via r.via (Some city)) r.miles
    ∙ ap (λ t. max (cond (same_pair r.from r.to a b && same_indicator r.ind ind && is_by_way_of cities r.via) r.miles 0) (cond t r.miles 0)) (sym (ema_tells a b ind (Some city) (filed.Ema r)))
one_city_more a b ind cities city _ = refl

pub greatest_one_more : (a b : City) (ind : Indicator) (cities : List City) (city : City) (all : List Record) → greatest (allowance_in a b ind (cities ++ city ∷ [])) all ≡ max (greatest (allowance_in a b ind cities) all) (greatest (extra_miles (extra_key a b ind (Some city))) all)
greatest_one_more a b ind cities city all =
    greatest_max (allowance_in a b ind cities) (extra_miles (extra_key a b ind (Some city))) (allowance_in a b ind (cities ++ city ∷ [])) (one_city_more a b ind cities city) all
