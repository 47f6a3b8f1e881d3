-- When a record has a kind.
use Rattle.std.proofs.Common.{◌≡◌, ℕ, ◌+◌, ◌<◌, ◌≤◌, Bool, true, false, cond, ◌||◌, List, [], ◌∷◌, length, get_or, take, Option, Some, None, is_some, option_map, position, bytes_eq, refl, ap, sym, ◌∙◌, arith, length-take-le}
use Rattle.std.specs.List.{position_from}
use Rattle.std.specs.Option.{option_or}
use Rattle.std.proofs.lemmas.Bool.{le-ltb}
use Rattle.std.proofs.lemmas.Iterator.Adapters.{position_from-zero}
use Rattle.fare_codes.specs.declared.season.Season.{Season}
use Rattle.fare_codes.specs.Same.{same_season}
use Rattle.fare_codes.specs.Season.{season_holds}
use Rattle.fare_records.specs.declared.limits.TheConstants.{MOST_RECORDS}
use Rattle.fare_records.specs.declared.record.Record.{Record}
use Rattle.fare_records.specs.declared.record.Record.TheVariants as filed
use Rattle.fare_records.specs.declared.fare_key.FareKey.{FareKey}
use Rattle.fare_tariff.specs.declared.check.check_kind.CheckKind.{CheckKind}
use Rattle.fare_records.specs.Record.{FareRecord}
use Rattle.fare_tariff.specs.Check.{kind_of, kind_where, key_of, has_key_of, is_fare_of, is_fare_over, first_number, overlap_of, names_unknown_city, names_unknown_rule, names_unknown_currency, is_one_too_many, has_same_points, is_zero_mileage, is_out_of_limit, is_one_unknown, is_unknown_rule}
use Rattle.fare_records.specs.Seasons.{seasons_overlap}
use Rattle.fare_tariff.specs.Lookup.{number_at, has_key}
use Rattle.fare_tariff.specs.Faulty.{clashes, clash_of, has_kind_at, is_faulty}
use Rattle.fare_tariff.proofs.Found.{bytes_eq-true}
use Rattle.fare_tariff.proofs.FoundFares.{and_true}
use Rattle.fare_records.proofs.SharedDays.{holds_first}
use Rattle.fare_tariff.proofs.FaultPlaces.{kind_at}

-- whether one of two is there
either_some : {A : Type 0} (a b : Option A) → is_some (option_or a b) ≡ (is_some a || is_some b)
either_some None b = refl
either_some (Some v) b = refl

mapped_some : {A B : Type 0} (f : A → B) (o : Option A) → is_some (option_map f o) ≡ is_some o
mapped_some f None = refl
mapped_some f (Some v) = refl

where_some : (test : Bool) (kind : CheckKind) → is_some (kind_where test kind) ≡ test
where_some true kind = refl
where_some false kind = refl

-- a kind is there where one of the tests is true
one_of_kinds : (all earlier : List Record) (one : Record) → is_some (kind_of all earlier one) ≡ (is_some (first_number (has_key_of one) earlier) || (names_unknown_city all one || (names_unknown_rule all one || (names_unknown_currency all one || (is_one_too_many earlier one || (has_same_points one || (is_zero_mileage one || (is_out_of_limit earlier || is_some (overlap_of earlier one)))))))))
unfolding kind_of
one_of_kinds all earlier one = simp (either_some, mapped_some, where_some)

-- the same season overlaps
same_overlaps : (a b : Season) → same_season a b ≡ true → seasons_overlap a b ≡ true
same_overlaps a b h =
    let p = and_true (bytes_eq a.first b.first) (bytes_eq a.last b.last) h in
    let holds : season_holds a b.first ≡ true = ap (season_holds a) (sym (bytes_eq-true a.first b.first p.0)) ∙ holds_first a in
    rw holds refl

same_key_overlaps : (key : FareKey) (season : Season) (one : Record) → is_fare_of key season one ≡ true → is_fare_over key season one ≡ true
same_key_overlaps key season (filed.Fare r) h =
    let p = and_true (has_key key r) (same_season r.season season) h in
    rw (p.0, same_overlaps r.season season p.1) refl
same_key_overlaps key season _ h = cc

-- what is found by a test is found by a weaker one
found_by_weaker : (f g : Record → Bool) → ((one : Record) → f one ≡ true → g one ≡ true) → (k : ℕ) (xs : List Record) → is_some (position_from f k xs) ≡ true → is_some (position_from g k xs) ≡ true
found_by_weaker f g weaker k [] h = cc
found_by_weaker f g weaker k (x ∷ xs) h = go (f x) (g x) refl refl h (found_by_weaker f g weaker (k + 1) xs)
  where
    go : (s t : Bool) → f x ≡ s → g x ≡ t → is_some (cond s (Some k) (position_from f (k + 1) xs)) ≡ true → (is_some (position_from f (k + 1) xs) ≡ true → is_some (position_from g (k + 1) xs) ≡ true) → is_some (cond t (Some k) (position_from g (k + 1) xs)) ≡ true
    go s true p q h further = refl
    go true false p q h further = cc (weaker x p)
    go false false p q h further = further h

duplicate_overlaps : (earlier : List Record) (r : FareRecord) → is_some (position (is_fare_of (key_of r) r.season) earlier) ≡ true → is_some (position (is_fare_over (key_of r) r.season) earlier) ≡ true
duplicate_overlaps earlier r h =
    ap is_some (position_from-zero (is_fare_over (key_of r) r.season) earlier)
    ∙ found_by_weaker _ _ (same_key_overlaps (key_of r) r.season) 0 earlier (sym (ap is_some (position_from-zero (is_fare_of (key_of r) r.season) earlier)) ∙ h)

-- the tests of a fare in another order
of_fare : (dup over many city rule points : Bool) → (dup ≡ true → over ≡ true) → (dup || (city || (rule || (false || (many || (points || (false || (false || over)))))))) ≡ (over || many) || ((city || (rule || false)) || (points || false))
of_fare true over many city rule points h =
    let o = h refl in
    rw o refl
of_fare false true many true rule points h = refl
of_fare false true many false true points h = refl
of_fare false true true false false points h = refl
of_fare false true false false false true h = refl
of_fare false true false false false false h = refl
of_fare false false true true rule points h = refl
of_fare false false true false true points h = refl
of_fare false false true false false points h = refl
of_fare false false false true rule points h = refl
of_fare false false false false true points h = refl
of_fare false false false false false true h = refl
of_fare false false false false false false h = refl

-- and those of any other record
of_other : (dup city rule currency points zero : Bool) → (dup || (city || (rule || (currency || (false || (points || (zero || (false || false)))))))) ≡ dup || ((city || (rule || currency)) || (points || zero))
of_other true city rule currency points zero = refl
of_other false true rule currency points zero = refl
of_other false false true currency points zero = refl
of_other false false false true points zero = refl
of_other false false false false true zero = refl
of_other false false false false false true = refl
of_other false false false false false false = refl

in_limit : (place : ℕ) (all : List Record) → place ≤ length all → place < MOST_RECORDS → is_out_of_limit (take place all) ≡ false
in_limit place all within limit =
    let front : length (take place all) ≡ place = length-take-le place all within in
    le-ltb (MOST_RECORDS + 1) (length (take place all) + 2) (omega (arith, front, limit))

-- the kinds of a record in the limit, with the tests in the order in which they are asked
in_order : (all earlier : List Record) (one : Record) → is_out_of_limit earlier ≡ false → is_some (kind_of all earlier one) ≡ is_faulty all earlier one
in_order all e (filed.Fare r) limit =
    one_of_kinds all e (filed.Fare r)
    ∙ (λ i. mapped_some number_at (position (is_fare_of (key_of r) r.season) e) i || (is_one_unknown all r.from r.to None || (is_unknown_rule all r.rule || (false || (is_one_too_many e (filed.Fare r) || (bytes_eq r.from r.to || (false || (limit i || mapped_some number_at (position (is_fare_over (key_of r) r.season) e) i))))))))
    ∙ of_fare (is_some (position (is_fare_of (key_of r) r.season) e)) (is_some (position (is_fare_over (key_of r) r.season) e)) (is_one_too_many e (filed.Fare r)) (is_one_unknown all r.from r.to None) (is_unknown_rule all r.rule) (bytes_eq r.from r.to) (duplicate_overlaps e r)
in_order all e one limit =
    one_of_kinds all e one
    ∙ ap (λ t. is_some (first_number (has_key_of one) e) || (names_unknown_city all one || (names_unknown_rule all one || (names_unknown_currency all one || (false || (has_same_points one || (is_zero_mileage one || (t || false)))))))) limit
    ∙ of_other (is_some (first_number (has_key_of one) e)) (names_unknown_city all one) (names_unknown_rule all one) (names_unknown_currency all one) (has_same_points one) (is_zero_mileage one)

-- a record at a place in the limit has a kind where one of the tests is true
pub kind_tells : (all : List Record) (place : ℕ) (one : Record) → place < length all → place < MOST_RECORDS → one ≡ get_or all place one → has_kind_at all place ≡ is_faulty all (take place all) one
kind_tells all place one within limit read =
    kind_at all place one within read ∙ in_order all (take place all) one (in_limit place all (omega (arith, within)) limit)

-- a fare clashes by its own key and season
pub clash_fare : (earlier : List Record) (one : Record) (r : FareRecord) (key : FareKey) (season : Season) (clash : Bool) → one ≡ filed.Fare r → key ≡ key_of r → season ≡ r.season → clash ≡ clashes earlier key season → clash ≡ clash_of earlier one
clash_fare earlier one r key season clash is key_is season_is at =
    at ∙ (λ i. clashes earlier (key_is i) (season_is i)) ∙ ap (clash_of earlier) (sym is)
