-- A walk over the fares of a key that ends at a place: how many it has passed, and that none of them overlaps.
use Rattle.std.proofs.Common.{◌≡◌, ℕ, ◌+◌, ◌-◌, ◌<◌, ◌≤◌, Bool, true, false, cond, ◌||◌, List, [], ◌∷◌, take, drop, Option, Some, None, IfSome, is_some, count_by, nat_le, refl, ap, sym, ◌∙◌, arith, zero, suc, get_or, ⊎_elim}
use Rattle.std.specs.List.{position_from}
use Rattle.std.proofs.lemmas.Bool.{cases_lt}
use Rattle.std.proofs.lemmas.Bool.Decides.{nat_tests}
use Rattle.std.proofs.lemmas.Iterator.Adapters.{position_from-zero}
use Rattle.fare_codes.specs.declared.season.Season.{Season}
use Rattle.fare_index.specs.declared.key.Key.{Key}
use Rattle.fare_index.specs.declared.key.Key.TheVariants.{Fares}
use Rattle.fare_records.specs.declared.limits.TheConstants.{MOST_FARES_BETWEEN}
use Rattle.fare_records.specs.declared.record.Record.{Record}
use Rattle.fare_records.specs.declared.fare_key.FareKey.{FareKey}
use Rattle.fare_tariff.specs.declared.look_up.seek.Sought.TheVariants.{Over}
use Rattle.fare_tariff.specs.Lookup.{is_fare_between}
use Rattle.fare_tariff.specs.Check.{is_fare_over}
use Rattle.fare_records.specs.Keyed.{before, own_key, has_own_key}
use Rattle.fare_tariff.specs.Faulty.{clashes}
use Rattle.fare_records.proofs.Chain.{LooksAt, IsKeyed, from_place, keyed_first, from_first, walk_step, walk_some, walk_here, rest_from}
use Rattle.fare_tariff.proofs.FoundByKey.{fare_tells}
use Rattle.fare_tariff.proofs.FoundFares.{count_cons, counted, not_counted}
use Rattle.fare_tariff.proofs.Looks.{sought_looks}
use Rattle.fare_tariff.proofs.Places.{position_before, none_from, stands_before}

-- how many of the records from a place up to another pass
abbrev pub count_to : (Record → Bool) → ℕ → ℕ → List Record → ℕ
count_to test place k xs = count_by test (take (place - k) xs)

-- one record further, which passes or not
count_one : (test : Record → Bool) (place k : ℕ) (x : Record) (xs : List Record) → k < place → count_to test place k (x ∷ xs) ≡ count_by test (x ∷ []) + count_to test place (k + 1) xs
count_one test place k x xs h =
    let one_less : place - k ≡ suc (place - (k + 1)) = omega arith in
    ap (λ n. count_by test (take n (x ∷ xs))) one_less ∙ count_cons test x (take (place - (k + 1)) xs)

-- nothing is counted from the place on
count_none : (test : Record → Bool) (place k : ℕ) (xs : List Record) → place ≤ k → count_to test place k xs ≡ 0
count_none test place k xs h =
    let none : place - k ≡ 0 = omega arith in
    ap (λ n. count_by test (take n xs)) none

count_nil : (test : Record → Bool) (n : ℕ) → count_by test (take n []) ≡ 0
count_nil test zero = refl
count_nil test (suc n) = refl

count_passes : (test : Record → Bool) (place k : ℕ) (x : Record) (xs : List Record) → test x ≡ false → count_to test place k (x ∷ xs) ≡ count_to test place (k + 1) xs
count_passes test place k x xs h = ⊎_elim
    (λ lt. omega (arith, count_one test place k x xs lt, not_counted test x h))
    (λ ge. count_none test place k (x ∷ xs) ge ∙ sym (count_none test place (k + 1) xs (omega (arith, ge))))
    (cases_lt k place)

pub count_looks : (key : FareKey) (place : ℕ) → LooksAt (count_to (is_fare_between key.from key.to key.ind) place) 0 (Fares key.from key.to key.ind)
count_looks key place = record {
  at_end = λ k. count_nil (is_fare_between key.from key.to key.ind) (place - k);
  passes_by = λ k x xs h. count_passes (is_fare_between key.from key.to key.ind) place k x xs (sym (fare_tells key.from key.to key.ind x) ∙ h);
}

-- the walk at a place of the list
pub record IsClear (all : List Record) (place : ℕ) (key : FareKey) (season : Season) (passed : ℕ) (at : Option ℕ) : Type 0 where
  pub few : passed < MOST_FARES_BETWEEN
  pub keyed : IfSome at (IsKeyed (Fares key.from key.to key.ind) all)
  pub none : from_place (position_from (is_fare_over key season)) None (Fares key.from key.to key.ind) all at ≡ position_from (is_fare_over key season) 0 all
  pub count : passed + from_place (count_to (is_fare_between key.from key.to key.ind) place) 0 (Fares key.from key.to key.ind) all at ≡ count_by (is_fare_between key.from key.to key.ind) (take place all)

module _ (all : List Record) (place : ℕ) (key : FareKey) (season : Season) where
  -- the tests of the walk, and the key of its fares
  abbrev over : Record → Bool
  over = is_fare_over key season

  abbrev between : Record → Bool
  between = is_fare_between key.from key.to key.ind

  abbrev fares : Key
  fares = Fares key.from key.to key.ind

  -- the walk begins
  pub clear_first : (first : Option ℕ) → first ≡ position_from (has_own_key fares) 0 all → IsClear all place key season 0 first
  clear_first first is =
      let whole : place - 0 ≡ place = omega arith in
      record {
        few = omega arith;
        keyed = keyed_first fares all first is;
        none = from_first (position_from over) None fares (sought_looks key (Over season)) all first is;
        count = omega (arith, from_first (count_to between place) 0 fares (count_looks key place) all first is, ap (λ n. count_by between (take n all)) whole);
      }

  -- what the answer is, by the first overlap and the count
  answer_is : (o : Option ℕ) (n : ℕ) → position_from over 0 all ≡ o → count_by between (take place all) ≡ n → clashes (take place all) key season ≡ (is_some (before place o) || nat_le MOST_FARES_BETWEEN n)
  answer_is o n first counted_is =
      ap (λ p. is_some p || nat_le MOST_FARES_BETWEEN (count_by between (take place all)))
      (position_before over place all ∙ ap (before place) (position_from-zero over all ∙ first))
      ∙ ap (λ m. is_some (before place o) || nat_le MOST_FARES_BETWEEN m) counted_is

  too_few : (n : ℕ) → n < MOST_FARES_BETWEEN → nat_le MOST_FARES_BETWEEN n ≡ false
  too_few n h = grind (arith, nat_tests)

  enough : (n : ℕ) → MOST_FARES_BETWEEN ≤ n → nat_le MOST_FARES_BETWEEN n ≡ true
  enough n h = grind (arith, nat_tests)

  or_true : (p : Bool) → (p || true) ≡ true
  or_true true = refl
  or_true false = refl

  -- the walk is over
  pub clear_end : (passed : ℕ) (at : Option ℕ) → at ≡ None → IsClear all place key season passed at → false ≡ clashes (take place all) key season
  clear_end passed at over_is clear =
      let first : position_from over 0 all ≡ None = sym clear.none ∙ ap (from_place (position_from over) None fares all) over_is in
      let rest : from_place (count_to between place) 0 fares all at ≡ 0 = ap (from_place (count_to between place) 0 fares all) over_is in
      sym (answer_is None passed first (omega (arith, clear.count, rest)) ∙ too_few passed clear.few)

  -- the walk is at the place or past it
  pub clear_past : (passed : ℕ) (at : Option ℕ) (other : ℕ) → at ≡ Some other → place ≤ other → IsClear all place key season passed at → false ≡ clashes (take place all) key season
  clear_past passed at other is past clear =
      let first : position_from over 0 all ≡ position_from over other (drop other all) = sym clear.none ∙ ap (from_place (position_from over) None fares all) is in
      let rest : from_place (count_to between place) 0 fares all at ≡ 0 = ap (from_place (count_to between place) 0 fares all) is ∙ count_none between place other (drop other all) past in
      sym (answer_is (position_from over other (drop other all)) passed first (omega (arith, clear.count, rest))
      ∙ ap (λ o. is_some o || nat_le MOST_FARES_BETWEEN passed) (none_from over place other (drop other all) _ past refl)
      ∙ too_few passed clear.few)

  -- one fare more is as many as there may be
  pub clear_full : (passed : ℕ) (at : Option ℕ) (other : ℕ) → at ≡ Some other → other < place → MOST_FARES_BETWEEN ≤ passed + 1 → IsClear all place key season passed at → true ≡ clashes (take place all) key season
  clear_full passed at other is within full clear =
      let some = walk_some (count_to between place) 0 fares all at other is clear.keyed in
      let one : count_by between (some.0 ∷ []) ≡ 1 = counted between some.0 (sym (fare_tells key.from key.to key.ind some.0) ∙ some.1) in
      let more = count_one between place other some.0 (drop (other + 1) all) within in
      let n = count_by between (take place all) in
      sym (answer_is (position_from over 0 all) n refl refl
      ∙ ap (λ t. is_some (before place (position_from over 0 all)) || t) (enough n (omega (arith, clear.count, some.2, more, one, full)))
      ∙ or_true (is_some (before place (position_from over 0 all))))

  -- one fare overlaps
  pub clear_over : (passed : ℕ) (at : Option ℕ) (other : ℕ) (one : Record) → at ≡ Some other → other < place → one ≡ get_or all other one → true ≡ over one → IsClear all place key season passed at → true ≡ clashes (take place all) key season
  clear_over passed at other one is within read overlaps clear =
      let here = walk_here (position_from over) None fares all at other one is clear.keyed read in
      let first : position_from over 0 all ≡ Some other = sym clear.none ∙ here ∙ ap (λ t. cond t (Some other) (position_from over (other + 1) (drop (other + 1) all))) (sym overlaps) in
      let n = count_by between (take place all) in
      sym (answer_is (Some other) n first refl ∙ ap (λ o. is_some o || nat_le MOST_FARES_BETWEEN n) (stands_before place other within))

  -- one fare is passed
  pub clear_next : (passed : ℕ) (at next : Option ℕ) (other : ℕ) (one : Record) → at ≡ Some other → other < place → passed < 63 → one ≡ get_or all other one → false ≡ over one → next ≡ position_from (has_own_key (own_key (get_or all other one))) (other + 1) (drop (other + 1) all) → IsClear all place key season passed at → IsClear all place key season (passed + 1) next × (rest_from all next < rest_from all at)
  clear_next passed at next other one is within few read apart found clear =
      let step = walk_step (position_from over) None fares (sought_looks key (Over season)) all at next other one is clear.keyed read found in
      let counts = walk_step (count_to between place) 0 fares (count_looks key place) all at next other one is clear.keyed read found in
      let one_is : count_by between (one ∷ []) ≡ 1 = counted between one (sym (fare_tells key.from key.to key.ind one) ∙ step.has_key) in
      let more = count_one between place other one (drop (other + 1) all) within in (
        record {
          few = omega (arith, few);
          keyed = step.keyed;
          none = step.there ∙ ap (λ t. cond t (Some other) (position_from over (other + 1) (drop (other + 1) all))) apart ∙ sym step.here ∙ clear.none;
          count = omega (arith, clear.count, counts.here, counts.there, more, one_is);
        },
        step.shorter,
      )
