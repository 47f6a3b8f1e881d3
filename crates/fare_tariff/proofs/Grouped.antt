-- A walk over the records of a group: none of those that it has passed has a kind, and their buckets are noted.
use Rattle.std.proofs.Common.{◌≡◌, ℕ, ◌+◌, ◌-◌, ◌<◌, ◌≤◌, ◌==◌, Bool, true, false, cond, ltb, ◌&&◌, ◌||◌, List, [], ◌∷◌, length, map, take, drop, get_or, set, Option, Some, None, IfSome, is_some, option_map, position, count_by, nat_le, nat_lt, refl, ap, subst, sym, ◌∙◌, arith, zero, suc, ⊎_elim}
use Rattle.std.specs.Prelude.{not}
use Rattle.std.specs.List.{position_from}
use Rattle.std.proofs.lemmas.Bool.{cases_eq, cases_lt, eqb-true, false≢true, lt-ltb, le-ltb}
use Rattle.std.proofs.lemmas.Bool.Decides.{nat_tests}
use Rattle.std.proofs.lemmas.Iterator.Adapters.{position_from-zero}
use Rattle.std.proofs.lemmas.List.{at_drop_more, drop-drop, drop-map, get_or-drop, get_or_default, get_or-set_same, get_or-set_other, length-drop, length-set}
use Rattle.std.proofs.lemmas.List.Sums.{sum_by-take-drop}
use Rattle.fare_index.specs.declared.key.Key.{Key}
use Rattle.fare_index.specs.declared.key.Key.TheVariants.{Fares}
use Rattle.fare_index.specs.Groups.{Grouped, group_of, is_in_group}
use Rattle.fare_index.specs.SameKeys.{same_key-true}
use Rattle.fare_records.specs.declared.fare_key.FareKey.{FareKey}
use Rattle.fare_records.specs.declared.limits.TheConstants.{MOST_FARES_BETWEEN, MOST_RECORDS}
use Rattle.fare_records.specs.declared.record.Record.{Record}
use Rattle.fare_records.specs.declared.record.Record.TheVariants as filed
use Rattle.fare_records.specs.Keyed.{own_key, has_own_key}
use Rattle.fare_records.specs.Record.{FareRecord}
use Rattle.fare_records.specs.Seasons.{seasons_overlap}
use Rattle.fare_index.proofs.Items.{key_at_place, position_by}
use Rattle.fare_tariff.specs.declared.check.seen.Seen.{Seen}
use Rattle.fare_tariff.specs.declared.look_up.seek.Sought.TheVariants.{Over}
use Rattle.fare_tariff.specs.Check.{first_number, has_key_of, has_same_points, is_fare_over, is_zero_mileage, key_of}
use Rattle.fare_tariff.specs.Faulty.{clash_of, has_kind_at, is_of, is_suspect, names_unknown, IsClear}
use Rattle.fare_tariff.specs.Lookup.{has_key, is_fare_between, number_at}
use Rattle.fare_tariff.specs.Seen.{bucket_of, bucket_of_key, bucket_of_record, marked, may_clash, may_clash_some, none_seen, noted}
use Rattle.fare_tariff.proofs.Buckets.{one_bucket, small}
use Rattle.fare_tariff.proofs.FoundByKey.{fare_tells}
use Rattle.fare_tariff.proofs.FoundFares.{and_true, count_cons, counted, not_counted}
use Rattle.fare_tariff.proofs.KindTests.{kind_tells}
use Rattle.fare_tariff.proofs.Looks.{sought_apart}
use Rattle.fare_tariff.proofs.OneFare.{own_key as key_of_fare}
use Rattle.fare_tariff.proofs.SameKind.{own_tells}

module _ (test : Record → Bool) where
  -- what is known of the next place that passes, of the rest of a list from a place on
  record IsNext (k : ℕ) (xs : List Record) (place : ℕ) : Type 0 where
    pub behind : k ≤ place
    pub within : place < k + length xs
    pub passes : (d : Record) → test (get_or xs (place - k) d) ≡ true
    pub apart : (q : ℕ) (d : Record) → k ≤ q → q < place → test (get_or xs (q - k) d) ≡ false
    pub rest : count_by test xs ≡ count_by test (drop (place - k) xs)

  next_place : (k : ℕ) (xs : List Record) (place : ℕ) → position_from test k xs ≡ Some place → IsNext k xs place
  next_place k [] place h = cc
  next_place k (x ∷ xs) place h = go (test x) refl h (next_place (k + 1) xs place)
    where
      go : (t : Bool) → test x ≡ t → cond t (Some k) (position_from test (k + 1) xs) ≡ Some place → (position_from test (k + 1) xs ≡ Some place → IsNext (k + 1) xs place) → IsNext k (x ∷ xs) place
      go true passes here further =
          let same : k ≡ place = cc in
          let none : place - k ≡ 0 = omega (arith, same) in
          record {
            behind = omega (arith, same);
            within = omega (arith, same);
            passes = λ d. ap (λ i. test (get_or (x ∷ xs) i d)) none ∙ passes;
            apart = λ q d low high. absurd (omega (arith, same, low, high));
            rest = ap (λ i. count_by test (drop i (x ∷ xs))) (sym none);
          }
      go false fails later further =
          let there = further later in
          let one_less : place - k ≡ suc (place - (k + 1)) = omega (arith, there.behind) in
          record {
            behind = omega (arith, there.behind);
            within = omega (arith, there.within);
            passes = λ d. ap (λ i. test (get_or (x ∷ xs) i d)) one_less ∙ there.passes d;
            apart = λ q d low high. ⊎_elim
                (λ lt.
                let less : q - k ≡ suc (q - (k + 1)) = omega (arith, lt) in
                ap (λ i. test (get_or (x ∷ xs) i d)) less ∙ there.apart q d (omega (arith, lt)) high)
                (λ ge.
                let none : q - k ≡ 0 = omega (arith, ge) in
                ap (λ i. test (get_or (x ∷ xs) i d)) none ∙ fails)
                (cases_lt k q);
            rest =
                let here : count_by test (x ∷ xs) ≡ count_by test xs = omega (arith, count_cons test x xs, not_counted test x fails) in
                here ∙ there.rest ∙ ap (λ i. count_by test (drop i (x ∷ xs))) (sym one_less);
          }

  -- where none passes each fails
  none_left : (k : ℕ) (xs : List Record) → position_from test k xs ≡ None → (i : ℕ) (d : Record) → i < length xs → test (get_or xs i d) ≡ false
  none_left k [] h i d within = absurd (omega (arith, within))
  none_left k (x ∷ xs) h i d within = go (test x) refl h i within (none_left (k + 1) xs)
    where
      go : (t : Bool) → test x ≡ t → cond t (Some k) (position_from test (k + 1) xs) ≡ None → (i : ℕ) → i < length (x ∷ xs) → (position_from test (k + 1) xs ≡ None → (i : ℕ) (d : Record) → i < length xs → test (get_or xs i d) ≡ false) → test (get_or (x ∷ xs) i d) ≡ false
      go true passes here i low further = cc
      go false fails none zero low further = fails
      go false fails none (suc i) low further = further none i d (omega (arith, low))

  -- where each before a place fails none of them passes
  none_before : (from place : ℕ) (xs : List Record) → ((q : ℕ) (d : Record) → q < place → q < length xs → test (get_or xs q d) ≡ false) → position_from test from (take place xs) ≡ None
  none_before from zero xs each = refl
  none_before from (suc place) [] each = refl
  none_before from (suc place) (x ∷ xs) each =
      ap (λ t. cond t (Some from) (position_from test (from + 1) (take place xs))) (each 0 x (omega arith) (omega arith))
      ∙ none_before (from + 1) place xs (λ q d low within. each (suc q) d (omega (arith, low)) (omega (arith, within)))

  -- where none is counted none passes
  none_counted : (from : ℕ) (xs : List Record) → count_by test xs ≡ 0 → position_from test from xs ≡ None
  none_counted from [] h = refl
  none_counted from (x ∷ xs) h = go (test x) refl (none_counted (from + 1) xs (omega (arith, h, count_cons test x xs)))
    where
      go : (t : Bool) → test x ≡ t → position_from test (from + 1) xs ≡ None → cond t (Some from) (position_from test (from + 1) xs) ≡ None
      go true passes further = absurd (omega (arith, h, count_cons test x xs, counted test x passes))
      go false fails further = further

-- a stronger test counts no more
fewer : (f g : Record → Bool) → ((x : Record) → f x ≡ true → g x ≡ true) → (xs : List Record) → count_by f xs ≤ count_by g xs
fewer f g weaker [] = omega arith
fewer f g weaker (x ∷ xs) = go (f x) refl (fewer f g weaker xs)
  where
    go : (t : Bool) → f x ≡ t → count_by f xs ≤ count_by g xs → count_by f (x ∷ xs) ≤ count_by g (x ∷ xs)
    go true passes further = omega (arith, further, count_cons f x xs, count_cons g x xs, counted f x passes, counted g x (weaker x passes))
    go false fails further = omega (arith, further, count_cons f x xs, count_cons g x xs, not_counted f x fails)

-- neither of two
neither : (p q : Bool) → false ≡ (p || q) → (p ≡ false) × (q ≡ false)
neither true q h = absurd (false≢true h)
neither false q h = (refl, sym h)

marked_long : (buckets : List Bool) (one : Record) → length buckets ≡ 61 → length (marked buckets one) ≡ 61
marked_long buckets one long = length-set buckets (bucket_of_record one) true ∙ long

-- a bucket that is marked stays so
still_marked : (buckets : List Bool) (one : Record) (i : ℕ) → length buckets ≡ 61 → get_or buckets i false ≡ true → get_or (marked buckets one) i false ≡ true
still_marked buckets one i long h = ⊎_elim
    (λ same. ap (λ k. get_or (set buckets (bucket_of_record one) true) k false) same ∙ get_or-set_same buckets (bucket_of_record one) true false (omega (arith, small one, long)))
    (λ other. get_or-set_other buckets (bucket_of_record one) i true false other ∙ h)
    (cases_eq i (bucket_of_record one))

own_marked : (buckets : List Bool) (one : Record) → length buckets ≡ 61 → get_or (marked buckets one) (bucket_of_record one) false ≡ true
own_marked buckets one long = get_or-set_same buckets (bucket_of_record one) true false (omega (arith, small one, long))

-- one more below the limit is one more
one_noted : (n : ℕ) → cond (ltb n MOST_FARES_BETWEEN) (n + 1) n < MOST_FARES_BETWEEN → (n < MOST_FARES_BETWEEN) × (cond (ltb n MOST_FARES_BETWEEN) (n + 1) n ≡ n + 1)
one_noted n h = ⊎_elim
    (λ lt. (lt, ap (λ t. cond t (n + 1) n) (lt-ltb n MOST_FARES_BETWEEN lt)))
    (λ ge. absurd (omega (arith, h, ge, ap (λ t. cond t (n + 1) n) (le-ltb n MOST_FARES_BETWEEN ge))))
    (cases_lt n MOST_FARES_BETWEEN)

below : (n : ℕ) → nat_le MOST_FARES_BETWEEN n ≡ false → n < MOST_FARES_BETWEEN
below n h = grind (arith, nat_tests, h)

too_few : (n : ℕ) → n < MOST_FARES_BETWEEN → nat_le MOST_FARES_BETWEEN n ≡ false
too_few n h = grind (arith, nat_tests)

none_passed : (n : ℕ) → nat_lt 0 n ≡ false → n ≡ 0
none_passed n h = grind (arith, nat_tests, h)

-- a fare that overlaps another's season and has its key is of its market
over_own : (r : FareRecord) (x : Record) → is_fare_over (key_of r) r.season x ≡ true → has_own_key (Fares r.from r.to r.ind) x ≡ true
over_own r x h = go (is_fare_between r.from r.to r.ind x) refl
  where
    go : (t : Bool) → is_fare_between r.from r.to r.ind x ≡ t → has_own_key (Fares r.from r.to r.ind) x ≡ true
    go true between = fare_tells r.from r.to r.ind x ∙ between
    go false between = absurd (false≢true (sym (sought_apart (key_of r) (Over r.season) x between) ∙ h))

module _ (all : List Record) (grouped : Grouped) (key : Key) where
  -- records with one key are of one group
  alike : (x y : Record) → own_key x ≡ own_key y → is_of grouped key y ≡ true → is_of grouped key x ≡ true
  alike x y same h = ap (λ k. group_of grouped k == group_of grouped key) same ∙ h

  -- the walk at a place of the list: what it has passed has no kind, is in its buckets, and is counted
  pub record IsWalked (seen : Seen) (at : Option ℕ) : Type 0 where
    pub start : ℕ
    pub start_within : start ≤ length all
    pub next : at ≡ position_from (is_of grouped key) start (drop start all)
    pub clear : (q : ℕ) (d : Record) → q < start → is_of grouped key (get_or all q d) ≡ true → has_kind_at all q ≡ false
    pub long : length seen.buckets ≡ 61
    pub marks : (q : ℕ) (d : Record) → q < start → is_of grouped key (get_or all q d) ≡ true → get_or seen.buckets (bucket_of_record (get_or all q d)) false ≡ true
    pub counts : seen.count < MOST_FARES_BETWEEN → seen.count + count_by (is_of grouped key) (drop start all) ≡ count_by (is_of grouped key) all

  -- the walk begins
  pub walk_first : (seen : Seen) (first : ℕ) → seen ≡ none_seen → position_from (is_of grouped key) 0 all ≡ Some first → IsWalked seen (Some first)
  walk_first seen first is found = rw is (record {
    start = 0;
    start_within = omega arith;
    next = sym found;
    clear = λ q d low of_group. absurd (omega (arith, low));
    long = refl;
    marks = λ q d low of_group. absurd (omega (arith, low));
    counts = λ few. omega arith;
  })

  -- the walk is over
  pub walk_over : (seen : Seen) (at : Option ℕ) → at ≡ None → IsWalked seen at → IsClear all grouped key
  walk_over seen at over walked place d within of_group = ⊎_elim
      (λ lt. walked.clear place d lt of_group)
      (λ ge.
      let whole : walked.start + (place - walked.start) ≡ place = omega (arith, ge) in
      let left : test (get_or (drop walked.start all) (place - walked.start) d) ≡ false =
      none_left test walked.start (drop walked.start all) (sym walked.next ∙ over) (place - walked.start) d (omega (arith, within, ge, length-drop walked.start all)) in
      absurd (false≢true (sym (ap test (sym (get_or-drop walked.start all (place - walked.start) d ∙ ap (λ i. get_or all i d) whole)) ∙ left) ∙ of_group)))
      (cases_lt place walked.start)
    where
      test : Record → Bool
      test = is_of grouped key

  -- what is known at a place of the group
  pub record IsAt (start place : ℕ) : Type 0 where
    pub within : place < length all
    pub of_group : (d : Record) → is_of grouped key (get_or all place d) ≡ true
    pub apart : (q : ℕ) (d : Record) → start ≤ q → q < place → is_of grouped key (get_or all q d) ≡ false
    pub behind : start ≤ place
    pub rest : count_by (is_of grouped key) (drop start all) ≡ count_by (is_of grouped key) (drop place all)

  pub walk_at : (seen : Seen) (at : Option ℕ) (place : ℕ) → at ≡ Some place → (walked : IsWalked seen at) → IsAt walked.start place
  walk_at seen at place is walked =
      let k = walked.start in
      let there = next_place (is_of grouped key) walked.start (drop walked.start all) place (sym walked.next ∙ is) in
      let whole : walked.start + (place - walked.start) ≡ place = omega (arith, there.behind) in
      record {
        within = omega (arith, there.within, length-drop walked.start all, walked.start_within);
        of_group = λ d. ap (is_of grouped key) (sym (get_or-drop walked.start all (place - walked.start) d ∙ ap (λ i. get_or all i d) whole)) ∙ there.passes d;
        apart = λ q d low high.
            let back : walked.start + (q - walked.start) ≡ q = omega (arith, low) in
            ap (is_of grouped key) (sym (get_or-drop walked.start all (q - walked.start) d ∙ ap (λ i. get_or all i d) back)) ∙ there.apart q d low high;
        behind = there.behind;
        rest = there.rest ∙ ap (count_by (is_of grouped key)) (drop-drop (place - walked.start) walked.start all ∙ ap (λ n. drop n all) whole);
      }

  pub walk_within : (seen : Seen) (at : Option ℕ) → IsWalked seen at → IfSome at (λ place. place < length all)
  walk_within seen None walked = tt
  walk_within seen (Some place) walked = (walk_at seen (Some place) place refl walked).within

  -- as many of the group stand before the place as were passed
  counted_before : (seen : Seen) (at : Option ℕ) (place : ℕ) → at ≡ Some place → seen.count < MOST_FARES_BETWEEN → IsWalked seen at → count_by (is_of grouped key) (take place all) ≡ seen.count
  counted_before seen at place is few walked =
      let here = walk_at seen at place is walked in
      let split = sum_by-take-drop (λ x. cond (is_of grouped key x) 1 0) all place in
      omega (arith, split, walked.counts few, here.rest)

  -- a fare of the market of one of the group is of it
  of_market : (r : FareRecord) → is_of grouped key (filed.Fare r) ≡ true → (x : Record) → is_fare_between r.from r.to r.ind x ≡ true → is_of grouped key x ≡ true
  of_market r of_group x between =
      let own : Fares r.from r.to r.ind ≡ own_key x = same_key-true (Fares r.from r.to r.ind) (own_key x) (fare_tells r.from r.to r.ind x ∙ between) in
      alike x (filed.Fare r) (sym own) of_group

  -- a fare of the group with the key of another is in its bucket
  over_marked : (seen : Seen) (at : Option ℕ) (place q : ℕ) (r : FareRecord) (x : Record) → at ≡ Some place → q < place → get_or all q x ≡ x → is_of grouped key (filed.Fare r) ≡ true → (walked : IsWalked seen at) → is_fare_over (key_of r) r.season x ≡ true → get_or seen.buckets (bucket_of r) false ≡ true
  over_marked seen at place q r (filed.Fare f) is low read of_group walked over =
      let here = walk_at seen at place is walked in
      let same : key_of f ≡ key_of r = key_of_fare (key_of r) f (and_true (has_key (key_of r) f) (seasons_overlap f.season r.season) over).0 in
      let own : own_key (filed.Fare f) ≡ own_key (filed.Fare r) = ap (λ (k : FareKey). Fares k.from k.to k.ind) same in
      let also : is_of grouped key (filed.Fare f) ≡ true = alike (filed.Fare f) (filed.Fare r) own of_group in
      ⊎_elim
      (λ lt.
      ap (λ k. get_or seen.buckets (bucket_of_key k) false) (sym same)
      ∙ ap (λ o. get_or seen.buckets (bucket_of_record o) false) (sym read)
      ∙ walked.marks q (filed.Fare f) lt (ap (is_of grouped key) read ∙ also))
      (λ ge. absurd (false≢true (sym (here.apart q (filed.Fare f) ge low) ∙ ap (is_of grouped key) read ∙ also)))
      (cases_lt q walked.start)
  over_marked seen at place q r _ is low read of_group walked over = absurd (false≢true over)

  -- a fare in an empty bucket, with fewer before it than there may be, clashes with none
  fare_apart : (seen : Seen) (at : Option ℕ) (place : ℕ) (r : FareRecord) → at ≡ Some place → is_of grouped key (filed.Fare r) ≡ true → false ≡ may_clash_some seen (filed.Fare r) → IsWalked seen at → false ≡ clash_of (take place all) (filed.Fare r)
  fare_apart seen at place r is of_group apart walked =
      let over : Record → Bool = is_fare_over (key_of r) r.season in
      let between : Record → Bool = is_fare_between r.from r.to r.ind in
      let tests = neither (nat_le MOST_FARES_BETWEEN seen.count) (get_or seen.buckets (bucket_of r) false) apart in
      let few : seen.count < MOST_FARES_BETWEEN = below seen.count tests.0 in
      let none : position (is_fare_over (key_of r) r.season) (take place all) ≡ None =
      position_from-zero over (take place all) ∙ none_before over 0 place all (λ q d low within. not_over q d low within tests.1) in
      let before = counted_before seen at place is few walked in
      let fewer_between : count_by (is_fare_between r.from r.to r.ind) (take place all) ≤ count_by (is_of grouped key) (take place all) =
      fewer between (is_of grouped key) (of_market r of_group) (take place all) in
      let count : count_by (is_fare_between r.from r.to r.ind) (take place all) < MOST_FARES_BETWEEN = omega (arith, before, fewer_between, few) in
      sym (ap (λ o. is_some o || nat_le MOST_FARES_BETWEEN (count_by between (take place all))) none ∙ too_few _ count)
    where
      not_over : (q : ℕ) (d : Record) → q < place → q < length all → get_or seen.buckets (bucket_of r) false ≡ false → is_fare_over (key_of r) r.season (get_or all q d) ≡ false
      not_over q d low within empty = go (is_fare_over (key_of r) r.season (get_or all q d)) refl
        where
          go : (t : Bool) → is_fare_over (key_of r) r.season (get_or all q d) ≡ t → t ≡ false
          go true over = absurd (false≢true (sym empty ∙ over_marked seen at place q r (get_or all q d) is low (get_or_default all q (get_or all q d) d within) of_group walked over))
          go false fails = refl

  -- a record of the group with the key of one that is no fare is in its bucket
  key_marked : (seen : Seen) (at : Option ℕ) (place q : ℕ) (one x : Record) → at ≡ Some place → q < place → get_or all q x ≡ x → ((fare : FareRecord) → one ≡ filed.Fare fare → ⊥) → is_of grouped key one ≡ true → (walked : IsWalked seen at) → has_key_of one x ≡ true → get_or seen.buckets (bucket_of_record one) false ≡ true
  key_marked seen at place q one x is low read isnt of_group walked has =
      let here = walk_at seen at place is walked in
      let own : own_key one ≡ own_key x = same_key-true (own_key one) (own_key x) (own_tells one x isnt ∙ has) in
      let also : is_of grouped key x ≡ true = alike x one (sym own) of_group in
      ⊎_elim
      (λ lt.
      ap (λ b. get_or seen.buckets b false) (one_bucket one x isnt own)
      ∙ ap (λ o. get_or seen.buckets (bucket_of_record o) false) (sym read)
      ∙ walked.marks q x lt (ap (is_of grouped key) read ∙ also))
      (λ ge. absurd (false≢true (sym (here.apart q x ge low) ∙ ap (is_of grouped key) read ∙ also)))
      (cases_lt q walked.start)

  -- one that is no fare, in an empty bucket, clashes with none
  other_apart : (seen : Seen) (at : Option ℕ) (place : ℕ) (one : Record) → at ≡ Some place → ((fare : FareRecord) → one ≡ filed.Fare fare → ⊥) → is_of grouped key one ≡ true → false ≡ get_or seen.buckets (bucket_of_record one) false → IsWalked seen at → false ≡ is_some (first_number (has_key_of one) (take place all))
  other_apart seen at place one is isnt of_group empty walked =
      sym (ap (λ o. is_some (option_map number_at o)) (position_from-zero (has_key_of one) (take place all) ∙ none_before (has_key_of one) 0 place all not_own))
    where
      not_own : (q : ℕ) (d : Record) → q < place → q < length all → has_key_of one (get_or all q d) ≡ false
      not_own q d low within = go (has_key_of one (get_or all q d)) refl
        where
          go : (t : Bool) → has_key_of one (get_or all q d) ≡ t → t ≡ false
          go true has = absurd (false≢true (empty ∙ key_marked seen at place q one (get_or all q d) is low (get_or_default all q (get_or all q d) d within) isnt of_group walked has))
          go false fails = refl

  some_apart : (seen : Seen) (at : Option ℕ) (place : ℕ) (one : Record) → at ≡ Some place → is_of grouped key one ≡ true → false ≡ may_clash_some seen one → IsWalked seen at → false ≡ clash_of (take place all) one
  some_apart seen at place (filed.Fare r) is of_group apart walked = fare_apart seen at place r is of_group apart walked
  some_apart seen at place (filed.City r) is of_group apart walked = other_apart seen at place (filed.City r) is (λ fare h. cc) of_group apart walked
  some_apart seen at place (filed.Cur r) is of_group apart walked = other_apart seen at place (filed.Cur r) is (λ fare h. cc) of_group apart walked
  some_apart seen at place (filed.Rule r) is of_group apart walked = other_apart seen at place (filed.Rule r) is (λ fare h. cc) of_group apart walked
  some_apart seen at place (filed.Mpm r) is of_group apart walked = other_apart seen at place (filed.Mpm r) is (λ fare h. cc) of_group apart walked
  some_apart seen at place (filed.Tpm r) is of_group apart walked = other_apart seen at place (filed.Tpm r) is (λ fare h. cc) of_group apart walked
  some_apart seen at place (filed.Ema r) is of_group apart walked = other_apart seen at place (filed.Ema r) is (λ fare h. cc) of_group apart walked

  -- a record before which none of the group was passed clashes with none
  fare_alone : (place : ℕ) (r : FareRecord) → is_of grouped key (filed.Fare r) ≡ true → count_by (is_of grouped key) (take place all) ≡ 0 → false ≡ clash_of (take place all) (filed.Fare r)
  fare_alone place r of_group none =
      let over : Record → Bool = is_fare_over (key_of r) r.season in
      let between : Record → Bool = is_fare_between r.from r.to r.ind in
      let fewer_between = fewer between (is_of grouped key) (of_market r of_group) (take place all) in
      let count : count_by (is_fare_between r.from r.to r.ind) (take place all) < MOST_FARES_BETWEEN = omega (arith, none, fewer_between) in
      let fewer_over = fewer over (is_of grouped key) (λ x passes. of_market r of_group x (sym (fare_tells r.from r.to r.ind x) ∙ over_own r x passes)) (take place all) in
      let zero_over : count_by (is_fare_over (key_of r) r.season) (take place all) ≡ 0 = omega (arith, none, fewer_over) in
      let first : position (is_fare_over (key_of r) r.season) (take place all) ≡ None = position_from-zero over (take place all) ∙ none_counted over 0 (take place all) zero_over in
      sym (ap (λ o. is_some o || nat_le MOST_FARES_BETWEEN (count_by between (take place all))) first ∙ too_few _ count)

  other_alone : (place : ℕ) (one : Record) → ((fare : FareRecord) → one ≡ filed.Fare fare → ⊥) → is_of grouped key one ≡ true → count_by (is_of grouped key) (take place all) ≡ 0 → false ≡ is_some (first_number (has_key_of one) (take place all))
  other_alone place one isnt of_group none =
      let fewer_own : count_by (has_key_of one) (take place all) ≤ count_by (is_of grouped key) (take place all) =
      fewer (has_key_of one) (is_of grouped key) of_key (take place all) in
      let zero_own : count_by (has_key_of one) (take place all) ≡ 0 = omega (arith, none, fewer_own) in
      sym (ap (λ o. is_some (option_map number_at o)) (position_from-zero (has_key_of one) (take place all) ∙ none_counted (has_key_of one) 0 (take place all) zero_own))
    where
      of_key : (x : Record) → has_key_of one x ≡ true → is_of grouped key x ≡ true
      of_key x has =
          let own : own_key one ≡ own_key x = same_key-true (own_key one) (own_key x) (own_tells one x isnt ∙ has) in
          alike x one (sym own) of_group

  alone : (place : ℕ) (one : Record) → is_of grouped key one ≡ true → count_by (is_of grouped key) (take place all) ≡ 0 → false ≡ clash_of (take place all) one
  alone place (filed.Fare r) of_group none = fare_alone place r of_group none
  alone place (filed.City r) of_group none = other_alone place (filed.City r) (λ fare h. cc) of_group none
  alone place (filed.Cur r) of_group none = other_alone place (filed.Cur r) (λ fare h. cc) of_group none
  alone place (filed.Rule r) of_group none = other_alone place (filed.Rule r) (λ fare h. cc) of_group none
  alone place (filed.Mpm r) of_group none = other_alone place (filed.Mpm r) (λ fare h. cc) of_group none
  alone place (filed.Tpm r) of_group none = other_alone place (filed.Tpm r) (λ fare h. cc) of_group none
  alone place (filed.Ema r) of_group none = other_alone place (filed.Ema r) (λ fare h. cc) of_group none

  -- one that may not clash doesn't
  apart_of : (seen : Seen) (at : Option ℕ) (place : ℕ) (one : Record) → at ≡ Some place → is_of grouped key one ≡ true → false ≡ may_clash seen one → IsWalked seen at → false ≡ clash_of (take place all) one
  apart_of seen at place one is of_group apart walked = go (nat_lt 0 seen.count) refl apart
    where
      go : (t : Bool) → nat_lt 0 seen.count ≡ t → false ≡ (t && may_clash_some seen one) → false ≡ clash_of (take place all) one
      go true some apart = some_apart seen at place one is of_group apart walked
      go false none apart =
          let zero_passed : seen.count ≡ 0 = none_passed seen.count none in
          let before = counted_before seen at place is (omega (arith, zero_passed)) walked in
          alone place one of_group (before ∙ zero_passed)

  -- one that isn't suspect has no kind
  clear_here : (seen : Seen) (at : Option ℕ) (place : ℕ) (one : Record) → at ≡ Some place → one ≡ get_or all place one → place < MOST_RECORDS → false ≡ is_suspect all seen place one → IsWalked seen at → has_kind_at all place ≡ false
  clear_here seen at place one is read in_limit unsuspected walked =
      let here = walk_at seen at place is walked in
      let parts = neither (may_clash seen one && clash_of (take place all) one) (names_unknown all one || (has_same_points one || is_zero_mileage one)) unsuspected in
      let of_group : is_of grouped key one ≡ true = ap (is_of grouped key) read ∙ here.of_group one in
      kind_tells all place one here.within in_limit read
      ∙ ap (λ t. t || (names_unknown all one || (has_same_points one || is_zero_mileage one))) (go (may_clash seen one) refl of_group parts.0)
      ∙ parts.1
    where
      go : (t : Bool) → may_clash seen one ≡ t → is_of grouped key one ≡ true → (t && clash_of (take place all) one) ≡ false → clash_of (take place all) one ≡ false
      go true may of_group clear = clear
      go false apart of_group none = sym (apart_of seen at place one is of_group (sym apart) walked)

  -- how far it is from a place to the end of the list
  abbrev pub left_from : Option ℕ → ℕ
  left_from None = 0
  left_from (Some place) = length all - place

  -- one record is passed
  pub walk_next : (seen more : Seen) (at next : Option ℕ) (place : ℕ) (one : Record) → at ≡ Some place → one ≡ get_or all place one → place < MOST_RECORDS → false ≡ is_suspect all seen place one → more ≡ noted seen one → next ≡ position_from (is_of grouped key) (place + 1) (drop (place + 1) all) → IsWalked seen at → IsWalked more next × (left_from next < left_from at)
  walk_next seen more at next place one is read in_limit unsuspected as_noted found walked =
      let here = walk_at seen at place is walked in
      let of_group : is_of grouped key one ≡ true = ap (is_of grouped key) read ∙ here.of_group one in
      let behind : drop place all ≡ one ∷ drop (place + 1) all = at_drop_more (λ l. l) all place one here.within ∙ ap (λ o. o ∷ drop (place + 1) all) (sym read) in
      let counted_here : count_by (is_of grouped key) (drop place all) ≡ suc (count_by (is_of grouped key) (drop (place + 1) all)) =
      ap (count_by (is_of grouped key)) behind ∙ omega (arith, count_cons (is_of grouped key) one (drop (place + 1) all), counted (is_of grouped key) one of_group) in
      let on : IsWalked more next = rw as_noted (record {
        start = place + 1;
        start_within = omega (arith, here.within);
        next = found;
        clear = λ q d low other. passed q d low other (clear_here seen at place one is read in_limit unsuspected walked);
        long = marked_long seen.buckets one walked.long;
        marks = λ q d low other. noted_at q d low other;
        counts = λ few.
            let below_limit = one_noted seen.count few in
            omega (arith, below_limit.1, walked.counts below_limit.0, here.rest, counted_here);
      }) in
      (on, subst (λ o. left_from next < left_from o) (sym is) (nearer next found here.within))
    where
      passed : (q : ℕ) (d : Record) → q < place + 1 → is_of grouped key (get_or all q d) ≡ true → has_kind_at all place ≡ false → has_kind_at all q ≡ false
      passed q d low other clear = ⊎_elim
          (λ lt. walked.clear q d lt other)
          (λ ge. ⊎_elim
          (λ same. ap (has_kind_at all) same ∙ clear)
          (λ differs. absurd (false≢true (sym ((walk_at seen at place is walked).apart q d ge (omega (arith, low, differs))) ∙ other)))
          (cases_eq q place))
          (cases_lt q walked.start)

      noted_at : (q : ℕ) (d : Record) → q < place + 1 → is_of grouped key (get_or all q d) ≡ true → get_or (marked seen.buckets one) (bucket_of_record (get_or all q d)) false ≡ true
      noted_at q d low other = ⊎_elim
          (λ lt. still_marked seen.buckets one (bucket_of_record (get_or all q d)) walked.long (walked.marks q d lt other))
          (λ ge. ⊎_elim
          (λ same.
          let own : get_or all q d ≡ one = ap (λ i. get_or all i d) same ∙ get_or_default all place d one (walk_at seen at place is walked).within ∙ sym read in
          ap (λ o. get_or (marked seen.buckets one) (bucket_of_record o) false) own ∙ own_marked seen.buckets one walked.long)
          (λ differs. absurd (false≢true (sym ((walk_at seen at place is walked).apart q d ge (omega (arith, low, differs))) ∙ other)))
          (cases_eq q place))
          (cases_lt q walked.start)

      nearer : (next : Option ℕ) → next ≡ position_from (is_of grouped key) (place + 1) (drop (place + 1) all) → place < length all → left_from next < length all - place
      nearer None h within = omega (arith, within)
      nearer (Some later) h within =
          let there = next_place (is_of grouped key) (place + 1) (drop (place + 1) all) later (sym h) in
          omega (arith, there.behind, there.within, length-drop (place + 1) all, within)

-- nothing is asked where what isn't is
pub not_both : {A : Type 0} (t : Bool) → not t ≡ true → t ≡ true → A
not_both true isnt is = absurd (false≢true isnt)
not_both false isnt is = absurd (false≢true is)

-- the next place of a group of keys is that of its records
pub next_of_keys : (all : List Record) (grouped : Grouped) (key : Key) (place : ℕ) (d : Record) → grouped.keys ≡ map own_key all → is_of grouped key (get_or all place d) ≡ true → position_from (is_in_group grouped (group_of grouped (get_or grouped.keys place (own_key d)))) (place + 1) (drop (place + 1) grouped.keys) ≡ position_from (is_of grouped key) (place + 1) (drop (place + 1) all)
next_of_keys all grouped key place d keys of_group =
    ap (λ l. position_from (is_in_group grouped (group_of grouped (get_or l place (own_key d)))) (place + 1) (drop (place + 1) l)) keys
    ∙ ap (λ k. position_from (is_in_group grouped (group_of grouped k)) (place + 1) (drop (place + 1) (map own_key all))) (key_at_place own_key all place d)
    ∙ ap (λ n. position_from (is_in_group grouped n) (place + 1) (drop (place + 1) (map own_key all))) (eqb-true _ _ of_group)
    ∙ ap (position_from (is_in_group grouped (group_of grouped key)) (place + 1)) (drop-map own_key (place + 1) all)
    ∙ position_by own_key (is_in_group grouped (group_of grouped key)) (place + 1) (drop (place + 1) all)

-- the first place of a group of keys is that of its records
pub first_of_keys : (all : List Record) (grouped : Grouped) (place : ℕ) (d : Record) → grouped.keys ≡ map own_key all → position_from (is_in_group grouped (group_of grouped (get_or grouped.keys place (own_key d)))) 0 grouped.keys ≡ position_from (is_of grouped (own_key (get_or all place d))) 0 all
first_of_keys all grouped place d keys =
    ap (λ l. position_from (is_in_group grouped (group_of grouped (get_or l place (own_key d)))) 0 l) keys
    ∙ ap (λ k. position_from (is_in_group grouped (group_of grouped k)) 0 (map own_key all)) (key_at_place own_key all place d)
    ∙ position_by own_key (is_in_group grouped (group_of grouped (own_key (get_or all place d)))) 0 all
