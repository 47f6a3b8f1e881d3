-- Fares whose rules can't be one of three in a unit, by the rules of a trip.
use Rattle.std.proofs.Common.{◌≡◌, ℕ, suc, ◌<◌, Bool, true, false, List, [], ◌∷◌, length, refl, sym, subst, ◌∙◌, inl, inr, arith}
use Rattle.std.specs.Prelude.{Option, Some, None, ◌&&◌, ◌||◌, All, Contains, bytes_eq}
use Rattle.std.specs.List.{list_any}
use Rattle.std.proofs.lemmas.Bool.{cases_Bool}
use Rattle.std.proofs.lemmas.List.Elements.{All-contains}
use Rattle.std.proofs.lemmas.Slice.Eq.{bytes_eq-Decides}
use Rattle.fare_codes.specs.declared.rule_id.RuleId.{RuleId}
use Rattle.fare_tariff.specs.Record.{FareRecord}
use Rattle.fare_tariff.specs.Tariff.{Tariff}
use Rattle.fare_tariff.specs.Lookup.{fare_at, unit_ok}
use Rattle.fare_rules.specs.UnitRules.{rules_pass}
use Rattle.fare_legs.specs.Barred.{has_this_rule, is_among, is_barred, is_like_one_of, is_of_rule, same_rule}
use Rattle.fare_trip.specs.Itinerary.{Itinerary}
use Rattle.fare_legs.specs.Threes.{are_combined, is_of_three, may_follow, may_precede, AreAllRules, IsOfTwo, IsOneOfThree}
use Rattle.fare_legs.proofs.RuleLemmas.{same_rule_is}

false_true : false ≡ true → ⊥
false_true e = cc

both_true : (a b : Bool) → a ≡ true → b ≡ true → (a && b) ≡ true
both_true a b p q = rw (p, q) refl

same_rule_self : (r : Option RuleId) → same_rule r r ≡ true
same_rule_self None = refl
same_rule_self (Some id) = (bytes_eq-Decides id id).1 refl

second_true : (a b : Bool) → b ≡ true → (a || b) ≡ true
second_true true b e = refl
second_true false b e = e

or_false : (b : Bool) → (b || false) ≡ true → b ≡ true
or_false true e = refl
or_false false e = e

-- one of some numbers passes a test, so any test that this one passes is passed by one of them
some_of : (p : ℕ → Bool) (xs : List ℕ) → list_any p xs ≡ true → (x : ℕ) × ((q : ℕ → Bool) → q x ≡ true → list_any q xs ≡ true) × (p x ≡ true) × Contains xs x
some_of p [] h = absurd (false_true h)
some_of p (y ∷ ys) h = elim (cases_Bool (p y)) [
  | inl t ↦ (y, λ q e. rw e refl, t, (0, omega arith, refl))
  | inr f ↦
      let later : list_any p ys ≡ true = rw f at h in
      let rest = some_of p ys later in
      let within : rest.3.0 < length ys = rest.3.1 in
      (rest.0, λ q e. second_true (q y) (list_any q ys) (rest.1 q e), rest.2, (suc rest.3.0, omega arith, rest.3.2))
]

module _ (tariff : Tariff) where
  -- two fares are there, and have one rule
  record AreAlike (one other : ℕ) : Type 0 where
    fare : FareRecord
    like : FareRecord
    there : fare_at tariff one ≡ Some fare
    other_there : fare_at tariff other ≡ Some like
    rule : fare.rule ≡ like.rule

  combined_alike : (a b c d : ℕ) → AreAlike a b → AreAlike c d → are_combined tariff a c ≡ are_combined tariff b d
  combined_alike a b c d p q =
      let P : Option RuleId → Type 0 = λ r. unit_ok tariff p.fare.rule q.fare.rule ≡ unit_ok tariff r q.like.rule in
      let Q : Option RuleId → Type 0 = λ r. unit_ok tariff p.fare.rule q.fare.rule ≡ unit_ok tariff p.fare.rule r in
      let same : unit_ok tariff p.fare.rule q.fare.rule ≡ unit_ok tariff p.like.rule q.like.rule = subst P p.rule (subst Q q.rule refl) in
      rw (p.there, q.there, p.other_there, q.other_there) same

  alike_of : (x number : ℕ) (like : FareRecord) → fare_at tariff number ≡ Some like → (found : Option FareRecord) → fare_at tariff x ≡ found → has_this_rule like.rule found ≡ true → AreAlike x number
  alike_of x number like e None is has = absurd (false_true has)
  alike_of x number like e (Some fare) is has = record { fare = fare; like = like; there = is; other_there = e; rule = same_rule_is fare.rule like.rule has }

  -- the rule of a fare is that of one of some
  like_one : (fares : List ℕ) (number : ℕ) (found : Option FareRecord) → fare_at tariff number ≡ found → is_like_one_of tariff fares found ≡ true
      → (x : ℕ) × ((q : ℕ → Bool) → q x ≡ true → list_any q fares ≡ true) × AreAlike x number × Contains fares x
  like_one fares number None e h = absurd (false_true h)
  like_one fares number (Some like) e h =
      let some = some_of (is_of_rule tariff like.rule) fares h in
      (some.0, some.1, alike_of some.0 number like e (fare_at tariff some.0) refl some.2, some.3)

  barred_like : (fares : List ℕ) (number : ℕ) → is_barred tariff fares number ≡ true
      → (x : ℕ) × ((q : ℕ → Bool) → q x ≡ true → list_any q fares ≡ true) × AreAlike x number × Contains fares x
  barred_like [] number h = absurd (false_true h)
  barred_like (fare ∷ fares) number h = like_one (fare ∷ fares) number (fare_at tariff number) refl h

  one_like : (fare number : ℕ) (found : Option FareRecord) → fare_at tariff number ≡ found → is_like_one_of tariff (fare ∷ []) found ≡ true → AreAlike fare number
  one_like fare number None e h = absurd (false_true h)
  one_like fare number (Some like) e h = alike_of fare number like e (fare_at tariff fare) refl (or_false (is_of_rule tariff like.rule fare) h)

  -- of one fare, that one
  barred_one : (fare number : ℕ) → is_barred tariff (fare ∷ []) number ≡ true → AreAlike fare number
  barred_one fare number h = one_like fare number (fare_at tariff number) refl h

  like_barred : (fare number : ℕ) → AreAlike fare number → is_barred tariff (fare ∷ []) number ≡ true
  like_barred fare number a =
      let self : same_rule a.like.rule a.like.rule ≡ true = same_rule_self a.like.rule in
      let P : Option RuleId → Type 0 = λ r. same_rule r a.like.rule ≡ true in
      let same : same_rule a.fare.rule a.like.rule ≡ true = subst P (sym a.rule) self in
      rw (a.other_there, a.there, same) refl

-- no fare of the rule of one that can't be one of three with the rules of a trip can be one of three
pub of_two : (tariff : Tariff) (trip : Itinerary) (rules : List ℕ) (fare : ℕ) → AreAllRules tariff trip rules → is_of_three tariff rules fare ≡ false → IsOfTwo tariff trip fare
of_two tariff trip rules fare all none number like third =
    let here = barred_one tariff fare number like in
    let before = barred_like tariff rules third.before (all third.before third.flown_before) in
    let behind = barred_like tariff rules third.behind (all third.behind third.flown_behind) in
    let with_before : are_combined tariff before.0 fare ≡ true = combined_alike tariff before.0 third.before fare number before.2 here ∙ third.with_before in
    let with_behind : are_combined tariff fare behind.0 ≡ true = combined_alike tariff fare number behind.0 third.behind here behind.2 ∙ third.with_behind in
    let apart : are_combined tariff before.0 behind.0 ≡ true = combined_alike tariff before.0 third.before behind.0 third.behind before.2 behind.2 ∙ third.apart in
    let follows : may_follow tariff before.0 fare behind.0 ≡ true = both_true (are_combined tariff fare behind.0) (are_combined tariff before.0 behind.0) with_behind apart in
    let precedes : may_precede tariff rules fare before.0 ≡ true = both_true (are_combined tariff before.0 fare) (list_any (may_follow tariff before.0 fare) rules) with_before (behind.1 (may_follow tariff before.0 fare) follows) in
    false_true (sym none ∙ before.1 (may_precede tariff rules fare) precedes)

-- no fare of the rule of one of some may be one of three, where that is so of each of them
pub none_of_two : (tariff : Tariff) (trip : Itinerary) (fares : List ℕ) (number : ℕ) → All (IsOfTwo tariff trip) fares → IsOneOfThree tariff trip number → is_barred tariff fares number ≡ false
none_of_two tariff trip fares number all third = elim (cases_Bool (is_barred tariff fares number)) [
  | inl t ↦
      let found = barred_like tariff fares number t in
      absurd (All-contains (IsOfTwo tariff trip) fares found.0 all found.3 number (like_barred tariff found.0 number found.2) third)
  | inr f ↦ f
]

-- no record has the number 0, so no fare has the rule of that one
pub none_of_none : (tariff : Tariff) (trip : Itinerary) → IsOfTwo tariff trip 0
none_of_none tariff trip number like third =
    let here = barred_one tariff 0 number like in
    let none : fare_at tariff 0 ≡ None = refl in
    absurd (none_some here.fare (sym none ∙ here.there))
  where
    none_some : (fare : FareRecord) → None ≡ Some fare → ⊥
    none_some fare e = cc
