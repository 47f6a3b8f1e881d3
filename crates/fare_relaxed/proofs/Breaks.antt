-- The 22 rules side by side in an edition and in the relaxed one.
use Rattle.std.proofs.Common.{◌≡◌, ℕ, zero, suc, ◌+◌, ◌≢◌, List, [], ◌∷◌, refl, ap, sym, ◌∙◌, arith, inl, inr}
use Rattle.std.proofs.lemmas.Bool.{cases_eq}
use Rattle.std.specs.Prelude.{Option, Some, None, Ok, find, slice_get}
use Rattle.fare_trip.specs.Itinerary.{Itinerary}
use Rattle.fare_tariff.specs.Tariff.{Tariff}
use Rattle.fare_rules.specs.declared.broken.Broken.{Broken}
use Rattle.fare_rules.specs.declared.part.Part.{Part}
use Rattle.fare_rules.specs.Numbers.{first_given}
use Rattle.fare_rules.specs.Best.{IsLawful}
use Rattle.fare_rules.specs.UnitPrice.{price}
use Rattle.fare_rules.specs.Lawful.{breaks, first_broken, lawful_price, at_rule, broken_at}
use Rattle.fare_rules.proofs.LawfulLemmas.{unbroken}
use Rattle.fare_relaxed.specs.declared.term.Term.{Term}
use Rattle.fare_relaxed.specs.Terms.{rule_number}
use Rattle.fare_relaxed.specs.Relax.{relax}
use Rattle.fare_relaxed.specs.Ranges.{HasRulesInRange}
use Rattle.fare_relaxed.specs.Own.{BreaksNoOther, BreaksJust}
use Rattle.fare_relaxed.proofs.RulesKept.{unfiled_same, mixed_same, unchained_same, unclosed_same, mispaired_same, misrouted_same, underclassed_same, miscarried_same, stops_same, transfers_same, late_same, unmeasured_same, excessive_same, mistimed_same, misfitted_same, clashed_same, out_of_season_same}
use Rattle.fare_relaxed.proofs.KindsKept.{stops_weaker, transfers_weaker, late_weaker, excessive_weaker, mistimed_weaker, misfitted_weaker, clashed_weaker}

-- no answer is given in a list of answers
abbrev NoneGiven : {A : Type 0} → List (Option A) → Type 0
NoneGiven [] = Unit
NoneGiven (one ∷ rest) = (one ≡ None) × NoneGiven rest

-- two lists of answers, numbered from a first one on, are the same but at one number
abbrev SameBut : {A : Type 0} → ℕ → ℕ → List (Option A) → List (Option A) → Type 0
SameBut own n [] [] = Unit
SameBut own n [] (y ∷ ys) = ⊥
SameBut own n (x ∷ xs) [] = ⊥
SameBut own n (x ∷ xs) (y ∷ ys) = (own ≢ n → x ≡ y) × SameBut own (n + 1) xs ys

-- of two lists of answers the second gives one nowhere where the first gives none
abbrev Weaker : {A : Type 0} → List (Option A) → List (Option A) → Type 0
Weaker [] [] = Unit
Weaker [] (y ∷ ys) = ⊥
Weaker (x ∷ xs) [] = ⊥
Weaker (x ∷ xs) (y ∷ ys) = (x ≡ None → y ≡ None) × Weaker xs ys

-- the rules of a list have the numbers from a first one on
abbrev Numbered : ℕ → List (Option Broken) → Type 0
Numbered n [] = Unit
Numbered n (x ∷ xs) = ((found : Broken) → x ≡ Some found → found.rule ≡ n) × Numbered (n + 1) xs

some_none : {A : Type 0} (x : A) → Some x ≡ None → ⊥
some_none x e = cc

some_same : {A : Type 0} (x y : A) → Some x ≡ Some y → x ≡ y
some_same x y e = cc

none_given : {A : Type 0} (xs : List (Option A)) → first_given xs ≡ None → NoneGiven xs
none_given [] e = tt
none_given (None ∷ xs) e = (refl, none_given xs e)
none_given (Some x ∷ xs) e = absurd (some_none x e)

given_none : {A : Type 0} (xs : List (Option A)) → NoneGiven xs → first_given xs ≡ None
given_none [] h = refl
given_none (x ∷ xs) h = rw h.0 (given_none xs h.1)

weaker_none : {A : Type 0} (xs ys : List (Option A)) → Weaker xs ys → NoneGiven xs → NoneGiven ys
weaker_none [] [] w h = tt
weaker_none [] (y ∷ ys) w h = absurd w
weaker_none (x ∷ xs) [] w h = absurd w
weaker_none (x ∷ xs) (y ∷ ys) w h = (w.0 h.0, weaker_none xs ys w.1 h.1)

-- where nothing is given in the first of two lists, nothing is in the second but at one number
others_none : {A : Type 0} (own n : ℕ) (xs ys : List (Option A)) → SameBut own n xs ys → NoneGiven xs
    → (place : ℕ) (found : Option A) → slice_get ys place ≡ Some found → n + place ≢ own → found ≡ None
others_none own n [] [] s h place found e other = absurd (some_none found (sym e))
others_none own n [] (y ∷ ys) s h place found e other = absurd s
others_none own n (x ∷ xs) [] s h place found e other = absurd s
others_none own n (x ∷ xs) (y ∷ ys) s h zero found e other =
    sym (some_same y found e) ∙ sym (s.0 (λ same. other (omega arith))) ∙ h.0
others_none own n (x ∷ xs) (y ∷ ys) s h (suc place) found e other =
    others_none own (n + 1) xs ys s.1 h.1 place found e (λ same. other (omega arith))

-- what is given first in the second of them has that number
own_number : (own n : ℕ) (xs ys : List (Option Broken)) → SameBut own n xs ys → NoneGiven xs → Numbered n ys
    → (found : Broken) → first_given ys ≡ Some found → found.rule ≡ own
own_number own n [] [] s h m found e = absurd (some_none found (sym e))
own_number own n [] (y ∷ ys) s h m found e = absurd s
own_number own n (x ∷ xs) [] s h m found e = absurd s
own_number own n (x ∷ xs) (None ∷ ys) s h m found e = own_number own (n + 1) xs ys s.1 h.1 m.1 found e
own_number own n (x ∷ xs) (Some y ∷ ys) s h m found e =
    elim (cases_eq own n) [
      | inl same ↦ m.0 found e ∙ sym same
      | inr other ↦ absurd (some_none y (sym (s.0 other) ∙ h.0))
    ]

numbered : (n : ℕ) (place : Option ℕ) (found : Broken) → at_rule n place ≡ Some found → found.rule ≡ n
numbered n None found e = absurd (some_none found (sym e))
numbered n (Some place) found e = sym (ap (λ b. b.rule) (some_same (broken_at n place) found e))

breaks_numbered : (tariff : Tariff) (trip : Itinerary) (parts : List Part) → Numbered 1 (breaks tariff trip parts)
unfolding breaks
breaks_numbered tariff trip parts = (
  numbered 1 _,
  (
    numbered 2 _,
    (
      numbered 3 _,
      (
        numbered 4 _,
        (
          numbered 5 _,
          (
            numbered 6 _,
            (
              numbered 7 _,
              (
                numbered 8 _,
                (
                  numbered 9 _,
                  (
                    numbered 10 _,
                    (
                      numbered 11 _,
                      (
                        numbered 12 _,
                        (
                          numbered 13 _,
                          (
                            numbered 14 _,
                            (
                              numbered 15 _,
                              (
                                numbered 16 _,
                                (numbered 17 _, (numbered 18 _, (numbered 19 _, (numbered 20 _, (numbered 21 _, (numbered 22 _, tt)))))),
                              ),
                            ),
                          ),
                        ),
                      ),
                    ),
                  ),
                ),
              ),
            ),
          ),
        ),
      ),
    ),
  ),
)

-- a list of parts that breaks no rule is lawful at its price
pub priced : (tariff : Tariff) (trip : Itinerary) (parts : List Part) → first_broken tariff trip parts ≡ None
    → lawful_price tariff trip parts ≡ Ok (price tariff trip parts)
unfolding lawful_price
priced tariff trip parts e = rw e

module _ (term : Term) (tariff : Tariff) (trip : Itinerary) (parts : List Part) where
  breaks_same : SameBut (rule_number term) 1 (breaks (relax term tariff) trip parts) (breaks tariff trip parts)
  unfolding breaks
  breaks_same = (
    (λ _. refl),
    (
      (λ _. refl),
      (
        (λ _. ap (at_rule 3) (unfiled_same term tariff parts)),
        (
          (λ _. refl),
          (
            (λ _. ap (at_rule 5) (mixed_same term tariff parts)),
            (
              (λ _. ap (at_rule 6) (unchained_same term tariff trip parts)),
              (
                (λ _. ap (at_rule 7) (unclosed_same term tariff trip parts)),
                (
                  (λ _. refl),
                  (
                    (λ _. ap (at_rule 9) (mispaired_same term tariff trip parts)),
                    (
                      (λ _. ap (at_rule 10) (misrouted_same term tariff trip parts)),
                      (
                        (λ _. ap (at_rule 11) (underclassed_same term tariff trip parts)),
                        (
                          (λ _. ap (at_rule 12) (miscarried_same term tariff trip parts)),
                          (
                            (λ other. ap (at_rule 13) (stops_same term tariff other trip parts)),
                            (
                              (λ other. ap (at_rule 14) (transfers_same term tariff other trip parts)),
                              (
                                (λ other. ap (at_rule 15) (late_same term tariff other trip parts)),
                                (
                                  (λ _. ap (at_rule 16) (unmeasured_same term tariff trip parts)),
                                  (
                                    (λ other. ap (at_rule 17) (excessive_same term tariff other trip parts)),
                                    (
                                      (λ other. ap (at_rule 18) (mistimed_same term tariff other trip parts)),
                                      (
                                        (λ other. ap (at_rule 19) (misfitted_same term tariff other parts)),
                                        (
                                          (λ other. ap (at_rule 20) (clashed_same term tariff other parts)),
                                          ((λ _. refl), ((λ _. ap (at_rule 22) (out_of_season_same term tariff trip parts)), tt)),
                                        ),
                                      ),
                                    ),
                                  ),
                                ),
                              ),
                            ),
                          ),
                        ),
                      ),
                    ),
                  ),
                ),
              ),
            ),
          ),
        ),
      ),
    ),
  )

  -- a rule that is broken nowhere stays so
  unplaced : (rule : ℕ) (place : Option ℕ) → at_rule rule place ≡ None → place ≡ None
  unplaced rule None e = refl
  unplaced rule (Some k) e = absurd (some_none (broken_at rule k) e)

  stays : (rule : ℕ) (before after : Option ℕ) → (before ≡ None → after ≡ None)
      → at_rule rule before ≡ None → at_rule rule after ≡ None
  stays rule before after h e = ap (at_rule rule) (h (unplaced rule before e))

  equal : (rule : ℕ) (before after : Option ℕ) → after ≡ before → at_rule rule before ≡ None → at_rule rule after ≡ None
  equal rule before after same e = ap (at_rule rule) same ∙ e

  breaks_weaker : HasRulesInRange tariff → Weaker (breaks tariff trip parts) (breaks (relax term tariff) trip parts)
  unfolding breaks
  breaks_weaker range = (
    (λ e. e),
    (
      (λ e. e),
      (
        equal 3 _ _ (unfiled_same term tariff parts),
        (
          (λ e. e),
          (
            equal 5 _ _ (mixed_same term tariff parts),
            (
              equal 6 _ _ (unchained_same term tariff trip parts),
              (
                equal 7 _ _ (unclosed_same term tariff trip parts),
                (
                  (λ e. e),
                  (
                    equal 9 _ _ (mispaired_same term tariff trip parts),
                    (
                      equal 10 _ _ (misrouted_same term tariff trip parts),
                      (
                        equal 11 _ _ (underclassed_same term tariff trip parts),
                        (
                          equal 12 _ _ (miscarried_same term tariff trip parts),
                          (
                            stays 13 _ _ (stops_weaker term tariff range trip parts),
                            (
                              stays 14 _ _ (transfers_weaker term tariff range trip parts),
                              (
                                stays 15 _ _ (late_weaker term tariff range trip parts),
                                (
                                  equal 16 _ _ (unmeasured_same term tariff trip parts),
                                  (
                                    stays 17 _ _ (excessive_weaker term tariff range trip parts),
                                    (
                                      stays 18 _ _ (mistimed_weaker term tariff range trip parts),
                                      (
                                        stays 19 _ _ (misfitted_weaker term tariff parts),
                                        (
                                          stays 20 _ _ (clashed_weaker term tariff parts),
                                          ((λ e. e), (equal 22 _ _ (out_of_season_same term tariff trip parts), tt)),
                                        ),
                                      ),
                                    ),
                                  ),
                                ),
                              ),
                            ),
                          ),
                        ),
                      ),
                    ),
                  ),
                ),
              ),
            ),
          ),
        ),
      ),
    ),
  )

  -- Keeps: what breaks no rule of the edition breaks none of the relaxed one
  pub unbroken_stays : HasRulesInRange tariff → first_broken tariff trip parts ≡ None
      → first_broken (relax term tariff) trip parts ≡ None
  unfolding first_broken
  unbroken_stays range e =
      given_none (breaks (relax term tariff) trip parts)
      (weaker_none (breaks tariff trip parts) (breaks (relax term tariff) trip parts) (breaks_weaker range) (none_given (breaks tariff trip parts) e))

  own_first : first_broken (relax term tariff) trip parts ≡ None → (found : Broken)
      → first_broken tariff trip parts ≡ Some found → found.rule ≡ rule_number term
  unfolding first_broken
  own_first kept found e =
      own_number (rule_number term) 1 (breaks (relax term tariff) trip parts) (breaks tariff trip parts) breaks_same (none_given (breaks (relax term tariff) trip parts) kept) (breaks_numbered tariff trip parts) found e

  own_only : first_broken (relax term tariff) trip parts ≡ None → BreaksNoOther tariff trip parts (rule_number term)
  unfolding first_broken
  own_only kept place found e other =
      others_none (rule_number term) 1 (breaks (relax term tariff) trip parts) (breaks tariff trip parts) breaks_same (none_given (breaks (relax term tariff) trip parts) kept) place found e (λ same. other (omega arith))

  breaks_just : first_broken (relax term tariff) trip parts ≡ None
      → ((cost : ℕ) → lawful_price tariff trip parts ≢ Ok cost) → (o : Option Broken)
      → first_broken tariff trip parts ≡ o → BreaksJust tariff trip parts (rule_number term)
  breaks_just kept barred None e = absurd (barred (price tariff trip parts) (priced tariff trip parts e))
  breaks_just kept barred (Some found) e =
      record { found = found; first = e; number = own_first kept found e; no_other = own_only kept }

  -- Own rule: what is lawful in the relaxed edition alone breaks just the rule of the kind
  pub own_rule : (relaxed : ℕ) → IsLawful (relax term tariff) trip parts relaxed
      → ((cost : ℕ) → lawful_price tariff trip parts ≢ Ok cost) → BreaksJust tariff trip parts (rule_number term)
  own_rule relaxed lawful barred =
      breaks_just (unbroken (relax term tariff) trip parts relaxed lawful) barred (first_broken tariff trip parts) refl
