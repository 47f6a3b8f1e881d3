-- No lawful construction is cheaper than the best, and one that isn't lawful breaks a first rule.
use Rattle.std.proofs.Common.{◌≡◌, ℕ, ◌<◌, ◌≤◌, Bool, true, false, ◌||◌, ◌&&◌, List, refl, sym, subst, inl, inr, arith}
use Rattle.std.proofs.lemmas.Bool.{ltb-false}
use Rattle.std.specs.Prelude.{◌⊎◌, Option, Some, None, IfSome, option_map, nat_lt, ◌==◌, Result, Ok, Err}
use Rattle.fare_trip.specs.Itinerary.{Itinerary}
use Rattle.fare_tariff.specs.Tariff.{Tariff}
use Rattle.fare_rules.specs.declared.broken.Broken.{Broken}
use Rattle.fare_rules.specs.declared.part.Part.{Part}
use Rattle.fare_rules.specs.declared.limits.TheConstants.{PRICE_LIMIT}
use Rattle.fare_rules.specs.Best.{IsBestAnswer, IsLawful, NoneIsLawful}
use Rattle.fare_rules.specs.Lawful.{lawful_price, first_broken, unless_broken}
use Rattle.fare_rules.specs.UnitPrice.{price}
use Rattle.fare_rules.proofs.ExistenceLemmas.{best_answer}
use Rattle.fare_rules.specs.Order.{is_before, is_less, tie}
use Rattle.fare_branch.specs.declared.bound.TheConstants.{NO_PRICE}
use Rattle.fare_branch.specs.LeastPrice.{least_price}
use Rattle.fare_branch.specs.Search.{IsPriceOfOne}
use Rattle.fare_branch.proofs.LeastLemmas.{least_price_is}
use Rattle.fare_relaxed.specs.declared.term.Term.{Term}
use Rattle.fare_relaxed.specs.Relax.{relax}
use Rattle.fare_why.specs.Reasons.{IsShownFor, Priced, ShowsIfCheaper, price_of}
use Rattle.fare_why.specs.Asked.{NoneIsCheaper}

true_false : true ≡ false → ⊥
true_false e = cc

first_false : (a b : Bool) → (a || b) ≡ false → a ≡ false
first_false false b e = refl
first_false true b e = absurd (true_false e)

pub none_cheaper : (tariff : Tariff) (trip : Itinerary) (best : Option Priced) → IsBestAnswer tariff trip best
    → NoneIsCheaper tariff trip (option_map price_of best)
unfolding is_before
none_cheaper tariff trip None none parts cost lawful = absurd (none parts cost lawful)
none_cheaper tariff trip (Some best) is_best parts cost lawful =
    first_false (nat_lt cost best.1) ((cost == best.1) && is_less (tie parts best.0)) (is_best.first parts cost lawful)

refused : (found : Option Broken) (cost : ℕ) (broken : Broken) → unless_broken found cost ≡ Err broken
    → found ≡ Some broken
refused None cost broken e = cc
refused (Some found) cost broken e = cc

-- the rule for which a construction isn't lawful is the first that it breaks
pub first_of_refused : (tariff : Tariff) (trip : Itinerary) (parts : List Part) (broken : Broken)
    → lawful_price tariff trip parts ≡ Err broken → first_broken tariff trip parts ≡ Some broken
unfolding lawful_price
first_of_refused tariff trip parts broken e =
    refused (first_broken tariff trip parts) (price tariff trip parts) broken e

-- where no rule asks for a kind of condition, nothing is barred by it
not_shown : (tariff : Tariff) (trip : Itinerary) (total : Option ℕ) (term : Term) (best : Option Priced)
    → IsBestAnswer tariff trip best → NoneIsCheaper tariff trip total → ShowsIfCheaper tariff trip total term best None
not_shown tariff trip total term None is_best none = refl
not_shown tariff trip total term (Some best) is_best none = rw (none best.0 best.1 is_best.lawful) refl

pub unasked_bars_nothing : (tariff : Tariff) (trip : Itinerary) (total : Option ℕ) (term : Term)
    → relax term tariff ≡ tariff → NoneIsCheaper tariff trip total → IsShownFor tariff trip total term None
unfolding IsShownFor
unasked_bars_nothing tariff trip total term same none =
    let best = best_answer tariff trip in (
      best.0,
      subst (λ (t : Tariff). IsBestAnswer t trip best.0) (sym same) best.1,
      not_shown tariff trip total term best.0 best.1 none,
    )

-- the price of the best is the least price
not_less : (a b : ℕ) → nat_lt a b ≡ false → b ≤ a
not_less a b e = ltb-false a b e

at_most : (tariff : Tariff) (trip : Itinerary) (best : Priced) (least : ℕ) → IsBestAnswer tariff trip (Some best)
    → ((parts : List Part) × IsLawful tariff trip parts least) ⊎ (NoneIsLawful tariff trip × (least ≡ NO_PRICE)) → best.1 ≤ least
unfolding is_before
at_most tariff trip best least is_best (inl reached) =
    not_less least best.1 (first_false (nat_lt least best.1) ((least == best.1) && is_less (tie reached.0 best.0)) (is_best.first reached.0 least reached.1))
at_most tariff trip best least is_best (inr none) = absurd (none.0 best.0 best.1 is_best.lawful)

pub best_is_least : (tariff : Tariff) (trip : Itinerary) (best : Option Priced) → IsBestAnswer tariff trip best
    → IfSome (option_map price_of best) (λ total. total ≡ least_price tariff trip)
best_is_least tariff trip None is_best = tt
best_is_least tariff trip (Some best) is_best =
    let is = least_price_is tariff trip in
    let over = at_most tariff trip best (least_price tariff trip) is_best is.reached in
    let under = is.under best.0 best.1 is_best.lawful in
    omega (arith, over, under)

of_reached : (tariff : Tariff) (trip : Itinerary) (least : ℕ) → least < PRICE_LIMIT
    → ((parts : List Part) × IsLawful tariff trip parts least) ⊎ (NoneIsLawful tariff trip × (least ≡ NO_PRICE)) → IsPriceOfOne tariff trip least
of_reached tariff trip least bound (inl reached) = reached
of_reached tariff trip least bound (inr none) = let e = none.1 in absurd (omega (arith, bound, e))

-- the total is the price of a construction that is lawful without the kind of condition too
pub one_of_total : (tariff : Tariff) (trip : Itinerary) (term : Term) (total : ℕ)
    → ((parts : List Part) (price : ℕ) → IsLawful tariff trip parts price → IsLawful (relax term tariff) trip parts price)
    → total < PRICE_LIMIT → total ≡ least_price tariff trip → IsPriceOfOne (relax term tariff) trip total
one_of_total tariff trip term total keeps bound is =
    let one : IsPriceOfOne tariff trip total =
    subst (λ (n : ℕ). IsPriceOfOne tariff trip n) (sym is)
    (of_reached tariff trip (least_price tariff trip) (subst (λ (n : ℕ). n < PRICE_LIMIT) is bound) (least_price_is tariff trip).reached) in
    (one.0, keeps one.0 total one.1)
