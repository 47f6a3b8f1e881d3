-- Walks that keep the first k constructions: what they leave out and take, and what they come to.
use Rattle.std.proofs.Common.{◌≡◌, ℕ, suc, ◌-◌, ◌<◌, ◌≤◌, ◌⊎◌, min, true, false, List, [], ◌∷◌, ◌++◌, length, Option, Some, None, Result, Ok, refl, sym, subst, ◌∙◌, inl, inr, arith}
use Rattle.std.specs.Prelude.{nat_lt, slice_get}
use Rattle.std.specs.List.{AllByRecursion}
use Rattle.std.proofs.lemmas.List.{length-take, length-take-le}
use Rattle.std.proofs.lemmas.List.Elements.{All-from_recursion, recursion_from_All, All-take}
use Rattle.std.proofs.lemmas.Bool.{cases_lt, or_cases, leb-true, ltb-true, lt-ltb}
use Rattle.fare_trip.specs.Itinerary.{Itinerary}
use Rattle.fare_tariff.specs.Tariff.{Tariff}
use Rattle.fare_rules.specs.declared.part.Part.{Part}
use Rattle.fare_rules.specs.declared.broken.Broken.{Broken}
use Rattle.fare_rules.specs.Best.{IsLawful, NoneIsLawful}
use Rattle.fare_rules.specs.Order.{is_before}
use Rattle.fare_rules.specs.FirstK.{Priced, IsPriced, IsBefore, IsFirstK}
use Rattle.fare_rules.proofs.BestLemmas.{transitive, total}
use Rattle.fare_rules.proofs.LawfulLemmas.{kept}
use Rattle.fare_rules.proofs.MemberLemmas.{Member, contains}
use Rattle.fare_rules.proofs.OrderLemmas.{before_tells, before_says}
use Rattle.fare_units.specs.Walk.{Completes, IsList}
use Rattle.fare_branch.specs.Sought.{AllBehindPassed, AllPassedFrom, IsWalk}
use Rattle.fare_branch.proofs.WalkedLemmas.{before_longer}
use Rattle.fare_ranking.specs.Ranking.{comes_before, comes_first, costs_below, costs_up_to, first_with, is_behind, is_beyond, is_dear, is_within, ranked_with}
use Rattle.fare_best.specs.Walked.{IsListed, IsRanked, IsPlaced, IsPassed, IsWalked}
use Rattle.fare_ranking.proofs.RankingLemmas.{contained, every_member, every_of_members, every_take, rising, all_pairs, all_up_to, take_rising, take_placed, with_every, with_kept, with_has, with_long, with_rising, full_before, costs_no_more}

true_false : true ≡ false → ⊥
true_false e = cc

ok_same : (p q : ℕ) → ◌≡◌ {A = Result ℕ Broken} (Ok p) (Ok q) → p ≡ q
ok_same p q e = cc

-- what is before another costs no more
costs_no_more_than : (x y : Priced) → comes_before x y ≡ true → x.1 ≤ y.1
costs_no_more_than x y h =
    elim (before_tells x.0 y.0 x.1 y.1 h) [ inl l ↦ omega arith | inr e ↦ let same : x.1 ≡ y.1 = e.0 in omega arith ]

pub through : (x y z : Priced) → comes_before x y ≡ true → comes_before y z ≡ true → comes_before x z ≡ true
through x y z a b = transitive x.0 y.0 z.0 x.1 y.1 z.1 a b

-- the last one wanted, where it costs less than a floor
beyond_last : (floor : ℕ) (one : Option Priced) → costs_below floor one ≡ true
    → (last : Priced) × (one ≡ Some last) × (last.1 < floor)
beyond_last floor None h = absurd (true_false (sym h))
beyond_last floor (Some last) h = (last, refl, ltb-true last.1 floor h)

-- it costs no more than a limit
within_last : (limit : ℕ) (one : Option Priced) → costs_up_to limit one ≡ true
    → (last : Priced) × (one ≡ Some last) × (last.1 ≤ limit)
within_last limit None h = absurd (true_false (sym h))
within_last limit (Some last) h = (last, refl, leb-true last.1 limit h)

beyond_by : (floor : ℕ) (one : Option Priced) (last : Priced) → one ≡ Some last → last.1 < floor → costs_below floor one ≡ true
beyond_by floor one last e less = rw e (lt-ltb last.1 floor less)

module _ (tariff : Tariff) (trip : Itinerary) (k limit : ℕ) where
  -- two lawful constructions, of which neither is before the other, are one
  told_apart : (one x : Priced) → IsPriced tariff trip one → IsPriced tariff trip x → comes_before x one ≡ false → comes_before one x ≡ false → one ≡ x
  told_apart one x l m f g =
      elim (total trip one.0 x.0 one.1 x.1 (kept tariff trip one.0 one.1 l).cover (kept tariff trip x.0 x.1 m).cover) [
        | inl h ↦ absurd (true_false (sym h ∙ g))
        | inr rest ↦ elim rest [
          | inl h ↦ absurd (true_false (sym h ∙ f))
          | inr e ↦ λ i. (e.0 i, e.1 i)
        ]
      ]

  module _ (one : Priced) (lawful : IsPriced tariff trip one) (found : List Priced) (was : IsRanked tariff trip k found) where
    all_lawful : AllByRecursion (IsPriced tariff trip) found
    all_lawful = recursion_from_All (IsPriced tariff trip) found was.lawful

    all_apart : (xs : List Priced) → AllByRecursion (IsPriced tariff trip) xs → AllByRecursion (λ x. comes_before x one ≡ false → comes_before one x ≡ false → one ≡ x) xs
    all_apart [] a = tt
    all_apart (x ∷ xs) (l, a) = (told_apart one x lawful l, all_apart xs a)

    taken_ranked : IsRanked tariff trip k (first_with k one found)
    taken_ranked =
        let len : length (first_with k one found) ≡ min k (length (ranked_with comes_before one found)) = length-take k (ranked_with comes_before one found) in
        record {
          at_most = omega arith;
          lawful = All-take (IsPriced tariff trip) k (ranked_with comes_before one found) (All-from_recursion (IsPriced tariff trip) (ranked_with comes_before one found) (with_every comes_before one (IsPriced tariff trip) found lawful all_lawful));
          rising = all_pairs comes_before (first_with k one found) (take_rising comes_before k (ranked_with comes_before one found) (with_rising comes_before through one found (rising comes_before found was.rising)));
        }

    member_placed : (other : Priced) → Member other (ranked_with comes_before one found) → IsPlaced k (first_with k one found) other.0 other.1
    member_placed other m =
        elim (take_placed comes_before k (ranked_with comes_before one found) other (with_rising comes_before through one found (rising comes_before found was.rising)) m) [
          | inl there ↦ inl (contains other (first_with k one found) there)
          | inr full ↦ inr (full.0, All-from_recursion (λ x. IsBefore x other) (first_with k one found) full.1)
        ]

    taken_kept : (other : Priced) → IsPlaced k found other.0 other.1 → IsPlaced k (first_with k one found) other.0 other.1
    taken_kept other (inl there) = member_placed other (with_kept comes_before one other found (contained other found there))
    taken_kept other (inr full) =
        let long : length found ≤ length (ranked_with comes_before one found) = with_long comes_before one found in
        inr (
          length-take-le k (ranked_with comes_before one found) (omega arith),
          All-from_recursion (λ x. IsBefore x other) (first_with k one found)
              (full_before comes_before through one k found other full.0 (recursion_from_All (λ x. IsBefore x other) found full.1)),
        )

    taken_there : IsPlaced k (first_with k one found) one.0 one.1
    taken_there = member_placed one (with_has comes_before one found (all_apart found all_lawful))

  -- a lawful list is taken
  pub taken_ranks : (parts : List Part) (price : ℕ) (found : List Priced) → IsLawful tariff trip parts price → IsRanked tariff trip k found → IsRanked tariff trip k (first_with k (parts, price) found)
  taken_ranks parts price found lawful r = taken_ranked (parts, price) lawful found r

  -- which of those that are found then is found newly
  taken_from : (parts : List Part) (price : ℕ) (found : List Priced) (other : Priced) → Member other (first_with k (parts, price) found) → IsListed found other.0 ⊎ IsList parts other.0
  taken_from parts price found other m =
      let before : AllByRecursion (λ x. IsListed found x.0 ⊎ IsList parts x.0) found =
      every_of_members (λ x. IsListed found x.0 ⊎ IsList parts x.0) found (λ x there. inl (x.1, contains x found there)) in
      every_member (λ x. IsListed found x.0 ⊎ IsList parts x.0) other (first_with k (parts, price) found) (every_take (λ x. IsListed found x.0 ⊎ IsList parts x.0) k (ranked_with comes_before (parts, price) found) (with_every comes_before (parts, price) (λ x. IsListed found x.0 ⊎ IsList parts x.0) found (inr refl) before)) m

  pub walk_taken : (parts : List Part) (price : ℕ) (found : List Priced) → IsLawful tariff trip parts price → IsRanked tariff trip k found
      → IsWalk tariff trip (IsList parts) (IsPassed k limit found) (IsListed found) (IsPassed k limit (first_with k (parts, price) found)) (IsListed (first_with k (parts, price) found))
  walk_taken parts price found lawful r = record {
    kept = λ others cost p. elim p [ inl more ↦ inl more | inr placed ↦ inr (taken_kept (parts, price) lawful found r (others, cost) placed) ];
    walked = λ others cost l d.
        let P : List Part → Type 0 = λ xs. IsLawful tariff trip xs cost in
        let same : cost ≡ price = ok_same cost price (sym (subst P d l) ∙ lawful) in
        let Q : List Part → Type 0 = λ xs. IsPlaced k (first_with k (parts, price) found) xs cost in
        let R : ℕ → Type 0 = λ n. IsPlaced k (first_with k (parts, price) found) parts n in
        inr (subst Q (sym d) (subst R (sym same) (taken_there (parts, price) lawful found r)));
    from = λ others listed. taken_from parts price found (others, listed.0) (contained (others, listed.0) (first_with k (parts, price) found) listed.1);
  }

  all_cheaper : (parts : List Part) (price low : ℕ) (xs : List Priced) → low < price → AllByRecursion (λ x. x.1 ≤ low) xs → AllByRecursion (λ x. IsBefore x (parts, price)) xs
  all_cheaper parts price low [] h a = tt
  all_cheaper parts price low (x ∷ xs) h (up, a) =
      (before_says x.0 parts x.1 price (inl (omega arith)), all_cheaper parts price low xs h a)

  -- what each of those that were found is before has its place, where these are all that are wanted
  behind_of : (found : List Priced) (front rest : List Part) (floor price : ℕ) (last : Priced) → slice_get found (k - 1) ≡ Some last → 1 ≤ k → IsRanked tariff trip k found → is_before last.0 last.1 front floor ≡ true → floor ≤ price → IsPlaced k found (front ++ rest) price
  behind_of found front rest floor price last there some r h up =
      let at_most : length found ≤ k = r.at_most in
      let first : comes_before last (front ++ rest, price) ≡ true = before_says last.0 (front ++ rest) last.1 price (before_longer last.0 front rest last.1 floor price up (before_tells last.0 front last.1 floor h)) in
      let full : (length found ≡ suc (k - 1)) × AllByRecursion (λ x. IsBefore x (front ++ rest, price)) found =
      all_up_to comes_before (λ x. IsBefore x (front ++ rest, price)) found (k - 1) last (rising comes_before found r.rising) (omega arith) there first (λ x before. through x last (front ++ rest, price) before first) in
      inr (omega arith, All-from_recursion (λ x. IsBefore x (front ++ rest, price)) found full.1)

  -- so what completes some parts is passed where the last one wanted is before them
  pub behind_is_passed : (found : List Priced) (front : List Part) (floor : ℕ) → 1 ≤ k → IsRanked tariff trip k found → is_behind k found front floor ≡ true → AllBehindPassed front floor (IsPassed k limit found)
  behind_is_passed found front floor some r h rest price up = inr (by_last (slice_get found (k - 1)) refl h)
    where
      by_last : (one : Option Priced) → slice_get found (k - 1) ≡ one → comes_first one front floor ≡ true → IsPlaced k found (front ++ rest) price
      by_last None e f = absurd (true_false (sym f))
      by_last (Some last) e f = behind_of found front rest floor price last e some r f up

  -- what costs more than the last one wanted has its place
  beyond_is_placed : (found : List Priced) (floor price : ℕ) (parts : List Part) → 1 ≤ k → IsRanked tariff trip k found → is_beyond k found floor ≡ true → floor ≤ price → IsPlaced k found parts price
  beyond_is_placed found floor price parts some r h up =
      let last = beyond_last floor (slice_get found (k - 1)) h in
      let at_most : length found ≤ k = r.at_most in
      let low : last.0.1 < floor = last.2 in
      let full : (length found ≡ suc (k - 1)) × AllByRecursion (λ x. x.1 ≤ last.0.1) found =
      costs_no_more comes_before (λ (x : Priced). x.1) costs_no_more_than found (k - 1) last.0 (rising comes_before found r.rising) (omega arith) last.1 in
      inr (omega arith, All-from_recursion (λ x. IsBefore x (parts, price)) found (all_cheaper parts price last.0.1 found (omega arith) full.1))

  -- and what is dear is passed
  pub dear_is_passed : (found : List Priced) (floor : ℕ) → 1 ≤ k → IsRanked tariff trip k found → is_dear k limit found floor ≡ true → AllPassedFrom floor (IsPassed k limit found)
  dear_is_passed found floor some r h parts price up =
      elim (or_cases (nat_lt limit floor) (is_beyond k found floor) h) [
        | inl more ↦ let above : limit < floor = ltb-true limit floor more in inl (omega arith)
        | inr beyond ↦ inr (beyond_is_placed found floor price parts some r beyond up)
      ]

  pub none_ranked : IsRanked tariff trip k []
  none_ranked = record { at_most = omega arith; lawful = λ n d h. absurd (omega arith); rising = λ i j d up h. absurd (omega arith) }

  -- what was found is the first k where each lawful list has its place
  pub is_first : (found : List Priced) → IsRanked tariff trip k found → ((parts : List Part) (price : ℕ) → IsLawful tariff trip parts price → IsPlaced k found parts price) → IsFirstK tariff trip k found
  is_first found r placed = record {
    at_most = r.at_most;
    lawful = r.lawful;
    rising = r.rising;
    others = λ other l. placed other.0 other.1 l;
  }

  all_walked : (found : List Priced) → IsWalked tariff trip k limit (Completes []) found → (parts : List Part) (price : ℕ) → IsLawful tariff trip parts price → price ≤ limit → IsPlaced k found parts price
  all_walked found walk parts price l low = walk.walked parts price l low (record { rest = parts; whole = refl })

  -- so a walk over all lists comes to the first k where the last one wanted costs no more than the limit
  pub first_within : (found : List Priced) → 1 ≤ k → IsWalked tariff trip k limit (Completes []) found → is_within k found limit ≡ true → IsFirstK tariff trip k found
  first_within found some walk within =
      let last = within_last limit (slice_get found (k - 1)) within in
      let most : last.0.1 ≤ limit = last.2 in
      is_first found walk.ranked
      (λ parts price l. elim (cases_lt limit price) [
        | inl more ↦ beyond_is_placed found price price parts some walk.ranked (beyond_by price (slice_get found (k - 1)) last.0 last.1 (omega arith)) (omega arith)
        | inr up ↦ all_walked found walk parts price l up
      ])

  -- or where no lawful list costs more than the limit
  pub first_of_all : (found : List Priced) → IsWalked tariff trip k limit (Completes []) found → ((parts : List Part) (price : ℕ) → IsLawful tariff trip parts price → price ≤ limit) → IsFirstK tariff trip k found
  first_of_all found walk low = is_first found walk.ranked (λ parts price l. all_walked found walk parts price l (low parts price l))

  -- and nothing is the first k where nothing is lawful
  pub first_of_none : NoneIsLawful tariff trip → IsFirstK tariff trip k []
  first_of_none none = is_first [] none_ranked (λ parts price l. absurd (none parts price l))
