-- The least sum of the covers behind a point, by the ends of their first legs.
use Rattle.std.proofs.Common.{◌≡◌, refl, ℕ, ◌+◌, ◌<◌, ◌≤◌, ◌⊎◌, List, [], ◌∷◌, min, ap, sym, subst, ◌∙◌, arith, inl, inr}
use Rattle.std.specs.Prelude.{Option, Some, None, Contains}
use Rattle.std.proofs.lemmas.Bool.{cases_lt}
use Rattle.std.proofs.lemmas.List.Sums.{sum_by-cons}
use Rattle.std.proofs.lemmas.Option.{same_Some, none-some}
use Rattle.fare_trip.specs.Itinerary.{Itinerary, count}
use Rattle.fare_tariff.specs.Tariff.{Tariff}
use Rattle.fare_rules.specs.Construction.{begin_after}
use Rattle.fare_component.specs.declared.table.entry.Entry.{Entry}
use Rattle.fare_component.specs.Table.{IsEntry, entries_of}
use Rattle.fare_bounds.specs.Covers.{Leg, IsServed, IsCover, IsLeast, IsLeastSum, cost_of, least_cost, lesser, total}
use Rattle.fare_bounds.specs.Search.{GoesOn, IsBefore, cheapest, sum_of}
use Rattle.fare_bounds.proofs.CostLemmas.{cheapest_low, cheapest_reached}

-- the entries of a span are those of its fares
abbrev pub EntriesAreOfFares : Type 0
EntriesAreOfFares = (tariff : Tariff) (trip : Itinerary) (a b : ℕ) (entry : Entry)
    → Contains (entries_of tariff trip a b) entry → IsEntry tariff trip a b entry

option_cases : {A : Type 0} (o : Option A) → (o ≡ None) ⊎ ((x : A) × (o ≡ Some x))
option_cases None = inl refl
option_cases (Some x) = inr (x, refl)

-- what is least of some lists is least of others that are the same
pub least_same : (D E : List Leg → Type 0) (least : Option ℕ) → ((legs : List Leg) → D legs → E legs)
    → ((legs : List Leg) → E legs → D legs) → IsLeast D least → IsLeast E least
least_same D E None to from h = λ legs e. h legs (from legs e)
least_same D E (Some least) to from h = record {
  legs = h.legs;
  meets = to h.legs h.meets;
  reached = h.reached;
  lowest = λ others e. h.lowest others (from others e);
}

-- the lesser of two least sums is the least of both kinds of lists
pub least_both : (D E All : List Leg → Type 0) (a b : Option ℕ) → IsLeast D a → IsLeast E b
    → ((legs : List Leg) → All legs → D legs ⊎ E legs) → ((legs : List Leg) → D legs → All legs)
    → ((legs : List Leg) → E legs → All legs) → IsLeast All (lesser a b)
least_both D E All None None ha hb split one two =
    λ legs h. elim (split legs h) [ inl d ↦ ha legs d | inr e ↦ hb legs e ]
least_both D E All None (Some b) ha hb split one two = record {
  legs = hb.legs;
  meets = two hb.legs hb.meets;
  reached = hb.reached;
  lowest = λ others h. elim (split others h) [ inl d ↦ absurd (ha others d) | inr e ↦ hb.lowest others e ];
}
least_both D E All (Some a) None ha hb split one two = record {
  legs = ha.legs;
  meets = one ha.legs ha.meets;
  reached = ha.reached;
  lowest = λ others h. elim (split others h) [ inl d ↦ ha.lowest others d | inr e ↦ absurd (hb others e) ];
}
least_both D E All (Some a) (Some b) ha hb split one two =
    let lowest : (others : List Leg) → All others → min a b ≤ total others =
    λ others h. elim (split others h) [ inl d ↦ omega (arith, ha.lowest others d) | inr e ↦ omega (arith, hb.lowest others e) ] in
    elim (cases_lt a b) [
      | inl less ↦ record { legs = ha.legs; meets = one ha.legs ha.meets; reached = omega (arith, ha.reached); lowest = lowest }
      | inr not_less ↦ record { legs = hb.legs; meets = two hb.legs hb.meets; reached = omega (arith, hb.reached); lowest = lowest }
    ]

-- this point
abbrev IsAt : ℕ → ℕ → Type 0
IsAt point end = end ≡ point

module _ (tariff : Tariff) (trip : Itinerary) (i : ℕ) where
  abbrev a : ℕ
  a = begin_after trip i

  -- a first leg to a point costs no less than the cheapest entry there
  leg_low : (b : ℕ) (leg : Leg) → IsServed tariff trip a leg → leg.end ≡ b
      → (least : ℕ) × (cheapest (entries_of tariff trip a b) ≡ Some least) × (least ≤ leg.cost)
  leg_low b leg served e =
      cheapest_low (entries_of tariff trip a b) served.entry leg.cost
      (subst (λ end. Contains (entries_of tariff trip a end) served.entry) e served.there) served.costs

  -- the least sum of the covers whose first leg is to a point, by the cheapest entry there and the rest behind it
  at_cheapest : (b : ℕ) (rest : Option ℕ) (least : ℕ) → cheapest (entries_of tariff trip a b) ≡ Some least
      → IsLeast (IsCover tariff trip b) rest → IsLeast (GoesOn tariff trip i (IsAt b)) (sum_of (Some least) rest)
  at_cheapest b None least e known =
      λ legs goes. known goes.rest (subst (λ end. IsCover tariff trip end goes.rest) goes.meets goes.covers)
  at_cheapest b (Some rest) least e known =
      let found = cheapest_reached (entries_of tariff trip a b) least e in
      let leg : Leg = record { end = b; cost = least } in
      record {
        legs = leg ∷ known.legs;
        meets = record {
          first = leg;
          rest = known.legs;
          whole = refl;
          served = record { entry = found.0; there = found.1; costs = found.2 };
          meets = refl;
          covers = known.meets;
        };
        reached = omega (arith, sum_by-cons cost_of leg known.legs, known.reached);
        lowest = λ others goes.
            let low = leg_low b goes.first goes.served goes.meets in
            let same = same_Some low.0 least (sym low.1 ∙ e) in
            let behind = known.lowest goes.rest (subst (λ end. IsCover tariff trip end goes.rest) goes.meets goes.covers) in
            let whole = ap total goes.whole in
            omega (arith, low.2, same, behind, whole, sum_by-cons cost_of goes.first goes.rest);
      }

  least_at : (b : ℕ) (rest : Option ℕ) → IsLeast (IsCover tariff trip b) rest
      → IsLeast (GoesOn tariff trip i (IsAt b)) (sum_of (cheapest (entries_of tariff trip a b)) rest)
  least_at b rest known =
      elim (option_cases (cheapest (entries_of tariff trip a b))) [
        | inl none ↦ rw none (λ legs goes.
            let low = leg_low b goes.first goes.served goes.meets in
            none-some low.0 (sym none ∙ low.1))
        | inr found ↦ rw found.1 (at_cheapest b rest found.0 found.1 known)
      ]

  -- of the covers whose first leg ends before the next point
  pub least_next : (b : ℕ) (least rest : Option ℕ) → IsLeast (GoesOn tariff trip i (IsBefore b)) least
      → IsLeast (IsCover tariff trip b) rest
      → IsLeast (GoesOn tariff trip i (IsBefore (b + 1))) (lesser least (sum_of (cheapest (entries_of tariff trip a b)) rest))
  least_next b least rest before known =
      least_both (GoesOn tariff trip i (IsBefore b)) (GoesOn tariff trip i (IsAt b)) (GoesOn tariff trip i (IsBefore (b + 1)))
      least (sum_of (cheapest (entries_of tariff trip a b)) rest) before (least_at b rest known)
      (λ legs goes. elim (cases_lt goes.first.end b) [
        | inl less ↦ inl (record { first = goes.first; rest = goes.rest; whole = goes.whole; served = goes.served; meets = less; covers = goes.covers })
        | inr not_less ↦ inr (record { first = goes.first; rest = goes.rest; whole = goes.whole; served = goes.served; meets = omega (arith, goes.meets); covers = goes.covers })
      ])
      (λ legs goes. record { first = goes.first; rest = goes.rest; whole = goes.whole; served = goes.served; meets = omega (arith, goes.meets); covers = goes.covers })
      (λ legs goes. record { first = goes.first; rest = goes.rest; whole = goes.whole; served = goes.served; meets = omega (arith, goes.meets); covers = goes.covers })

  -- no first leg ends where it begins, or before
  pub least_first : EntriesAreOfFares → IsLeast (GoesOn tariff trip i (IsBefore (a + 1))) None
  least_first law = λ legs goes.
      let entry = law tariff trip a goes.first.end goes.served.entry goes.served.there in
      absurd (omega (arith, entry.rises, goes.meets))

  -- each cover behind a point before the trip's end has a first leg, which ends within the trip
  pub least_whole : EntriesAreOfFares → i < count trip → (least : Option ℕ)
      → IsLeast (GoesOn tariff trip i (IsBefore (count trip + 1))) least → IsLeast (IsCover tariff trip i) least
  least_whole law within least h =
      least_same (GoesOn tariff trip i (IsBefore (count trip + 1))) (IsCover tariff trip i) least
      (λ legs goes. subst (IsCover tariff trip i) (sym goes.whole) (goes.served, goes.covers)) goes_on h
    where
      goes_on : (legs : List Leg) → IsCover tariff trip i legs → GoesOn tariff trip i (IsBefore (count trip + 1)) legs
      goes_on [] e = absurd (omega arith)
      goes_on (leg ∷ rest) h = record {
        first = leg;
        rest = rest;
        whole = refl;
        served = h.0;
        meets = let entry = law tariff trip a leg.end h.0.entry h.0.there in omega (arith, entry.within);
        covers = h.1;
      }
