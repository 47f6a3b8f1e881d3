-- What the parts behind a place of a lawful construction cost is over the units that go on there.
use Rattle.std.proofs.Common.{◌≡◌, ℕ, zero, suc, ◌+◌, ◌-◌, ◌<◌, ◌≤◌, Bool, true, false, ◌&&◌, not, leb, List, [], ◌∷◌, ◌++◌, length, refl, ap, sym, subst, ◌∙◌, inl, inr, arith}
use Rattle.std.specs.Prelude.{Option, Some, Contains, filter, sum_by, bytes_eq}
use Rattle.std.specs.List.{range_with_len, list_any}
use Rattle.std.proofs.Math.ListN.{length-append}
use Rattle.std.proofs.lemmas.Bool.{cases_Bool, cases_lt, cases_eq, eqb-true, and_parts, leb-true, lt-leb, or_parts}
use Rattle.std.proofs.lemmas.Slice.Eq.{bytes_eq-Decides}
use Rattle.std.proofs.lemmas.List.Sums.{sum_by-cons}
use Rattle.fare_trip.specs.Itinerary.{Itinerary, count, point}
use Rattle.fare_tariff.specs.Tariff.{Tariff}
use Rattle.fare_rules.specs.declared.part.Part.{Part}
use Rattle.fare_rules.specs.Span.{is_surface, sectors}
use Rattle.fare_rules.specs.Numbers.{numbers}
use Rattle.fare_rules.specs.Construction.{begin_after, part_at, start_of, end_of, places, own, is_own, origin, unit_of, first_of, last_of, but_last, greatest_unit}
use Rattle.fare_rules.specs.Lawful.{holds_gap}
use Rattle.fare_rules.specs.Shape.{is_ow, holds_ow, is_jaw, ends_in, comes_home, comes_home_early, ends_at_home, lie_together}
use Rattle.fare_rules.proofs.MemberLemmas.{Member}
use Rattle.fare_rules.specs.Best.{IsLawful}
use Rattle.fare_rules.proofs.AmountLemmas.{fails_not}
use Rattle.fare_rules.proofs.CoverLemmas.{begins_later, same_end}
use Rattle.fare_rules.proofs.LawfulLemmas.{kept}
use Rattle.fare_rules.proofs.NumberLemmas.{any_next}
use Rattle.fare_units.proofs.NextLemmas.{front_unit, greatest_same}
use Rattle.fare_component.specs.Table.{entries_of}
use Rattle.fare_legs.specs.declared.ceiling.Ceiling.{Ceiling}
use Rattle.fare_legs.specs.Ceiling.{IsCeiling, below_ceiling}
use Rattle.fare_legs.specs.Costs.{IsUpTo, is_same_city, back_cost, between_cost, heads_to}
use Rattle.fare_homing.specs.Homing.{closing_by, homing_at, may_end_at, may_go_on}
use Rattle.fare_homing.specs.HomingRows.{IsLast}
use Rattle.fare_homing.specs.Units.{AreUnitsWithin}
use Rattle.fare_legs.specs.Owed.{IsOwed}
use Rattle.fare_legs.specs.Barred.{is_barred}
use Rattle.fare_floors.proofs.CircleLemmas.{below_every}
use Rattle.fare_floors.proofs.CostLemmas.{member_place, unit_from_one}
use Rattle.fare_floors.proofs.UnitLemmas.{all, own_has, unit_in, alone_in, holds_none}
use Rattle.fare_floors.proofs.GoesOnLemmas.{first_member, going_on, goes_not, goes_on_from, on_same, none_above, home_behind, own_first, own_last, own_two, two_ends}
use Rattle.fare_floors.proofs.NearLemmas.{EndsBy, unit_ends_by}
use Rattle.fare_legs.specs.Pairs.{HasPair}
use Rattle.fare_legs.specs.Threes.{IsOneOfThree}
use Rattle.fare_floors.proofs.PairLemmas.{pair_of, third_of}
use Rattle.fare_floors.proofs.OnwardLemmas.{ends_rise, must_close_from, closed_whole, ends_home, either_left, either_right}
use Rattle.fare_floors.specs.Costs.{true_cost}
use Rattle.fare_floors.specs.Stack.{goes_on, has_more, own_from, own_to, stand_of, IsOver, LastsBy}
use Rattle.fare_legs.proofs.ReachLemmas.{up_more}
use Rattle.fare_homing.proofs.UnderLemmas.{alone_free_under, alone_under, between_under, first_free_under, first_under, last_closes_under, last_jaw_under, nothing_free_left, second_closes_under}
use Rattle.fare_floors.proofs.StackLemmas.{IsBehind, home_at, begins_at, AreSame, over_more, over_same, over_down, over_up, Opens, opens, from_open, step_over}
use Rattle.fare_floors.proofs.ShutLemmas.{any_at, long_ends_at_home}
use Rattle.fare_floors.proofs.OwedLemmas.{owes, pair_at}
use Rattle.fare_floors.proofs.StandLemmas.{from_here, from_over, point_behind, ends_before, begins_between, begins_near, begins_there, more_here, more_over, one_here, own_about, some_to, stand_here, stand_low, stand_over}
use Rattle.fare_floors.proofs.SumLemmas.{greatest_fewer, kept_member, unit_up_to}
use Rattle.fare_floors.proofs.TrueCostLemmas.{entry, entry_there, alone_cost, first_costs, back_costs, between_costs}

true_false : true ≡ false → ⊥
true_false e = cc

not_so : (b : Bool) → (b ≡ true → ⊥) → b ≡ false
not_so true h = absurd (h refl)
not_so false h = refl

below : (a b : ℕ) → a ≤ b → (a ≡ b → ⊥) → a < b
below a b h n = omega arith

above : (a b : ℕ) → b ≤ a → (a ≡ b → ⊥) → b < a
above a b h n = omega arith

pub behind_next : (parts : List Part) (k : ℕ) → point_behind parts (k + 1) ≡ end_of parts (k + 1)
behind_next parts k =
    let e : suc k ≡ k + 1 = omega arith in
    let P : ℕ → Type 0 = λ n. point_behind parts n ≡ end_of parts n in
    subst P e refl

pub behind_all : (parts : List Part) → point_behind parts (length parts) ≡ end_of parts (length parts)
behind_all [] = refl
behind_all (x ∷ xs) = refl

jaw_is_two : (tariff : Tariff) (trip : Itinerary) (parts : List Part) (xs : List ℕ) → is_jaw tariff trip parts xs ≡ true → length xs ≡ 2
jaw_is_two tariff trip parts [] h = absurd (true_false (sym h))
jaw_is_two tariff trip parts (a ∷ []) h = absurd (true_false (sym h))
jaw_is_two tariff trip parts (a ∷ b ∷ []) h = refl
jaw_is_two tariff trip parts (a ∷ b ∷ c ∷ more) h = absurd (true_false (sym h))

two_or_more : (trip : Itinerary) (parts : List Part) (xs : List ℕ) → ends_at_home trip parts xs ≡ true → 2 ≤ length xs
two_or_more trip parts xs h =
    let most = and_parts (leb 2 (length xs) && comes_home trip parts xs) (not (comes_home_early trip parts xs)) h in
    leb-true 2 (length xs) (and_parts (leb 2 (length xs)) (comes_home trip parts xs) most.0).0

-- each place of a unit but its last is an earlier one
earlier_place : (k : ℕ) (xs : List ℕ) → Member k xs → k < last_of xs → Member k (but_last xs)
earlier_place k [] m less = m
earlier_place k (x ∷ []) (inl e) less = absurd (omega arith)
earlier_place k (x ∷ []) (inr m) less = absurd m
earlier_place k (x ∷ y ∷ ys) (inl e) less = inl e
earlier_place k (x ∷ y ∷ ys) (inr m) less = inr (earlier_place k (y ∷ ys) m less)

module _ (tariff : Tariff) (trip : Itinerary) (parts : List Part) (price : ℕ) (lawful : IsLawful tariff trip parts price) where
  -- an earlier part of a unit of three parts or more ends elsewhere than where the unit comes home
  ends_apart : (unit k : ℕ) → 1 ≤ unit → unit ≤ greatest_unit parts (places parts) → 3 ≤ length (own parts unit) → Member k (own parts unit) → k < last_of (own parts unit)
      → is_same_city trip (begins_at trip parts unit) (home_at parts unit) ≡ true → is_same_city trip (home_at parts unit) (end_of parts k) ≡ false
  ends_apart unit k low high long there less city =
      let never : comes_home_early trip parts (own parts unit) ≡ false = long_ends_at_home tariff trip parts price unit lawful low high long in
      let ends : ℕ → Bool = ends_in trip parts (origin trip parts (own parts unit)) in
      let apart : ends k ≡ false = not_so (ends k) (λ t. true_false (sym (any_at ends k (but_last (own parts unit)) (earlier_place k (own parts unit) there less) t) ∙ never)) in
      let same : point trip (home_at parts unit) ≡ point trip (begins_at trip parts unit) = (bytes_eq-Decides (point trip (home_at parts unit)) (point trip (begins_at trip parts unit))).0 city in
      ap (bytes_eq (point trip (end_of parts k))) same ∙ apart

  -- the trip begins in the air
  flown : 1 ≤ length parts → is_surface trip 1 ≡ false
  flown some =
      let cover = all tariff trip parts price lawful in
      let above : 0 < end_of parts 1 = cover.above 1 (omega arith) some in
      let gap : list_any (is_surface trip) (sectors 0 (end_of parts 1)) ≡ false = fails_not tariff trip parts (kept tariff trip parts price lawful) 1 (omega arith) some (holds_gap trip parts) (kept tariff trip parts price lawful).surface in
      (or_parts (is_surface trip 1) (list_any (is_surface trip) (sectors 1 (end_of parts 1))) (sym (any_next (is_surface trip) 1 (end_of parts 1 + 1) (omega arith)) ∙ gap)).0

  -- a part begins behind the one before it
  pub begins_next : (k : ℕ) → k + 1 ≤ length parts → begin_after trip (point_behind parts k) ≡ start_of trip parts (k + 1)
  begins_next zero high = rw (flown (omega arith)) refl
  begins_next (suc k) high =
      let n : suc k + 1 - 1 ≡ suc k = omega arith in
      rw (lt-leb (suc k + 1) 1 (omega arith), n) refl

  pub part_rises : (k : ℕ) → k + 1 ≤ length parts → point_behind parts k < end_of parts (k + 1)
  part_rises k high =
      let cover = all tariff trip parts price lawful in
      let later : point_behind parts k ≤ begin_after trip (point_behind parts k) = begins_later trip (point_behind parts k) in
      let same : begin_after trip (point_behind parts k) ≡ start_of trip parts (k + 1) = begins_next k high in
      let above : start_of trip parts (k + 1) < end_of parts (k + 1) = cover.above (k + 1) (omega arith) high in
      omega arith

  -- and a later one begins where it ends, or behind that
  starts_behind : (k z : ℕ) → 1 ≤ k → k < z → z ≤ length parts → end_of parts k ≤ start_of trip parts z
  starts_behind k zero low less within = absurd (omega arith)
  starts_behind k (suc m) low less within =
      let n : m + 1 ≡ suc m = omega arith in
      let P : ℕ → Type 0 = λ z. begin_after trip (point_behind parts m) ≡ start_of trip parts z in
      let begins : begin_after trip (point_behind parts m) ≡ start_of trip parts (suc m) = subst P n (begins_next m (omega arith)) in
      let later : point_behind parts m ≤ begin_after trip (point_behind parts m) = begins_later trip (point_behind parts m) in
      let before : end_of parts k ≤ point_behind parts m = ends_before tariff trip parts price lawful k m low (omega arith) (omega arith) in
      omega arith

  -- a unit of half round trips has two parts or more; of three or more the last ends in the city where the first begins
  pub half_shape : (unit : ℕ) → 1 ≤ unit → unit ≤ greatest_unit parts (places parts) → (xs : List ℕ) → own parts unit ≡ xs → holds_ow tariff parts xs ≡ false → (2 ≤ length xs) × (3 ≤ length xs → comes_home trip parts xs ≡ true)
  half_shape unit low high xs e none =
      elim (cases_Bool (is_jaw tariff trip parts xs)) [
        | inl t ↦ let two : length xs ≡ 2 = jaw_is_two tariff trip parts xs t in (omega arith, λ h. absurd (omega arith))
        | inr f ↦
            let close = closed_whole tariff trip [] parts price lawful unit low high xs e (must_close_from tariff trip parts xs none f) in
            (two_or_more trip parts xs close.1, λ h. ends_home trip parts xs close.1)
      ]

  -- and it may end where it does
  half_ends_by : (unit : ℕ) → 1 ≤ unit → unit ≤ greatest_unit parts (places parts) → (xs : List ℕ) → own parts unit ≡ xs → 1 ≤ length xs → holds_ow tariff parts xs ≡ false → may_end_at tariff trip (start_of trip parts (first_of xs)) (end_of parts (last_of xs)) ≡ true
  half_ends_by unit low high [] e some none = absurd (omega arith)
  half_ends_by unit low high (x ∷ xs) e some none =
      let near : EndsBy tariff trip [] parts price lawful x (last_of (x ∷ xs)) = unit_ends_by tariff trip [] parts price lawful unit low high x xs e none in
      either x (last_of (x ∷ xs)) near
    where
      either : (j last : ℕ) → EndsBy tariff trip [] parts price lawful j last → may_end_at tariff trip (start_of trip parts j) (end_of parts last) ≡ true
      either j last (inl home) = either_left (bytes_eq (point trip (end_of parts last)) (point trip (start_of trip parts j))) (lie_together tariff (point trip (end_of parts last)) (point trip (start_of trip parts j))) home
      either j last (inr near) = either_right (bytes_eq (point trip (end_of parts last)) (point trip (start_of trip parts j))) (lie_together tariff (point trip (end_of parts last)) (point trip (start_of trip parts j))) near

  module _ (ceiling : Option Ceiling) (alike : IsCeiling tariff trip ceiling) (cheap : AreUnitsWithin tariff trip parts ceiling) (begun closing jaw : ℕ → ℕ → ℕ → Option ℕ) (whole : ℕ → ℕ → Option ℕ) (left : ℕ → Option ℕ) {from : ℕ} (are : IsBehind tariff trip ceiling begun closing jaw whole left parts from) where
    abbrev Stands : ℕ → ℕ → ℕ → ℕ → Type 0
    Stands k u i cost = IsOver tariff trip begun closing jaw left parts k u i cost

    at_city : (c start i j x : ℕ) → is_same_city trip start j ≡ true → IsUpTo x (homing_at trip (closing c) (jaw c) start i j) → IsUpTo x (closing c i j)
    at_city c start i j x t up = rw t at up

    from_city : (more : Bool) (c start i j x : ℕ) → is_same_city trip start j ≡ true → IsUpTo x (closing_by more begun closing c i j) → IsUpTo x (homing_at trip (closing_by more begun closing c) (jaw c) start i j)
    from_city more c start i j x t up = rw t up

    -- a part behind some others, before what is over the units that go on behind it
    module _ (k : ℕ) (high : k + 1 ≤ length parts) (behind : ℕ) (over : Stands (k + 1) (greatest_unit parts (places parts)) (end_of parts (k + 1)) behind) where
      mine_low : 1 ≤ unit_of parts (k + 1)
      mine_low = unit_from_one tariff trip parts price lawful (k + 1) (omega arith) high

      mine_high : unit_of parts (k + 1) ≤ greatest_unit parts (places parts)
      mine_high = unit_in tariff trip parts price lawful (k + 1) (omega arith) high

      -- the places of its unit lie between its first and its last one
      pub first_by : first_of (own parts (unit_of parts (k + 1))) ≤ k + 1
      first_by = own_first parts (unit_of parts (k + 1)) (k + 1) (own_has tariff trip parts price lawful (k + 1) (omega arith) high)

      pub last_by : k + 1 ≤ last_of (own parts (unit_of parts (k + 1)))
      last_by = own_last parts (unit_of parts (k + 1)) (k + 1) (own_has tariff trip parts price lawful (k + 1) (omega arith) high)

      pub rises : point_behind parts k < end_of parts (k + 1)
      rises = part_rises k high

      pub within : end_of parts (k + 1) ≤ count trip
      within = (all tariff trip parts price lawful).within (k + 1) (omega arith) high

      -- its entry is one of those from the point behind the others
      contained : Contains (entries_of tariff trip (begin_after trip (point_behind parts k)) (end_of parts (k + 1))) (entry tariff trip parts price lawful (k + 1))
      contained =
          let P : ℕ → Type 0 = λ a. Contains (entries_of tariff trip a (end_of parts (k + 1))) (entry tariff trip parts price lawful (k + 1)) in
          subst P (sym (begins_next k high)) (entry_there tariff trip parts price lawful (k + 1) (omega arith) high)

      -- what goes on behind it comes home behind it
      home_later : (v : ℕ) → goes_on parts (k + 1) v ≡ true → (end_of parts (k + 1) < home_at parts v) × (home_at parts v ≤ count trip)
      home_later v t =
          let g = going_on tariff trip parts price lawful (k + 1) v t in
          let behind_it : k + 1 < last_of (own parts v) = g.behind in (
            ends_rise trip parts (all tariff trip parts price lawful) (k + 1) (last_of (own parts v)) (omega arith) g.behind g.within,
            (all tariff trip parts price lawful).within (last_of (own parts v)) (omega arith) g.within,
          )

      other_same : (v : ℕ) → (unit_of parts (k + 1) ≡ v → ⊥) → goes_on parts (k + 1) v ≡ goes_on parts k v
      other_same v other = on_same tariff trip parts price lawful k v other

      above_not : (v : ℕ) → unit_of parts (k + 1) < v → goes_on parts k v ≡ false
      above_not v less = none_above tariff trip parts price lawful k v high mine_low less

      above_not_next : (v : ℕ) → unit_of parts (k + 1) < v → goes_on parts (k + 1) v ≡ false
      above_not_next v less = other_same v (λ e. omega arith) ∙ above_not v less

      -- of its unit and those above it none goes on where its unit doesn't
      from_mine : (j : ℕ) → goes_on parts j (unit_of parts (k + 1)) ≡ false → ((v : ℕ) → unit_of parts (k + 1) < v → goes_on parts j v ≡ false) → (v : ℕ) → unit_of parts (k + 1) - 1 < v → goes_on parts j v ≡ false
      from_mine j not_mine above v low =
          elim (cases_lt (unit_of parts (k + 1)) v) [
            | inl less ↦ above v less
            | inr past ↦
                let low_mine : 1 ≤ unit_of parts (k + 1) = mine_low in
                let same : unit_of parts (k + 1) ≡ v = omega arith in
                let P : ℕ → Type 0 = λ u. goes_on parts j u ≡ false in
                subst P same not_mine
          ]

      under_same : (i x : ℕ) → Stands (k + 1) (unit_of parts (k + 1) - 1) i x → Stands k (unit_of parts (k + 1) - 1) i x
      under_same i x o =
          let low_mine : 1 ≤ unit_of parts (k + 1) = mine_low in
          let same : AreSame tariff trip begun closing jaw left parts (k + 1) k (unit_of parts (k + 1) - 1) = λ v low most. (other_same v (λ e. omega arith), λ t. (stand_over parts k v (λ e. omega arith), more_over parts k v (λ e. omega arith), from_over parts k v (λ e. omega arith))) in
          over_same tariff trip begun closing jaw left parts (k + 1) k (unit_of parts (k + 1) - 1) i x same o

      -- what goes on before it and behind it comes home behind it, and stands before it
      home_and_stand : (v : ℕ) → goes_on parts (k + 1) v ≡ goes_on parts k v → goes_on parts k v ≡ true → (end_of parts (k + 1) < home_at parts v) × (stand_of parts k v ≤ point_behind parts k)
      home_and_stand v same t = ((home_later v (same ∙ t)).0, stand_low tariff trip parts price lawful k v t)

      under_most : unit_of parts (k + 1) - 1 ≤ greatest_unit parts (places parts)
      under_most = let most : unit_of parts (k + 1) ≤ greatest_unit parts (places parts) = mine_high in omega arith

      -- a one way fare stands alone
      module _ (way : is_ow tariff parts (k + 1) ≡ true) where
        alone_at : (first_of (own parts (unit_of parts (k + 1))) ≡ k + 1) × (last_of (own parts (unit_of parts (k + 1))) ≡ k + 1)
        alone_at =
            let holds : holds_ow tariff parts (own parts (unit_of parts (k + 1))) ≡ true = any_at (is_ow tariff parts) (k + 1) (own parts (unit_of parts (k + 1))) (own_has tariff trip parts price lawful (k + 1) (omega arith) high) way in
            let one = alone_in tariff trip parts price lawful (unit_of parts (k + 1)) mine_low mine_high holds in
            let first : first_of (own parts (unit_of parts (k + 1))) ≡ one.0 = ap first_of one.1 in
            let last : last_of (own parts (unit_of parts (k + 1))) ≡ one.0 = ap last_of one.1 in
            let low : first_of (own parts (unit_of parts (k + 1))) ≤ k + 1 = first_by in
            let most : k + 1 ≤ last_of (own parts (unit_of parts (k + 1))) = last_by in
            (omega arith, omega arith)

        -- and its unit does not go on behind it
        alone_not : goes_on parts (k + 1) (unit_of parts (k + 1)) ≡ false
        alone_not = let last : last_of (own parts (unit_of parts (k + 1))) ≡ k + 1 = alone_at.1 in goes_not parts (k + 1) (unit_of parts (k + 1)) (λ a b. omega arith)

        alone_same : (v : ℕ) → goes_on parts (k + 1) v ≡ goes_on parts k v
        alone_same v =
            elim (cases_eq (unit_of parts (k + 1)) v) [
              | inl same ↦
                  let first : first_of (own parts (unit_of parts (k + 1))) ≡ k + 1 = alone_at.0 in
                  let here : goes_on parts k (unit_of parts (k + 1)) ≡ false = goes_not parts k (unit_of parts (k + 1)) (λ a b. omega arith) in
                  let P : ℕ → Type 0 = λ u. goes_on parts (k + 1) u ≡ goes_on parts k u in
                  subst P same (alone_not ∙ sym here)
              | inr other ↦ other_same v other
            ]

        alone_stands : (v : ℕ) → goes_on parts (k + 1) v ≡ true → (stand_of parts (k + 1) v ≡ stand_of parts k v) × (has_more parts (k + 1) v ≡ has_more parts k v) × (own_from parts (k + 1) v ≡ own_from parts k v)
        alone_stands v t =
            let other : unit_of parts (k + 1) ≡ v → ⊥ = λ e.
            let P : ℕ → Type 0 = λ u. goes_on parts (k + 1) u ≡ false in
            true_false (sym t ∙ subst P e alone_not) in
            (stand_over parts k v other, more_over parts k v other, from_over parts k v other)

        -- so what is over the units behind it is over those before it
        pub alone_behind : Stands k (greatest_unit parts (places parts)) (end_of parts (k + 1)) behind
        alone_behind =
            let same : AreSame tariff trip begun closing jaw left parts (k + 1) k (greatest_unit parts (places parts)) = λ v low most. (alone_same v, alone_stands v) in
            over_same tariff trip begun closing jaw left parts (k + 1) k (greatest_unit parts (places parts)) (end_of parts (k + 1)) behind same over

        alone_over : from ≤ k → Stands k (greatest_unit parts (places parts)) (point_behind parts k) (true_cost tariff trip parts (k + 1) + behind)
        alone_over past =
            let first : first_of (own parts (unit_of parts (k + 1))) ≡ k + 1 = alone_at.0 in
            let free : IsUpTo (true_cost tariff trip parts (k + 1)) (are.outer (point_behind parts k) (end_of parts (k + 1))) = alone_free_under are.rests (point_behind parts k) (end_of parts (k + 1)) (entry tariff trip parts price lawful (k + 1)) (true_cost tariff trip parts (k + 1)) contained (are.clear (k + 1) (omega arith) high (omega arith)) (alone_cost tariff trip parts price lawful (k + 1) (omega arith) high way) in
            let up : IsUpTo (true_cost tariff trip parts (k + 1)) (whole (point_behind parts k) (end_of parts (k + 1))) = alone_under are.homings (point_behind parts k) (end_of parts (k + 1)) (entry tariff trip parts price lawful (k + 1)) (true_cost tariff trip parts (k + 1)) contained (alone_cost tariff trip parts price lawful (k + 1) (omega arith) high way) in
            step_over tariff trip ceiling begun closing jaw whole left parts are k (greatest_unit parts (places parts)) (point_behind parts k) (end_of parts (k + 1)) (true_cost tariff trip parts (k + 1)) behind rises within up free (λ v low most t. home_and_stand v (alone_same v) t) alone_behind

      -- a half round trip stands first, between or last in its unit
      module _ (way : is_ow tariff parts (k + 1) ≡ false) where
        none_ow : holds_ow tariff parts (own parts (unit_of parts (k + 1))) ≡ false
        none_ow = holds_none tariff trip parts price lawful (k + 1) (omega arith) high way

        shape : (2 ≤ length (own parts (unit_of parts (k + 1)))) × (3 ≤ length (own parts (unit_of parts (k + 1))) → comes_home trip parts (own parts (unit_of parts (k + 1))) ≡ true)
        shape = half_shape (unit_of parts (k + 1)) mine_low mine_high (own parts (unit_of parts (k + 1))) refl none_ow

        pub apart : first_of (own parts (unit_of parts (k + 1))) < last_of (own parts (unit_of parts (k + 1)))
        apart = own_two parts (unit_of parts (k + 1)) shape.0

        three : first_of (own parts (unit_of parts (k + 1))) < k + 1 → k + 1 < last_of (own parts (unit_of parts (k + 1))) → 3 ≤ length (own parts (unit_of parts (k + 1)))
        three first less =
            elim (cases_lt 2 (length (own parts (unit_of parts (k + 1))))) [
              | inl long ↦ omega arith
              | inr short ↦ elim (two_ends (own parts (unit_of parts (k + 1))) (k + 1) (own_has tariff trip parts price lawful (k + 1) (omega arith) high) short) [ inl e ↦ absurd (omega arith) | inr e ↦ absurd (omega arith) ]
            ]

        -- behind the first part of its unit
        module _ (first : first_of (own parts (unit_of parts (k + 1))) < k + 1) where
          begins_in : Member (first_of (own parts (unit_of parts (k + 1)))) (own parts (unit_of parts (k + 1)))
          begins_in = let some : 2 ≤ length (own parts (unit_of parts (k + 1))) = shape.0 in first_member (own parts (unit_of parts (k + 1))) (omega arith)

          begun_place : (1 ≤ first_of (own parts (unit_of parts (k + 1)))) × (first_of (own parts (unit_of parts (k + 1))) ≤ length parts) × (unit_of parts (first_of (own parts (unit_of parts (k + 1)))) ≡ unit_of parts (k + 1))
          begun_place = member_place tariff trip parts price lawful (unit_of parts (k + 1)) (first_of (own parts (unit_of parts (k + 1)))) begins_in

          -- its unit stands no later than where it begins
          stand_before : stand_of parts k (unit_of parts (k + 1)) ≤ point_behind parts k
          stand_before =
              let most : k + 1 ≤ last_of (own parts (unit_of parts (k + 1))) = last_by in
              stand_low tariff trip parts price lawful k (unit_of parts (k + 1)) (goes_on_from parts k (unit_of parts (k + 1)) (omega arith) (omega arith))

          near : may_go_on tariff trip (stand_of parts k (unit_of parts (k + 1))) (begin_after trip (point_behind parts k)) ≡ true
          near =
              let P : ℕ → Type 0 = λ a. may_go_on tariff trip (stand_of parts k (unit_of parts (k + 1))) a ≡ true in
              subst P (sym (begins_next k high)) (begins_near tariff trip parts price lawful k high way (first_of (own parts (unit_of parts (k + 1)))) begun_place.0 (omega arith) begun_place.2)

          there_from : is_same_city trip (stand_of parts k (unit_of parts (k + 1))) (start_of trip parts (k + 1)) ≡ true → is_same_city trip (stand_of parts k (unit_of parts (k + 1))) (begin_after trip (point_behind parts k)) ≡ true
          there_from h =
              let P : ℕ → Type 0 = λ a. is_same_city trip (stand_of parts k (unit_of parts (k + 1))) a ≡ true in
              subst P (sym (begins_next k high)) h

          there_between : 3 ≤ length (own parts (unit_of parts (k + 1))) → is_same_city trip (stand_of parts k (unit_of parts (k + 1))) (begin_after trip (point_behind parts k)) ≡ true
          there_between long = there_from (begins_between tariff trip parts price lawful k high way (first_of (own parts (unit_of parts (k + 1)))) begun_place.0 (omega arith) begun_place.2 long)

          there_last : is_same_city trip (begins_at trip parts (unit_of parts (k + 1))) (end_of parts (k + 1)) ≡ false → is_same_city trip (stand_of parts k (unit_of parts (k + 1))) (begin_after trip (point_behind parts k)) ≡ true
          there_last elsewhere = there_from (begins_there tariff trip parts price lawful k high way (first_of (own parts (unit_of parts (k + 1)))) begun_place.0 (omega arith) begun_place.2 elsewhere)

          -- the places of its unit before it
          some_before : 1 ≤ length (own_to parts k (unit_of parts (k + 1)))
          some_before = some_to tariff trip parts price lawful k (unit_of parts (k + 1)) (first_of (own parts (unit_of parts (k + 1)))) begun_place.0 (omega arith) begun_place.2

          -- where it is the last of its unit, it is worth what its unit owes
          module _ (last : last_of (own parts (unit_of parts (k + 1))) ≡ k + 1) where
            back : (x : ℕ) × (back_cost (entry tariff trip parts price lawful (k + 1)) ≡ Some x) × (x ≤ true_cost tariff trip parts (k + 1))
            back = back_costs tariff trip parts price lawful (k + 1) (omega arith) high way last

            is_last : IsLast tariff trip (stand_of parts k (unit_of parts (k + 1))) (point_behind parts k) (end_of parts (k + 1)) back.0
            is_last = record { near = near; part = record { entry = entry tariff trip parts price lawful (k + 1); there = contained; costs = back.1 } }

            owed_here : has_more parts k (unit_of parts (k + 1)) ≡ false → is_same_city trip (begins_at trip parts (unit_of parts (k + 1))) (end_of parts (k + 1)) ≡ true → is_same_city trip (stand_of parts k (unit_of parts (k + 1))) (begin_after trip (point_behind parts k)) ≡ true
                → (y : ℕ) × IsOwed tariff trip (stand_of parts k (unit_of parts (k + 1))) (end_of parts (k + 1)) y × (y ≤ true_cost tariff trip parts (k + 1))
            owed_here one city there =
                let pair = pair_at parts k high one some_before last in
                let stands : stand_of parts k (unit_of parts (k + 1)) ≡ end_of parts pair.first = ap (λ xs. end_of parts (last_of xs)) pair.before in
                let begins : first_of (own parts (unit_of parts (k + 1))) ≡ pair.first = ap first_of pair.both in
                let early : first_of (own parts (unit_of parts (k + 1))) < k + 1 = first in
                let low_first : 1 ≤ first_of (own parts (unit_of parts (k + 1))) = begun_place.0 in
                let S : ℕ → Type 0 = λ s. is_same_city trip s (start_of trip parts (k + 1)) ≡ true in
                let A : ℕ → Type 0 = λ a. is_same_city trip (stand_of parts k (unit_of parts (k + 1))) a ≡ true in
                let H : ℕ → Type 0 = λ j. is_same_city trip (start_of trip parts j) (end_of parts (k + 1)) ≡ true in
                let O : ℕ → Type 0 = λ s. (y : ℕ) × IsOwed tariff trip s (end_of parts (k + 1)) y × (y ≤ true_cost tariff trip parts (k + 1)) in
                subst O (sym stands) (owes tariff trip parts price lawful (k + 1) (omega arith) high way pair.first pair.both
                (starts_behind pair.first (k + 1) (omega arith) (omega arith) high) (subst S stands (subst A (begins_next k high) there)) (subst H begins city))

            closes_up : is_same_city trip (begins_at trip parts (unit_of parts (k + 1))) (end_of parts (k + 1)) ≡ true → IsUpTo (true_cost tariff trip parts (k + 1)) (closing_by (has_more parts k (unit_of parts (k + 1))) begun closing (stand_of parts k (unit_of parts (k + 1))) (point_behind parts k) (end_of parts (k + 1)))
            closes_up city = by_more (has_more parts k (unit_of parts (k + 1))) refl
              where
                by_more : (more : Bool) → has_more parts k (unit_of parts (k + 1)) ≡ more → IsUpTo (true_cost tariff trip parts (k + 1)) (closing_by more begun closing (stand_of parts k (unit_of parts (k + 1))) (point_behind parts k) (end_of parts (k + 1)))
                by_more true e = up_more back.0 (true_cost tariff trip parts (k + 1)) (closing (stand_of parts k (unit_of parts (k + 1))) (point_behind parts k) (end_of parts (k + 1))) back.2 (last_closes_under are.homings (stand_of parts k (unit_of parts (k + 1))) (point_behind parts k) (end_of parts (k + 1)) back.0 stand_before is_last)
                by_more false e =
                    let low : stand_of parts k (unit_of parts (k + 1)) ≤ point_behind parts k = stand_before in
                    let rise : point_behind parts k < end_of parts (k + 1) = rises in
                    second_closes_under are.homings (stand_of parts k (unit_of parts (k + 1))) (point_behind parts k) (end_of parts (k + 1)) (true_cost tariff trip parts (k + 1)) stand_before (record { within = (omega arith, within); last = (back.0, is_last, back.2); owed = owed_here e city })

            last_up : IsUpTo (true_cost tariff trip parts (k + 1)) (homing_at trip (closing_by (has_more parts k (unit_of parts (k + 1))) begun closing (stand_of parts k (unit_of parts (k + 1)))) (jaw (stand_of parts k (unit_of parts (k + 1)))) (begins_at trip parts (unit_of parts (k + 1))) (point_behind parts k) (end_of parts (k + 1)))
            last_up =
                elim (cases_Bool (is_same_city trip (begins_at trip parts (unit_of parts (k + 1))) (end_of parts (k + 1)))) [
                  | inl t ↦ rw t (closes_up t)
                  | inr f ↦ rw f (up_more back.0 (true_cost tariff trip parts (k + 1)) (jaw (stand_of parts k (unit_of parts (k + 1))) (point_behind parts k) (end_of parts (k + 1))) back.2 (last_jaw_under are.homings (stand_of parts k (unit_of parts (k + 1))) (point_behind parts k) (end_of parts (k + 1)) (entry tariff trip parts price lawful (k + 1)) back.0 stand_before (there_last f) contained back.1))
                ]

        -- with other parts of its unit behind it
        module _ (less : k + 1 < last_of (own parts (unit_of parts (k + 1)))) where
          goes : goes_on parts (k + 1) (unit_of parts (k + 1)) ≡ true
          goes = goes_on_from parts (k + 1) (unit_of parts (k + 1)) first_by less

          opened : Opens tariff trip begun closing jaw left parts (k + 1) (unit_of parts (k + 1)) (end_of parts (k + 1)) behind
          opened = opens tariff trip begun closing jaw left parts (k + 1) (unit_of parts (k + 1)) (end_of parts (k + 1)) behind mine_low goes (over_down tariff trip begun closing jaw left parts (k + 1) (unit_of parts (k + 1)) (greatest_unit parts (places parts)) (end_of parts (k + 1)) behind mine_high (λ v low most. above_not_next v low) over)

          -- its unit stands where it ends
          home_from : IsUpTo (opened.0) (homing_at trip (closing_by (has_more parts (k + 1) (unit_of parts (k + 1))) begun closing (end_of parts (k + 1))) (jaw (end_of parts (k + 1))) (begins_at trip parts (unit_of parts (k + 1))) (end_of parts (k + 1)) (home_at parts (unit_of parts (k + 1))))
          home_from =
              let P : ℕ → Type 0 = λ c. IsUpTo (opened.0) (homing_at trip (closing_by (has_more parts (k + 1) (unit_of parts (k + 1))) begun closing c) (jaw c) (begins_at trip parts (unit_of parts (k + 1))) (end_of parts (k + 1)) (home_at parts (unit_of parts (k + 1)))) in
              subst P (stand_here parts k) opened.3

        -- with its first part its unit has one, and with a later one more
        pub one_now : first_of (own parts (unit_of parts (k + 1))) ≡ k + 1 → has_more parts (k + 1) (unit_of parts (k + 1)) ≡ false
        one_now first = one_here parts k (no_earlier (own_to parts k (unit_of parts (k + 1))) refl)
          where
            no_earlier : (xs : List ℕ) → own_to parts k (unit_of parts (k + 1)) ≡ xs → own_to parts k (unit_of parts (k + 1)) ≡ []
            no_earlier [] e = e
            no_earlier (x ∷ xs) e =
                let about : own parts (unit_of parts (k + 1)) ≡ own_to parts k (unit_of parts (k + 1)) ++ (k + 1) ∷ filter (is_own parts (unit_of parts (k + 1))) (numbers (k + 1 + 1) (length parts + 1)) = own_about parts k high in
                let begins : first_of (own parts (unit_of parts (k + 1))) ≡ x = ap first_of (about ∙ ap (λ ys. ys ++ (k + 1) ∷ filter (is_own parts (unit_of parts (k + 1))) (numbers (k + 1 + 1) (length parts + 1))) e) in
                let P : List ℕ → Type 0 = λ ys. Member x ys in
                let there = kept_member (is_own parts (unit_of parts (k + 1))) 1 (k + 1 - 1) x (subst P (sym e) (inl refl)) in
                let before : x < 1 + (k + 1 - 1) = there.1 in
                absurd (omega arith)

        pub more_now : first_of (own parts (unit_of parts (k + 1))) < k + 1 → has_more parts (k + 1) (unit_of parts (k + 1)) ≡ true
        more_now first = more_here parts k (some_before first)

        -- where it is the last of its unit, what is behind it is over the units before that
        pub last_behind : last_of (own parts (unit_of parts (k + 1))) ≡ k + 1 → Stands k (unit_of parts (k + 1) - 1) (end_of parts (k + 1)) behind
        last_behind last =
            let next : goes_on parts (k + 1) (unit_of parts (k + 1)) ≡ false = goes_not parts (k + 1) (unit_of parts (k + 1)) (λ a b. omega arith) in
            under_same (end_of parts (k + 1)) behind (over_down tariff trip begun closing jaw left parts (k + 1) (unit_of parts (k + 1) - 1) (greatest_unit parts (places parts)) (end_of parts (k + 1)) behind under_most (λ v low most. from_mine (k + 1) next above_not_next v low) over)

        -- and it ends where its unit may
        pub last_may : last_of (own parts (unit_of parts (k + 1))) ≡ k + 1 → may_end_at tariff trip (begins_at trip parts (unit_of parts (k + 1))) (end_of parts (k + 1)) ≡ true
        last_may last =
            let P : ℕ → Type 0 = λ j. may_end_at tariff trip (begins_at trip parts (unit_of parts (k + 1))) (end_of parts j) ≡ true in
            let some : 2 ≤ length (own parts (unit_of parts (k + 1))) = shape.0 in
            subst P last (half_ends_by (unit_of parts (k + 1)) mine_low mine_high (own parts (unit_of parts (k + 1))) refl (omega arith) none_ow)

        -- else its unit comes home behind it, and then there is what is over the units before that
        pub record ComesHome : Type 0 where
          pub until : ℕ
          pub left_over : ℕ
          pub sum : until + left_over ≤ behind
          pub homing : IsUpTo until (homing_at trip (closing_by (has_more parts (k + 1) (unit_of parts (k + 1))) begun closing (end_of parts (k + 1))) (jaw (end_of parts (k + 1))) (begins_at trip parts (unit_of parts (k + 1))) (end_of parts (k + 1)) (home_at parts (unit_of parts (k + 1))))
          pub stands : Stands k (unit_of parts (k + 1) - 1) (home_at parts (unit_of parts (k + 1))) left_over
          pub later : end_of parts (k + 1) < home_at parts (unit_of parts (k + 1))
          pub home_within : home_at parts (unit_of parts (k + 1)) ≤ count trip
          pub may : may_end_at tariff trip (begins_at trip parts (unit_of parts (k + 1))) (home_at parts (unit_of parts (k + 1))) ≡ true
          pub city : first_of (own parts (unit_of parts (k + 1))) < k + 1 → is_same_city trip (begins_at trip parts (unit_of parts (k + 1))) (home_at parts (unit_of parts (k + 1))) ≡ true

        pub comes_home_later : k + 1 < last_of (own parts (unit_of parts (k + 1))) → ComesHome
        comes_home_later less =
            let c = opened less in
            let h = home_later (unit_of parts (k + 1)) (goes less) in
            let some : 2 ≤ length (own parts (unit_of parts (k + 1))) = shape.0 in
            record {
              until = c.0;
              left_over = c.1;
              sum = c.2;
              homing = home_from less;
              stands = under_same (home_at parts (unit_of parts (k + 1))) c.1 c.4;
              later = h.0;
              home_within = h.1;
              may = half_ends_by (unit_of parts (k + 1)) mine_low mine_high (own parts (unit_of parts (k + 1))) refl (omega arith) none_ow;
              city = λ first. shape.1 (three first less);
            }

        -- where its unit begins with it, that is a whole unit from there, before what is over the others
        pub record IsWhole : Type 0 where
          pub unit_cost : ℕ
          pub left_over : ℕ
          pub sum : unit_cost + left_over ≤ true_cost tariff trip parts (k + 1) + behind
          pub up : IsUpTo unit_cost (whole (point_behind parts k) (home_at parts (unit_of parts (k + 1))))
          pub free : IsUpTo unit_cost (are.outer (point_behind parts k) (home_at parts (unit_of parts (k + 1))))
          pub all : true_cost tariff trip parts (k + 1) + sum_by (true_cost tariff trip parts) (own_from parts (k + 1) (unit_of parts (k + 1))) ≤ unit_cost
          pub over_it : (cost : ℕ) → IsUpTo cost (whole (point_behind parts k) (home_at parts (unit_of parts (k + 1)))) → IsUpTo cost (are.outer (point_behind parts k) (home_at parts (unit_of parts (k + 1))))
              → Stands k (greatest_unit parts (places parts)) (point_behind parts k) (cost + left_over)

        pub first_whole : from ≤ k → first_of (own parts (unit_of parts (k + 1))) ≡ k + 1 → IsWhole
        first_whole past first =
            let both : first_of (own parts (unit_of parts (k + 1))) < last_of (own parts (unit_of parts (k + 1))) = apart in
            let less : k + 1 < last_of (own parts (unit_of parts (k + 1))) = omega arith in
            let c = opened less in
            let sum : c.0 + c.1 ≤ behind = c.2 in
            let h = home_later (unit_of parts (k + 1)) (goes less) in
            let low_mine : 1 ≤ unit_of parts (k + 1) = mine_low in
            let begins : begins_at trip parts (unit_of parts (k + 1)) ≡ begin_after trip (point_behind parts k) = ap (start_of trip parts) first ∙ sym (begins_next k high) in
            let M : Bool → Type 0 = λ more. IsUpTo c.0 (homing_at trip (closing_by more begun closing (end_of parts (k + 1))) (jaw (end_of parts (k + 1))) (begins_at trip parts (unit_of parts (k + 1))) (end_of parts (k + 1)) (home_at parts (unit_of parts (k + 1)))) in
            let P : ℕ → Type 0 = λ a. IsUpTo c.0 (homing_at trip (begun (end_of parts (k + 1))) (jaw (end_of parts (k + 1))) a (end_of parts (k + 1)) (home_at parts (unit_of parts (k + 1)))) in
            let homing : IsUpTo c.0 (homing_at trip (begun (end_of parts (k + 1))) (jaw (end_of parts (k + 1))) (begin_after trip (point_behind parts k)) (end_of parts (k + 1)) (home_at parts (unit_of parts (k + 1)))) = subst P begins (subst M (one_now first) (home_from less)) in
            let Q : ℕ → Type 0 = λ a. may_end_at tariff trip a (home_at parts (unit_of parts (k + 1))) ≡ true in
            let some : 2 ≤ length (own parts (unit_of parts (k + 1))) = shape.0 in
            let may : may_end_at tariff trip (begin_after trip (point_behind parts k)) (home_at parts (unit_of parts (k + 1))) ≡ true = subst Q begins (half_ends_by (unit_of parts (k + 1)) mine_low mine_high (own parts (unit_of parts (k + 1))) refl (omega arith) none_ow) in
            let cost = first_costs tariff trip parts price lawful (k + 1) (omega arith) high way first less in
            let last_costs : true_cost tariff trip parts (last_of (own parts (unit_of parts (k + 1)))) ≤ c.0 = c.5.costs in
            let g = going_on tariff trip parts price lawful (k + 1) (unit_of parts (k + 1)) (goes less) in
            let F : ℕ → Type 0 = λ f. end_of parts f ≤ start_of trip parts (last_of (own parts (unit_of parts (k + 1)))) in
            let G : ℕ → Type 0 = λ f. true_cost tariff trip parts f + true_cost tariff trip parts (last_of (own parts (unit_of parts (k + 1)))) ≤ true_cost tariff trip parts (k + 1) + c.0 in
            let pair : (barred : List ℕ) → is_barred tariff barred (part_at parts (first_of (own parts (unit_of parts (k + 1))))).fare ≡ false → is_barred tariff barred (part_at parts (last_of (own parts (unit_of parts (k + 1))))).fare ≡ false
            → HasPair tariff trip barred (begin_after trip (point_behind parts k)) (home_at parts (unit_of parts (k + 1))) (true_cost tariff trip parts (k + 1) + c.0) =
            λ barred begin_free end_free.
            let H : ℕ → Type 0 = λ a. HasPair tariff trip barred a (home_at parts (unit_of parts (k + 1))) (true_cost tariff trip parts (k + 1) + c.0) in
            subst H begins (pair_of tariff trip parts price lawful (unit_of parts (k + 1)) mine_low mine_high apart barred begin_free end_free (true_cost tariff trip parts (k + 1) + c.0) (subst F (sym first) (starts_behind (k + 1) (last_of (own parts (unit_of parts (k + 1)))) (omega arith) less g.within)) (subst G (sym first) (omega arith))) in
            let up : IsUpTo (true_cost tariff trip parts (k + 1) + c.0) (whole (point_behind parts k) (home_at parts (unit_of parts (k + 1)))) =
            first_under are.homings (point_behind parts k) (end_of parts (k + 1)) (home_at parts (unit_of parts (k + 1))) (entry tariff trip parts price lawful (k + 1)) (true_cost tariff trip parts (k + 1)) c.0 (true_cost tariff trip parts (k + 1) + c.0) contained cost h.0 may homing (omega arith) (pair [] refl refl) in
            let here_free : is_barred tariff are.barred (part_at parts (k + 1)).fare ≡ false = are.clear (k + 1) (omega arith) high (omega arith) in
            let B : ℕ → Type 0 = λ j. is_barred tariff are.barred (part_at parts j).fare ≡ false in
            let K : ℕ → Type 0 = λ u. from < first_of (own parts u) in
            let last_free : is_barred tariff are.barred (part_at parts (last_of (own parts (unit_of parts (k + 1))))).fare ≡ false =
            are.clear (last_of (own parts (unit_of parts (k + 1)))) (omega arith) g.within (subst K (sym g.last_own) (omega arith)) in
            let free : IsUpTo (true_cost tariff trip parts (k + 1) + c.0) (are.outer (point_behind parts k) (home_at parts (unit_of parts (k + 1)))) =
            first_free_under are.rests (point_behind parts k) (end_of parts (k + 1)) (home_at parts (unit_of parts (k + 1))) (entry tariff trip parts price lawful (k + 1)) (true_cost tariff trip parts (k + 1)) c.0 (true_cost tariff trip parts (k + 1) + c.0) contained here_free cost h.0 may homing (omega arith) (pair are.barred (subst B (sym first) here_free) last_free) in
            let rise : point_behind parts k < end_of parts (k + 1) = rises in
            let home_past : end_of parts (k + 1) < home_at parts (unit_of parts (k + 1)) = h.0 in
            let parts_behind : sum_by (true_cost tariff trip parts) (own_from parts (k + 1) (unit_of parts (k + 1))) ≤ c.0 = c.5.all in
            record {
              unit_cost = true_cost tariff trip parts (k + 1) + c.0;
              left_over = c.1;
              sum = omega arith;
              up = up;
              free = free;
              all = omega arith;
              over_it = λ cost whole_up outer_up.
                  let o : Stands k (unit_of parts (k + 1) - 1) (point_behind parts k) (cost + c.1) =
                  step_over tariff trip ceiling begun closing jaw whole left parts are k (unit_of parts (k + 1) - 1) (point_behind parts k) (home_at parts (unit_of parts (k + 1))) cost c.1 (omega arith) h.1 whole_up outer_up
                  (λ v low most t. (home_behind tariff trip parts price lawful k v low high (omega arith) first less (other_same v (λ e. omega arith) ∙ t), stand_low tariff trip parts price lawful k v t)) (under_same (home_at parts (unit_of parts (k + 1))) c.1 c.4) in
                  let here : goes_on parts k (unit_of parts (k + 1)) ≡ false = goes_not parts k (unit_of parts (k + 1)) (λ a b. omega arith) in
                  over_up tariff trip begun closing jaw left parts k (unit_of parts (k + 1) - 1) (greatest_unit parts (places parts)) (point_behind parts k) (cost + c.1) under_most (λ v low most. from_mine k here above_not v low) o;
            }

        first_over : from ≤ k → first_of (own parts (unit_of parts (k + 1))) ≡ k + 1 → Stands k (greatest_unit parts (places parts)) (point_behind parts k) (true_cost tariff trip parts (k + 1) + behind)
        first_over past first =
            let w = first_whole past first in
            over_more tariff trip begun closing jaw left parts k (greatest_unit parts (places parts)) (point_behind parts k) (w.unit_cost + w.left_over) (true_cost tariff trip parts (k + 1) + behind) w.sum (w.over_it w.unit_cost w.up w.free)

        -- what its unit has behind the part before it is this part, and what it has behind that
        from_sum : sum_by (true_cost tariff trip parts) (own_from parts k (unit_of parts (k + 1))) ≡ true_cost tariff trip parts (k + 1) + sum_by (true_cost tariff trip parts) (own_from parts (k + 1) (unit_of parts (k + 1)))
        from_sum = ap (sum_by (true_cost tariff trip parts)) (from_here parts k high) ∙ sum_by-cons (true_cost tariff trip parts) (k + 1) (own_from parts (k + 1) (unit_of parts (k + 1)))

        lasts_here : (i x : ℕ) → point_behind parts k ≤ i → LastsBy tariff trip parts (k + 1) (unit_of parts (k + 1)) i x → LastsBy tariff trip parts k (unit_of parts (k + 1)) (point_behind parts k) (true_cost tariff trip parts (k + 1) + x)
        lasts_here i x low by =
            let sum : sum_by (true_cost tariff trip parts) (own_from parts k (unit_of parts (k + 1))) ≡ true_cost tariff trip parts (k + 1) + sum_by (true_cost tariff trip parts) (own_from parts (k + 1) (unit_of parts (k + 1))) = from_sum in
            let begins : i ≤ start_of trip parts (last_of (own parts (unit_of parts (k + 1)))) = by.begins in
            let costs : true_cost tariff trip parts (last_of (own parts (unit_of parts (k + 1)))) ≤ x = by.costs in
            let more : sum_by (true_cost tariff trip parts) (own_from parts (k + 1) (unit_of parts (k + 1))) ≤ x = by.all in
            record { begins = omega arith; costs = omega arith; all = omega arith }

        last_all : last_of (own parts (unit_of parts (k + 1))) ≡ k + 1 → sum_by (true_cost tariff trip parts) (own_from parts k (unit_of parts (k + 1))) ≤ true_cost tariff trip parts (k + 1)
        last_all last =
            let sum : sum_by (true_cost tariff trip parts) (own_from parts k (unit_of parts (k + 1))) ≡ true_cost tariff trip parts (k + 1) + sum_by (true_cost tariff trip parts) (own_from parts (k + 1) (unit_of parts (k + 1))) = from_sum in
            let none : sum_by (true_cost tariff trip parts) (own_from parts (k + 1) (unit_of parts (k + 1))) ≡ 0 = ap (sum_by (true_cost tariff trip parts)) (none_left (own_from parts (k + 1) (unit_of parts (k + 1))) refl) in
            omega arith
          where
            none_left : (xs : List ℕ) → own_from parts (k + 1) (unit_of parts (k + 1)) ≡ xs → own_from parts (k + 1) (unit_of parts (k + 1)) ≡ []
            none_left [] e = e
            none_left (x ∷ xs) e =
                let P : List ℕ → Type 0 = λ ys. Member x ys in
                let there = kept_member (is_own parts (unit_of parts (k + 1))) (k + 1 + 1) (length parts + 1 - (k + 1 + 1)) x (subst P (sym e) (inl refl)) in
                let behind_it : k + 1 + 1 ≤ x = there.0 in
                let past : x < k + 1 + 1 + (length parts + 1 - (k + 1 + 1)) = there.1 in
                let same : unit_of parts x ≡ unit_of parts (k + 1) = eqb-true (unit_of parts x) (unit_of parts (k + 1)) there.2 in
                let Q : ℕ → Type 0 = λ u. Member x (own parts u) in
                let up : x ≤ last_of (own parts (unit_of parts (k + 1))) = own_last parts (unit_of parts (k + 1)) x (subst Q same (own_has tariff trip parts price lawful x (omega arith) (omega arith))) in
                absurd (omega arith)

        between_over : first_of (own parts (unit_of parts (k + 1))) < k + 1 → k + 1 < last_of (own parts (unit_of parts (k + 1))) → Stands k (greatest_unit parts (places parts)) (point_behind parts k) (true_cost tariff trip parts (k + 1) + behind)
        between_over first less =
            let c = opened less in
            let rise : point_behind parts k < end_of parts (k + 1) = rises in
            let sum : c.0 + c.1 ≤ behind = c.2 in
            let h = home_later (unit_of parts (k + 1)) (goes less) in
            let long : 3 ≤ length (own parts (unit_of parts (k + 1))) = three first less in
            let city : is_same_city trip (begins_at trip parts (unit_of parts (k + 1))) (home_at parts (unit_of parts (k + 1))) ≡ true = shape.1 long in
            let M : Bool → Type 0 = λ more. IsUpTo c.0 (homing_at trip (closing_by more begun closing (end_of parts (k + 1))) (jaw (end_of parts (k + 1))) (begins_at trip parts (unit_of parts (k + 1))) (end_of parts (k + 1)) (home_at parts (unit_of parts (k + 1)))) in
            let closes : IsUpTo c.0 (closing (end_of parts (k + 1)) (end_of parts (k + 1)) (home_at parts (unit_of parts (k + 1)))) = at_city (end_of parts (k + 1)) (begins_at trip parts (unit_of parts (k + 1))) (end_of parts (k + 1)) (home_at parts (unit_of parts (k + 1))) c.0 city (subst M (more_now first) (home_from less)) in
            let home : ℕ = home_at parts (unit_of parts (k + 1)) in
            let origin_there : point trip home ≡ point trip (begins_at trip parts (unit_of parts (k + 1))) = (bytes_eq-Decides (point trip home) (point trip (begins_at trip parts (unit_of parts (k + 1))))).0 city in
            let C : ℕ → Type 0 = λ a. below_ceiling tariff trip ceiling a home (end_of parts (k + 1)) (between_cost (heads_to tariff trip a (end_of parts (k + 1)) home)) (entry tariff trip parts price lawful (k + 1)) ≡ Some (true_cost tariff trip parts (k + 1)) in
            let cost : C (begin_after trip (point_behind parts k)) = subst C (sym (begins_next k high)) (below_every tariff trip parts price lawful (k + 1) (omega arith) high none_ow long less ceiling alike (cheap (unit_of parts (k + 1)) mine_low mine_high long) home origin_there (between_cost (heads_to tariff trip (start_of trip parts (k + 1)) (end_of parts (k + 1)) home)) (entry tariff trip parts price lawful (k + 1)) refl (true_cost tariff trip parts (k + 1)) (between_costs tariff trip parts price lawful (k + 1) (omega arith) high way less home origin_there)) in
            let third : IsOneOfThree tariff trip (part_at parts (k + 1)).fare = third_of tariff trip parts price lawful (unit_of parts (k + 1)) mine_low mine_high (omega arith) (k + 1) (own_has tariff trip parts price lawful (k + 1) (omega arith) high) first less in
            let stand : ℕ = stand_of parts k (unit_of parts (k + 1)) in
            let elsewhere : is_same_city trip home (end_of parts (k + 1)) ≡ false = ends_apart (unit_of parts (k + 1)) (k + 1) mine_low mine_high long (own_has tariff trip parts price lawful (k + 1) (omega arith) high) less city in
            let up : IsUpTo (true_cost tariff trip parts (k + 1) + c.0) (closing_by (has_more parts k (unit_of parts (k + 1))) begun closing stand (point_behind parts k) home) =
            between_under are.homings (has_more parts k (unit_of parts (k + 1))) stand (point_behind parts k) (end_of parts (k + 1)) home (entry tariff trip parts price lawful (k + 1)) (true_cost tariff trip parts (k + 1)) c.0 (stand_before first) (there_between first long) contained cost third h.0 h.1 elsewhere closes in
            let here : goes_on parts k (unit_of parts (k + 1)) ≡ true = goes_on_from parts k (unit_of parts (k + 1)) (omega arith) (omega arith) in
            let o : Stands k (unit_of parts (k + 1)) (point_behind parts k) ((true_cost tariff trip parts (k + 1) + c.0) + c.1) = from_open tariff trip begun closing jaw left parts k (unit_of parts (k + 1)) (point_behind parts k) (true_cost tariff trip parts (k + 1) + c.0) c.1 mine_low here (from_city (has_more parts k (unit_of parts (k + 1))) stand (begins_at trip parts (unit_of parts (k + 1))) (point_behind parts k) (home_at parts (unit_of parts (k + 1))) (true_cost tariff trip parts (k + 1) + c.0) city up) (under_same (home_at parts (unit_of parts (k + 1))) c.1 c.4)
            (lasts_here (end_of parts (k + 1)) c.0 (omega arith) c.5) in
            let m : Stands k (greatest_unit parts (places parts)) (point_behind parts k) ((true_cost tariff trip parts (k + 1) + c.0) + c.1) = over_up tariff trip begun closing jaw left parts k (unit_of parts (k + 1)) (greatest_unit parts (places parts)) (point_behind parts k) ((true_cost tariff trip parts (k + 1) + c.0) + c.1) mine_high (λ v low most. above_not v low) o in
            over_more tariff trip begun closing jaw left parts k (greatest_unit parts (places parts)) (point_behind parts k) ((true_cost tariff trip parts (k + 1) + c.0) + c.1) (true_cost tariff trip parts (k + 1) + behind) (omega arith) m

        last_over : first_of (own parts (unit_of parts (k + 1))) < k + 1 → last_of (own parts (unit_of parts (k + 1))) ≡ k + 1 → Stands k (greatest_unit parts (places parts)) (point_behind parts k) (true_cost tariff trip parts (k + 1) + behind)
        last_over first last =
            let low_mine : 1 ≤ unit_of parts (k + 1) = mine_low in
            let next : goes_on parts (k + 1) (unit_of parts (k + 1)) ≡ false = goes_not parts (k + 1) (unit_of parts (k + 1)) (λ a b. omega arith) in
            let o : Stands (k + 1) (unit_of parts (k + 1) - 1) (end_of parts (k + 1)) behind = over_down tariff trip begun closing jaw left parts (k + 1) (unit_of parts (k + 1) - 1) (greatest_unit parts (places parts)) (end_of parts (k + 1)) behind under_most (λ v low most. from_mine (k + 1) next above_not_next v low) over in
            let stand : ℕ = stand_of parts k (unit_of parts (k + 1)) in
            let up : IsUpTo (true_cost tariff trip parts (k + 1)) (homing_at trip (closing_by (has_more parts k (unit_of parts (k + 1))) begun closing stand) (jaw stand) (begins_at trip parts (unit_of parts (k + 1))) (point_behind parts k) (end_of parts (k + 1))) = last_up first last in
            let home : end_of parts (k + 1) ≡ home_at parts (unit_of parts (k + 1)) = ap (end_of parts) (sym last) in
            let begins : begin_after trip (point_behind parts k) ≡ start_of trip parts (k + 1) = begins_next k high in
            let later : point_behind parts k ≤ begin_after trip (point_behind parts k) = begins_later trip (point_behind parts k) in
            let S : ℕ → Type 0 = λ j. (point_behind parts k ≤ start_of trip parts j) × (true_cost tariff trip parts j ≤ true_cost tariff trip parts (k + 1)) in
            let ends : S (last_of (own parts (unit_of parts (k + 1)))) = subst S (sym last) (omega arith, omega arith) in
            let by_last : LastsBy tariff trip parts k (unit_of parts (k + 1)) (point_behind parts k) (true_cost tariff trip parts (k + 1)) = record { begins = ends.0; costs = ends.1; all = last_all last } in
            let P : ℕ → Type 0 = λ j. IsUpTo (true_cost tariff trip parts (k + 1)) (homing_at trip (closing_by (has_more parts k (unit_of parts (k + 1))) begun closing stand) (jaw stand) (begins_at trip parts (unit_of parts (k + 1))) (point_behind parts k) j) in
            let Q : ℕ → Type 0 = λ j. Stands k (unit_of parts (k + 1) - 1) j behind in
            let here : goes_on parts k (unit_of parts (k + 1)) ≡ true = goes_on_from parts k (unit_of parts (k + 1)) (omega arith) (omega arith) in
            let m : Stands k (unit_of parts (k + 1)) (point_behind parts k) (true_cost tariff trip parts (k + 1) + behind) = from_open tariff trip begun closing jaw left parts k (unit_of parts (k + 1)) (point_behind parts k) (true_cost tariff trip parts (k + 1)) behind mine_low here (subst P home up) (subst Q home (under_same (end_of parts (k + 1)) behind o)) by_last in
            over_up tariff trip begun closing jaw left parts k (unit_of parts (k + 1)) (greatest_unit parts (places parts)) (point_behind parts k) (true_cost tariff trip parts (k + 1) + behind) mine_high (λ v low most. above_not v low) m

        half_over : from ≤ k → Stands k (greatest_unit parts (places parts)) (point_behind parts k) (true_cost tariff trip parts (k + 1) + behind)
        half_over past =
            elim (cases_eq (first_of (own parts (unit_of parts (k + 1)))) (k + 1)) [
              | inl first ↦ first_over past first
              | inr later ↦ elim (cases_eq (last_of (own parts (unit_of parts (k + 1)))) (k + 1)) [
                | inl last ↦ last_over (below (first_of (own parts (unit_of parts (k + 1)))) (k + 1) first_by later) last
                | inr earlier ↦ between_over (below (first_of (own parts (unit_of parts (k + 1)))) (k + 1) first_by later) (above (last_of (own parts (unit_of parts (k + 1)))) (k + 1) last_by earlier)
              ]
            ]

      -- a part that comes before it costs what it does
      pub part_over : from ≤ k → Stands k (greatest_unit parts (places parts)) (point_behind parts k) (true_cost tariff trip parts (k + 1) + behind)
      part_over past =
          elim (cases_Bool (is_ow tariff parts (k + 1))) [ inl way ↦ alone_over way past | inr way ↦ half_over way past ]

    -- what the parts behind a place cost is over the units that go on there
    pub all_over : (m k : ℕ) → from ≤ k → k + m ≡ length parts → Stands k (greatest_unit parts (places parts)) (point_behind parts k) (sum_by (true_cost tariff trip parts) (range_with_len (k + 1) m))
    all_over zero k past whole_list =
        let here : k ≡ length parts = omega arith in
        let last : point_behind parts (length parts) ≡ count trip = behind_all parts ∙ (all tariff trip parts price lawful).last in
        let P : ℕ → Type 0 = λ j. left (point_behind parts j) ≡ Some 0 in
        let end : left (point_behind parts k) ≡ Some 0 = subst P (sym here) (ap left last ∙ nothing_free_left are.rests) in
        over_up tariff trip begun closing jaw left parts k 0 (greatest_unit parts (places parts)) (point_behind parts k) 0 (omega arith) (λ v low most. none_behind v) (0, end, omega arith)
      where
        none_behind : (v : ℕ) → goes_on parts k v ≡ false
        none_behind v = not_so (goes_on parts k v) (λ t. let g = going_on tariff trip parts price lawful k v t in let past : k < last_of (own parts v) = g.behind in let most : last_of (own parts v) ≤ length parts = g.within in omega arith)
    all_over (suc m) k past whole_list =
        let more : Stands (k + 1) (greatest_unit parts (places parts)) (point_behind parts (k + 1)) (sum_by (true_cost tariff trip parts) (range_with_len (k + 1 + 1) m)) = all_over m (k + 1) (omega arith) (omega arith) in
        let P : ℕ → Type 0 = λ j. Stands (k + 1) (greatest_unit parts (places parts)) j (sum_by (true_cost tariff trip parts) (range_with_len (k + 1 + 1) m)) in
        let o : Stands k (greatest_unit parts (places parts)) (point_behind parts k) (true_cost tariff trip parts (k + 1) + sum_by (true_cost tariff trip parts) (range_with_len (k + 1 + 1) m)) = part_over k (omega arith) (sum_by (true_cost tariff trip parts) (range_with_len (k + 1 + 1) m)) (subst P (behind_next parts k) more) past in
        let Q : ℕ → Type 0 = λ x. Stands k (greatest_unit parts (places parts)) (point_behind parts k) x in
        subst Q (sym (sum_by-cons (true_cost tariff trip parts) (k + 1) (range_with_len (k + 1 + 1) m))) o

-- the point behind the first parts is where they end
pub behind_front : (front rest : List Part) → point_behind (front ++ rest) (length front) ≡ end_of front (length front)
behind_front [] rest = refl
behind_front (x ∷ xs) rest = same_end (x ∷ xs) rest (length (x ∷ xs)) (omega arith) (omega arith)

module _ (tariff : Tariff) (trip : Itinerary) (front rest : List Part) (price : ℕ) (lawful : IsLawful tariff trip (front ++ rest) price) where
  -- the units of the first parts are among all
  pub fewer : greatest_unit front (places front) ≤ greatest_unit (front ++ rest) (places (front ++ rest))
  fewer =
      let n : length (front ++ rest) ≡ length front + length rest = length-append front rest in
      let same : greatest_unit (front ++ rest) (range_with_len 1 (length front + 1 - 1)) ≡ greatest_unit front (range_with_len 1 (length front + 1 - 1)) = greatest_same (front ++ rest) front 1 (length front + 1 - 1) (λ k low high. front_unit front rest k low (omega arith)) in
      let more : greatest_unit (front ++ rest) (range_with_len 1 (length front + 1 - 1)) ≤ greatest_unit (front ++ rest) (range_with_len 1 (length (front ++ rest) + 1 - 1)) = greatest_fewer (front ++ rest) 1 (length front + 1 - 1) (length (front ++ rest) + 1 - 1) (omega arith) in
      omega arith

  -- and no other goes on behind the first parts
  pub none_new : (v : ℕ) → greatest_unit front (places front) < v → goes_on (front ++ rest) (length front) v ≡ false
  none_new v low =
      not_so (goes_on (front ++ rest) (length front) v) (λ t.
      let g = going_on tariff trip (front ++ rest) price lawful (length front) v t in
      let begun : first_of (own (front ++ rest) v) ≤ length front = g.begun in
      let same : unit_of (front ++ rest) (first_of (own (front ++ rest) v)) ≡ unit_of front (first_of (own (front ++ rest) v)) = front_unit front rest (first_of (own (front ++ rest) v)) g.from_one g.begun in
      let mine : unit_of (front ++ rest) (first_of (own (front ++ rest) v)) ≡ v = g.first_own in
      let up : unit_of front (first_of (own (front ++ rest) v)) ≤ greatest_unit front (range_with_len 1 (length front + 1 - 1)) = unit_up_to front 1 (length front + 1 - 1) (first_of (own (front ++ rest) v)) g.from_one (omega arith) in
      omega arith)

-- what the parts behind the first parts of a lawful construction cost is over the units of these that go on
pub behind_is_over : (tariff : Tariff) (trip : Itinerary) (ceiling : Option Ceiling) → IsCeiling tariff trip ceiling → (begun closing jaw : ℕ → ℕ → ℕ → Option ℕ) (whole : ℕ → ℕ → Option ℕ) (left : ℕ → Option ℕ)
    → (front rest : List Part) → IsBehind tariff trip ceiling begun closing jaw whole left (front ++ rest) (length front) → (price : ℕ) → IsLawful tariff trip (front ++ rest) price → AreUnitsWithin tariff trip (front ++ rest) ceiling
    → IsOver tariff trip begun closing jaw left (front ++ rest) (length front) (greatest_unit front (places front)) (end_of front (length front)) (sum_by (true_cost tariff trip (front ++ rest)) (range_with_len (length front + 1) (length rest)))
behind_is_over tariff trip ceiling alike begun closing jaw whole left front rest are price lawful cheap =
    let n : length (front ++ rest) ≡ length front + length rest = length-append front rest in
    let o = all_over tariff trip (front ++ rest) price lawful ceiling alike cheap begun closing jaw whole left are (length rest) (length front) (omega arith) (sym n) in
    let P : ℕ → Type 0 = λ i. IsOver tariff trip begun closing jaw left (front ++ rest) (length front) (greatest_unit (front ++ rest) (places (front ++ rest))) i (sum_by (true_cost tariff trip (front ++ rest)) (range_with_len (length front + 1) (length rest))) in
    over_down tariff trip begun closing jaw left (front ++ rest) (length front) (greatest_unit front (places front)) (greatest_unit (front ++ rest) (places (front ++ rest))) (end_of front (length front)) (sum_by (true_cost tariff trip (front ++ rest)) (range_with_len (length front + 1) (length rest)))
    (fewer tariff trip front rest price lawful) (λ v low high. none_new tariff trip front rest price lawful v low) (subst P (behind_front front rest) o)
