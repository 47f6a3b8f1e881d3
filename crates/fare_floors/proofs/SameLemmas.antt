-- A unit of the first parts of a list is in the list what it is among them.
use Rattle.std.proofs.Common.{◌≡◌, ℕ, ◌+◌, ◌*◌, ◌≤◌, Bool, ◌&&◌, not, cond, eqb, ltb, leb, List, [], ◌∷◌, ◌++◌, length, refl, ap, ◌∙◌, inl, inr, arith}
use Rattle.std.specs.Prelude.{Option, Some, None, filter, sum_by, option_and_then, option_map}
use Rattle.std.specs.List.{list_any}
use Rattle.std.proofs.lemmas.List.Sums.{sum_by-cons}
use Rattle.fare_codes.specs.declared.city.City.{City}
use Rattle.fare_trip.specs.Itinerary.{Itinerary, point}
use Rattle.fare_tariff.specs.Record.{FareRecord}
use Rattle.fare_tariff.specs.Tariff.{Tariff}
use Rattle.fare_tariff.specs.Lookup.{fare_at}
use Rattle.fare_rules.specs.declared.part.Part.{Part}
use Rattle.fare_rules.specs.declared.unit_sheet.UnitKind.{UnitKind}
use Rattle.fare_rules.specs.declared.unit_sheet.UnitKind.TheVariants.{OW, RT, CT, OJ}
use Rattle.fare_rules.specs.Numbers.{numbers, greatest_of}
use Rattle.fare_rules.specs.Span.{stopovers}
use Rattle.fare_rules.specs.ComponentAmount.{component_amount}
use Rattle.fare_rules.specs.Construction.{start_of, end_of, part_at, fare_of, start_city, end_city, origin, last_of, but_last}
use Rattle.fare_rules.specs.Shape.{is_one_way, is_ow, holds_ow, is_hr, follows, is_chained, ends_in, comes_home, comes_home_early, closes, is_jaw, is_open_jaw}
use Rattle.fare_rules.specs.Direction.{is_back_in}
use Rattle.fare_rules.specs.Circle.{holds_sector, is_own_sector, own_sectors, reference_from_origin, circle_reference, turning_points, greatest_turning, unit_circle_minimum}
use Rattle.fare_rules.specs.UnitPrice.{hundredths_of, part_amount, part_cost, unit_sum, are_two_equal, is_round_trip, unit_kind, number_backhaul, unit_minimum, unit_sheet}
use Rattle.fare_rules.proofs.MemberLemmas.{Member}
use Rattle.fare_units.proofs.NextLemmas.{front_part, front_start}

-- tests and amounts that are the same at each member of a list
pub any_eq : (f g : ℕ → Bool) (xs : List ℕ) → ((k : ℕ) → Member k xs → f k ≡ g k) → list_any f xs ≡ list_any g xs
any_eq f g [] h = refl
any_eq f g (x ∷ xs) h = rw (h x (inl refl), any_eq f g xs (λ k m. h k (inr m))) refl

sum_eq : (f g : ℕ → ℕ) (xs : List ℕ) → ((k : ℕ) → Member k xs → f k ≡ g k) → sum_by f xs ≡ sum_by g xs
sum_eq f g [] h = refl
sum_eq f g (x ∷ xs) h =
    let a : sum_by f (x ∷ xs) ≡ f x + sum_by f xs = sum_by-cons f x xs in
    let b : sum_by g (x ∷ xs) ≡ g x + sum_by g xs = sum_by-cons g x xs in
    let here : f x ≡ g x = h x (inl refl) in
    let more : sum_by f xs ≡ sum_by g xs = sum_eq f g xs (λ k m. h k (inr m)) in
    omega arith

greatest_eq : (f g : ℕ → Option ℕ) (xs : List ℕ) → ((k : ℕ) → Member k xs → f k ≡ g k) → greatest_of f xs ≡ greatest_of g xs
greatest_eq f g [] h = refl
greatest_eq f g (x ∷ xs) h = rw (h x (inl refl), greatest_eq f g xs (λ k m. h k (inr m))) refl

filter_eq : (p q : ℕ → Bool) (xs : List ℕ) → ((k : ℕ) → p k ≡ q k) → filter p xs ≡ filter q xs
filter_eq p q [] h = refl
filter_eq p q (x ∷ xs) h = rw (h x, filter_eq p q xs h) refl

pub last_member : (x : ℕ) (xs : List ℕ) → Member (last_of (x ∷ xs)) (x ∷ xs)
last_member x [] = inl refl
last_member x (y ∷ ys) = inr (last_member y ys)

but_last_member : (k : ℕ) (xs : List ℕ) → Member k (but_last xs) → Member k xs
but_last_member k [] m = absurd m
but_last_member k (x ∷ []) m = absurd m
but_last_member k (x ∷ y ∷ ys) (inl e) = inl e
but_last_member k (x ∷ y ∷ ys) (inr m) = inr (but_last_member k (y ∷ ys) m)

module _ (tariff : Tariff) (trip : Itinerary) (front rest : List Part) where
  pub start_same : (k : ℕ) → 1 ≤ k → k ≤ length front → start_city trip (front ++ rest) k ≡ start_city trip front k
  start_same k low high = ap (point trip) (front_start trip front rest k low high)

  pub end_same : (k : ℕ) → 1 ≤ k → k ≤ length front → end_city trip (front ++ rest) k ≡ end_city trip front k
  end_same k low high = ap (λ (p : Part). point trip p.end) (front_part front rest k low high)

  pub fare_same : (k : ℕ) → 1 ≤ k → k ≤ length front → fare_of tariff (front ++ rest) k ≡ fare_of tariff front k
  fare_same k low high = ap (λ (p : Part). fare_at tariff p.fare) (front_part front rest k low high)

  pub ow_same : (k : ℕ) → 1 ≤ k → k ≤ length front → is_ow tariff (front ++ rest) k ≡ is_ow tariff front k
  ow_same k low high = ap is_one_way (fare_same k low high)

  follows_same : (j k : ℕ) → 1 ≤ j → j ≤ length front → 1 ≤ k → k ≤ length front → follows trip (front ++ rest) j k ≡ follows trip front j k
  follows_same j k jl jh kl kh = rw (start_same k kl kh, end_same j jl jh) refl

  -- the places of a unit are among the first parts
  abbrev pub AreFirst : List ℕ → Type 0
  AreFirst own = (k : ℕ) → Member k own → (1 ≤ k) × (k ≤ length front)

  pub holds_same : (own : List ℕ) → AreFirst own → holds_ow tariff (front ++ rest) own ≡ holds_ow tariff front own
  holds_same own first = any_eq (is_ow tariff (front ++ rest)) (is_ow tariff front) own (λ k m. ow_same k (first k m).0 (first k m).1)

  pub hr_same : (own : List ℕ) → AreFirst own → is_hr tariff (front ++ rest) own ≡ is_hr tariff front own
  unfolding is_hr
  hr_same own first = ap not (holds_same own first)

  pub chained_same : (own : List ℕ) → AreFirst own → is_chained trip (front ++ rest) own ≡ is_chained trip front own
  chained_same [] first = refl
  chained_same (k ∷ []) first = refl
  chained_same (k ∷ next ∷ more) first =
      let a = first k (inl refl) in
      let b = first next (inr (inl refl)) in
      rw (follows_same k next a.0 a.1 b.0 b.1, chained_same (next ∷ more) (λ j m. first j (inr m))) refl

  pub origin_same : (x : ℕ) (own : List ℕ) → AreFirst (x ∷ own) → origin trip (front ++ rest) (x ∷ own) ≡ origin trip front (x ∷ own)
  origin_same x own first = let a = first x (inl refl) in start_same x a.0 a.1

  pub ends_in_same : (city : City) (k : ℕ) → 1 ≤ k → k ≤ length front → ends_in trip (front ++ rest) city k ≡ ends_in trip front city k
  ends_in_same city k low high = rw (end_same k low high) refl

  pub home_same : (x : ℕ) (own : List ℕ) → AreFirst (x ∷ own) → comes_home trip (front ++ rest) (x ∷ own) ≡ comes_home trip front (x ∷ own)
  home_same x own first =
      let a = first (last_of (x ∷ own)) (last_member x own) in
      ap (λ (city : City). ends_in trip (front ++ rest) city (last_of (x ∷ own))) (origin_same x own first) ∙ ends_in_same (origin trip front (x ∷ own)) (last_of (x ∷ own)) a.0 a.1

  early_same : (x : ℕ) (own : List ℕ) → AreFirst (x ∷ own) → comes_home_early trip (front ++ rest) (x ∷ own) ≡ comes_home_early trip front (x ∷ own)
  early_same x own first =
      ap (λ (city : City). list_any (ends_in trip (front ++ rest) city) (but_last (x ∷ own))) (origin_same x own first)
      ∙ any_eq (ends_in trip (front ++ rest) (origin trip front (x ∷ own))) (ends_in trip front (origin trip front (x ∷ own))) (but_last (x ∷ own))
      (λ k m. let a = first k (but_last_member k (x ∷ own) m) in ends_in_same (origin trip front (x ∷ own)) k a.0 a.1)

  pub closes_same : (x : ℕ) (own : List ℕ) → AreFirst (x ∷ own) → closes trip (front ++ rest) (x ∷ own) ≡ closes trip front (x ∷ own)
  unfolding closes
  closes_same x own first = rw (chained_same (x ∷ own) first, home_same x own first, early_same x own first) refl

  pub jaw_same : (own : List ℕ) → AreFirst own → is_jaw tariff trip (front ++ rest) own ≡ is_jaw tariff trip front own
  jaw_same [] first = refl
  jaw_same (k ∷ []) first = refl
  jaw_same (k ∷ next ∷ []) first =
      let a = first k (inl refl) in
      let b = first next (inr (inl refl)) in
      rw (start_same k a.0 a.1, end_same k a.0 a.1, start_same next b.0 b.1, end_same next b.0 b.1) refl
  jaw_same (k ∷ next ∷ third ∷ more) first = refl

  module _ (x : ℕ) (others : List ℕ) (first : AreFirst (x ∷ others)) where
    low : (k : ℕ) → Member k (x ∷ others) → 1 ≤ k
    low k m = (first k m).0

    high : (k : ℕ) → Member k (x ∷ others) → k ≤ length front
    high k m = (first k m).1

    back_same : (k : ℕ) → Member k (x ∷ others) → is_back_in tariff trip (front ++ rest) (x ∷ others) k ≡ is_back_in tariff trip front (x ∷ others) k
    unfolding is_back_in
    back_same k m = rw (hr_same (x ∷ others) first, end_same k (low k m) (high k m), start_same k (low k m) (high k m), origin_same x others first) refl

    pub amount_same : (k : ℕ) → Member k (x ∷ others) → part_amount tariff trip (front ++ rest) (x ∷ others) k ≡ part_amount tariff trip front (x ∷ others) k
    unfolding part_amount
    amount_same k m =
        ap (λ b. component_amount tariff trip (start_of trip (front ++ rest) k) (end_of (front ++ rest) k) (part_at (front ++ rest) k).fare b) (back_same k m)
        ∙ ap (λ a. component_amount tariff trip a (end_of (front ++ rest) k) (part_at (front ++ rest) k).fare (is_back_in tariff trip front (x ∷ others) k)) (front_start trip front rest k (low k m) (high k m))
        ∙ ap (λ (p : Part). component_amount tariff trip (start_of trip front k) p.end p.fare (is_back_in tariff trip front (x ∷ others) k)) (front_part front rest k (low k m) (high k m))

    cost_same : (k : ℕ) → Member k (x ∷ others) → part_cost tariff trip (front ++ rest) (x ∷ others) k ≡ part_cost tariff trip front (x ∷ others) k
    cost_same k m = ap hundredths_of (amount_same k m)

    sum_same_unit : unit_sum tariff trip (front ++ rest) (x ∷ others) ≡ unit_sum tariff trip front (x ∷ others)
    unfolding unit_sum
    sum_same_unit = sum_eq (part_cost tariff trip (front ++ rest) (x ∷ others)) (part_cost tariff trip front (x ∷ others)) (x ∷ others) cost_same

    sector_same : (number : ℕ) → is_own_sector trip (front ++ rest) (x ∷ others) number ≡ is_own_sector trip front (x ∷ others) number
    sector_same number =
        any_eq (holds_sector trip (front ++ rest) number) (holds_sector trip front number) (x ∷ others)
        (λ k m. ap (λ a. ltb a number && leb number (end_of (front ++ rest) k)) (front_start trip front rest k (low k m) (high k m))
        ∙ ap (λ (p : Part). ltb (start_of trip front k) number && leb number p.end) (front_part front rest k (low k m) (high k m)))

    sectors_same : (i : ℕ) → own_sectors trip (front ++ rest) (x ∷ others) i ≡ own_sectors trip front (x ∷ others) i
    unfolding own_sectors
    sectors_same i = filter_eq (is_own_sector trip (front ++ rest) (x ∷ others)) (is_own_sector trip front (x ∷ others)) (numbers 1 (i + 1)) sector_same

    from_origin_same : (k i : ℕ) (fare : FareRecord) → Member k (x ∷ others) → reference_from_origin tariff trip (front ++ rest) (x ∷ others) k i fare ≡ reference_from_origin tariff trip front (x ∷ others) k i fare
    from_origin_same k i fare m = rw (origin_same x others first, sectors_same i, front_start trip front rest k (low k m) (high k m)) refl

    then_same : (f g : FareRecord → Option ℕ) (found : Option FareRecord) → ((fare : FareRecord) → f fare ≡ g fare) → option_and_then f found ≡ option_and_then g found
    then_same f g None h = refl
    then_same f g (Some fare) h = h fare

    circle_same : (k i : ℕ) → Member k (x ∷ others) → circle_reference tariff trip (front ++ rest) (x ∷ others) k i ≡ circle_reference tariff trip front (x ∷ others) k i
    unfolding circle_reference
    circle_same k i m =
        ap (option_and_then (reference_from_origin tariff trip (front ++ rest) (x ∷ others) k i)) (fare_same k (low k m) (high k m))
        ∙ then_same (reference_from_origin tariff trip (front ++ rest) (x ∷ others) k i) (reference_from_origin tariff trip front (x ∷ others) k i) (fare_of tariff front k) (λ fare. from_origin_same k i fare m)

    turning_same : (k : ℕ) → Member k (x ∷ others) → greatest_turning tariff trip (front ++ rest) (x ∷ others) k ≡ greatest_turning tariff trip front (x ∷ others) k
    turning_same k m =
        let points : turning_points trip (front ++ rest) (x ∷ others) k ≡ turning_points trip front (x ∷ others) k =
        ap (λ a. cond (eqb k (last_of (x ∷ others))) (stopovers trip a (end_of (front ++ rest) k)) (stopovers trip a (end_of (front ++ rest) k) ++ end_of (front ++ rest) k ∷ [])) (front_start trip front rest k (low k m) (high k m))
        ∙ ap (λ (p : Part). cond (eqb k (last_of (x ∷ others))) (stopovers trip (start_of trip front k) p.end) (stopovers trip (start_of trip front k) p.end ++ p.end ∷ [])) (front_part front rest k (low k m) (high k m)) in
        ap (greatest_of (circle_reference tariff trip (front ++ rest) (x ∷ others) k)) points
        ∙ greatest_eq (circle_reference tariff trip (front ++ rest) (x ∷ others) k) (circle_reference tariff trip front (x ∷ others) k) (turning_points trip front (x ∷ others) k) (λ i n. circle_same k i m)

    minimum_of_circle_same : unit_circle_minimum tariff trip (front ++ rest) (x ∷ others) ≡ unit_circle_minimum tariff trip front (x ∷ others)
    unfolding unit_circle_minimum
    minimum_of_circle_same = ap (option_map (λ amount. 2 * amount)) (greatest_eq (greatest_turning tariff trip (front ++ rest) (x ∷ others)) (greatest_turning tariff trip front (x ∷ others)) (x ∷ others) turning_same)

    minimum_same : (kind : UnitKind) → unit_minimum tariff trip (front ++ rest) (x ∷ others) kind ≡ unit_minimum tariff trip front (x ∷ others) kind
    unfolding unit_minimum
    minimum_same OW =
        ap (λ a. number_backhaul tariff trip a (end_of (front ++ rest) x) (part_at (front ++ rest) x).fare) (front_start trip front rest x (low x (inl refl)) (high x (inl refl)))
        ∙ ap (λ (p : Part). number_backhaul tariff trip (start_of trip front x) p.end p.fare) (front_part front rest x (low x (inl refl)) (high x (inl refl)))
    minimum_same RT = refl
    minimum_same CT = minimum_of_circle_same
    minimum_same OJ = refl

    equal_same : (own : List ℕ) → ((k : ℕ) → Member k own → Member k (x ∷ others)) → are_two_equal (part_cost tariff trip (front ++ rest) (x ∷ others)) own ≡ are_two_equal (part_cost tariff trip front (x ∷ others)) own
    equal_same [] h = refl
    equal_same (k ∷ []) h = refl
    equal_same (k ∷ next ∷ []) h = rw (cost_same k (h k (inl refl)), cost_same next (h next (inr (inl refl)))) refl
    equal_same (k ∷ next ∷ third ∷ more) h = refl

    kind_same : unit_kind tariff trip (front ++ rest) (x ∷ others) ≡ unit_kind tariff trip front (x ∷ others)
    unfolding unit_kind is_open_jaw is_round_trip
    kind_same = rw (holds_same (x ∷ others) first, jaw_same (x ∷ others) first, closes_same x others first, equal_same (x ∷ others) (λ k m. m)) refl

    -- it costs the same
    pub price_same : (unit_sheet tariff trip (front ++ rest) (x ∷ others)).price ≡ (unit_sheet tariff trip front (x ∷ others)).price
    unfolding unit_sheet
    price_same = rw (kind_same, sum_same_unit, minimum_same (unit_kind tariff trip front (x ∷ others))) refl
