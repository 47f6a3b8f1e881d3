-- The price of a lawful construction is below 400,000,000.00.
use Rattle.std.proofs.Common.{◌≡◌, ℕ, zero, suc, ◌+◌, ◌-◌, ◌*◌, ◌<◌, ◌≤◌, Bool, true, false, cond, List, [], ◌∷◌, length, refl, ap, sym, ◌∙◌, inl, inr, arith, eqb, leb, mul-suc, mul-add, mul-zero}
use Rattle.std.specs.Prelude.{Option, Some, None, option_map, option_and_then, filter, sum_by}
use Rattle.std.specs.List.{range_with_len}
use Rattle.std.proofs.lemmas.Bool.{cases_Bool, cases_order, eq-eqb, ne_eqb, lt-leb, le-leb}
use Rattle.std.proofs.Math.Nat.{zero-mul}
use Rattle.std.proofs.lemmas.List.FromFn.{length-range_with_len}
use Rattle.std.proofs.lemmas.List.Sums.{sum_by-cons}
use Rattle.fare_codes.specs.declared.limits.TheConstants.{MOST_SECTORS}
use Rattle.fare_trip.specs.Itinerary.{Itinerary, count, point}
use Rattle.fare_records.specs.Record.{FareRecord}
use Rattle.fare_tariff.specs.Tariff.{Tariff}
use Rattle.fare_rules.specs.declared.limits.TheConstants.{PRICE_LIMIT}
use Rattle.fare_rules.specs.declared.part.Part.{Part}
use Rattle.fare_rules.specs.declared.unit_sheet.UnitKind.{UnitKind}
use Rattle.fare_rules.specs.declared.unit_sheet.UnitKind.TheVariants.{OW, RT, CT, OJ}
use Rattle.fare_rules.specs.Numbers.{greatest_of}
use Rattle.fare_rules.specs.Span.{first_day}
use Rattle.fare_rules.specs.Indicator.{indicator_of}
use Rattle.fare_rules.specs.Backhaul.{backhaul}
use Rattle.fare_rules.specs.Construction.{unit_of, places, start_of, end_of, part_at, fare_of, first_of, is_own, own, units, greatest_unit, origin, begin_after}
use Rattle.fare_rules.specs.Shape.{closes, is_open_jaw}
use Rattle.fare_rules.specs.Direction.{is_back_in}
use Rattle.fare_rules.specs.Circle.{circle_reference, reference_from_origin, own_sectors, turning_points, greatest_turning, unit_circle_minimum, twice}
use Rattle.fare_rules.specs.UnitPrice.{part_amount, part_cost, unit_sum, is_round_trip, unit_kind, unit_minimum, unit_sheet, unit_price, price, at_least}
use Rattle.fare_rules.specs.Best.{IsLawful}
use Rattle.fare_rules.specs.Valid.{HasFaresInForm}
use Rattle.fare_rules.proofs.CoverLemmas.{IsCover, cover, begins_later}
use Rattle.fare_rules.proofs.LawfulLemmas.{kept, price_of_lawful}
use Rattle.fare_rules.proofs.PriceLemmas.{UpTo, greatest_up_to, greatest_fare, reference_up_to, backhaul_up_to, component_up_to}

-- a sum of amounts that are each at most some number
sum_up_to : (most : ℕ) (amount : ℕ → ℕ) (xs : List ℕ) → ((x : ℕ) → amount x ≤ most)
    → sum_by amount xs ≤ most * length xs
sum_up_to most amount [] h = omega arith
sum_up_to most amount (x ∷ xs) h =
    let one : amount x ≤ most = h x in
    let more : sum_by amount xs ≤ most * length xs = sum_up_to most amount xs h in
    let e : sum_by amount (x ∷ xs) ≡ amount x + sum_by amount xs = sum_by-cons amount x xs in
    let m : most * suc (length xs) ≡ most * length xs + most = mul-suc most (length xs) in
    omega arith

-- the sums of one amount that is never more than another
sum_below : (f g : ℕ → ℕ) (xs : List ℕ) → ((x : ℕ) → f x ≤ g x) → sum_by f xs ≤ sum_by g xs
sum_below f g [] h = omega arith
sum_below f g (x ∷ xs) h =
    let one : f x ≤ g x = h x in
    let more : sum_by f xs ≤ sum_by g xs = sum_below f g xs h in
    let e : sum_by f (x ∷ xs) ≡ f x + sum_by f xs = sum_by-cons f x xs in
    let k : sum_by g (x ∷ xs) ≡ g x + sum_by g xs = sum_by-cons g x xs in
    omega arith

sum_times : (c : ℕ) (f : ℕ → ℕ) (xs : List ℕ) → sum_by (λ x. c * f x) xs ≡ c * sum_by f xs
sum_times c f [] = sym (mul-zero c)
sum_times c f (x ∷ xs) = sum_by-cons (λ y. c * f y) x xs ∙ ap (λ n. c * f x + n) (sum_times c f xs) ∙ sym (mul-add c (f x) (sum_by f xs)) ∙ ap (λ n. c * n) (sym (sum_by-cons f x xs))

sum_plus : (f g : ℕ → ℕ) (xs : List ℕ) → sum_by (λ x. f x + g x) xs ≡ sum_by f xs + sum_by g xs
sum_plus f g [] = refl
sum_plus f g (x ∷ xs) =
    let e : sum_by (λ y. f y + g y) (x ∷ xs) ≡ (f x + g x) + sum_by (λ y. f y + g y) xs = sum_by-cons (λ y. f y + g y) x xs in
    let more : sum_by (λ y. f y + g y) xs ≡ sum_by f xs + sum_by g xs = sum_plus f g xs in
    let a : sum_by f (x ∷ xs) ≡ f x + sum_by f xs = sum_by-cons f x xs in
    let b : sum_by g (x ∷ xs) ≡ g x + sum_by g xs = sum_by-cons g x xs in
    omega arith

once_more : (w first rest all : ℕ) → all ≡ cond (eqb w first) 1 0 + rest → rest ≤ cond (leb (first + 1) w) 1 0
    → all ≤ cond (leb first w) 1 0
once_more w first rest all e h =
    elim (cases_order w first) [
      | inl same ↦
          let here : all ≡ 1 + rest = rw (eq-eqb w first same) at e in
          let none : rest ≤ 0 = rw (lt-leb (first + 1) w (omega arith)) at h in
          rw (le-leb first w (omega arith)) (omega arith)
      | inr order ↦ elim order [
        | inl low ↦
            let here : all ≡ 0 + rest = rw (ne_eqb w first (λ same. omega arith)) at e in
            let none : rest ≤ 0 = rw (lt-leb (first + 1) w (omega arith)) at h in
            rw (lt-leb first w (omega arith)) (omega arith)
        | inr high ↦
            let here : all ≡ 0 + rest = rw (ne_eqb w first (λ same. omega arith)) at e in
            let some : rest ≤ 1 = rw (le-leb (first + 1) w (omega arith)) at h in
            rw (le-leb first w (omega arith)) (omega arith)
      ]
    ]

at_most_one : (b : Bool) (n : ℕ) → n ≤ cond b 1 0 → n ≤ 1
at_most_one true n h = h
at_most_one false n h = omega arith

-- a number is met at most once in a range
once_from : (w first n : ℕ) → sum_by (λ u. cond (eqb w u) 1 0) (range_with_len first n) ≤ cond (leb first w) 1 0
once_from w first zero = omega arith
once_from w first (suc n) =
    let e : sum_by (λ u. cond (eqb w u) 1 0) (range_with_len first (suc n)) ≡ cond (eqb w first) 1 0 + sum_by (λ u. cond (eqb w u) 1 0) (range_with_len (first + 1) n) = sum_by-cons (λ u. cond (eqb w u) 1 0) first (range_with_len (first + 1) n) in
    let more : sum_by (λ u. cond (eqb w u) 1 0) (range_with_len (first + 1) n) ≤ cond (leb (first + 1) w) 1 0 = once_from w (first + 1) n in
    once_more w first (sum_by (λ u. cond (eqb w u) 1 0) (range_with_len (first + 1) n)) (sum_by (λ u. cond (eqb w u) 1 0) (range_with_len first (suc n))) e more

once_in : (w first n : ℕ) → sum_by (λ u. cond (eqb w u) 1 0) (range_with_len first n) ≤ 1
once_in w first n = at_most_one (leb first w) (sum_by (λ u. cond (eqb w u) 1 0) (range_with_len first n)) (once_from w first n)

one_own : (parts : List Part) (x : ℕ) (xs : List ℕ) (u : ℕ)
    → length (filter (is_own parts u) (x ∷ xs)) ≤ cond (eqb (unit_of parts x) u) 1 0 + length
    (filter (is_own parts u) xs)
one_own parts x xs u =
    elim (cases_Bool (eqb (unit_of parts x) u)) [ inl t ↦ rw t (omega arith) | inr f ↦ rw f (omega arith) ]

-- each place belongs to at most one unit
own_lengths : (parts : List Part) (xs : List ℕ) (first n : ℕ)
    → sum_by (λ u. length (filter (is_own parts u) xs)) (range_with_len first n) ≤ length xs
own_lengths parts [] first n =
    let h : sum_by (λ u. length (filter (is_own parts u) [])) (range_with_len first n) ≤ 0 * length (range_with_len first n) = sum_up_to 0 (λ u. length (filter (is_own parts u) [])) (range_with_len first n) (λ u. omega arith) in
    omega (arith, zero-mul (length (range_with_len first n)))
own_lengths parts (x ∷ xs) first n =
    let mine : ℕ → ℕ = λ u. cond (eqb (unit_of parts x) u) 1 0 in
    let others : ℕ → ℕ = λ u. length (filter (is_own parts u) xs) in
    let all : sum_by (λ u. length (filter (is_own parts u) (x ∷ xs))) (range_with_len first n) ≤ sum_by (λ u. mine u + others u) (range_with_len first n) = sum_below (λ u. length (filter (is_own parts u) (x ∷ xs))) (λ u. mine u + others u) (range_with_len first n) (one_own parts x xs) in
    let split : sum_by (λ u. mine u + others u) (range_with_len first n) ≡ sum_by mine (range_with_len first n) + sum_by others (range_with_len first n) = sum_plus mine others (range_with_len first n) in
    let once : sum_by mine (range_with_len first n) ≤ 1 = once_in (unit_of parts x) first n in
    let more : sum_by others (range_with_len first n) ≤ length xs = own_lengths parts xs first n in
    omega arith

-- a part ends no earlier than its place, so there are no more parts than sectors
ends_at_place : (trip : Itinerary) (parts : List Part) → IsCover trip parts → (k : ℕ) → k ≤ length parts
    → k ≤ end_of parts k
ends_at_place trip parts covers zero high = omega arith
ends_at_place trip parts covers (suc zero) high =
    let above : 0 < end_of parts 1 = covers.above 1 (omega arith) high in
    omega arith
ends_at_place trip parts covers (suc (suc j)) high =
    let before : suc j ≤ end_of parts (suc j) = ends_at_place trip parts covers (suc j) (omega arith) in
    let above : start_of trip parts (suc (suc j)) < end_of parts (suc (suc j)) = covers.above (suc (suc j)) (omega arith) high in
    let start : begin_after trip (end_of parts (suc (suc j) - 1)) < end_of parts (suc (suc j)) = rw (lt-leb (suc (suc j)) 1 (omega arith)) at above in
    let s : suc (suc j) - 1 ≡ suc j = omega arith in
    let later : end_of parts (suc j) ≤ begin_after trip (end_of parts (suc (suc j) - 1)) = rw s (begins_later trip (end_of parts (suc j))) in
    omega arith

pub parts_up_to : (trip : Itinerary) (parts : List Part) → IsCover trip parts → length parts ≤ count trip
parts_up_to trip parts covers =
    let place : length parts ≤ end_of parts (length parts) = ends_at_place trip parts covers (length parts) (omega arith) in
    let last : end_of parts (length parts) ≡ count trip = covers.last in
    omega arith

at_least_up_to : (most sum : ℕ) (minimum : Option ℕ) → sum ≤ most → UpTo most minimum → at_least sum minimum ≤ most
at_least_up_to most sum None h k = h
at_least_up_to most sum (Some minimum) h k = omega arith

up_to_more : (most more : ℕ) (o : Option ℕ) → most ≤ more → UpTo most o → UpTo more o
up_to_more most more None h k = tt
up_to_more most more (Some amount) h k = omega arith

then_up_to : (most : ℕ) (f : FareRecord → Option ℕ) (found : Option FareRecord)
    → ((fare : FareRecord) → UpTo most (f fare)) → UpTo most (option_and_then f found)
then_up_to most f None h = tt
then_up_to most f (Some fare) h = h fare

twice_up_to : (o : Option ℕ) → UpTo greatest_fare o → UpTo 2_000_000_000 (option_map twice o)
twice_up_to None h = tt
twice_up_to (Some amount) h = omega arith

module _ (tariff : Tariff) (trip : Itinerary) (form : HasFaresInForm tariff) (parts : List Part) where
  circle_up_to : (own : List ℕ) → UpTo 2_000_000_000 (unit_circle_minimum tariff trip parts own)
  unfolding unit_circle_minimum circle_reference
  circle_up_to own =
      twice_up_to (greatest_of (greatest_turning tariff trip parts own) own)
      (greatest_up_to greatest_fare (greatest_turning tariff trip parts own) own (λ k.
      greatest_up_to greatest_fare (circle_reference tariff trip parts own k) (turning_points trip parts own k) (λ i.
      then_up_to greatest_fare (reference_from_origin tariff trip parts own k i) (fare_of tariff parts k) (λ fare.
      reference_up_to tariff trip form (origin trip parts own) (point trip i) (indicator_of tariff trip (own_sectors trip parts own i)) fare (first_day trip (start_of trip parts k))))))

  minimum_up_to : (own : List ℕ) (kind : UnitKind) → UpTo 2_000_000_000 (unit_minimum tariff trip parts own kind)
  unfolding unit_minimum
  minimum_up_to own OW = then_up_to 2_000_000_000 (backhaul tariff trip (start_of trip parts (first_of own)) (end_of parts (first_of own))) (fare_of tariff parts (first_of own)) (backhaul_up_to tariff trip form (start_of trip parts (first_of own)) (end_of parts (first_of own)))
  minimum_up_to own RT = tt
  minimum_up_to own CT = circle_up_to own
  minimum_up_to own OJ = tt

  pub sum_of_unit_up_to : (own : List ℕ) → unit_sum tariff trip parts own ≤ 1_250_000_000 * length own
  unfolding unit_sum part_amount
  sum_of_unit_up_to own = sum_up_to 1_250_000_000 (part_cost tariff trip parts own) own (λ k. component_up_to tariff trip form (start_of trip parts k) (end_of parts k) (part_at parts k).fare (is_back_in tariff trip parts own k))

  pub unit_up_to : (own : List ℕ) → (unit_sheet tariff trip parts own).price ≤ 2_000_000_000 * length own
  unfolding unit_sheet unit_kind is_round_trip closes is_open_jaw unit_minimum unit_circle_minimum unit_sum
  unit_up_to [] = omega arith
  unit_up_to (x ∷ xs) =
      let sum : unit_sum tariff trip parts (x ∷ xs) ≤ 1_250_000_000 * length (x ∷ xs) = sum_of_unit_up_to (x ∷ xs) in
      at_least_up_to (2_000_000_000 * length (x ∷ xs)) (unit_sum tariff trip parts (x ∷ xs)) (unit_minimum tariff trip parts (x ∷ xs) (unit_kind tariff trip parts (x ∷ xs))) (omega arith)
      (up_to_more 2_000_000_000 (2_000_000_000 * length (x ∷ xs)) (unit_minimum tariff trip parts (x ∷ xs) (unit_kind tariff trip parts (x ∷ xs))) (omega arith) (minimum_up_to (x ∷ xs) (unit_kind tariff trip parts (x ∷ xs))))

  pub price_up_to : price tariff trip parts ≤ 2_000_000_000 * length parts
  unfolding price own
  price_up_to =
      let lengths : ℕ → ℕ = λ u. length (own parts u) in
      let below : sum_by (unit_price tariff trip parts) (units parts) ≤ sum_by (λ u. 2_000_000_000 * lengths u) (units parts) = sum_below (unit_price tariff trip parts) (λ u. 2_000_000_000 * lengths u) (units parts) (λ u. unit_up_to (own parts u)) in
      let times : sum_by (λ u. 2_000_000_000 * lengths u) (units parts) ≡ 2_000_000_000 * sum_by lengths (units parts) = sum_times 2_000_000_000 lengths (units parts) in
      let once : sum_by lengths (units parts) ≤ length (places parts) = own_lengths parts (places parts) 1 ((greatest_unit parts (places parts) + 1) - 1) in
      let n : length (places parts) ≡ (length parts + 1) - 1 = length-range_with_len 1 ((length parts + 1) - 1) in
      omega arith

-- a lawful price
pub lawful_price_up_to : (tariff : Tariff) (trip : Itinerary) (parts : List Part) (cost : ℕ) → HasFaresInForm tariff
    → count trip ≤ MOST_SECTORS → IsLawful tariff trip parts cost → cost < PRICE_LIMIT
lawful_price_up_to tariff trip parts cost form short lawful =
    let same : price tariff trip parts ≡ cost = price_of_lawful tariff trip parts cost lawful in
    let bound : price tariff trip parts ≤ 2_000_000_000 * length parts = price_up_to tariff trip form parts in
    let few : length parts ≤ count trip = parts_up_to trip parts (cover trip parts (kept tariff trip parts cost lawful).cover) in
    omega arith
