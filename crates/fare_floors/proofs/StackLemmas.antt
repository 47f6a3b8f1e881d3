-- What the parts behind the first parts of a lawful construction cost is no less than what the units that go on say.
use Rattle.std.proofs.Common.{◌≡◌, ℕ, zero, suc, ◌+◌, ◌-◌, ◌<◌, ◌≤◌, Bool, true, false, List, length, sym, subst, ◌∙◌, inl, inr, arith}
use Rattle.std.specs.Prelude.{Option, sum_by}
use Rattle.std.proofs.lemmas.Bool.{cases_Bool, cases_lt}
use Rattle.fare_trip.specs.Itinerary.{Itinerary, count}
use Rattle.fare_tariff.specs.Tariff.{Tariff}
use Rattle.fare_rules.specs.declared.part.Part.{Part}
use Rattle.fare_rules.specs.Construction.{start_of, end_of, own, first_of, last_of, part_at, unit_of}
use Rattle.fare_legs.specs.declared.ceiling.Ceiling.{Ceiling}
use Rattle.fare_legs.specs.Barred.{is_barred}
use Rattle.fare_legs.specs.Costs.{IsUpTo, is_same_city}
use Rattle.fare_homing.specs.Homing.{closing_by, homing_at}
use Rattle.fare_homing.specs.HomingRows.{AreHomings, AreRests}
use Rattle.fare_floors.specs.Costs.{true_cost}
use Rattle.fare_floors.specs.Stack.{goes_on, has_more, own_from, stand_of, IsOver, LastsBy}
use Rattle.fare_legs.proofs.ReachLemmas.{up_more}
use Rattle.fare_homing.proofs.UnderLemmas.{nested_closes_under, nested_jaw_under, onward_free_under}

true_false : true ≡ false → ⊥
true_false e = cc

-- what is behind the points of a trip, where some fares are barred from each unit that begins behind so many parts
pub record IsBehind (tariff : Tariff) (trip : Itinerary) (ceiling : Option Ceiling) (begun closing jaw : ℕ → ℕ → ℕ → Option ℕ) (whole : ℕ → ℕ → Option ℕ) (left : ℕ → Option ℕ) (parts : List Part) (from : ℕ) : Type 0 where
  pub kept : ℕ → Option ℕ
  pub homings : AreHomings tariff trip ceiling begun closing jaw whole kept
  pub barred : List ℕ
  pub outer : ℕ → ℕ → Option ℕ
  pub rests : AreRests tariff trip barred begun jaw outer left
  pub clear : (j : ℕ) → 1 ≤ j → j ≤ length parts → from < first_of (own parts (unit_of parts j)) → is_barred tariff barred (part_at parts j).fare ≡ false

-- where a unit begins, and where it comes home
abbrev pub begins_at : Itinerary → List Part → ℕ → ℕ
begins_at trip parts unit = start_of trip parts (first_of (own parts unit))

abbrev pub home_at : List Part → ℕ → ℕ
home_at parts unit = end_of parts (last_of (own parts unit))

-- the last part of a unit costs no more than more, and begins behind a point that lies before
pub lasts_more : (tariff : Tariff) (trip : Itinerary) (parts : List Part) (k unit i j x y : ℕ) → i ≤ j → x ≤ y → LastsBy tariff trip parts k unit j x → LastsBy tariff trip parts k unit i y
lasts_more tariff trip parts k unit i j x y low h last =
    let begins : j ≤ start_of trip parts (last_of (own parts unit)) = last.begins in
    let costs : true_cost tariff trip parts (last_of (own parts unit)) ≤ x = last.costs in
    let all : sum_by (true_cost tariff trip parts) (own_from parts k unit) ≤ x = last.all in
    record { begins = omega arith; costs = omega arith; all = omega arith }

-- and is the same behind another place behind which the unit has the same parts
pub lasts_same : (tariff : Tariff) (trip : Itinerary) (parts : List Part) (k m unit i x : ℕ) → own_from parts k unit ≡ own_from parts m unit → LastsBy tariff trip parts k unit i x → LastsBy tariff trip parts m unit i x
lasts_same tariff trip parts k m unit i x same last =
    let P : List ℕ → Type 0 = λ xs. sum_by (true_cost tariff trip parts) xs ≤ x in
    record { begins = last.begins; costs = last.costs; all = subst P same last.all }

module _ (tariff : Tariff) (trip : Itinerary) (begun closing jaw : ℕ → ℕ → ℕ → Option ℕ) (left : ℕ → Option ℕ) (parts : List Part) where
  abbrev pub Over : ℕ → ℕ → ℕ → ℕ → Type 0
  Over k u i cost = IsOver tariff trip begun closing jaw left parts k u i cost

  -- what is over is so with a greater cost
  pub over_more : (k u i x y : ℕ) → x ≤ y → Over k u i x → Over k u i y
  over_more k zero i x y h o = up_more x y (left i) h o
  over_more k (suc u) i x y h o =
      (λ t. let c = o.0 t in let s : c.0 + c.1 ≤ x = c.2 in (c.0, c.1, omega arith, c.3, c.4, c.5), λ f. over_more k u i x y h (o.1 f))

  -- until a unit that goes on comes home, from where it stands
  abbrev pub HomeFrom : ℕ → ℕ → ℕ → ℕ → Type 0
  HomeFrom k unit i x = IsUpTo x (homing_at trip (closing_by (has_more parts k unit) begun closing (stand_of parts k unit)) (jaw (stand_of parts k unit)) (begins_at trip parts unit) i (home_at parts unit))

  home_same : (k m unit i x : ℕ) → (stand_of parts k unit ≡ stand_of parts m unit) × (has_more parts k unit ≡ has_more parts m unit) → HomeFrom k unit i x → HomeFrom m unit i x
  home_same k m unit i x e up =
      let P : ℕ → Type 0 = λ c. IsUpTo x (homing_at trip (closing_by (has_more parts k unit) begun closing c) (jaw c) (begins_at trip parts unit) i (home_at parts unit)) in
      let Q : Bool → Type 0 = λ more. IsUpTo x (homing_at trip (closing_by more begun closing (stand_of parts m unit)) (jaw (stand_of parts m unit)) (begins_at trip parts unit) i (home_at parts unit)) in
      subst Q e.1 (subst P e.0 up)

  -- two places at which the same units go on, stand at the same points, have more than one part there or not, and have the
  -- same parts behind
  abbrev pub AreSame : ℕ → ℕ → ℕ → Type 0
  AreSame k m u = (v : ℕ) → 1 ≤ v → v ≤ u → (goes_on parts k v ≡ goes_on parts m v) × (goes_on parts k v ≡ true → (stand_of parts k v ≡ stand_of parts m v) × (has_more parts k v ≡ has_more parts m v) × (own_from parts k v ≡ own_from parts m v))

  -- what is over is the same behind both
  pub over_same : (k m u i x : ℕ) → AreSame k m u → Over k u i x → Over m u i x
  over_same k m zero i x h o = o
  over_same k m (suc u) i x h o =
      let here = h (suc u) (omega arith) (omega arith) in
      let e : goes_on parts k (suc u) ≡ goes_on parts m (suc u) = here.0 in (
        λ t.
            let c = o.0 (e ∙ t) in
            let same = here.1 (e ∙ t) in
            (c.0, c.1, c.2, home_same k m (suc u) i c.0 (same.0, same.1) c.3, over_same k m u (home_at parts (suc u)) c.1 (λ v low high. h v low (omega arith)) c.4, lasts_same tariff trip parts k m (suc u) i c.0 same.2 c.5),
        λ f. over_same k m u i x (λ v low high. h v low (omega arith)) (o.1 (e ∙ f)),
      )

  -- units that don't go on drop out
  pub over_down : (k u n i x : ℕ) → u ≤ n → ((v : ℕ) → u < v → v ≤ n → goes_on parts k v ≡ false) → Over k n i x → Over k u i x
  over_down k u zero i x h none o =
      let same : zero ≡ u = omega arith in
      let P : ℕ → Type 0 = λ w. Over k w i x in
      subst P same o
  over_down k u (suc n) i x h none o =
      elim (cases_lt u (suc n)) [
        | inl less ↦ over_down k u n i x (omega arith) (λ v low high. none v low (omega arith)) (o.1 (none (suc n) less (omega arith)))
        | inr past ↦
            let same : suc n ≡ u = omega arith in
            let P : ℕ → Type 0 = λ w. Over k w i x in
            subst P same o
      ]

  -- and come in
  pub over_up : (k u n i x : ℕ) → u ≤ n → ((v : ℕ) → u < v → v ≤ n → goes_on parts k v ≡ false) → Over k u i x → Over k n i x
  over_up k u zero i x h none o =
      let same : u ≡ zero = omega arith in
      let P : ℕ → Type 0 = λ w. Over k w i x in
      subst P same o
  over_up k u (suc n) i x h none o =
      elim (cases_lt u (suc n)) [
        | inl less ↦
            let f : goes_on parts k (suc n) ≡ false = none (suc n) less (omega arith) in
            (λ t. absurd (true_false (sym t ∙ f)), λ g. over_up k u n i x (omega arith) (λ v low high. none v low (omega arith)) o)
        | inr past ↦
            let same : u ≡ suc n = omega arith in
            let P : ℕ → Type 0 = λ w. Over k w i x in
            subst P same o
      ]

  -- a unit that goes on, with what is behind its home
  pub over_open : (k u i x y : ℕ) → goes_on parts k (suc u) ≡ true → HomeFrom k (suc u) i x → Over k u (home_at parts (suc u)) y → LastsBy tariff trip parts k (suc u) i x
      → Over k (suc u) i (x + y)
  over_open k u i x y t up o last = (λ s. (x, y, omega arith, up, o, last), λ f. absurd (true_false (sym t ∙ f)))

  -- the same for a unit by its number
  abbrev pub Opens : ℕ → ℕ → ℕ → ℕ → Type 0
  Opens k unit i cost = (x : ℕ) × (y : ℕ) × (x + y ≤ cost) × HomeFrom k unit i x × Over k (unit - 1) (home_at parts unit) y × LastsBy tariff trip parts k unit i x

  pub opens : (k unit i cost : ℕ) → 1 ≤ unit → goes_on parts k unit ≡ true → Over k unit i cost → Opens k unit i cost
  opens k zero i cost low t o = absurd (omega arith)
  opens k (suc u) i cost low t o =
      let c = o.0 t in
      let e : u ≡ suc u - 1 = omega arith in
      let P : ℕ → Type 0 = λ w. Over k w (home_at parts (suc u)) c.1 in
      (c.0, c.1, c.2, c.3, subst P e c.4, c.5)

  pub from_open : (k unit i x y : ℕ) → 1 ≤ unit → goes_on parts k unit ≡ true → HomeFrom k unit i x → Over k (unit - 1) (home_at parts unit) y → LastsBy tariff trip parts k unit i x
      → Over k unit i (x + y)
  from_open k zero i x y low t up o last = absurd (omega arith)
  from_open k (suc u) i x y low t up o last =
      let e : suc u - 1 ≡ u = omega arith in
      let P : ℕ → Type 0 = λ w. Over k w (home_at parts (suc u)) y in
      over_open k u i x y t up (subst P e o) last

module _ (tariff : Tariff) (trip : Itinerary) (ceiling : Option Ceiling) (begun closing jaw : ℕ → ℕ → ℕ → Option ℕ) (whole : ℕ → ℕ → Option ℕ) (left : ℕ → Option ℕ) (are : AreHomings tariff trip ceiling begun closing jaw whole left) where
  -- a number for what is nested with one for what is behind it
  nested : (more : Bool) (c start i b j w x : ℕ) → c ≤ i → i < b → b < j → b ≤ count trip → IsUpTo w (whole i b) → IsUpTo x (homing_at trip (closing_by more begun closing c) (jaw c) start b j) → IsUpTo (w + x) (homing_at trip (closing_by more begun closing c) (jaw c) start i j)
  nested more c start i b j w x stands low less high up behind =
      elim (cases_Bool (is_same_city trip start j)) [
        | inl t ↦ rw t (nested_closes_under are more c i b j w x stands low less high up (rw t at behind))
        | inr f ↦ rw f (nested_jaw_under are c i b j w x stands low less high up (rw f at behind))
      ]

-- a whole unit stands before what is over the others, each of which comes home behind it and stands before it
module _ (tariff : Tariff) (trip : Itinerary) (ceiling : Option Ceiling) (begun closing jaw : ℕ → ℕ → ℕ → Option ℕ) (whole : ℕ → ℕ → Option ℕ) (left : ℕ → Option ℕ) (parts : List Part) {from : ℕ} (are : IsBehind tariff trip ceiling begun closing jaw whole left parts from) where
  pub step_over : (k n i b w x : ℕ) → i < b → b ≤ count trip → IsUpTo w (whole i b) → IsUpTo w (are.outer i b)
      → ((v : ℕ) → 1 ≤ v → v ≤ n → goes_on parts k v ≡ true → (b < home_at parts v) × (stand_of parts k v ≤ i))
      → IsOver tariff trip begun closing jaw left parts k n b x → IsOver tariff trip begun closing jaw left parts k n i (w + x)
  step_over k zero i b w x low high up free homes o = onward_free_under are.rests i b w x low high free o
  step_over k (suc u) i b w x low high up free homes o = (
    λ t.
        let c = o.0 t in
        let s : c.0 + c.1 ≤ x = c.2 in
        let h = homes (suc u) (omega arith) (omega arith) t in
        (w + c.0, c.1, omega arith, nested tariff trip ceiling begun closing jaw whole are.kept are.homings (has_more parts k (suc u)) (stand_of parts k (suc u)) (begins_at trip parts (suc u)) i b (home_at parts (suc u)) w c.0 h.1 low h.0 high up c.3, c.4, lasts_more tariff trip parts k (suc u) i b c.0 (w + c.0) (omega arith) (omega arith) c.5),
    λ f. step_over k u i b w x low high up free (λ v one most. homes v one (omega arith)) (o.1 f),
  )
