-- Walks over the constructions that begin in a piece, and what a search of it comes to.
use Rattle.std.proofs.Common.{◌≡◌, ℕ, ◌+◌, ◌<◌, ◌≤◌, ◌⊎◌, max, true, false, List, [], length, Option, Some, None, ap, subst, sym, ◌∙◌, inl, inr, arith}
use Rattle.std.specs.Prelude.{slice_get}
use Rattle.std.proofs.lemmas.Option.{slice_get_within}
use Rattle.std.proofs.lemmas.Bool.{cases_lt}
use Rattle.fare_trip.specs.Itinerary.{Itinerary}
use Rattle.fare_tariff.specs.Tariff.{Tariff}
use Rattle.fare_rules.specs.declared.part.Part.{Part}
use Rattle.fare_rules.specs.Best.{IsLawful}
use Rattle.fare_rules.specs.Completion.{Choice, first_part_choices}
use Rattle.fare_rules.specs.Construction.{greatest_unit, places}
use Rattle.fare_rules.specs.Order.{is_before}
use Rattle.fare_rules.proofs.OrderLemmas.{before_says}
use Rattle.fare_units.specs.Walk.{GoesOn, IsPart}
use Rattle.fare_units.proofs.NextLemmas.{next_numbered}
use Rattle.fare_branch.specs.declared.pieces.Piece.{Piece}
use Rattle.fare_branch.specs.Search.{BeginsBy, BeginsIn}
use Rattle.fare_branch.specs.Sought.{IsWalk}
use Rattle.fare_branch.proofs.SoughtLemmas.{Passed, Held, walk_nothing, walk_then, walk_within}
use Rattle.fare_branch.proofs.WalkedLemmas.{not_after}

abbrev Found : Type 0
Found = Option (List Part × ℕ)

none_some : {A : Type 0} (x : A) → None ≡ Some x → ⊥
none_some x e = cc

some_end : (a b : Choice) → Some a ≡ Some b → (a.0 ≡ b.0) × (a.1 ≡ b.1)
some_end a b e = let same : a ≡ b = cc in (ap (λ (c : Choice). c.0) same, ap (λ (c : Choice). c.1) same)

-- what costs less is not behind what costs more
pub dearer : (xs ys : List Part) (px py : ℕ) → py < px → is_before xs px ys py ≡ false
dearer xs ys px py h = not_after ys xs py px (before_says ys xs py px (inl h))

pub cheaper : (xs ys : List Part) (px py : ℕ) → is_before xs px ys py ≡ false → py ≤ px
cheaper xs ys px py h =
    elim (cases_lt px py) [
      | inl l ↦ absurd (both (sym (before_says xs ys px py (inl l)) ∙ h))
      | inr g ↦ g
    ]
  where
    both : true ≡ false → ⊥
    both e = cc

module _ (tariff : Tariff) (trip : Itinerary) where
  -- a number of no choice
  pub choice_none : (number : ℕ) (a : Passed) (x : Held) → None ≡ slice_get (first_part_choices tariff trip) number → IsWalk tariff trip (BeginsBy tariff trip number) a x a x
  choice_none number a x e = walk_nothing tariff trip (BeginsBy tariff trip number) a x (λ parts price l b. none_some (b.first.end, b.first.fare) (e ∙ b.choice))

  -- what begins with a choice begins with its part
  by_part : (number : ℕ) (part : Part) → part.unit ≡ 1 → Some (part.end, part.fare) ≡ slice_get (first_part_choices tariff trip) number → (parts : List Part) (price : ℕ) → IsLawful tariff trip parts price → BeginsBy tariff trip number parts → GoesOn [] (IsPart part) parts
  by_part number part unit e parts price l b =
      let same = some_end (part.end, part.fare) (b.first.end, b.first.fare) (e ∙ b.choice) in
      let P : List Part → Type 0 = λ xs. IsLawful tariff trip xs price in
      let numbered : (1 ≤ b.first.unit) × (b.first.unit ≤ greatest_unit [] (places []) + 1) = next_numbered tariff trip [] b.first b.rest price (subst P b.whole l) in
      let low : 1 ≤ b.first.unit = numbered.0 in
      let high : b.first.unit ≤ 0 + 1 = numbered.1 in
      let one : b.first.unit ≡ part.unit = omega arith in
      record { next = b.first; rest = b.rest; whole = b.whole; meets = λ i. record { end = sym same.0 i; unit = one i; fare = sym same.1 i } }

  part_by : (number : ℕ) (part : Part) → Some (part.end, part.fare) ≡ slice_get (first_part_choices tariff trip) number → (parts : List Part) → GoesOn [] (IsPart part) parts → BeginsBy tariff trip number parts
  part_by number part e parts g = record {
    first = g.next;
    rest = g.rest;
    whole = g.whole;
    choice = sym e ∙ ap (λ (p : Part). Some (p.end, p.fare)) (sym g.meets);
  }

  pub choice_walked : (number : ℕ) (part : Part) (a b : Passed) (x y : Held) → part.unit ≡ 1 → Some (part.end, part.fare) ≡ slice_get (first_part_choices tariff trip) number → IsWalk tariff trip (GoesOn [] (IsPart part)) a x b y → IsWalk tariff trip (BeginsBy tariff trip number) a x b y
  choice_walked number part a b x y unit e walk =
      walk_within tariff trip (BeginsBy tariff trip number) (GoesOn [] (IsPart part)) a b x y walk (by_part number part unit e) (part_by number part e)

  -- number by number
  piece : ℕ → ℕ → Piece
  piece first past = record { first = first; past = past }

  pub piece_none : (first : ℕ) (a : Passed) (x : Held) → IsWalk tariff trip (BeginsIn tariff trip (record { first = first; past = first })) a x a x
  piece_none first a x = walk_nothing tariff trip (BeginsIn tariff trip (record { first = first; past = first })) a x (λ parts price l b. let low : first ≤ b.number = b.above in let high : b.number < first = b.below in omega arith)

  in_or_by : (first number : ℕ) (parts : List Part) → BeginsIn tariff trip (record { first = first; past = number + 1 }) parts → BeginsIn tariff trip (record { first = first; past = number }) parts ⊎ BeginsBy tariff trip number parts
  in_or_by first number parts b =
      let high : b.number < number + 1 = b.below in
      elim (cases_lt b.number number) [
        | inl l ↦ inl (record { number = b.number; above = b.above; below = l; by = b.by })
        | inr g ↦ let P : ℕ → Type 0 = λ n. BeginsBy tariff trip n parts in
            let same : b.number ≡ number = omega arith in
            inr (subst P same b.by)
      ]

  pub piece_more : (first number : ℕ) (a b c : Passed) (x y z : Held) → first ≤ number → IsWalk tariff trip (BeginsIn tariff trip (record { first = first; past = number })) a x b y → IsWalk tariff trip (BeginsBy tariff trip number) b y c z → IsWalk tariff trip (BeginsIn tariff trip (record { first = first; past = number + 1 })) a x c z
  piece_more first number a b c x y z up one two =
      walk_then tariff trip (BeginsIn tariff trip (record { first = first; past = number })) (BeginsBy tariff trip number) (BeginsIn tariff trip (record { first = first; past = number + 1 })) a b c x y z one two
      (in_or_by first number)
      (λ parts d. let low : d.number < number = d.below in record { number = d.number; above = d.above; below = omega arith; by = d.by })
      (λ parts d. record { number = number; above = up; below = omega arith; by = d })

  pub piece_all : (piece : Piece) (number : ℕ) (a b : Passed) (x y : Held) → number ≤ max piece.first piece.past → (number < piece.past → length (first_part_choices tariff trip) ≤ number) → IsWalk tariff trip (BeginsIn tariff trip (record { first = piece.first; past = number })) a x b y → IsWalk tariff trip (BeginsIn tariff trip piece) a x b y
  piece_all piece number a b x y within all walk =
      walk_within tariff trip (BeginsIn tariff trip piece) (BeginsIn tariff trip (record { first = piece.first; past = number })) a b x y walk
      (λ parts price l b. record { number = b.number; above = b.above; below = below_number b.number b.below (slice_get_within (first_part_choices tariff trip) b.number (b.by.first.end, b.by.first.fare) b.by.choice); by = b.by })
      (λ parts b. let low : b.number < number = b.below in let up : piece.first ≤ b.number = b.above in record { number = b.number; above = b.above; below = omega arith; by = b.by })
    where
      below_number : (k : ℕ) → k < piece.past → k < length (first_part_choices tariff trip) → k < number
      below_number k past some =
          elim (cases_lt number piece.past) [
            | inl l ↦ let few : length (first_part_choices tariff trip) ≤ number = all l in omega arith
            | inr g ↦ omega arith
          ]
