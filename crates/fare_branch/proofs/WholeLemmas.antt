-- A search of all first-part choices finds the best construction.
use Rattle.std.specs.Prelude.{Contains, slice_get}
use Rattle.std.proofs.Common.{◌≡◌, ℕ, ◌<◌, ◌≤◌, List, ◌∷◌, Option, Some, None, length, ◌⊎◌, inl, inr, arith, refl, sym, subst}
use Rattle.std.specs.List.{HoldsAt}
use Rattle.std.proofs.lemmas.List.Elements.{at_from_Contains}
use Rattle.std.proofs.lemmas.Option.{slice_get_read, slice_get_within}
use Rattle.fare_trip.specs.Itinerary.{Itinerary}
use Rattle.fare_tariff.specs.Tariff.{Tariff}
use Rattle.fare_rules.specs.declared.part.Part.{Part}
use Rattle.fare_rules.specs.Best.{IsLawful, IsBestAnswer, NoneIsLawful}
use Rattle.fare_rules.specs.Completion.{first_part_choices}
use Rattle.fare_branch.specs.declared.pieces.Piece.{Piece}
use Rattle.fare_branch.specs.declared.bound.TheConstants.{NO_PRICE}
use Rattle.fare_branch.specs.Search.{IsLeastPrice, BeginsIn, AllCostMore, IsSearched}

-- the choices from the first one on, up to a number
abbrev first_choices : ℕ → Piece
first_choices past = record { first = 0; past = past }

-- what a list holds stands at some place of it
standing : {A : Type 0} (xs : List A) (x : A) → Contains xs x → (k : ℕ) × (slice_get xs k ≡ Some x)
standing xs x h =
    let found : (k : ℕ) × (k < length xs) × HoldsAt (λ y. y ≡ x) xs k = at_from_Contains xs x h in
    (found.0, slice_get_read xs (length xs) found.0 x refl found.1 (sym (found.2 x)))

module _ (tariff : Tariff) (trip : Itinerary) (past : ℕ) (all : past ≡ length (first_part_choices tariff trip)) where
  -- a lawful construction begins with one of the first-part choices
  abbrev BeginsWithChoice : List Part → Type 0
  BeginsWithChoice parts = (first : Part) × (rest : List Part) × (parts ≡ first ∷ rest)
      × Contains (first_part_choices tariff trip) (first.end, first.fare)

  begins_in_all : (parts : List Part) → BeginsWithChoice parts → BeginsIn tariff trip (first_choices past) parts
  begins_in_all parts h =
      let place : (k : ℕ) × (slice_get (first_part_choices tariff trip) k ≡ Some (h.0.end, h.0.fare)) =
      standing (first_part_choices tariff trip) (h.0.end, h.0.fare) h.3 in
      record {
        number = place.0;
        above = omega arith;
        below = subst (λ count. place.0 < count) (sym all)
            (slice_get_within (first_part_choices tariff trip) place.0 (h.0.end, h.0.fare) place.1);
        by = record { first = h.0; rest = h.1; whole = h.2; choice = place.1 };
      }

  module _ (begins : (parts : List Part) (price : ℕ) → IsLawful tariff trip parts price → BeginsWithChoice parts)
      (fixed least : ℕ) (low : fixed ≤ least) (is_least : IsLeastPrice tariff trip fixed) where
    in_all : (parts : List Part) (price : ℕ) → IsLawful tariff trip parts price
        → BeginsIn tariff trip (first_choices past) parts
    in_all parts price lawful = begins_in_all parts (begins parts price lawful)

    none_left : AllCostMore tariff trip (first_choices past) least
        → ((parts : List Part) × IsLawful tariff trip parts fixed) ⊎ (NoneIsLawful tariff trip × (fixed ≡ NO_PRICE))
        → NoneIsLawful tariff trip
    none_left more (inr none) = none.0
    none_left more (inl best) =
        let above : least < fixed = more best.0 fixed best.1 (in_all best.0 fixed best.1) in absurd (omega arith)

    -- what a search of all choices finds is best
    pub whole_is_best : (found : Option (List Part × ℕ)) → IsSearched tariff trip (first_choices past) least found
        → IsBestAnswer tariff trip found
    whole_is_best None more = none_left more is_least.reached
    whole_is_best (Some found) first = record {
      lawful = first.lawful;
      first = λ other cost lawful. first.first other cost lawful (in_all other cost lawful);
    }
