-- A dive before a walk, and what it goes through.
use Rattle.std.proofs.Common.{◌≡◌, ℕ, ◌<◌, ◌≤◌, ◌⊎◌, List, [], ◌∷◌, ◌++◌, Option, Some, ap, sym, subst, ◌∙◌, inl, inr}
use Rattle.std.specs.Prelude.{slice_get}
use Rattle.fare_trip.specs.Itinerary.{Itinerary}
use Rattle.fare_tariff.specs.Tariff.{Tariff}
use Rattle.fare_rules.specs.declared.part.Part.{Part}
use Rattle.fare_rules.specs.Completion.{first_part_choices}
use Rattle.fare_component.specs.Table.{Pricing}
use Rattle.fare_units.specs.Walk.{Completes, IsList}
use Rattle.fare_branch.specs.declared.pieces.Piece.{Piece}
use Rattle.fare_branch.specs.Dive.{GoesFrom, IsAnyOf, StartsIn, IsDived}
use Rattle.fare_floors.specs.Floors.{IsMadeWith}
use Rattle.fare_branch.specs.Search.{BeginsIn}
use Rattle.fare_branch.specs.Walked.{IsBestWalk, IsHeld, IsPassed}
use Rattle.fare_branch.proofs.SoughtLemmas.{walk_within}
use Rattle.fare_branch.proofs.WalkedLemmas.{best_walk_none, best_walk_then}

abbrev Found : Type 0
Found = Option (List Part × ℕ)

module _ (tariff : Tariff) (trip : Itinerary) (piece : Piece) where
  any_left : (lists more : List (List Part)) (parts : List Part) → IsAnyOf lists parts → IsAnyOf (lists ++ more) parts
  any_left [] more parts is = absurd is
  any_left (one ∷ lists) more parts (inl e) = inl e
  any_left (one ∷ lists) more parts (inr is) = inr (any_left lists more parts is)

  any_right : (lists more : List (List Part)) (parts : List Part) → IsAnyOf more parts → IsAnyOf (lists ++ more) parts
  any_right [] more parts is = is
  any_right (one ∷ lists) more parts is = inr (any_right lists more parts is)

  any_either : (lists more : List (List Part)) (parts : List Part) → IsAnyOf (lists ++ more) parts → IsAnyOf lists parts ⊎ IsAnyOf more parts
  any_either [] more parts is = inr is
  any_either (one ∷ lists) more parts (inl e) = inl (inl e)
  any_either (one ∷ lists) more parts (inr is) = elim (any_either lists more parts is) [ inl first ↦ inl (inr first) | inr second ↦ inr second ]

  -- no dive
  pub dived_none : (least : ℕ) (best : Found) → IsDived tariff trip piece least best least best
  dived_none least best = ([], (λ parts is. absurd is), best_walk_none tariff trip (IsAnyOf []) least best (λ parts price l is. is))

  -- one dive
  pub dived_one : (parts : List Part) (a b : ℕ) (best found : Found) → BeginsIn tariff trip piece parts → IsBestWalk tariff trip (IsList parts) a best b found → IsDived tariff trip piece a best b found
  dived_one parts a b best found begins taken = (
    parts ∷ [],
    (λ other is. elim is [ inl e ↦ subst (BeginsIn tariff trip piece) (sym e) begins | inr none ↦ absurd none ]),
    record {
      falls = taken.falls;
      told = taken.told;
      walk = walk_within tariff trip (IsAnyOf (parts ∷ [])) (IsList parts) (IsPassed a best) (IsPassed b found) (IsHeld best) (IsHeld found) taken.walk (λ other price l is. elim is [ inl e ↦ e | inr none ↦ absurd none ]) (λ other e. inl e);
    },
  )

  -- dives after others, from a least price that has fallen
  pub dived_then : (a b low c : ℕ) (best middle found : Found) → low ≤ b → IsDived tariff trip piece a best b middle → IsDived tariff trip piece low middle c found → IsDived tariff trip piece a best c found
  dived_then a b low c best middle found fallen first second = (
    first.0 ++ second.0,
    (λ parts is. elim (any_either first.0 second.0 parts is) [ inl one ↦ first.1 parts one | inr two ↦ second.1 parts two ]),
    best_walk_then tariff trip (IsAnyOf first.0) (IsAnyOf second.0) (IsAnyOf (first.0 ++ second.0)) a b low c best middle found fallen first.2 second.2
        (λ parts is. any_either first.0 second.0 parts is) (λ parts is. any_left first.0 second.0 parts is) (λ parts is. any_right first.0 second.0 parts is),
  )

  -- what goes on from a list that begins in a piece begins there too
  pub begins_longer : (front longer : List Part) → BeginsIn tariff trip piece front → Completes front longer → BeginsIn tariff trip piece longer
  begins_longer front longer b c = record {
    number = b.number;
    above = b.above;
    below = b.below;
    by = record {
      first = b.by.first;
      rest = b.by.rest ++ c.rest;
      whole = c.whole ∙ ap (λ (xs : List Part). xs ++ c.rest) b.by.whole;
      choice = b.by.choice;
    };
  }

  -- what goes on from the part of a choice begins with the choice
  pub begins_by_part : (number : ℕ) (part : Part) (parts : List Part) → piece.first ≤ number → number < piece.past → Some (part.end, part.fare) ≡ slice_get (first_part_choices tariff trip) number → parts ≡ [] ++ part ∷ [] → BeginsIn tariff trip piece parts
  begins_by_part number part parts low high e whole = record {
    number = number;
    above = low;
    below = high;
    by = record { first = part; rest = []; whole = whole; choice = sym e };
  }

-- first parts that one more follows go on from them
pub goes_next : (table : Pricing) (front longer : List Part) (part : Part) (floor : ℕ) → longer ≡ front ++ part ∷ [] → IsMadeWith table longer → GoesFrom table front (longer, floor)
goes_next table front longer part floor e made = record { goes = record { rest = part ∷ []; whole = e }; made = made }

-- the part of a choice starts in a piece that has its number
pub starts_by_part : (table : Pricing) (piece : Piece) (number : ℕ) (part : Part) (parts : List Part) (floor : ℕ) → piece.first ≤ number → number < piece.past → Some (part.end, part.fare) ≡ slice_get (first_part_choices table.edition table.trip) number → parts ≡ [] ++ part ∷ [] → IsMadeWith table parts → StartsIn table piece (parts, floor)
starts_by_part table piece number part parts floor low high e whole made = record {
  begins = begins_by_part table.edition table.trip piece number part parts low high e whole;
  made = made;
}
