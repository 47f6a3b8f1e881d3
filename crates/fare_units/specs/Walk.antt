-- What a walk over constructions has seen, and what its best is worth.
use Rattle.std.specs.Prelude.{◌≡◌, ℕ, ◌+◌, ◌<◌, ◌≤◌, Bool, true, false, ◌⊎◌, List, ◌∷◌, ◌++◌, length, Option, Some}
use Rattle.std.specs.Prelude.{None, is_some, ◌&&◌, ◌||◌}
use Rattle.std.specs.List.{list_any}
use Rattle.fare_rules.specs.Numbers.{numbers}
use Rattle.fare_trip.specs.Itinerary.{Itinerary}
use Rattle.fare_tariff.specs.Tariff.{Tariff}
use Rattle.fare_rules.specs.declared.part.Part.{Part}
use Rattle.fare_rules.specs.Best.{IsLawful}
use Rattle.fare_rules.specs.ComponentAmount.{component_amount}
use Rattle.fare_rules.specs.Construction.{start_of, end_of, greatest_unit, places}
use Rattle.fare_rules.specs.Order.{is_before}
use Rattle.fare_rules.specs.Shape.{is_same_unit, is_ow, is_crossed}
use Rattle.fare_lawful.specs.Advance.{Advances}

-- a list with its price is not before the best that was found
abbrev pub IsBound : List Part → ℕ → Option (List Part × ℕ) → Type 0
IsBound parts price None = ⊥
IsBound parts price (Some best) = is_before parts price best.0 best.1 ≡ false

-- what was found is lawful and costs its price
abbrev pub IsFound : Tariff → Itinerary → Option (List Part × ℕ) → Type 0
IsFound tariff trip None = Unit {0}
IsFound tariff trip (Some best) = IsLawful tariff trip best.0 best.1

-- from one best a walk over some lists came to another: that is lawful where the first was, whatever was not before the
-- first is not before it, and no lawful list of those walked is
pub record Walks (tariff : Tariff) (trip : Itinerary) (D : List Part → Type 0) (before after : Option (List Part × ℕ)) :
    Type 0 where
  pub found : IsFound tariff trip before → IsFound tariff trip after
  pub kept : (parts : List Part) (price : ℕ) → IsBound parts price before → IsBound parts price after
  pub seen : (parts : List Part) (price : ℕ) → IsLawful tariff trip parts price → D parts → IsBound parts price after

-- the lists that have some parts as their first ones
pub record Completes (front parts : List Part) : Type 0 where
  pub rest : List Part
  pub whole : parts ≡ front ++ rest

-- those that go on after them with a part that meets something
pub record GoesOn (front : List Part) (Meets : Part → Type 0) (parts : List Part) : Type 0 where
  pub next : Part
  pub rest : List Part
  pub whole : parts ≡ front ++ next ∷ rest
  pub meets : Meets next

-- any part
abbrev pub AnyPart : Part → Type 0
AnyPart part = Unit {0}

-- a part that ends before a point, or at it
abbrev pub EndsBefore : ℕ → Part → Type 0
EndsBefore end part = part.end < end

abbrev pub EndsAt : ℕ → Part → Type 0
EndsAt end part = part.end ≡ end

-- a part that ends at a point with a fare of a lesser record number, or of this one
abbrev pub HasFareBefore : ℕ → ℕ → Part → Type 0
HasFareBefore end number part = (part.end ≡ end) × (part.fare < number)

abbrev pub HasFare : ℕ → ℕ → Part → Type 0
HasFare end number part = (part.end ≡ end) × (part.fare ≡ number)

-- a part that ends at a point with a fare, in a unit of a lesser number
abbrev pub HasUnitBefore : ℕ → ℕ → ℕ → Part → Type 0
HasUnitBefore end number unit part = (part.end ≡ end) × (part.fare ≡ number) × (part.unit < unit)

-- this part
abbrev pub IsPart : Part → Part → Type 0
IsPart one part = part ≡ one

-- where a part that comes after some starts
abbrev pub next_start : Itinerary → List Part → ℕ
next_start trip front = start_of trip front (length front + 1)

-- parts that others may follow: they go on within the trip, are no more than the points that they pass, and have no
-- more units
pub record IsFront (trip : Itinerary) (front : List Part) : Type 0 where
  pub advances : Advances trip front
  pub few : length front ≤ end_of front (length front)
  pub ordered : greatest_unit front (places front) ≤ length front

-- the fare of a number may serve a part that comes after some and ends at a point: in one of the two directions it has
-- a component amount there
unfoldable pub may_serve : Tariff → Itinerary → List Part → ℕ → ℕ → Bool
may_serve tariff trip front end number =
    is_some (component_amount tariff trip (next_start trip front) end number false)
    || is_some (component_amount tariff trip (next_start trip front) end number true)

-- two parts share a unit, and the fare of one is one way
abbrev pub is_mixed_with : Tariff → List Part → ℕ → ℕ → Bool
is_mixed_with tariff parts k j = is_same_unit parts k j && (is_ow tariff parts j || is_ow tariff parts k)

-- a part shares its unit with an earlier one, and the fare of one is one way
abbrev pub mixes : Tariff → List Part → ℕ → Bool
mixes tariff parts k = list_any (is_mixed_with tariff parts k) (numbers 1 k)

-- the last of some parts has no place in any lawful construction that begins with them: it crosses a unit, or stands in
-- one with a one way fare
unfoldable pub is_fruitless : Tariff → List Part → Bool
is_fruitless tariff parts = is_crossed parts (length parts) || mixes tariff parts (length parts)

-- just these parts
abbrev pub IsList : List Part → List Part → Type 0
IsList one parts = parts ≡ one

-- of a construction and the best that was found the better one was taken: it is one of the two, and neither the
-- construction nor what was not before the best is before it
pub record TakesBetter (parts : List Part) (price : ℕ) (before after : Option (List Part × ℕ)) : Type 0 where
  pub chosen : (after ≡ before) ⊎ (after ≡ Some (parts, price))
  pub kept : (others : List Part) (cost : ℕ) → IsBound others cost before → IsBound others cost after
  pub bound : IsBound parts price after
