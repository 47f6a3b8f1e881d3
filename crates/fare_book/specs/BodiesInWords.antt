-- What bodies stand for, in words.
use Rattle.std.specs.Prelude.{◌≡◌, ◌≤◌, ◌<◌, ◌+◌, ◌⊎◌, ℕ, List, ◌∷◌, ◌++◌, length, map, Some, Result, Ok, Err}
use Rattle.std.specs.List.{AllPairs}
use Rattle.fare_tariff.specs.Tariff.{Tariff}
use Rattle.fare_csv.specs.declared.text_fault.TextFault.{TextFault}
use Rattle.fare_csv.specs.TariffText.{edition_of}
use Rattle.fare_book.specs.declared.damage.Damage.{Damage}
use Rattle.fare_book.specs.declared.damage.Damage.TheVariants.{Text, Repeat, TooMany}
use Rattle.fare_book.specs.declared.book.TheConstants.{MOST_EDITIONS}
use Rattle.fare_book.specs.Book.{HaveOtherNumbers}
use Rattle.fare_book.specs.Editions.{DamageAt, place_of}

-- there are at most 32 bodies, each of which is the text of the edition in its place, and no two editions have one
-- number
pub record AreEditionsOf (bodies : List (List ℕ)) (editions : List Tariff) : Type 0 where
  pub in_limit : length bodies ≤ MOST_EDITIONS
  pub each : map edition_of bodies ≡ map Ok editions
  pub distinct : AllPairs HaveOtherNumbers editions

-- a body behind others is no edition's text, and this is its fault; or its number is that of the edition at this place
abbrev pub IsDamaged : List Tariff → Result Tariff TextFault → Damage → Type 0
IsDamaged earlier (Err fault) damage = damage ≡ Text fault
IsDamaged earlier (Ok edition) damage =
    (place : ℕ) × (place_of edition.number earlier ≡ Some place) × (damage ≡ Repeat place)

-- the bodies in front of a place stand for editions, and that at the place is damaged behind these
pub record IsFirstDamage (bodies : List (List ℕ)) (found : DamageAt) : Type 0 where
  pub front : List (List ℕ)
  pub body : List ℕ
  pub back : List (List ℕ)
  pub split : bodies ≡ front ++ body ∷ back
  pub place : found.place ≡ length front + 1
  pub earlier : List Tariff
  pub whole : AreEditionsOf front earlier
  pub damaged : IsDamaged earlier (edition_of body) found.damage

-- there are more than 32 bodies, which is told of the place behind the last that a book holds
pub record IsTooMany (bodies : List (List ℕ)) (found : DamageAt) : Type 0 where
  pub over : MOST_EDITIONS < length bodies
  pub told : found ≡ record { place = MOST_EDITIONS + 1; damage = TooMany }

-- there are too many bodies; or there aren't, and this is the first that is damaged
abbrev pub IsDamageOf : List (List ℕ) → DamageAt → Type 0
IsDamageOf bodies found =
    IsTooMany bodies found ⊎ ((length bodies ≤ MOST_EDITIONS) × IsFirstDamage bodies found)
