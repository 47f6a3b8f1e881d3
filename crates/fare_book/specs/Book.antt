-- A book of published editions.
use Rattle.std.specs.Prelude.{ℕ, true, false, ◌≤◌, ◌≢◌, ◌==◌, Bool, List, Option, length}
use Rattle.std.specs.List.{AllPairs, find}
use Rattle.fare_tariff.specs.Tariff.{Tariff}
use Rattle.fare_book.specs.declared.book.TheConstants.{MOST_EDITIONS}

-- a book: its editions in the order of publication, and whether they are known to be those of the stored bodies
pub record BookState : Type 0 where
  pub editions : List Tariff
  pub settled : Bool

-- a settled book of these editions
abbrev pub settled : List Tariff → BookState
settled editions = record { editions = editions; settled = true }

-- a book of these editions that isn't settled
abbrev pub unsettled : List Tariff → BookState
unsettled editions = record { editions = editions; settled = false }

-- an edition has this number
abbrev pub has_number : ℕ → Tariff → Bool
has_number number edition = edition.number == number

-- the edition of a number
abbrev pub numbered : ℕ → List Tariff → Option Tariff
numbered number editions = find (has_number number) editions

-- two editions have different numbers
abbrev pub HaveOtherNumbers : Tariff → Tariff → Type 0
HaveOtherNumbers one other = one.number ≢ other.number

-- a book holds at most MOST_EDITIONS editions, of which no two have one number
pub record IsBook (editions : List Tariff) : Type 0 where
  pub at_most_32 : length editions ≤ MOST_EDITIONS
  pub distinct : AllPairs HaveOtherNumbers editions
