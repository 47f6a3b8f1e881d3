-- How a book and the stored bodies belong together.
use Rattle.std.specs.Prelude.{◌≡◌, ◌⊎◌, ℕ, ⊤, List, [], ◌∷◌, ◌++◌, false, Ok, Err}
use Rattle.fare_tariff.specs.Tariff.{Tariff}
use Rattle.fare_book.specs.declared.publish_fault.PublishFault.TheVariants.{Damaged}
use Rattle.fare_book.specs.Book.{BookState}
use Rattle.fare_book.specs.Editions.{editions_of}
use Rattle.fare_book.specs.Publish.{Answer}

-- bodies stand for a book with one edition more at its end
abbrev pub StandsForOneMore : BookState → List (List ℕ) → Type 0
StandsForOneMore book bodies = (edition : Tariff) × (editions_of bodies ≡ Ok (book.editions ++ edition ∷ []))

-- bodies stand for a book's editions or, in a book that isn't settled, for these with one more at the end
abbrev pub Stands : BookState → List (List ℕ) → Type 0
Stands book bodies =
    (editions_of bodies ≡ Ok book.editions) ⊎ ((book.settled ≡ false) × StandsForOneMore book bodies)

-- an answer tells of no damage
abbrev pub IsUndamaged : Answer → Type 0
IsUndamaged (Err (Damaged place damage)) = ⊥
IsUndamaged answer = ⊤

-- a call that finds a book that stands leaves one that stands, and tells of no damage
abbrev pub KeepsStanding : BookState → BookState → Answer → List (List ℕ) → List (List ℕ) → Type 0
KeepsStanding old new answer before after = Stands old before → Stands new after × IsUndamaged answer
