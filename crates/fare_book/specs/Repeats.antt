-- Publications one after the other.
use Rattle.std.specs.Prelude.{◌≡◌, ◌⊎◌, ℕ, List, [], ◌∷◌, Some, Ok, Err}
use Rattle.std.specs.List.{filter}
use Rattle.fare_tariff.specs.Tariff.{Tariff}
use Rattle.fare_csv.specs.TariffText.{edition_of}
use Rattle.fare_book.specs.declared.published.Published.TheVariants.{New}
use Rattle.fare_book.specs.declared.publish_fault.PublishFault.TheVariants.{Memory, KeeperFault}
use Rattle.fare_book.specs.Book.{BookState, has_number}
use Rattle.fare_book.specs.Publish.{Answer, Publishes}
use Rattle.fare_book.specs.Stands.{Stands}

-- a publication: its text, and what it was answered
pub record Publication : Type 0 where
  pub text : List ℕ
  pub answer : Answer

-- each of these texts was published in the book and the bodies that the one before it left, and so answered
unfoldable pub PublishesAll : BookState → List (List ℕ) → List Publication → BookState → List (List ℕ) → Type 0
PublishesAll book bodies [] last left = (last ≡ book) × (left ≡ bodies)
PublishesAll book bodies (made ∷ others) last left =
    (next : BookState) × (stored : List (List ℕ))
    × Publishes book next made.text made.answer (Some bodies) (Some stored) × PublishesAll next stored others last left

-- publications one after the other, from a book and bodies that stand together
pub record IsRun (book : BookState) (bodies : List (List ℕ)) (calls : List Publication)
    (last : BookState) (left : List (List ℕ)) : Type 0 where
  pub stands : Stands book bodies
  pub made : PublishesAll book bodies calls last left

-- a publication is answered New, and its text stands for this edition
abbrev pub IsNewOf : Publication → Tariff → Type 0
IsNewOf made edition = (made.answer ≡ Ok (New edition.number)) × (edition_of made.text ≡ Ok edition)

-- just this edition among these has its number
abbrev pub StandsOnce : List Tariff → Tariff → Type 0
StandsOnce editions edition = filter (has_number edition.number) editions ≡ edition ∷ []

-- memory was wanting, or the keeper failed
abbrev pub IsCutOff : Answer → Type 0
IsCutOff answer = (answer ≡ Err Memory) ⊎ (answer ≡ Err KeeperFault)
