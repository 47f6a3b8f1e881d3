-- What the functions that use a store hand on to the run.
use Rattle.std.specs.Prelude.{◌≡◌, ◌⊎◌, ℕ, List, Result, Ok, Err, IfSome, ⊤}
use Rattle.fare_tariff.specs.Tariff.{Tariff}
use Rattle.fare_csv.specs.CanonicalText.{canonical_text}
use Rattle.fare_ports.specs.Keeper.{BodiesStay, BodyAppended, ToldAfter}
use Rattle.fare_book.specs.declared.damage.Damage.{Damage}
use Rattle.fare_book.specs.declared.restore_fault.RestoreFault.{RestoreFault}
use Rattle.fare_book.specs.Book.{BookState}
use Rattle.fare_book.specs.Editions.{editions_of}
use Rattle.fare_book.specs.Migration.{Migrates}
use Rattle.fare_book.specs.Publish.{Answer as Publication, IsNewTo, Offers}
use Rattle.fare_commands.specs.declared.exit.Exit.{Exit}
use Rattle.fare_commands.specs.declared.exit.Exit.TheVariants as ended
use Rattle.fare_commands.specs.Answer.{Answer, migration_answer, publication_answer}
use Rattle.fare_commands.specs.Steps.{Answers}
use Rattle.fare_commands.specs.StoreOutcome.{Bodies, OverStore, ReadsStore, RefusalLeaves, Told}

-- a function that opens a store and leaves its bodies answers so over them, or was cut off
abbrev pub AnswersReading : Told → Told → (Bodies → Answer → Type 0) → Answer → Type 0
AnswersReading before after answers result =
    Answers (λ answer. ReadsStore before after (λ bodies. answers bodies answer)) result

-- a function that opens a store answers so over its bodies and those that it leaves, or was cut off; a refusal leaves
-- them
abbrev pub AnswersChanging : Told → Told → (Bodies → Bodies → Answer → Type 0) → Answer → Type 0
AnswersChanging before after answers result =
    Answers (λ answer. OverStore before after
    (λ bodies left. answers bodies left answer × RefusalLeaves answer bodies left)) result

-- a damage is that of the bodies, where they are told
abbrev pub TellsDamage : Told → Exit → Type 0
TellsDamage told exit =
    (place : ℕ) × (damage : Damage) × (exit ≡ ended.Damaged place damage)
    × IfSome told (λ bodies. editions_of bodies ≡ Err (record { place = place; damage = damage }))

-- an end of an opening: it was cut off, or tells what is wrong with the bodies
abbrev pub IsEndOfOpening : Told → Exit → Type 0
IsEndOfOpening told ended.KeeperFault = ⊤
IsEndOfOpening told ended.Memory = ⊤
IsEndOfOpening told exit = TellsDamage told exit

-- editions are those that the bodies stand for, where they are told
abbrev pub AreStored : Told → List Tariff → Type 0
AreStored told editions = IfSome told (λ bodies. editions_of bodies ≡ Ok editions)

-- the answer to an edition that is offered to the settled book of these editions
abbrev pub AnswersOffer : List Tariff → Tariff → Told → Told → Answer → Type 0
AnswersOffer editions edition before after answer =
    (published : Publication) × (book : BookState) × Offers editions edition published book before after
    × (answer ≡ publication_answer published)

-- the answer to a migration of an open store
abbrev pub AnswersMigration : Told → Told → Answer → Type 0
AnswersMigration before after answer =
    (old new : BookState) × (migration : Result ℕ RestoreFault)
    × ToldAfter before after (Migrates old new migration) × (answer ≡ migration_answer migration)

-- the bodies are as before, or have the canonical text of an edition at the end that is new to some editions
abbrev pub MayAdd : List Tariff → Tariff → Bodies → Bodies → Type 0
MayAdd editions edition old new =
    BodiesStay old new ⊎ (IsNewTo editions edition × BodyAppended (canonical_text edition) old new)

-- an end of the publication of an edition
abbrev pub IsEndOfOffer : Exit → Type 0
IsEndOfOffer (ended.Differs number) = ⊤
IsEndOfOffer ended.BookFull = ⊤
IsEndOfOffer ended.KeeperFault = ⊤
IsEndOfOffer ended.Memory = ⊤
IsEndOfOffer other = ⊥
