-- What a command comes to, and the ends of a run for what the crates below refuse.
use Rattle.std.specs.Prelude.{◌≡◌, ℕ, List, Result, Ok, Err, ◌++◌, codes, decimal}
use Rattle.fare_book.specs.declared.published.Published.{Published}
use Rattle.fare_book.specs.declared.published.Published.TheVariants.{New, Already}
use Rattle.fare_book.specs.declared.publish_fault.PublishFault.{PublishFault}
use Rattle.fare_book.specs.declared.publish_fault.PublishFault.TheVariants as publishing
use Rattle.fare_book.specs.declared.restore_fault.RestoreFault.{RestoreFault}
use Rattle.fare_book.specs.declared.restore_fault.RestoreFault.TheVariants as restoring
use Rattle.fare_answers.specs.declared.quote_fault.QuoteFault.{QuoteFault}
use Rattle.fare_answers.specs.declared.quote_fault.QuoteFault.TheVariants as quoting
use Rattle.fare_answers.specs.Quotation.{Quotation}
use Rattle.fare_ports.specs.declared.keeper.KeepFault.{KeepFault}
use Rattle.fare_ports.specs.declared.keeper.KeepFault.TheVariants as keeping
use Rattle.fare_ports.specs.declared.reading.ReadEnd.{ReadEnd}
use Rattle.fare_ports.specs.declared.reading.ReadEnd.TheVariants as reading
use Rattle.fare_commands.specs.declared.exit.Exit.{Exit}
use Rattle.fare_commands.specs.declared.exit.Exit.TheVariants as ended

-- what a command comes to: what the run ends in, and the text that is written before
pub record ExitAndText : Type 0 where
  pub exit : Exit
  pub text : List ℕ

-- a text is written, and nothing is wrong
abbrev pub done : List ℕ → ExitAndText
done text = record { exit = ended.Done; text = text }

-- nothing is wrong
abbrev pub IsDone : ExitAndText → Type 0
IsDone ending = ending.exit ≡ ended.Done

-- an answer: what the command comes to, or what refuses it
abbrev pub Answer : Type 0
Answer = Result ExitAndText Exit

-- an answer with which nothing is wrong, or a refusal of one of these kinds
abbrev pub IsDoneOr : (Exit → Type 0) → Answer → Type 0
IsDoneOr refusals (Ok ending) = IsDone ending
IsDoneOr refusals (Err exit) = refusals exit

-- the end of a run for a source that isn't read whole
abbrev pub reading_end : ReadEnd → Exit
reading_end reading.Memory = ended.Memory
reading_end reading.ReadFault = ended.ReadFault
reading_end reading.TooLong = ended.Limit

-- the end of a run for a trip that isn't quoted
abbrev pub quote_end : QuoteFault → Exit
quote_end quoting.Memory = ended.Memory
quote_end (quoting.NoEdition day) = ended.NoEdition day
quote_end (quoting.UnknownPlace city) = ended.UnknownPlace city

-- a quotation as an answer
abbrev pub answer_of : Quotation → Answer
answer_of (Ok text) = Ok (done text)
answer_of (Err fault) = Err (quote_end fault)

-- the end of a run for a store that isn't opened
abbrev pub keeper_end : KeepFault → Exit
keeper_end keeping.Memory = ended.Memory
keeper_end keeping.Failed = ended.KeeperFault

-- the end of a run for a book that isn't restored
abbrev pub restore_end : RestoreFault → Exit
restore_end restoring.Memory = ended.Memory
restore_end restoring.KeeperFault = ended.KeeperFault
restore_end (restoring.Damaged place damage) = ended.Damaged place damage

-- the end of a run for an edition that isn't published
abbrev pub publish_end : PublishFault → Exit
publish_end publishing.Memory = ended.Memory
publish_end (publishing.Malformed fault) = ended.BadTariff fault
publish_end (publishing.Differs number) = ended.Differs number
publish_end publishing.Full = ended.BookFull
publish_end publishing.KeeperFault = ended.KeeperFault
publish_end (publishing.Damaged place damage) = ended.Damaged place damage

-- the text of what an edition was published as
abbrev pub published_text : Published → List ℕ
published_text (New number) = codes "PUBLISHED " ++ decimal number ++ codes "\n"
published_text (Already number) = codes "ALREADY " ++ decimal number ++ codes "\n"

-- a publication as an answer
abbrev pub publication_answer : Result Published PublishFault → Answer
publication_answer (Ok published) = Ok (done (published_text published))
publication_answer (Err fault) = Err (publish_end fault)

-- the text of how many bodies were replaced
abbrev pub migrated_text : ℕ → List ℕ
migrated_text count = codes "MIGRATED " ++ decimal count ++ codes "\n"

-- a migration as an answer
abbrev pub migration_answer : Result ℕ RestoreFault → Answer
migration_answer (Ok count) = Ok (done (migrated_text count))
migration_answer (Err fault) = Err (restore_end fault)
