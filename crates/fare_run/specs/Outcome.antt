-- What a run answers to its words, the bytes of its source and the bodies of its store.
use Rattle.std.specs.Prelude.{◌≡◌, ℕ, List, Option, Some, None, Err, ⊤}
use Rattle.fare_words.specs.Words.{command_of}
use Rattle.fare_words.specs.declared.command.Command.{Command}
use Rattle.fare_words.specs.declared.command.Command.TheVariants as command
use Rattle.fare_commands.specs.declared.exit.Exit.TheVariants as ended
use Rattle.fare_commands.specs.Answer.{Answer}
use Rattle.fare_commands.specs.CheckOutcome.{AnswersCheck}
use Rattle.fare_commands.specs.DrillOutcome.{Drills}
use Rattle.fare_commands.specs.PairOutcome.{AnswersCompare, AnswersDiff}
use Rattle.fare_commands.specs.PriceOutcome.{AnswersPrice}
use Rattle.fare_commands.specs.StoreOutcome.{AnswersMigrate, AnswersOver, AnswersPublish, AnswersQuote, Exports, Lists}
use Rattle.fare_commands.specs.StoreOutcome.{OverStore, ReadsStore, RefusalLeaves, Told}

-- the answer to a command, with the bodies of the store that are told before and after: `Usage` where the words aren't
-- taken. What `serve` answers depends on its door too, and is said by `EndsServing`
abbrev pub AnswersCommand : Option Command → List ℕ → Told → Told → Answer → Type 0
AnswersCommand (Some (command.Price workers asked json)) source before after answer =
    AnswersPrice asked json source answer
AnswersCommand (Some (command.Publish store)) source before after answer =
    OverStore before after (λ bodies left. AnswersPublish source bodies left answer × RefusalLeaves answer bodies left)
AnswersCommand (Some (command.List store json)) source before after answer =
    ReadsStore before after (λ bodies. AnswersOver (Lists json) bodies answer)
AnswersCommand (Some (command.Export store number)) source before after answer =
    ReadsStore before after (λ bodies. AnswersOver (Exports number) bodies answer)
AnswersCommand (Some (command.Quote store workers asked json)) source before after answer =
    ReadsStore before after (λ bodies. AnswersQuote asked json source bodies answer)
AnswersCommand (Some (command.Drill seed sectors extra workers)) source before after answer =
    Drills seed sectors extra answer
AnswersCommand (Some (command.Serve store port count workers round)) source before after answer = ⊤
AnswersCommand (Some (command.Migrate store)) source before after answer =
    OverStore before after (λ bodies left. AnswersMigrate bodies left answer × RefusalLeaves answer bodies left)
AnswersCommand (Some command.Check) source before after answer = AnswersCheck source answer
AnswersCommand (Some (command.Diff store from to)) source before after answer =
    ReadsStore before after (λ bodies. AnswersOver (AnswersDiff from to) bodies answer)
AnswersCommand (Some (command.Compare store from to workers)) source before after answer =
    ReadsStore before after (λ bodies. AnswersCompare from to source bodies answer)
AnswersCommand None source before after answer = answer ≡ Err ended.Usage

-- the answer to words, a source and a store
abbrev pub IsOutcome : List (List ℕ) → List ℕ → Told → Told → Answer → Type 0
IsOutcome words source before after answer = AnswersCommand (command_of words) source before after answer
