-- What a command comes to by its answer: a refusal has the text that tells it.
use Rattle.std.specs.Prelude.{◌≡◌, ◌⊎◌, ℕ, Bool, true, false, List, [], Option, Some, Ok, Err, ⊤}
use Rattle.fare_words.specs.declared.command.Command.{Command}
use Rattle.fare_words.specs.declared.command.Command.TheVariants as command
use Rattle.fare_commands.specs.declared.exit.Exit.{Exit}
use Rattle.fare_commands.specs.declared.exit.Exit.TheVariants as ended
use Rattle.fare_commands.specs.Answer.{Answer, ExitAndText}
use Rattle.fare_commands.specs.CheckOutcome.{OwnExit}
use Rattle.fare_run.specs.JsonFault.{fault_of, told_fault}
use Rattle.fare_run.specs.Limits.{limit_of}

-- the answer of a command is wanted in JSON
abbrev pub wants_json : Option Command → Bool
wants_json (Some (command.Price workers asked json)) = json
wants_json (Some (command.Quote store workers asked json)) = json
wants_json (Some (command.List store json)) = json
wants_json other = false

-- the text of an end that refuses a command: its fault, where that is wanted in JSON and has a form there
abbrev pub refusal_text : Option Command → Exit → List ℕ
refusal_text asked exit = told_fault (fault_of (limit_of asked) exit) (wants_json asked)

-- a command is refused
abbrev pub refusal : Option Command → Exit → ExitAndText
refusal asked exit = record { exit = exit; text = refusal_text asked exit }

-- memory was wanting: nothing is written
abbrev pub no_memory : ExitAndText
no_memory = record { exit = ended.Memory; text = [] }

-- what a command comes to by its answer
abbrev pub outcome_by : Option Command → Answer → ExitAndText
outcome_by asked (Ok ending) = ending
outcome_by asked (Err exit) = refusal asked exit

-- a command is told refused, or memory was wanting for its fault in JSON
abbrev pub IsRefused : Option Command → Exit → ExitAndText → Type 0
IsRefused asked exit ending = (ending ≡ refusal asked exit) ⊎ ((wants_json asked ≡ true) × (ending ≡ no_memory))

-- what a command comes to by its answer is told, unless memory was wanting for its fault in JSON
abbrev pub IsTold : Option Command → Answer → ExitAndText → Type 0
IsTold asked (Ok ending) told = told ≡ ending
IsTold asked (Err exit) told = IsRefused asked exit told

-- a command tells what is wrong with its tariff by a text of its own: `check`, and `price` with `--json`
abbrev pub TellsTariff : Option Command → Type 0
TellsTariff (Some (command.Price workers asked json)) = json ≡ true
TellsTariff (Some command.Check) = ⊤
TellsTariff other = ⊥

-- an end of a command that has a text of its own
abbrev pub HasOwnText : Option Command → Exit → Type 0
HasOwnText asked exit = OwnExit (TellsTariff asked) exit

-- an end on which nothing is written: every one but `Done`, `WriteFault`, that of a tariff whose faults are told, and,
-- with `--json`, every one but want of memory
abbrev pub IsSilent : Option Command → Exit → Type 0
IsSilent asked ended.Done = ⊥
IsSilent asked ended.WriteFault = ⊥
IsSilent asked ended.Memory = ⊤
IsSilent asked (ended.BadTariff fault) = TellsTariff asked → ⊥
IsSilent asked exit = wants_json asked ≡ false
