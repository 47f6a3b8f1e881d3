-- What the faults of a tariff text make of a run: of `check`, which tells them all, and of `price`, which tells the
-- first.
use Rattle.std.specs.Prelude.{◌≡◌, ℕ, Bool, true, false, List, Option, Some, None, Ok, Err, MatchBool, nat_lt, length}
use Rattle.std.specs.Prelude.{⊤}
use Rattle.fare_csv.specs.TariffText.{edition_of}
use Rattle.fare_csv.specs.declared.text_fault.TextFault.{TextFault}
use Rattle.fare_check.specs.CheckText.{check_text}
use Rattle.fare_check.specs.Faults.{fault_in}
use Rattle.fare_check.specs.Sentences.{tariff_words}
use Rattle.fare_json.specs.FaultData.{tariff_data}
use Rattle.fare_json.specs.JsonText.{json_line}
use Rattle.fare_commands.specs.declared.exit.Exit.{Exit}
use Rattle.fare_commands.specs.declared.exit.Exit.TheVariants as ended
use Rattle.fare_commands.specs.Answer.{Answer, ExitAndText}
use Rattle.fare_ports.specs.declared.limits.TheConstants.{MOST_TEXT}

-- the end of `check`: `BadTariff` of the first fault, where there is one
abbrev pub checked_end : Option TextFault → Exit
checked_end None = ended.Done
checked_end (Some fault) = ended.BadTariff fault

-- what `check` comes to: its text is written whether the tariff has a fault or not
abbrev pub checked : List ℕ → ExitAndText
checked text = record { exit = checked_end (fault_in (edition_of text)); text = check_text text }

-- the answer to the source of `check`: `Limit` where it holds more bytes than that
abbrev pub AnswersCheck : List ℕ → Answer → Type 0
AnswersCheck source answer =
    MatchBool (nat_lt MOST_TEXT (length source)) (answer ≡ Err ended.Limit) (answer ≡ Ok (checked source))

-- a tariff text is refused for its first fault, which is told in JSON where that is wanted
abbrev pub tariff_refusal : Bool → List ℕ → TextFault → Answer
tariff_refusal false text fault = Err (ended.BadTariff fault)
tariff_refusal true text fault =
    Ok (record { exit = ended.BadTariff fault; text = json_line (tariff_data fault (tariff_words text fault)) })

-- an end that has a text of its own: `Done`, and `BadTariff` where a text tells it
abbrev pub OwnExit : Type 0 → Exit → Type 0
OwnExit tells ended.Done = ⊤
OwnExit tells (ended.BadTariff fault) = tells
OwnExit tells other = ⊥
