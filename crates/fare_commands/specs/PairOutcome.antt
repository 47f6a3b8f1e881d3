-- What a command that names two editions of a store answers: which records differ, or what trips cost in both.
use Rattle.std.specs.Prelude.{◌≡◌, ℕ, List, Ok, Err, MatchResult, MatchOption, MatchBool, nat_lt, length}
use Rattle.serde_json.specs.Data.{Items}
use Rattle.fare_tariff.specs.Tariff.{Tariff}
use Rattle.fare_book.specs.Book.{numbered}
use Rattle.fare_changes.specs.CompareText.{IsCompareText}
use Rattle.fare_changes.specs.DiffText.{diff_text}
use Rattle.fare_changes.specs.Items.{items_of}
use Rattle.fare_commands.specs.declared.exit.Exit.TheVariants as ended
use Rattle.fare_commands.specs.Answer.{Answer, done}
use Rattle.fare_ports.specs.declared.limits.TheConstants.{MOST_TEXT}
use Rattle.fare_commands.specs.StoreOutcome.{AnswersOver, Bodies}

-- the answer to two numbers over editions: `NoSuch` of the first that names none, and else that to the two editions
abbrev pub AnswersPair : (Tariff → Tariff → Answer → Type 0) → ℕ → ℕ → List Tariff → Answer → Type 0
AnswersPair over from to editions answer =
    MatchOption (numbered from editions) (answer ≡ Err (ended.NoSuch from))
    (λ old. MatchOption (numbered to editions) (answer ≡ Err (ended.NoSuch to)) (λ new. over old new answer))

-- the answer to `diff` in two editions
abbrev pub Differs : Tariff → Tariff → Answer → Type 0
Differs old new answer = answer ≡ Ok (done (diff_text old new))

-- the answer to `diff` over the editions of a store
abbrev pub AnswersDiff : ℕ → ℕ → List Tariff → Answer → Type 0
AnswersDiff from to editions answer = AnswersPair Differs from to editions answer

-- the answer to `compare` of these items in two editions
abbrev pub Compares : Items → Tariff → Tariff → Answer → Type 0
Compares items old new answer = (text : List ℕ) × IsCompareText old new items text × (answer ≡ Ok (done text))

-- the answer to a batch of itineraries: `BadTrip` where it is no JSON array, and else that to its items
abbrev pub AnswersBatchOver : ℕ → ℕ → List ℕ → Bodies → Answer → Type 0
AnswersBatchOver from to text bodies answer =
    MatchResult (items_of text) (λ items. AnswersOver (AnswersPair (Compares items) from to) bodies answer)
    (λ fault. answer ≡ Err (ended.BadTrip fault))

-- the answer to the source of `compare`: `Limit` where it holds more bytes than that
abbrev pub AnswersCompare : ℕ → ℕ → List ℕ → Bodies → Answer → Type 0
AnswersCompare from to source bodies answer =
    MatchBool (nat_lt MOST_TEXT (length source)) (answer ≡ Err ended.Limit)
    (AnswersBatchOver from to source bodies answer)

-- a text is a JSON array
abbrev pub IsBatch : List ℕ → Type 0
IsBatch text = (items : Items) × (items_of text ≡ Ok items)
