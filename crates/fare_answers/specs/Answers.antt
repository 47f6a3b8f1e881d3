-- What a call answers that may want memory.
use Rattle.std.specs.Prelude.{◌≡◌, ◌⊎◌, ℕ, Vec, Result, Ok, Err}
use Rattle.fare_answers.specs.declared.quote_fault.QuoteFault.{QuoteFault}
use Rattle.fare_answers.specs.declared.quote_fault.QuoteFault.TheVariants.{Memory}
use Rattle.fare_answers.specs.Quotation.{Quotation}

-- a call answers a quotation, with its text or its refusal, or memory was wanting
abbrev pub Answers : {A : Type 0} → (Quotation → Type 0) → Result (Vec ℕ A) QuoteFault → Type 0
Answers quoted (Ok text) = quoted (Ok text.items)
Answers quoted (Err fault) = (fault ≡ Memory) ⊎ quoted (Err fault)
