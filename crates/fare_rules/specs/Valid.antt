-- What the laws ask of an edition: facts that hold of each valid one.
use Rattle.std.specs.Prelude.{◌≡◌, ℕ, ◌<◌, false, Some, bytes_eq}
use Rattle.fare_records.specs.Record.{FareRecord}
use Rattle.fare_tariff.specs.Tariff.{Tariff}
use Rattle.fare_tariff.specs.Lookup.{fare_at}
use Rattle.fare_codes.specs.declared.nuc.TheConstants.{FARE_LIMIT}

-- no fare runs from a city to itself
abbrev pub HasNoFareToItself : Tariff → Type 0
HasNoFareToItself tariff = (number : ℕ) (fare : FareRecord) → fare_at tariff number ≡ Some fare
    → bytes_eq fare.from fare.to ≡ false

-- each fare is below 10,000,000.00
abbrev pub HasFaresInForm : Tariff → Type 0
HasFaresInForm tariff = (number : ℕ) (fare : FareRecord) → fare_at tariff number ≡ Some fare → fare.amount < FARE_LIMIT
