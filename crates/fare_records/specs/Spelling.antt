-- The characters of a code as the digits of a number.
use Rattle.std.specs.Prelude.{ℕ, ◌+◌, ◌*◌, ◌%◌, ◌^◌}
use Rattle.std.specs.List.{fold}
use Rattle.fare_codes.specs.Codes.{padded}
use Rattle.fare_codes.specs.declared.city.City.{City}
use Rattle.fare_codes.specs.declared.rule_id.RuleId.{RuleId}
use Rattle.fare_records.specs.declared.guesses.TheConstants.{LETTERS}

-- the number that the characters of a rule's id spell, with zeros behind them
unfoldable pub spelled_rule : RuleId → ℕ
spelled_rule id = fold (λ n byte. ((n * LETTERS) % 2 ^ 64 + byte) % 2 ^ 64) 0 (padded id)

-- the number that the letters of a city spell
unfoldable pub spelled_city : City → ℕ
spelled_city city = fold (λ n byte. ((n * LETTERS) % 2 ^ 64 + byte) % 2 ^ 64) 0 city
