-- What the limits of the numbers of a command say of each.
use Rattle.std.proofs.Common.{◌≡◌, ◌≤◌, ℕ, List, Bool, Option, Some}
use Rattle.fare_words.specs.WithinLimits.{IsFew, IsWithinLimits}
use Rattle.fare_words.specs.declared.asked.Asked.{Asked}
use Rattle.fare_words.specs.declared.command.Command.{Command}
use Rattle.fare_words.specs.declared.command.Command.TheVariants as command
use Rattle.fare_run.specs.Uses.{IsWithin}

-- of `price`
pub price_asks_few : (asked : Option Command) (workers : ℕ) (what : Asked) (json : Bool)
    → asked ≡ Some (command.Price workers what json) → IsWithin asked → IsFew what
unfolding IsWithinLimits
price_asks_few asked workers what json is within =
    let limits : IsWithin (Some (command.Price workers what json)) = rw is at within in limits.1

-- of `quote`
pub quote_asks_few : (asked : Option Command) (store : List ℕ) (workers : ℕ) (what : Asked) (json : Bool)
    → asked ≡ Some (command.Quote store workers what json) → IsWithin asked → IsFew what
unfolding IsWithinLimits
quote_asks_few asked store workers what json is within =
    let limits : IsWithin (Some (command.Quote store workers what json)) = rw is at within in limits.1

-- of `drill`
pub is_drill : (asked : Option Command) (seed sectors extra workers : ℕ)
    → asked ≡ Some (command.Drill seed sectors extra workers) → IsWithin asked
    → (seed ≤ 2147483647) × (1 ≤ sectors) × (sectors ≤ 16) × (extra ≤ 200000)
unfolding IsWithinLimits
is_drill asked seed sectors extra workers is within =
    let limits : IsWithin (Some (command.Drill seed sectors extra workers)) = rw is at within in
    (limits.0.1, limits.1.0, limits.1.1, limits.2.1)

-- of `serve`
pub is_round : (asked : Option Command) (store : List ℕ) (port count workers round : ℕ)
    → asked ≡ Some (command.Serve store port count workers round) → IsWithin asked → (1 ≤ round) × (round ≤ 8)
unfolding IsWithinLimits
is_round asked store port count workers round is within =
    let limits : IsWithin (Some (command.Serve store port count workers round)) = rw is at within in limits.3
