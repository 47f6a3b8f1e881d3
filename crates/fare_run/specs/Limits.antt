-- How many bytes the source of a command may hold.
use Rattle.std.specs.Prelude.{ℕ, Option, Some}
use Rattle.fare_words.specs.declared.command.Command.{Command}
use Rattle.fare_words.specs.declared.command.Command.TheVariants as command
use Rattle.fare_ports.specs.declared.limits.TheConstants.{MOST_TEXT}
use Rattle.fare_commands.specs.declared.limits.TheConstants.{MOST_ITINERARY, MOST_PRICED}

-- the most bytes that the source of a command may hold; one that doesn't read the source asks for none of it
abbrev pub limit_of : Option Command → ℕ
limit_of (Some (command.Price workers asked json)) = MOST_PRICED
limit_of (Some (command.Publish store)) = MOST_TEXT
limit_of (Some (command.Quote store workers asked json)) = MOST_ITINERARY
limit_of (Some command.Check) = MOST_TEXT
limit_of (Some (command.Compare store from to workers)) = MOST_TEXT
limit_of other = 0
