-- How many workers share the search of what a command asks for.
use Rattle.std.specs.Prelude.{ℕ, Option, Some}
use Rattle.fare_words.specs.declared.command.Command.{Command}
use Rattle.fare_words.specs.declared.command.Command.TheVariants as command

-- the workers of a command, and one where it searches nothing
abbrev pub workers_of : Option Command → ℕ
workers_of (Some (command.Price workers asked json)) = workers
workers_of (Some (command.Quote store workers asked json)) = workers
workers_of (Some (command.Serve store port count workers round)) = workers
workers_of (Some (command.Drill seed sectors extra workers)) = workers
workers_of (Some (command.Compare store from to workers)) = workers
workers_of other = 1
