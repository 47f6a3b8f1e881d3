-- By which name a run opens its store.
use Rattle.std.specs.Prelude.{◌≡◌, ◌⊎◌, ℕ, Bool, true, List, Option, Some, None, IfSome}
use Rattle.fare_words.specs.declared.command.Command.{Command}
use Rattle.fare_words.specs.declared.command.Command.TheVariants as command
use Rattle.fare_ports.specs.Keeper.{first_name}
use Rattle.fare_commands.specs.declared.exit.Exit.{Exit}
use Rattle.fare_commands.specs.declared.exit.Exit.TheVariants as ended
use Rattle.fare_commands.specs.Opened.{IsNamed}
use Rattle.fare_run.specs.Refusal.{wants_json}

-- the name of the store that a command uses
abbrev pub store_of : Option Command → Option (List ℕ)
store_of (Some (command.Publish store)) = Some store
store_of (Some (command.List store json)) = Some store
store_of (Some (command.Export store edition)) = Some store
store_of (Some (command.Quote store workers asked json)) = Some store
store_of (Some (command.Serve store port count workers round)) = Some store
store_of (Some (command.Migrate store)) = Some store
store_of (Some (command.Diff store from to)) = Some store
store_of (Some (command.Compare store from to workers)) = Some store
store_of other = None

-- by the end of a run as by that of its command: behind a failed write the store was opened, but for a refusal that is
-- told in JSON
abbrev pub IsNamedAt : Bool → List ℕ → Option (List ℕ) → Option (List ℕ) → Exit → Type 0
IsNamedAt json name old new ended.WriteFault = (new ≡ first_name old name) ⊎ ((new ≡ old) × (json ≡ true))
IsNamedAt json name old new exit = IsNamed name old new exit

-- a command opened the store of its name, or none
abbrev pub OpensNamed : Option Command → Option (List ℕ) → Option (List ℕ) → Exit → Type 0
OpensNamed asked old new exit = IfSome (store_of asked) (λ name. IsNamedAt (wants_json asked) name old new exit)
