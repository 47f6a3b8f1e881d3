-- By which name a command opens its store.
use Rattle.std.specs.Prelude.{◌≡◌, ◌⊎◌, ℕ, List, Option, Result, Ok, Err, ⊤}
use Rattle.fare_ports.specs.Keeper.{first_name}
use Rattle.fare_commands.specs.declared.exit.Exit.{Exit}
use Rattle.fare_commands.specs.declared.exit.Exit.TheVariants as ended

-- an end that comes before the store is opened: the source is refused, or isn't read
abbrev pub ComesBefore : Exit → Type 0
ComesBefore ended.Limit = ⊤
ComesBefore ended.ReadFault = ⊤
ComesBefore (ended.BadTariff fault) = ⊤
ComesBefore (ended.BadTrip fault) = ⊤
ComesBefore other = ⊥

-- an end that may come before the store is opened: one of these, a failed call of the store, or want of memory
abbrev pub MayComeBefore : Exit → Type 0
MayComeBefore ended.KeeperFault = ⊤
MayComeBefore ended.Memory = ⊤
MayComeBefore exit = ComesBefore exit

-- by an end, a store was opened by this name, and keeps the one by which it was opened first, or it wasn't opened
abbrev pub IsNamed : List ℕ → Option (List ℕ) → Option (List ℕ) → Exit → Type 0
IsNamed name old new exit =
    ((new ≡ first_name old name) × (ComesBefore exit → ⊥)) ⊎ ((new ≡ old) × MayComeBefore exit)

-- the same by an answer, which is that of an opened store where it isn't a refusal
abbrev pub Names : {A : Type 0} → List ℕ → Option (List ℕ) → Option (List ℕ) → Result A Exit → Type 0
Names name old new (Ok value) = new ≡ first_name old name
Names name old new (Err exit) = IsNamed name old new exit
