-- What the functions below the run hand on to it.
use Rattle.std.specs.Prelude.{◌≡◌, ◌≢◌, ◌⊎◌, ◌≤◌, ◌+◌, ℕ, List, Option, Vec, Result, Ok, Err, IsErrOf, ⊤}
use Rattle.std.specs.Prelude.{true, false, length, nat_lt}
use Rattle.fare_ports.specs.Cause.{Rose}
use Rattle.fare_ports.specs.Source.{TakesJust, TakesUpTo}
use Rattle.fare_commands.specs.declared.exit.Exit.{Exit}
use Rattle.fare_commands.specs.declared.exit.Exit.TheVariants as ended
use Rattle.fare_commands.specs.Answer.{Answer}

-- an end that the input or the store asks for, and not a failed call or want of memory
abbrev pub IsRefusal : Exit → Type 0
IsRefusal ended.Done = ⊥
IsRefusal ended.ReadFault = ⊥
IsRefusal ended.WriteFault = ⊥
IsRefusal ended.KeeperFault = ⊥
IsRefusal ended.DoorFault = ⊥
IsRefusal ended.Memory = ⊥
IsRefusal other = ⊤

-- memory was wanting, or a read or a call of the store or the door failed
abbrev pub IsCutOff : Exit → Type 0
IsCutOff ended.ReadFault = ⊤
IsCutOff ended.KeeperFault = ⊤
IsCutOff ended.DoorFault = ⊤
IsCutOff ended.Memory = ⊤
IsCutOff other = ⊥

-- a function answers, with what its command comes to or its refusal, or was cut off
abbrev pub Answers : (Answer → Type 0) → Answer → Type 0
Answers outcome (Ok ending) = outcome (Ok ending)
Answers outcome (Err exit) = IsCutOff exit ⊎ (IsRefusal exit × outcome (Err exit))

-- a reading is handed on, with its fault as the end that refuses it, or memory was wanting
abbrev pub HandsOn : {A F : Type 0} → (F → Exit) → Result A F → Result A Exit → Type 0
HandsOn refused reading (Ok value) = reading ≡ Ok value
HandsOn {F = F} refused reading (Err exit) =
    (exit ≡ ended.Memory) ⊎ ((fault : F) × (reading ≡ Err fault) × (exit ≡ refused fault))

-- the same, where the reading is that of the value as it is seen
abbrev pub HandsOnAs : {A B F : Type 0} → (A → B) → (F → Exit) → Result B F → Result A Exit → Type 0
HandsOnAs seen refused reading (Ok value) = reading ≡ Ok (seen value)
HandsOnAs {F = F} seen refused reading (Err exit) =
    (exit ≡ ended.Memory) ⊎ ((fault : F) × (reading ≡ Err fault) × (exit ≡ refused fault))

-- the bytes of a source, which are no more than a limit; `Limit` where they are more, unless the reading was cut off
abbrev pub HoldsUpTo : {A : Type 0} → ℕ → List ℕ → Result (Vec ℕ A) Exit → Type 0
HoldsUpTo limit source (Ok bytes) = (bytes.items ≡ source) × (nat_lt limit (length source) ≡ false)
HoldsUpTo limit source (Err exit) = IsCutOff exit ⊎ ((exit ≡ ended.Limit) × (nat_lt limit (length source) ≡ true))

-- an end of a reading
abbrev pub IsEndOfReading : Exit → Type 0
IsEndOfReading ended.Limit = ⊤
IsEndOfReading ended.ReadFault = ⊤
IsEndOfReading ended.Memory = ⊤
IsEndOfReading other = ⊥

-- an end of one of these kinds once the source is read, which then isn't too long
abbrev pub IsEndOnceRead : (Exit → Type 0) → Exit → Type 0
IsEndOnceRead ends exit = ends exit × (exit ≢ ended.Limit) × (exit ≢ ended.ReadFault)

-- an end of a quotation
abbrev pub IsEndOfQuoting : Exit → Type 0
IsEndOfQuoting (ended.NoEdition day) = ⊤
IsEndOfQuoting (ended.UnknownPlace city) = ⊤
IsEndOfQuoting ended.Memory = ⊤
IsEndOfQuoting other = ⊥

-- an end of the list of a book
abbrev pub IsEndOfList : Exit → Type 0
IsEndOfList ended.Memory = ⊤
IsEndOfList other = ⊥

-- an end of an export from a book
abbrev pub IsEndOfExport : Exit → Type 0
IsEndOfExport (ended.NoSuch number) = ⊤
IsEndOfExport ended.Memory = ⊤
IsEndOfExport other = ⊥

-- no more than one byte above a limit is taken from a source, and just so many where that is the answer; a failed read
-- is counted
pub record IsReading {A : Type 0} (limit : ℕ) (answer : Result A Exit) (old new : Option (List ℕ))
    (before after : ℕ) : Type 0 where
  pub within : TakesUpTo (limit + 1) old new
  pub too_long : IsErrOf answer ended.Limit → TakesJust (limit + 1) old new
  pub never_falls : before ≤ after
  pub cause : IsErrOf answer ended.ReadFault → Rose before after

-- a failed call of the store is counted
pub record IsKeeping {A : Type 0} (answer : Result A Exit) (before after : ℕ) : Type 0 where
  pub never_falls : before ≤ after
  pub cause : IsErrOf answer ended.KeeperFault → Rose before after
