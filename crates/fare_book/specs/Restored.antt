-- How a restoring answers what the bodies stand for.
use Rattle.std.specs.Prelude.{◌≡◌, ◌≢◌, ⊤, Result, Ok, Err}
use Rattle.fare_ports.specs.declared.keeper.KeepFault.{KeepFault}
use Rattle.fare_ports.specs.declared.keeper.KeepFault.TheVariants as keeper
use Rattle.fare_csv.specs.declared.text_fault.TextFault.TheVariants as tariff
use Rattle.fare_book.specs.declared.damage.Damage.{Damage}
use Rattle.fare_book.specs.declared.damage.Damage.TheVariants.{Text, Repeat, TooMany}
use Rattle.fare_book.specs.declared.restore_fault.RestoreFault.{RestoreFault}
use Rattle.fare_book.specs.declared.restore_fault.RestoreFault.TheVariants.{Memory, KeeperFault, Damaged}
use Rattle.fare_book.specs.Editions.{DamageAt}

-- a keeper's fault keeps its kind
abbrev pub kept_fault : KeepFault → RestoreFault
kept_fault keeper.Memory = Memory
kept_fault keeper.Failed = KeeperFault

-- a damage is that of a reading; want of memory and a keeper's fault fit any
abbrev pub FitsFault : {A : Type 0} → RestoreFault → Result A DamageAt → Type 0
FitsFault Memory reading = ⊤
FitsFault KeeperFault reading = ⊤
FitsFault (Damaged place damage) reading = reading ≡ Err (record { place = place; damage = damage })

-- a call gives what a reading gives, seen through a view, unless memory was wanting or the keeper failed
abbrev pub Gives : {A B : Type 0} → (A → B) → Result A RestoreFault → Result B DamageAt → Type 0
Gives view (Ok value) reading = reading ≡ Ok (view value)
Gives view (Err fault) reading = FitsFault fault reading

-- want of memory is no damage
abbrev pub IsDamage : Damage → Type 0
IsDamage (Text fault) = fault ≢ tariff.Memory
IsDamage (Repeat place) = ⊤
IsDamage TooMany = ⊤

-- a fault carries no want of memory
abbrev pub CarriesDamage : RestoreFault → Type 0
CarriesDamage Memory = ⊤
CarriesDamage KeeperFault = ⊤
CarriesDamage (Damaged place damage) = IsDamage damage
