-- How a book is opened before an edition is offered to it.
use Rattle.std.specs.Prelude.{◌≡◌, ℕ, Bool, false, List, Option, Result, Ok, Err, MatchBool, IsTrue, ◌≤◌}
use Rattle.fare_ports.specs.Cause.{Rose}
use Rattle.fare_ports.specs.Keeper.{ToldAfter, WhereTold, BodiesStay}
use Rattle.fare_tariff.specs.Tariff.{Tariff}
use Rattle.fare_book.specs.declared.restore_fault.RestoreFault.{RestoreFault}
use Rattle.fare_book.specs.declared.restore_fault.RestoreFault.TheVariants.{Memory, KeeperFault, Damaged}
use Rattle.fare_book.specs.Book.{BookState, settled}
use Rattle.fare_book.specs.Editions.{DamageAt, editions_of}

-- the bodies of a keeper, where they are told
abbrev pub Told : Type 0
Told = Option (List (List ℕ))

-- the bodies are as before, where they are told
abbrev pub Stay : Told → Told → Type 0
Stay before after = ToldAfter before after BodiesStay

-- the editions that a book has once it is opened, or what is wrong: a settled book has its own, and any other has those
-- that the bodies stand for, where they are told
abbrev pub OpensAs : BookState → Told → Told → Result (List Tariff) DamageAt → Type 0
OpensAs book before after opening =
    MatchBool book.settled (opening ≡ Ok book.editions)
    (WhereTold before after (λ bodies _. opening ≡ editions_of bodies))

-- what each answer of an opening says: a book is open, settled, or as it was
abbrev pub Opens : {A : Type 0} → BookState → BookState → Result A RestoreFault → Told → Told → Type 0
Opens old new (Ok value) before after = (new ≡ settled new.editions) × OpensAs old before after (Ok new.editions)
Opens old new (Err Memory) before after = new ≡ old
Opens old new (Err KeeperFault) before after = (old.settled ≡ false) × (new ≡ old)
Opens old new (Err (Damaged place damage)) before after =
    OpensAs old before after (Err (record { place = place; damage = damage })) × (new ≡ old)

-- a keeper stays ready, its count of failures doesn't fall, and it rises where the keeper is said to have failed
pub record IsServed (is_ready : Bool) (before after : ℕ) (Fails : Type 0) : Type 0 where
  pub ready : IsTrue is_ready
  pub never_falls : before ≤ after
  pub cause : Fails → Rose before after
