-- What is known of the objects in memory.
use Rattle.std.specs.Prelude.{ℕ, List, Option, MatchBool}
use Rattle.fare_outside.specs.Calls.{CallList}
use Rattle.fare_outside.specs.declared.fail_at.FailAt.{FailAt}
use Rattle.fare_ports.specs.Keeper.{BodiesStay}
use Rattle.fare_outside.specs.Failures.{FailureList, next_failure, after_next, counted}
use Rattle.fare_outside.specs.Room.{Filled}

-- of a `PlainSink`: what it took into its room, and how many writes found no room
pub record SinkState : Type 0 where
  pub filled : Filled
  pub faults : ℕ

-- of a `PlainKeeper`: the bodies, and the name by which it was opened first, if it was
pub record KeeperState : Type 0 where
  pub bodies : List (List ℕ)
  pub name : Option (List ℕ)

-- of a `MemSource`: the bytes still held, the calls, and how many have failed
pub record ListedSource : Type 0 where
  pub left : List ℕ
  pub calls : CallList
  pub faults : ℕ

-- of a `MemSink`: what it took into its room, the calls, and how many have failed
pub record ListedSink : Type 0 where
  pub filled : Filled
  pub calls : CallList
  pub faults : ℕ

-- of a `MemKeeper`: the bodies, the name by which it was opened first, if it was, the failing calls, and how many have
-- failed
pub record ListedKeeper : Type 0 where
  pub bodies : List (List ℕ)
  pub name : Option (List ℕ)
  pub failures : FailureList
  pub faults : ℕ

-- the keeper with the next call made, and its failure counted where it is listed
abbrev pub called : ListedKeeper → ListedKeeper
called keeper = record {
  bodies = keeper.bodies;
  name = keeper.name;
  failures = after_next keeper.failures;
  faults = counted (next_failure keeper.failures) keeper.faults;
}

-- a failure that keeps its body changes the bodies so, and any other leaves them
abbrev pub Kept : FailAt → (List (List ℕ) → List (List ℕ) → Type 0) → List (List ℕ) → List (List ℕ) → Type 0
Kept failure changed old new = MatchBool failure.kept (changed old new) (BodiesStay old new)
