-- What is known of a door over a port.
use Rattle.std.specs.Prelude.{ℕ, Bool, List, Option, Some, None, replicate, if◌then◌else◌}

-- of a `TcpDoor`: how many connections are put aside, whether one is current, the port at which it listens, and how many
-- of `listen` and `next`, and of `read` and `write`, have failed
pub record OpenDoor : Type 0 where
  pub held : ℕ
  pub is_current : Bool
  pub port : Option ℕ
  pub faults : ℕ
  pub cuts : ℕ

-- the connections put aside, whose places mean nothing, since what is sent isn't told
abbrev pub places_of : OpenDoor → List ℕ
places_of door = replicate door.held 0

-- the current connection, if there is one, whose place means nothing either
abbrev pub place_of : OpenDoor → Option ℕ
place_of door = if door.is_current then Some 0 else None
