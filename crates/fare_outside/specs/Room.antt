-- What is written into a room of a fixed size.
use Rattle.std.specs.Prelude.{ℕ, ◌-◌, ◌&&◌, Bool, List, ◌++◌, length, take, min, nat_lt, nat_le}

-- the bytes taken, and how many fit in all
pub record Filled : Type 0 where
  pub taken : List ℕ
  pub room : ℕ

-- how many of these bytes still fit
abbrev pub fitting : Filled → List ℕ → ℕ
fitting filled bytes = min (length bytes) (filled.room - length filled.taken)

-- there are bytes to write, and none fits
abbrev pub is_refused : Filled → List ℕ → Bool
is_refused filled bytes = nat_lt 0 (length bytes) && nat_le filled.room (length filled.taken)

-- the room with those of these bytes that still fit
abbrev pub after_put : Filled → List ℕ → Filled
after_put filled bytes =
    record { taken = filled.taken ++ take (fitting filled bytes) bytes; room = filled.room }
