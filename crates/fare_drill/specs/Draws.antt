-- The stream of draws of a seed.
use Rattle.std.specs.Prelude.{ℕ, ◌+◌, ◌*◌, ◌/◌, ◌%◌, ◌^◌, zero, suc}

-- the state of a stream behind one more draw
abbrev pub next_state : ℕ → ℕ
next_state x = (x * 1_103_515_245 + 12_345) % 2 ^ 31

-- the state of a seed's stream behind so many draws: at first it is the seed
unfoldable pub state : ℕ → ℕ → ℕ
state seed zero = seed
state seed (suc k) = next_state (state seed k)

-- the draw of a number, from 0: the upper half of the state behind it
unfoldable pub draw : ℕ → ℕ → ℕ
draw seed k = state seed (k + 1) / 65_536
