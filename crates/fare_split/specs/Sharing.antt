-- How many workers share a search.
use Rattle.std.specs.Prelude.{ℕ, nat_lt, if◌then◌else◌}
use Rattle.fare_split.specs.declared.sharing.TheConstants.{LEAST_SHARED_WORK}

-- the workers of a search of so much work: one where it is little, and else as many as were asked for
abbrev pub workers_for : ℕ → ℕ → ℕ
workers_for workers work = if nat_lt work LEAST_SHARED_WORK then 1 else workers
