-- what is left is searched as the whole
use Rattle.std.proofs.Common.{◌≡◌, ℕ, Bool, ◌+◌, ◌≤◌, find}
use Rattle.fare_rules.specs.Numbers.{numbers}
use Rattle.fare_lawful.proofs.rules.first.first_that.Given as goal

abbrev pub invariant-loop-k : goal.invariant-loop-k
invariant-loop-k g l =
    (test : ℕ → Bool) → ((k : ℕ) (r : Bool) → 1 ≤ k → k ≤ l.last → goal.F-post g l.meets k r → r ≡ test k)
    → find test (numbers l.k (l.last + 1)) ≡ find test (numbers 1 (l.last + 1))
