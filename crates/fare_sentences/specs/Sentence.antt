-- What the sentences are made of.
use Rattle.std.specs.Prelude.{ℕ, List, ◌++◌, decimal}

-- a number in a sentence
abbrev pub around : List ℕ → ℕ → List ℕ → List ℕ
around before place after = before ++ decimal place ++ after
