-- The place of a number among editions, and their edition of that number.
use Rattle.std.proofs.Common.{◌≡◌, ◌∙◌, ◌≤◌, ℕ, List, length, Some, None, true, false, Bool, cond, nat_lt, arith}
use Rattle.std.specs.List.{position, position_or_len}
use Rattle.std.proofs.lemmas.Option.{slice_get_past}
use Rattle.std.proofs.lemmas.List.Folds.{find_at}
use Rattle.std.proofs.lemmas.Bool.Decides.{nat_tests}
use Rattle.fare_tariff.specs.Tariff.{Tariff}
use Rattle.fare_book.specs.Book.{numbered, has_number}

-- a choice of something or nothing that is nothing
nothing_chosen : (test : Bool) (n : ℕ) → cond test (Some n) None ≡ None → test ≡ false
nothing_chosen true n e = cc
nothing_chosen false n e = cc

-- a number with no place is no edition's
pub numbered_nowhere : (number : ℕ) (editions : List Tariff) → position (has_number number) editions ≡ None → numbered number editions ≡ None
numbered_nowhere number editions e =
    let n = position_or_len (has_number number) editions in
    let past : nat_lt n (length editions) ≡ false = nothing_chosen (nat_lt n (length editions)) n e in
    let at_end : length editions ≤ n = grind (arith, nat_tests, past) in
    find_at (has_number number) editions ∙ slice_get_past editions n at_end
