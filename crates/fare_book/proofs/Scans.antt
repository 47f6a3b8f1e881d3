-- Scans of a list of editions, one edition on.
use Rattle.std.proofs.Common.{◌≡◌, ℕ, ◌+◌, ◌<◌, ◌≤◌, List, ◌∷◌, length, get_or, drop, Option, Some, None, cond}
use Rattle.std.specs.List.{filter}
use Rattle.std.proofs.lemmas.List.{at_drop_more, at_drop_all}
use Rattle.fare_codes.specs.declared.day.Day.{Day}
use Rattle.fare_tariff.specs.Tariff.{Tariff}
use Rattle.fare_book.specs.Book.{numbered, has_number}
use Rattle.fare_book.specs.Selected.{is_effective_by, latest}

-- the edition of a number in what is left of a list is its first, or that in what is left after it
pub numbered_more : (number : ℕ) (editions : List Tariff) (i : ℕ) (d : Tariff) → i < length editions → numbered number (drop i editions) ≡ cond (has_number number (get_or editions i d)) (Some (get_or editions i d)) (numbered number (drop (i + 1) editions))
numbered_more number editions i d h = at_drop_more (numbered number) editions i d h

-- nothing is left past the end
pub numbered_all : (number : ℕ) (editions : List Tariff) (i : ℕ) → length editions ≤ i → numbered number (drop i editions) ≡ None
numbered_all number editions i h = at_drop_all (numbered number) editions i h

-- the latest of those that are effective by a day, of what is left of a list after the best so far
abbrev pub latest_left : Day → Option Tariff → List Tariff → Option Tariff
latest_left day best editions = latest best (filter (is_effective_by day) editions)

-- its first edition is looked at, where it is effective, and then what is left after it
pub latest_more : (day : Day) (best : Option Tariff) (editions : List Tariff) (i : ℕ) (d : Tariff) → i < length editions → latest_left day best (drop i editions) ≡ latest best (cond (is_effective_by day (get_or editions i d)) (get_or editions i d ∷ filter (is_effective_by day) (drop (i + 1) editions)) (filter (is_effective_by day) (drop (i + 1) editions)))
latest_more day best editions i d h = at_drop_more (latest_left day best) editions i d h

-- nothing is left past the end
pub latest_all : (day : Day) (best : Option Tariff) (editions : List Tariff) (i : ℕ) → length editions ≤ i → latest_left day best (drop i editions) ≡ best
latest_all day best editions i h = at_drop_all (latest_left day best) editions i h
