-- Lists whose members stand in an order, and the first constructions that a walk has found.
use Rattle.std.specs.Prelude.{ℕ, suc, ◌-◌, Bool, false, not, List, [], ◌∷◌, take, Option, Some, None, nat_lt}
use Rattle.std.specs.Prelude.{slice_get, nat_le, ◌||◌, if◌then◌else◌}
use Rattle.fare_rules.specs.declared.part.Part.{Part}
use Rattle.fare_rules.specs.FirstK.{Priced}
use Rattle.fare_rules.specs.Order.{is_before}

-- a list with one more member, where it stands by an order; a member that is neither before it nor behind it stays
-- alone
abbrev pub ranked_with : {A : Type 0} → (A → A → Bool) → A → List A → List A
ranked_with before one [] = one ∷ []
ranked_with before one (next ∷ rest) =
    if before next one then next ∷ ranked_with before one rest
    else (if before one next then one ∷ next ∷ rest else next ∷ rest)

-- how many members of a list stand before one, from its front on
abbrev pub place_of : {A : Type 0} → (A → A → Bool) → A → List A → ℕ
place_of before one [] = 0
place_of before one (next ∷ rest) = if before next one then suc (place_of before one rest) else 0

-- what stands at a place is not behind one
abbrev pub is_taken : {A : Type 0} → (A → A → Bool) → A → Option A → Bool
is_taken before one None = false
is_taken before one (Some next) = not (before one next)

-- Order, of constructions with their prices
abbrev pub comes_before : Priced → Priced → Bool
comes_before one other = is_before one.0 one.1 other.0 other.1

-- the first k of some constructions and one more
abbrev pub first_with : ℕ → Priced → List Priced → List Priced
first_with k one found = take k (ranked_with comes_before one found)

-- something was found, and costs less than a floor
abbrev pub costs_below : ℕ → Option Priced → Bool
costs_below floor None = false
costs_below floor (Some one) = nat_lt one.1 floor

-- the k-th that was found costs less than a floor
abbrev pub is_beyond : ℕ → List Priced → ℕ → Bool
is_beyond k found floor = costs_below floor (slice_get found (k - 1))

-- what costs no less than a floor is not wanted: it costs more than a limit, or than the k-th that was found
abbrev pub is_dear : ℕ → ℕ → List Priced → ℕ → Bool
is_dear k limit found floor = nat_lt limit floor || is_beyond k found floor

-- something was found, and is before some parts at a price
abbrev pub comes_first : Option Priced → List Part → ℕ → Bool
comes_first None front price = false
comes_first (Some one) front price = is_before one.0 one.1 front price

-- the k-th that was found is before some parts at a floor
abbrev pub is_behind : ℕ → List Priced → List Part → ℕ → Bool
is_behind k found front floor = comes_first (slice_get found (k - 1)) front floor

-- something was found, and costs no more than a limit
abbrev pub costs_up_to : ℕ → Option Priced → Bool
costs_up_to limit None = false
costs_up_to limit (Some one) = nat_le one.1 limit

-- the k-th was found, and costs no more than a limit
abbrev pub is_within : ℕ → List Priced → ℕ → Bool
is_within k found limit = costs_up_to limit (slice_get found (k - 1))
