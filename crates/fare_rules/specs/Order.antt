-- Order: which of two constructions is before the other.
use Rattle.std.specs.Prelude.{ℕ, Bool, true, false, List, [], ◌∷◌, nat_lt, ◌==◌, ◌&&◌, ◌||◌, if◌then◌else◌}
use Rattle.std.specs.declared.cmp.Ordering.{Ordering}
use Rattle.std.specs.declared.cmp.Ordering.TheVariants.{Less, Equal, Greater}
use Rattle.fare_rules.specs.declared.part.Part.{Part}

-- how two numbers lie to each other
abbrev pub compare_numbers : ℕ → ℕ → Ordering
compare_numbers a b = if nat_lt a b then Less else (if nat_lt b a then Greater else Equal)

-- the first of two comparisons that decides
abbrev pub and_then : Ordering → Ordering → Ordering
and_then Less second = Less
and_then Greater second = Greater
and_then Equal second = second

-- at the same place of two constructions that one is before whose end is greater; then whose fare's record number is
-- less; then whose unit number is less
unfoldable pub compare_parts : Part → Part → Ordering
compare_parts x y =
    and_then (compare_numbers y.end x.end) (and_then (compare_numbers x.fare y.fare) (compare_numbers x.unit y.unit))

-- the first differing part decides, and none does where there is none up to the end of the shorter list
abbrev pub tie : List Part → List Part → Ordering
tie [] ys = Equal
tie (x ∷ xs) [] = Equal
tie (x ∷ xs) (y ∷ ys) = and_then (compare_parts x y) (tie xs ys)

-- a comparison says less
abbrev pub is_less : Ordering → Bool
is_less Less = true
is_less Equal = false
is_less Greater = false

-- a construction with its price is before another: its price is less, or at equal prices its first differing part is
-- before
unfoldable pub is_before : List Part → ℕ → List Part → ℕ → Bool
is_before xs px ys py = nat_lt px py || ((px == py) && is_less (tie xs ys))
