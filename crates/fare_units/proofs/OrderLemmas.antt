-- What decides between two lists of parts.
use Rattle.std.proofs.Common.{◌≡◌, ℕ, ◌≤◌, List, [], ◌∷◌, length, drop, refl, ap, ◌∙◌}
use Rattle.std.proofs.Math.ListN.{drop_of_length-le}
use Rattle.std.specs.declared.cmp.Ordering.TheVariants.{Equal}
use Rattle.fare_rules.specs.declared.part.Part.{Part}
use Rattle.fare_rules.specs.Order.{tie}

-- nothing decides against an empty list
tie_nothing : (xs : List Part) → tie xs [] ≡ Equal
tie_nothing [] = refl
tie_nothing (x ∷ xs) = refl

-- nothing decides past the end of the second list
pub tie_past : (xs ys : List Part) (i : ℕ) → length ys ≤ i → tie (drop i xs) (drop i ys) ≡ Equal
tie_past xs ys i h = ap (tie (drop i xs)) (drop_of_length-le ys h) ∙ tie_nothing (drop i xs)
