-- The order of two lists of three letters is that of the first letters that differ.
use Rattle.std.proofs.Common.{◌≡◌, ℕ, cond, ◌==◌, nat_lt, [], ◌∷◌, ap, ◌∙◌, arith}
use Rattle.std.proofs.lemmas.Bool.Decides.{nat_tests}
use Rattle.std.specs.Ordering.{is_lt, nat_cmp, ordering_then}
use Rattle.std.specs.Cmp.Lexicographic.{slice_cmp}
use Rattle.std.specs.declared.cmp.Ordering.{Ordering}
use Rattle.std.specs.declared.cmp.Ordering.TheVariants.{Equal}

-- where two letters differ they decide, and else the rest does
by_one : (x y : ℕ) (rest : Ordering) → is_lt (ordering_then (nat_cmp x y) rest) ≡ cond (x == y) (is_lt rest) (nat_lt x y)
by_one x y rest = grind (arith, nat_tests)

-- the last two decide
by_last : (x y : ℕ) → is_lt (ordering_then (nat_cmp x y) Equal) ≡ nat_lt x y
by_last x y = grind (arith, nat_tests)

-- of three letters
pub by_letters : (a b c d e f : ℕ) → is_lt (slice_cmp nat_cmp (a ∷ b ∷ c ∷ []) (d ∷ e ∷ f ∷ []))
    ≡ cond (a == d) (cond (b == e) (nat_lt c f) (nat_lt b e)) (nat_lt a d)
by_letters a b c d e f =
    by_one a d (slice_cmp nat_cmp (b ∷ c ∷ []) (e ∷ f ∷ []))
    ∙ ap (λ t. cond (a == d) t (nat_lt a d)) (by_one b e (slice_cmp nat_cmp (c ∷ []) (f ∷ [])) ∙ ap (λ t. cond (b == e) t (nat_lt b e)) (by_last c f))
