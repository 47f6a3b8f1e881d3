-- The tests of a fare's key in another order.
use Rattle.std.proofs.Common.{◌≡◌, Bool, true, false, ◌&&◌, refl}

-- three tests asked behind another: where they are true it is left, and else nothing
behind : (t a b c : Bool) → (t && a && b && c) ≡ (a && b && c && t)
behind true true true true = refl
behind true true true false = refl
behind true true false c = refl
behind true false b c = refl
behind false true true true = refl
behind false true true false = refl
behind false true false c = refl
behind false false b c = refl

-- of seven tests the first three are asked last
pub terms_first : (a b c d e f g : Bool) → (d && e && f && g && a && b && c) ≡ (a && b && c && d && e && f && g)
terms_first true true true d e f g = behind (d && e && f && g) true true true
terms_first true true false d e f g = behind (d && e && f && g) true true false
terms_first true false c d e f g = behind (d && e && f && g) true false c
terms_first false b c d e f g = behind (d && e && f && g) false b c
