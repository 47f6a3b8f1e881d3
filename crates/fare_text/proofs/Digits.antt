-- Powers of ten, and the last digits of a number.
use Rattle.std.proofs.Common.{◌≡◌, ◌<◌, ◌+◌, ◌-◌, ◌*◌, ◌/◌, ◌%◌, ◌^◌, ◌++◌, ◌∷◌, [], ℕ, zero, suc, arith, refl}
use Rattle.std.proofs.Math.Nat.{pow-suc}
use Rattle.fare_codes.specs.Numbers.{last_digits}

-- a power of ten isn't 0
pub power_is_some : (k : ℕ) → 0 < 10 ^ k
power_is_some zero = omega arith
power_is_some (suc k) = let more : 10 ^ suc k ≡ 10 ^ k * 10 = pow-suc 10 k in omega (arith, more, power_is_some k)

-- the last digits are those before the last one, and it
pub last_digits_step : (places n : ℕ) → 0 < places → last_digits places n ≡ last_digits (places - 1) (n / 10) ++ (48 + n % 10) ∷ []
unfolding last_digits
last_digits_step zero n h = absurd (omega arith)
last_digits_step (suc places) n h =
    let before : suc places - 1 ≡ places = omega arith in
    rw before refl
