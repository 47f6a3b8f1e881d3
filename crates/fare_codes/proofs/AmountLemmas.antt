-- Rounding up gives the least multiple.
use Rattle.std.proofs.Common.{◌≡◌, ◌<◌, ◌≤◌, ◌∙◌, ℕ, ◌+◌, ◌-◌, ◌*◌, ◌/◌, ◌%◌, arith, ap, sym, subst, mul_assoc, mul_comm}
use Rattle.std.proofs.Math.Nat.{mul-mod_left, div-add-mod, mod-lt}
use Rattle.fare_codes.specs.Amounts.{converted, tenths, IsLeastMultiple}
use Rattle.fare_codes.specs.declared.mode.Mode.TheVariants.{Up}

-- ten times the tenth of a multiple of ten is the multiple
ten_times : (k unit : ℕ) → 10 * (k * (10 * unit) / 10) ≡ k * (10 * unit)
ten_times k unit =
    let swap : k * (10 * unit) ≡ 10 * (k * unit) = sym (mul_assoc k 10 unit) ∙ ap (λ a. a * unit) (mul_comm k 10) ∙ mul_assoc 10 k unit in
    omega (arith, swap)

-- the least multiple
least : (x unit : ℕ) → 0 < unit → IsLeastMultiple unit x ((x + (unit - 1)) / unit * unit)
least x unit some =
    let sum : ℕ = x + (unit - 1) in
    let multiple : ℕ = sum / unit * unit in
    let parts : unit * (sum / unit) + sum % unit ≡ sum = div-add-mod sum unit in
    let same : sum / unit * unit ≡ unit * (sum / unit) = mul_comm (sum / unit) unit in
    let rest : sum % unit < unit = mod-lt sum some in
    (mul-mod_left (sum / unit) unit, omega arith, omega arith)

-- an amount that is rounded up is the least multiple of the unit that is not below the product
pub up_is_least : (nuc roe decimals unit : ℕ) → 1 ≤ unit → IsLeastMultiple (10 * unit) (tenths nuc roe decimals) (10 * converted nuc roe decimals unit Up)
unfolding converted
up_is_least nuc roe decimals unit some =
    let x : ℕ = tenths nuc roe decimals in
    let tens = ten_times ((x + (10 * unit - 1)) / (10 * unit)) unit in
    let P : ℕ → Type 0 = λ m. IsLeastMultiple (10 * unit) x m in
    subst P (sym tens) (least x (10 * unit) (omega arith))
