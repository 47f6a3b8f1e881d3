-- The arithmetic of amounts: the greater of two, the surcharge, and the conversion to local amounts.
use Rattle.std.specs.Prelude.{◌≡◌, ◌<◌, ◌≤◌, ℕ, ◌+◌, ◌-◌, ◌*◌, ◌/◌, ◌%◌, ◌^◌, Option, Some, None, max}
use Rattle.fare_codes.specs.declared.mode.Mode.{Mode}
use Rattle.fare_codes.specs.declared.mode.Mode.TheVariants.{Up, Nearest}

-- the greater of two amounts, of which either may be missing
abbrev pub greater : Option ℕ → Option ℕ → Option ℕ
greater None b = b
greater (Some a) None = Some a
greater (Some a) (Some b) = Some (max a b)

-- an amount with so many hundredths of it on top, rounded down
unfoldable pub surcharged : ℕ → ℕ → ℕ
surcharged base s = base * (100 + s) / 100

-- a product of hundredths and millionths, in tenths of 10 ^ -decimals, with the rest dropped
unfoldable pub tenths : ℕ → ℕ → ℕ → ℕ
tenths nuc roe decimals = nuc * roe / 10 ^ (7 - decimals)

-- up: the least multiple of the unit that is not below; nearest: the nearest multiple, halves up; both in tenths
abbrev pub rounded : Mode → ℕ → ℕ → ℕ
rounded Up x unit = (x + (10 * unit - 1)) / (10 * unit) * (10 * unit)
rounded Nearest x unit = (x + 5 * unit) / (10 * unit) * (10 * unit)

-- the local amount of a NUC amount, counted in 10 ^ -decimals
unfoldable pub converted : ℕ → ℕ → ℕ → ℕ → Mode → ℕ
converted nuc roe decimals unit mode = rounded mode (tenths nuc roe decimals) unit / 10

-- a number is the least multiple of another that is not below a third
abbrev pub IsLeastMultiple : ℕ → ℕ → ℕ → Type 0
IsLeastMultiple unit x multiple = (multiple % unit ≡ 0) × (x ≤ multiple) × (multiple < x + unit)
