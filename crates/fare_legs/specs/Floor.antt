-- Floor: amounts that are kept in 32 bits, and the sum of two.
use Rattle.std.specs.Prelude.{ℕ, ◌+◌, ◌-◌, ◌^◌, ◌==◌, min, max, Option, Some, None, if◌then◌else◌}

-- the number that stands for nothing
abbrev pub no_hundredths : ℕ
no_hundredths = 2 ^ 32 - 1

-- the amount that a number of hundredths stands for
abbrev pub amount_of : ℕ → Option ℕ
amount_of hundredths = if hundredths == no_hundredths then None else Some hundredths

-- the number of hundredths that stands for an amount
abbrev pub hundredths_of : Option ℕ → ℕ
hundredths_of None = no_hundredths
hundredths_of (Some hundredths) = hundredths

-- a number of hundredths, at most the greatest that can be kept
abbrev pub capped : ℕ → ℕ
capped hundredths = min hundredths (2 ^ 32 - 2)

-- the sum of two amounts, where there are both
abbrev pub added : Option ℕ → Option ℕ → Option ℕ
added None b = None
added (Some a) None = None
added (Some a) (Some b) = Some (capped (a + b))

-- the greater of two amounts, where there are both
abbrev pub greater : Option ℕ → Option ℕ → Option ℕ
greater None b = None
greater (Some a) None = None
greater (Some a) (Some b) = Some (max a b)

-- the sum of two numbers, at most the greatest of 64 bits
abbrev pub capped_sum : ℕ → ℕ → ℕ
capped_sum a b = min (a + b) (2 ^ 64 - 1)
