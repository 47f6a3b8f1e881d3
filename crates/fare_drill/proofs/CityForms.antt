-- The codes of the cities are in form.
use Rattle.std.proofs.Common.{◌≡◌, ℕ, ◌+◌, ◌/◌, ◌%◌, true, Some, refl, arith}
use Rattle.std.proofs.Math.Dec.{leb}
use Rattle.std.proofs.lemmas.Bool.{le-leb}
use Rattle.std.specs.Char.{is_ascii_uppercase}
use Rattle.fare_codes.specs.Codes.{read_city}
use Rattle.fare_drill.specs.Cities.{letter, city, extra_city}

-- each letter is one of A to Z
letter_is_uppercase : (i : ℕ) → is_ascii_uppercase (letter i) ≡ true
letter_is_uppercase i =
    let low : leb 65 (65 + i % 26) ≡ true = le-leb 65 (65 + i % 26) (omega arith) in
    let high : leb (65 + i % 26) 90 ≡ true = le-leb (65 + i % 26) 90 (omega arith) in
    rw (low, high) refl

-- a city is in form
pub city_reads : (i : ℕ) → read_city (city i) ≡ Some (city i)
city_reads i = rw (letter_is_uppercase i) refl

-- so is an extra city
pub extra_city_reads : (i : ℕ) → read_city (extra_city i) ≡ Some (extra_city i)
extra_city_reads i = rw (letter_is_uppercase (i / 26), letter_is_uppercase i) refl
