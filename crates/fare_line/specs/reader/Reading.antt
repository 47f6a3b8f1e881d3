-- How the front of a text is read: a reading is a value and the text behind it, or how many bytes are left where no
-- text goes on.
use Rattle.std.specs.Prelude.{ℕ, suc, ◌+◌, ◌-◌, ◌*◌, ◌≡◌, min, Bool, List, [], ◌∷◌, length, Option, Some, None, Result}
use Rattle.std.specs.Prelude.{Ok, Err, ◌==◌, ◌&&◌, nat_le, nat_lt, codes, if◌then◌else◌}
use Rattle.std.specs.Char.{is_ascii_uppercase, is_ascii_digit}
use Rattle.fare_codes.specs.Codes.{is_code_character}
use Rattle.fare_codes.specs.declared.city.City.{City}
use Rattle.fare_codes.specs.declared.carrier.Carrier.{Carrier}
use Rattle.fare_line.specs.declared.reading.cursor.Cursor.{Cursor}
use Rattle.fare_line.specs.declared.reading.byte_kind.ByteKind.{ByteKind}
use Rattle.fare_line.specs.declared.reading.byte_kind.ByteKind.TheVariants.{Uppercase, CodeCharacter, Digit, This}
use Rattle.fare_line.specs.declared.reading.byte_kind.ByteKind.TheVariants.{Among}

-- what a function returned and the text that it left are what the reading gives
abbrev pub Gives : {X : Type 0} → Result X ℕ → List ℕ → Result (X × List ℕ) ℕ → Type 0
Gives (Ok x) rest reading = reading ≡ Ok (x, rest)
Gives (Err left) rest reading = reading ≡ Err left

-- each way in which a call may end, with the cursor that it leaves, is what the reading gives
abbrev pub AllGive : {X : Type 0} → (Result X ℕ → Cursor → Type 0) → Result (X × List ℕ) ℕ → Type 0
AllGive {X} ends reading = (r : Result X ℕ) (left : Cursor) → ends r left → Gives r left.rest.now reading

-- one reading, and one of the text behind it
infixl 10 ◌>>=◌
abbrev pub ◌>>=◌ : {A B : Type 0} → Result A ℕ → (A → Result B ℕ) → Result B ℕ
(Ok x) >>= f = f x
(Err left) >>= f = Err left

-- one of two readings: where both stop, the one that stops later
abbrev pub either : {A : Type 0} → Result (A × List ℕ) ℕ → Result (A × List ℕ) ℕ → Result (A × List ℕ) ℕ
either (Ok x) other = Ok x
either (Err left) (Ok x) = Ok x
either (Err left) (Err more) = Err (min left more)

-- the bytes of a kind
abbrev pub is_of : ByteKind → ℕ → Bool
is_of Uppercase byte = is_ascii_uppercase byte
is_of CodeCharacter byte = is_code_character byte
is_of Digit byte = is_ascii_digit byte
is_of (This one) byte = byte == one
is_of (Among first last) byte = nat_le first byte && nat_le byte last

-- a byte of a kind
abbrev pub byte_at : ByteKind → List ℕ → Result (ℕ × List ℕ) ℕ
byte_at kind [] = Err 0
byte_at kind (byte ∷ rest) = if is_of kind byte then Ok (byte, rest) else Err (suc (length rest))

-- a word
unfoldable pub word_at : List ℕ → List ℕ → Result (Unit {0} × List ℕ) ℕ
word_at [] bytes = Ok (tt, bytes)
word_at (letter ∷ letters) bytes = byte_at (This letter) bytes >>= λ x. word_at letters x.1

-- an index behind a first one
abbrev pub later : Result (ℕ × List ℕ) ℕ → Result (ℕ × List ℕ) ℕ
later index = index >>= λ x. Ok (suc x.0, x.1)

-- one of some words, by its index
unfoldable pub one_of : List ℕ → List (List ℕ) → List ℕ → Result (ℕ × List ℕ) ℕ
one_of word [] bytes = word_at word bytes >>= λ x. Ok (0, x.1)
one_of word (next ∷ others) bytes =
    either (word_at word bytes >>= λ x. Ok (0, x.1)) (later (one_of next others bytes))

-- bytes up to a last one, each of which leads from one value to the next
unfoldable pub scan : {A : Type 0} → (A → ℕ → Option A) → ℕ → A → List ℕ → Result (A × List ℕ) ℕ
scan step last value [] = Err 0
scan step last value (byte ∷ rest) =
    if byte == last then Ok (value, rest)
    else (elim (step value byte) [ None ↦ Err (suc (length rest)) | Some next ↦ scan step last next rest ])

-- a city
unfoldable pub city_at : List ℕ → Result (City × List ℕ) ℕ
city_at bytes = do
  a ← byte_at Uppercase bytes
  b ← byte_at Uppercase a.1
  c ← byte_at Uppercase b.1
  Ok (a.0 ∷ b.0 ∷ c.0 ∷ [], c.1)

-- a city and a space
unfoldable pub spaced_city_at : List ℕ → Result (City × List ℕ) ℕ
spaced_city_at bytes = do
  city ← city_at bytes
  space ← byte_at (This 32) city.1
  Ok (city.0, space.1)

-- a carrier
unfoldable pub carrier_at : List ℕ → Result (Carrier × List ℕ) ℕ
carrier_at bytes = do
  a ← byte_at CodeCharacter bytes
  b ← byte_at CodeCharacter a.1
  Ok (a.0 ∷ b.0 ∷ [], b.1)

-- a digit more of a number, which stays below ten times the limit
abbrev pub with_digit : ℕ → ℕ → ℕ → Option ℕ
with_digit limit number byte =
    if is_ascii_digit byte && nat_lt number limit then Some (10 * number + (byte - 48)) else None

-- a number that isn't 0, below ten times the limit, and a point
unfoldable pub counted_at : ℕ → List ℕ → Result (ℕ × List ℕ) ℕ
counted_at limit bytes = do
  first ← byte_at (Among 49 57) bytes
  scan (with_digit limit) 46 (first.0 - 48) first.1

-- 0 and a point
unfoldable pub nought_at : List ℕ → Result (ℕ × List ℕ) ℕ
nought_at bytes = do
  point ← word_at (codes "0.") bytes
  Ok (0, point.1)

-- a number below ten times the limit, and a point
unfoldable pub whole_at : ℕ → List ℕ → Result (ℕ × List ℕ) ℕ
whole_at limit bytes = either (counted_at limit bytes) (nought_at bytes)

-- two digits
unfoldable pub hundredths_at : List ℕ → Result (ℕ × List ℕ) ℕ
hundredths_at bytes = do
  a ← byte_at Digit bytes
  b ← byte_at Digit a.1
  Ok (10 * (a.0 - 48) + (b.0 - 48), b.1)

-- an amount
unfoldable pub amount_at : List ℕ → Result (ℕ × List ℕ) ℕ
amount_at bytes = do
  whole ← whole_at 100_000_000 bytes
  places ← hundredths_at whole.1
  Ok (100 * whole.0 + places.0, places.1)

-- a rate
unfoldable pub rate_at : List ℕ → Result (ℕ × List ℕ) ℕ
rate_at bytes = do
  whole ← whole_at 1_000_000 bytes
  a ← hundredths_at whole.1
  b ← hundredths_at a.1
  c ← hundredths_at b.1
  Ok (1_000_000 * whole.0 + 10_000 * a.0 + 100 * b.0 + c.0, c.1)

-- the units behind the first, each with its space
abbrev pub later_units : List (List ℕ)
later_units =
    codes "2 " ∷ codes "3 " ∷ codes "4 " ∷ codes "5 " ∷ codes "6 " ∷ codes "7 " ∷ codes "8 " ∷ codes "9 " ∷ codes "10 "
    ∷ codes "11 " ∷ codes "12 " ∷ codes "13 " ∷ codes "14 " ∷ codes "15 " ∷ codes "16 " ∷ []

-- a unit and a space
unfoldable pub unit_at : List ℕ → Result (ℕ × List ℕ) ℕ
unit_at bytes = do
  number ← one_of (codes "1 ") later_units bytes
  Ok (number.0 + 1, number.1)
