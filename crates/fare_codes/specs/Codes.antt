-- The forms of the codes of letters and digits, and what their readers answer.
use Rattle.std.specs.Prelude.{ℕ, ◌-◌, Bool, List, ◌++◌, length, replicate, Option, Some, None, ◌==◌, ◌&&◌, ◌||◌, nat_le}
use Rattle.std.specs.Prelude.{if◌then◌else◌}
use Rattle.std.specs.List.{list_all}
use Rattle.std.specs.Char.{is_ascii_uppercase, is_ascii_digit}

-- a character of a carrier or of a rule's id is a letter A to Z or a digit
abbrev pub is_code_character : ℕ → Bool
is_code_character c = is_ascii_uppercase c || is_ascii_digit c

-- a city is three letters A to Z
abbrev pub is_city : List ℕ → Bool
is_city bytes = (length bytes == 3) && list_all is_ascii_uppercase bytes

-- a country is two letters A to Z
abbrev pub is_country : List ℕ → Bool
is_country bytes = (length bytes == 2) && list_all is_ascii_uppercase bytes

-- a currency is three letters A to Z
abbrev pub is_currency : List ℕ → Bool
is_currency bytes = (length bytes == 3) && list_all is_ascii_uppercase bytes

-- a carrier is two characters A to Z or 0 to 9
abbrev pub is_carrier : List ℕ → Bool
is_carrier bytes = (length bytes == 2) && list_all is_code_character bytes

-- a rule's id is one to eight characters A to Z or 0 to 9
abbrev pub is_rule_id : List ℕ → Bool
is_rule_id bytes = nat_le 1 (length bytes) && nat_le (length bytes) 8 && list_all is_code_character bytes

-- a rule's id with zeros behind it, eight bytes in all
abbrev pub padded : List ℕ → List ℕ
padded bytes = bytes ++ replicate (8 - length bytes) 0

-- a byte is zero
abbrev pub is_zero : ℕ → Bool
is_zero c = c == 0

-- the bytes where they are in the form, and nothing where they are not
abbrev pub in_form : Bool → List ℕ → Option (List ℕ)
in_form form bytes = if form then Some bytes else None

-- the city that bytes spell
abbrev pub read_city : List ℕ → Option (List ℕ)
read_city bytes = in_form (is_city bytes) bytes

-- the country that bytes spell
abbrev pub read_country : List ℕ → Option (List ℕ)
read_country bytes = in_form (is_country bytes) bytes

-- the currency that bytes spell
abbrev pub read_currency : List ℕ → Option (List ℕ)
read_currency bytes = in_form (is_currency bytes) bytes

-- the carrier that bytes spell
abbrev pub read_carrier : List ℕ → Option (List ℕ)
read_carrier bytes = in_form (is_carrier bytes) bytes

-- the rule's id that bytes spell
abbrev pub read_rule_id : List ℕ → Option (List ℕ)
read_rule_id bytes = in_form (is_rule_id bytes) bytes
