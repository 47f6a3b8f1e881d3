-- Books of short editions, computed on the definitions.
use Prim.Native.String.{String}
use Rattle.std.proofs.Common.{◌≡◌, refl, ℕ, List, [], ◌∷◌, Option, Some, None, map, Ok, Err, arith}
use Rattle.std.specs.Prelude.{⊤, option_map, codes}
use Rattle.csv.proofs.OnLiterals.{csv_on_literals}
use Rattle.std.specs.Fmt.{digits}
use Rattle.jiff_core.specs.Calendar.{days_of_months}
use Rattle.fare_codes.specs.Day.{day_number, days_since_1970, has_day_shape, is_civil}
use Rattle.fare_codes.specs.Numbers.{decimal_text, decimal_value, is_decimal, is_number, last_digits, read_number}
use Rattle.fare_codes.specs.Words.{read_area, read_mode}
use Rattle.fare_tariff.specs.Check.{first_fault_from, is_one_unknown, kind_of}
use Rattle.fare_tariff.specs.Tariff.{Tariff}
use Rattle.fare_csv.specs.declared.text_fault.TextFault.TheVariants.{NoHeader}
use Rattle.fare_csv.specs.CanonicalText.{canonical_rows, record_row}
use Rattle.fare_csv.specs.Fields.{counted}
use Rattle.fare_csv.specs.Head.{head_of, read_version}
use Rattle.fare_csv.specs.Lines.{line_of, lines_of}
use Rattle.fare_csv.specs.Numbers.{above_zero}
use Rattle.fare_csv.specs.RecordKind.{kind_named}
use Rattle.fare_csv.specs.RecordText.{city_of, currency_of}
use Rattle.fare_csv.specs.Rows.{rows_of}
use Rattle.fare_csv.specs.TariffText.{edition_of, end_of, ended_by, followed_by, headed, nothing_after, record_of, record_of_kind, records_of, tariff_of}
use Rattle.fare_book.specs.declared.damage.Damage.TheVariants.{Text, Repeat}
use Rattle.fare_book.specs.declared.published.Published.TheVariants.{Already}
use Rattle.fare_book.specs.Book.{settled}
use Rattle.fare_book.specs.Editions.{editions_of, read_behind, with_bodies}
use Rattle.fare_book.specs.Publish.{HasNoRoom, IsNewTo, Offers}
use Rattle.fare_book.specs.Selected.{selected}

-- what computes a reading and a spelling of a literal text
unfoldable texts_on_literals : ⊤
unfolding csv_on_literals rows_of tariff_of headed head_of counted read_version above_zero records_of record_of record_of_kind kind_named city_of currency_of end_of nothing_after followed_by ended_by edition_of first_fault_from kind_of is_one_unknown has_day_shape is_civil days_of_months is_number read_number is_decimal decimal_value last_digits decimal_text read_area read_mode canonical_rows record_row line_of lines_of digits
texts_on_literals = tt

-- the number of an edition that is selected
abbrev number_of : Option Tariff → Option ℕ
number_of edition = option_map (λ one. one.number) edition

-- an edition of a number and an effective day
abbrev effective_from : ℕ → String → Tariff
effective_from number day = record { number = number; effective = codes day; records = [] }

-- the editions 1, effective 2025-01-01, and 2 and 3, both effective 2025-02-01
pub three_editions : List Tariff
three_editions = effective_from 3 "2025-02-01" ∷ effective_from 1 "2025-01-01" ∷ effective_from 2 "2025-02-01" ∷ []

-- a day selects the latest edition that is effective by then, and of two the one with the greater number
pub days_select :
    map (λ day. number_of (selected three_editions (codes day))) ("2025-02-15" ∷ "2025-01-31" ∷ "2024-12-31" ∷ [])
    ≡ (Some 3 ∷ Some 1 ∷ None ∷ [])
unfolding selected day_number days_since_1970 days_of_months three_editions
days_select = refl

-- the same edition in either version
pub in_version_1 : List ℕ
in_version_1 = codes "HEAD,1,1,2025-01-01\nCUR,GB,GBP,0.750000,0,1,U\nCITY,LON,GB,2\nEND\n"

pub in_version_2 : List ℕ
in_version_2 = codes "HEAD,2,1,2025-01-01\nCUR,GB,GBP,0.750000,0,1,U\nCITY,LON,GB,2\nEND\n"

-- the damages of a body that is no tariff's text, and of a number that stands at an earlier place
pub junk_is_damaged : editions_of (in_version_1 ∷ codes "junk" ∷ []) ≡ Err (record { place = 2; damage = Text NoHeader })
unfolding editions_of with_bodies read_behind texts_on_literals in_version_1
junk_is_damaged = refl

pub repeat_is_damaged : editions_of (in_version_1 ∷ in_version_2 ∷ []) ≡ Err (record { place = 2; damage = Repeat 1 })
unfolding editions_of with_bodies read_behind texts_on_literals in_version_1 in_version_2
repeat_is_damaged = refl

-- either version stands for the same edition, and its canonical text is in version 2
pub either_version_is_one : edition_of in_version_1 ≡ edition_of in_version_2
unfolding texts_on_literals in_version_1 in_version_2
either_version_is_one = refl

-- the edition 1 of those three is new to no edition, and becomes the one edition
pub first_is_new : IsNewTo [] (effective_from 1 "2025-01-01")
first_is_new = record { new = refl; room = omega arith }

-- it stands in a book that has it already
pub first_is_already : (bodies : List (List ℕ)) → Offers (effective_from 1 "2025-01-01" ∷ []) (effective_from 1 "2025-01-01") (Ok (Already 1)) (settled (effective_from 1 "2025-01-01" ∷ [])) (Some bodies) (Some bodies)
first_is_already bodies = (refl, refl, refl, refl)

-- 32 editions, and one more or one of these
pub full_book : List Tariff
full_book =
    map (λ number. effective_from number "2025-01-01")
    (1 ∷ 2 ∷ 3 ∷ 4 ∷ 5 ∷ 6 ∷ 7 ∷ 8 ∷ 9 ∷ 10 ∷ 11 ∷ 12 ∷ 13 ∷ 14 ∷ 15 ∷ 16 ∷ 17 ∷ 18 ∷ 19 ∷ 20 ∷ 21 ∷ 22 ∷ 23 ∷ 24 ∷ 25 ∷ 26 ∷ 27 ∷ 28 ∷ 29 ∷ 30 ∷ 31 ∷ 32 ∷ [])

-- there is no room for one of another number
pub full_for_a_new_number : HasNoRoom full_book (effective_from 33 "2025-01-01")
unfolding full_book
full_for_a_new_number = record { new = refl; full = omega arith }
