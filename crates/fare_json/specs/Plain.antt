-- The plain text that a JSON answer stands for, made of its members alone.
use Rattle.std.specs.Prelude.{ℕ, suc, ◌+◌, Bool, true, false, List, [], ◌∷◌, ◌++◌, Option, Some, None, codes, decimal}
use Rattle.std.specs.Prelude.{flat_map}
use Rattle.std.specs.Prelude.{unwrap_or, option_map, option_and_then, ◌==◌, if◌then◌else◌}
use Rattle.serde_json.specs.Data.{Data, null, boolean, number, string, array, object, Items, no_items, item}
use Rattle.serde_json.specs.Find.{as_array, as_bool, as_number, as_str, as_u64, get}
use Rattle.fare_calc.specs.Worksheet.{direction_text}

-- the member of an object; null where it has none
abbrev pub at : List ℕ → Data → Data
at name value = unwrap_or (get name value) null

-- the text of a string
abbrev pub said : Data → List ℕ
said value = unwrap_or (as_str value) []

-- a count
abbrev pub counted : Data → ℕ
counted value = unwrap_or (option_and_then as_u64 (as_number value)) 0

-- the digits of a count
abbrev pub digits : Data → List ℕ
digits value = decimal (counted value)

-- a truth
abbrev pub holds : Data → Bool
holds value = unwrap_or (as_bool value) false

-- the values of an array
abbrev pub values_of : Items → List Data
values_of no_items = []
values_of (item value rest) = value ∷ values_of rest

-- the values of a list
abbrev pub listed : Data → List Data
listed value = values_of (unwrap_or (as_array value) no_items)

-- the line that names an edition
unfoldable pub plain_edition : Data → List ℕ
plain_edition edition =
    codes "EDITION " ++ digits (at (codes "number") edition) ++ codes " " ++ said (at (codes "effective") edition)
    ++ codes "\n"

-- the tag of a fare
unfoldable pub plain_tag : Data → List ℕ
plain_tag fare =
    said (at (codes "carrier") fare) ++ said (at (codes "class") fare) ++ said (at (codes "kind") fare)
    ++ said (at (codes "rule") fare)

-- two cities as from and to
abbrev pub plain_way : Data → List ℕ
plain_way value = said (at (codes "from") value) ++ codes "-" ++ said (at (codes "to") value)

-- the letter of a surcharge
abbrev pub plain_letter : ℕ → List ℕ
plain_letter surcharge = (if surcharge == 0 then [] else decimal surcharge) ++ codes "M"

-- the line of miles that are measured
unfoldable pub plain_measured : Data → List ℕ
plain_measured miles =
    codes "MILES TPM " ++ digits (at (codes "tpm") miles) ++ codes " EMA " ++ digits (at (codes "ema") miles)
    ++ codes " NET " ++ digits (at (codes "net") miles) ++ codes " MPM " ++ digits (at (codes "mpm") miles)
    ++ codes " " ++ plain_letter (counted (at (codes "surcharge") miles)) ++ codes "\n"

-- the line of a mileage
abbrev pub plain_miles : Data → List ℕ
plain_miles null = codes "MILES DIRECT\n"
plain_miles (boolean flag) = []
plain_miles (number n) = []
plain_miles (string text) = []
plain_miles (array all) = []
plain_miles (object all) = plain_measured (object all)

-- the line of a higher intermediate point
unfoldable pub plain_pair : Data → List ℕ
plain_pair found = codes "HIP " ++ plain_way found ++ codes " " ++ said (at (codes "amount") found) ++ codes "\n"

-- the line of a higher intermediate point, or that there is none
abbrev pub plain_higher : Data → List ℕ
plain_higher null = codes "HIP NONE\n"
plain_higher found = plain_pair found

-- the line of the part of a number
unfoldable pub plain_part_line : ℕ → Data → List ℕ
plain_part_line place part =
    codes "PART " ++ decimal place ++ codes " " ++ plain_way part ++ codes " UNIT " ++ digits (at (codes "unit") part)
    ++ codes " " ++ direction_text (holds (at (codes "back") part)) ++ codes "\n"

-- the line of a fare and its filed amount
unfoldable pub plain_filed_line : Data → Data → List ℕ
plain_filed_line fare filed =
    codes "FARE " ++ digits (at (codes "record") fare) ++ codes " " ++ plain_tag fare ++ codes " " ++ said filed
    ++ codes "\n"

-- the line of a component amount
unfoldable pub plain_amount_line : Data → List ℕ
plain_amount_line amount = codes "AF " ++ said amount ++ codes "\n"

-- the five lines of the part of a number
unfoldable pub plain_part : ℕ → Data → List ℕ
plain_part place part =
    plain_part_line place part ++ plain_filed_line (at (codes "fare") part) (at (codes "filed") part)
    ++ plain_miles (at (codes "miles") part) ++ plain_higher (at (codes "hip") part)
    ++ plain_amount_line (at (codes "amount") part)

-- the lines of the parts, numbered in turn from a number on
abbrev pub plain_parts : ℕ → List Data → List ℕ
plain_parts place [] = []
plain_parts place (part ∷ rest) = plain_part place part ++ plain_parts (place + 1) rest

-- the minimum of a unit, or that there is none
abbrev pub plain_check : Data → List ℕ
plain_check null = codes "NONE"
plain_check minimum = said (at (codes "check") minimum) ++ codes " " ++ said (at (codes "amount") minimum)

-- the line of a unit
unfoldable pub plain_unit : Data → List ℕ
plain_unit unit =
    codes "UNIT " ++ digits (at (codes "number") unit) ++ codes " " ++ said (at (codes "kind") unit) ++ codes " SUM "
    ++ said (at (codes "sum") unit) ++ codes " CHECK " ++ plain_check (at (codes "minimum") unit) ++ codes " PRICE "
    ++ said (at (codes "price") unit) ++ codes "\n"

-- the lines of a currency, where there is one
abbrev pub plain_currency : Data → Data → List ℕ
plain_currency rate null = []
plain_currency rate local =
    codes "ROE " ++ said rate ++ codes "\nLOCAL " ++ said (at (codes "currency") local) ++ codes " "
    ++ said (at (codes "amount") local) ++ codes "\n"

-- a lawful construction: its line and its worksheet
unfoldable pub plain_construction : Data → List ℕ
plain_construction value =
    said (at (codes "line") value) ++ codes "\n" ++ plain_parts 1 (listed (at (codes "parts") value))
    ++ flat_map plain_unit (listed (at (codes "units") value)) ++ codes "TOTAL NUC " ++ said (at (codes "total") value)
    ++ codes "\n" ++ plain_currency (at (codes "roe") value) (at (codes "local") value)

-- the best construction, or that there is no fare
abbrev pub plain_best : Data → List ℕ
plain_best null = codes "NO FARE\n"
plain_best value = plain_construction value

-- the plain text of a quotation
unfoldable pub plain_quotation : Data → List ℕ
plain_quotation answer = plain_edition (at (codes "edition") answer) ++ plain_best (at (codes "quotation") answer)

-- a construction of the first ones, with its number
unfoldable pub plain_entry : ℕ → Data → List ℕ
plain_entry place entry =
    codes "BEST " ++ decimal place ++ codes " " ++ said (at (codes "total") entry) ++ codes "\n"
    ++ said (at (codes "line") entry) ++ codes "\n"

-- constructions, numbered in turn from a number on
abbrev pub plain_entries : ℕ → List Data → List ℕ
plain_entries place [] = []
plain_entries place (entry ∷ rest) = plain_entry place entry ++ plain_entries (suc place) rest

-- the first constructions, or that there is no fare
abbrev pub plain_first : List Data → List ℕ
plain_first [] = codes "NO FARE\n"
plain_first (entry ∷ rest) = plain_entries 1 (entry ∷ rest)

-- the plain text of first constructions
unfoldable pub plain_first_answer : Data → List ℕ
plain_first_answer answer =
    plain_edition (at (codes "edition") answer) ++ plain_first (listed (at (codes "best") answer))

-- the line of an edition in a list
unfoldable pub plain_listed : Data → List ℕ
plain_listed edition =
    codes "EDITION " ++ digits (at (codes "number") edition) ++ codes " " ++ said (at (codes "effective") edition)
    ++ codes " " ++ digits (at (codes "records") edition) ++ codes "\n"

-- the plain text of a list
unfoldable pub plain_list : Data → List ℕ
plain_list answer = flat_map plain_listed (listed (at (codes "editions") answer))

-- a number behind a space, where it is there
abbrev pub plain_after : Option Data → List ℕ
plain_after None = []
plain_after (Some value) = codes " " ++ digits value

-- an amount behind words, where it is there
abbrev pub plain_amount : List ℕ → Option Data → List ℕ
plain_amount words None = []
plain_amount words (Some value) = words ++ said value

-- the numbers of a verdict, by those of its members that are there
unfoldable pub plain_verdict : Data → List ℕ
plain_verdict verdict =
    said (at (codes "name") verdict) ++ plain_after (get (codes "sector") verdict)
    ++ plain_after (get (codes "part") verdict) ++ plain_after (get (codes "rule") verdict)
    ++ plain_after (get (codes "place") verdict) ++ plain_amount (codes " ") (get (codes "price") verdict)
    ++ plain_amount (codes " OVER ") (get (codes "over") verdict) ++ codes "\n"

-- the plain text of an audit
unfoldable pub plain_audit : Data → List ℕ
plain_audit answer = plain_verdict (at (codes "verdict") answer)

-- the plain text of what is refused for a fault, and of a quotation where there is no fault
abbrev pub plain_unless : Option Data → Data → List ℕ
plain_unless None answer = plain_quotation answer
plain_unless (Some fault) answer = said (at (codes "text") fault) ++ codes "\n"

-- the plain text of the answer to an itinerary: its quotation, or what it is refused for
abbrev pub plain_answer : Data → List ℕ
plain_answer answer = plain_unless (get (codes "fault") answer) answer

-- an item of a batch: its number, its status and the plain text of its answer
unfoldable pub plain_item : ℕ → Data → List ℕ
plain_item place one =
    codes "ITEM " ++ decimal place ++ codes " " ++ digits (at (codes "status") one) ++ codes "\n"
    ++ plain_answer (at (codes "answer") one)

-- items, numbered in turn from a number on
abbrev pub plain_items : ℕ → List Data → List ℕ
plain_items place [] = []
plain_items place (one ∷ rest) = plain_item place one ++ plain_items (place + 1) rest

-- the plain text of a batch
unfoldable pub plain_batch : Data → List ℕ
plain_batch answer = plain_items 1 (listed (at (codes "items") answer))

-- the plain text of a batch of answers with their statuses, numbered in turn from a number on
abbrev pub items_plain : ℕ → List (Data × ℕ) → List ℕ
items_plain place [] = []
items_plain place (one ∷ rest) =
    (codes "ITEM " ++ decimal place ++ codes " " ++ decimal one.1 ++ codes "\n" ++ plain_answer one.0)
    ++ items_plain (place + 1) rest
