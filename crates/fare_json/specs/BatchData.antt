-- The JSON answer of a batch: the answer of each item with its status.
use Rattle.std.specs.Prelude.{ℕ, ◌+◌, ◌-◌, List, [], ◌∷◌, ◌++◌, length, map, take, codes, decimal, ◌==◌, if◌then◌else◌}
use Rattle.serde_json.specs.Data.{Data, array, object, no_members, member}
use Rattle.serde_json.specs.View.{items_of}
use Rattle.fare_json.specs.JsonText.{json_line}
use Rattle.fare_json.specs.QuotationData.{count}

-- an item is the value of its answer, and its status
unfoldable pub item_data : Data × ℕ → Data
item_data one =
    object (member (codes "answer") one.0
    (member (codes "status") (count one.1) no_members))

-- the items in their order
unfoldable pub batch_data : List (Data × ℕ) → Data
batch_data items = object (member (codes "items") (array (items_of (map item_data items))) no_members)

-- what stands before the items
abbrev pub batch_begin : List ℕ
batch_begin = codes "{\"items\":["

-- what stands behind the items
abbrev pub batch_end : List ℕ
batch_end = codes "]}\n"

-- an answer without the LF that ends its line
abbrev pub without_line_end : List ℕ → List ℕ
without_line_end answer = take (length answer - 1) answer

-- a comma stands before each item but that of number 1
abbrev pub comma_before : ℕ → List ℕ
comma_before number = if number == 1 then codes "" else codes ","

-- the text of an item by its number, from 1, by the text of its answer, and by its status
unfoldable pub item_json : ℕ → List ℕ → ℕ → List ℕ
item_json number answer status =
    comma_before number ++ codes "{\"answer\":" ++ without_line_end answer
    ++ codes ",\"status\":" ++ decimal status ++ codes "}"

-- the items from a number on, by the values of their answers and by their statuses
abbrev pub items_json : ℕ → List (Data × ℕ) → List ℕ
items_json number [] = []
items_json number (one ∷ rest) = item_json number (json_line one.0) one.1 ++ items_json (number + 1) rest

-- the whole answer, item after item
abbrev pub batch_json : List (Data × ℕ) → List ℕ
batch_json items = batch_begin ++ items_json 1 items ++ batch_end
