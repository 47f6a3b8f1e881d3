-- The JSON answer that lists the editions of a book.
use Rattle.std.specs.Prelude.{List, length, map, codes}
use Rattle.serde_json.specs.Data.{Data, string, array, object, no_members, member}
use Rattle.serde_json.specs.View.{items_of}
use Rattle.fare_tariff.specs.Tariff.{Tariff}
use Rattle.fare_json.specs.QuotationData.{count}

-- an edition is its effective day, its number, and how many records it has
unfoldable pub listed_data : Tariff → Data
listed_data tariff =
    object (member (codes "effective") (string tariff.effective)
    (member (codes "number") (count tariff.number)
    (member (codes "records") (count (length tariff.records)) no_members)))

-- the editions in the order of publication
unfoldable pub list_data : List Tariff → Data
list_data editions =
    object (member (codes "editions") (array (items_of (map listed_data editions))) no_members)
