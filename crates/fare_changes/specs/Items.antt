-- The items of a batch: what its text has to be.
use Rattle.std.specs.Prelude.{List, ℕ, Option, Some, None, Result, Ok, Err, Vec}
use Rattle.serde_json.specs.Data.{Data, Items}
use Rattle.serde_json.specs.Find.{as_array}
use Rattle.serde_json.specs.View.{items_view}
use Rattle.serde_json.specs.declared.value.Value.{Value}
use Rattle.fare_trip.specs.ItineraryText.{json_of}
use Rattle.fare_trip.specs.declared.fault.Member.TheVariants.{Trip}
use Rattle.fare_trip.specs.declared.fault.TripFault.{TripFault}
use Rattle.fare_trip.specs.declared.fault.TripFault.TheVariants.{Bad, NotJson}

-- an array has its items; what else was looked for as one is `Bad` as a whole
abbrev pub array_items : Option Items → Result Items TripFault
array_items None = Err (Bad Trip 0)
array_items (Some items) = Ok items

-- a JSON value has to be an array; what is none at all is `NotJson`
abbrev pub value_items : Option Data → Result Items TripFault
value_items None = Err NotJson
value_items (Some value) = array_items (as_array value)

-- the items of a text
unfoldable pub items_of : List ℕ → Result Items TripFault
items_of text = value_items (json_of text)

-- the items that values in memory are
abbrev pub items_seen : {A : Type 0} → Vec Value A → Items
items_seen values = items_view values.items
