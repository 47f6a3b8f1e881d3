use Rattle.std.proofs.Common.{sym, ap, ◌∙◌}
use Rattle.std.specs.Prelude.{option_map}
use Rattle.serde_json.specs.View.{view}
use Rattle.fare_trip.proofs.JsonLemmas.{read_trip_none, read_trip_some}
use Rattle.fare_trip.proofs.itinerary_text.read_trip.Goals as goal

pub returns-in-Ok-None : goal.returns-in-Ok-None
returns-in-Ok-None c = λ other. sym (read_trip_none _ (sym c.in-Ok-None.ensures ∙ ap (option_map view) c.in-Ok-None.field-0-is))

pub returns-in-Ok-Some : goal.returns-in-Ok-Some
returns-in-Ok-Some c = read_trip_some _ _ _ (sym c.in-Ok-Some.ensures ∙ ap (option_map view) c.in-Ok-Some.field-0-is) c.trip_of.ensures
