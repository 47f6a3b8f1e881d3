use Rattle.std.proofs.Common.{sym}
use Rattle.fare_trip.proofs.JsonLemmas.{json_of_read, no_json}
use Rattle.fare_trip.proofs.itinerary_text.read_json.Goals as goal

pub returns-in-Ok : goal.returns-in-Ok
returns-in-Ok c = sym (json_of_read _ _ c.in-Ok.ensures.ok.0 c.in-Ok.ensures.ok.1)

pub returns-else-is_memory : goal.returns-else-is_memory
returns-else-is_memory c = sym (no_json _ (c.in-Err.ensures.err (λ memory. cc (c.if-is_memory.ensures.1 memory))))
