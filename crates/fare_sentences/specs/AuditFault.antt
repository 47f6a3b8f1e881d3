-- Why a text asks for no audit, told by the text itself.
use Rattle.std.specs.Prelude.{ℕ, List, is_some, option_and_then, if◌then◌else◌}
use Rattle.serde_json.specs.Find.{as_object}
use Rattle.fare_trip.specs.ItineraryText.{json_of}
use Rattle.fare_trip.specs.declared.fault.Member.{Member}
use Rattle.fare_trip.specs.declared.fault.Member.TheVariants as member_of
use Rattle.fare_trip.specs.declared.fault.TripFault.{TripFault}
use Rattle.fare_trip.specs.declared.fault.TripFault.TheVariants as trip_fault
use Rattle.fare_audit.specs.declared.fault.AuditFault.{AuditFault}
use Rattle.fare_audit.specs.declared.fault.AuditFault.TheVariants as audit
use Rattle.fare_sentences.specs.declared.fault.Fault.{Fault}
use Rattle.fare_sentences.specs.declared.fault.Fault.TheVariants.{Trip, NoRequest, NoTrip, NoLine, BadLine}

-- a member of an audit that isn't in its form: the request, where it is no object, or a member of its trip
abbrev pub bad_fault : List ℕ → Member → ℕ → Fault
bad_fault body member_of.Trip number =
    if is_some (option_and_then as_object (json_of body)) then Trip (trip_fault.Bad member_of.Trip number) else NoRequest
bad_fault body which number = Trip (trip_fault.Bad which number)

-- a member that an audit lacks: its trip, or a member of its trip
abbrev pub missing_fault : Member → ℕ → Fault
missing_fault member_of.Trip number = NoTrip
missing_fault which number = Trip (trip_fault.Missing which number)

-- a fault of an audit that has to do with its trip
abbrev pub audited_trip_fault : List ℕ → TripFault → Fault
audited_trip_fault body (trip_fault.Bad which number) = bad_fault body which number
audited_trip_fault body (trip_fault.Missing which number) = missing_fault which number
audited_trip_fault body fault = Trip fault

-- why a text asks for no audit. Want of memory has no sentence
abbrev pub audit_fault : List ℕ → AuditFault → Fault
audit_fault body audit.Memory = Trip trip_fault.Memory
audit_fault body (audit.Trip fault) = audited_trip_fault body fault
audit_fault body audit.NoLine = NoLine
audit_fault body (audit.Line bad) = BadLine bad.0
