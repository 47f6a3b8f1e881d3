-- the fault is that at the first place
use Rattle.std.proofs.Common.{arith, ap, sym, ◌∙◌, option_and_then}
use Rattle.fare_tariff.specs.Faulty.{fault_of}
use Rattle.fare_tariff.proofs.FaultPlaces.{fault_of_first, faulty_within, faulty_in_limit}
use Rattle.fare_tariff.proofs.Strips.{no_fault}
use Rattle.fare_tariff.proofs.check.kind.first_fault.Goals as goal

pub fault_at-requires-clause-within : goal.fault_at-requires-clause-within
fault_at-requires-clause-within g c = faulty_within c.args.filed.now c.in-Some.place (sym c.in-Some.ensures)

pub fault_at-requires-clause-in_limit : goal.fault_at-requires-clause-in_limit
fault_at-requires-clause-in_limit g c = omega (arith, faulty_in_limit c.args.filed.now c.in-Some.place (sym c.in-Some.ensures))

pub returns-in-None : goal.returns-in-None
returns-in-None g c = ap (option_and_then (fault_of c.args.filed.now)) c.in-None.ensures ∙ sym (fault_of_first c.args.filed.now)

pub returns-in-Some : goal.returns-in-Some
returns-in-Some g c = c.fault_at.ensures ∙ ap (option_and_then (fault_of c.args.filed.now)) c.in-Some.ensures ∙ sym (fault_of_first c.args.filed.now)

pub returns-then-is_clear : goal.returns-then-is_clear
returns-then-is_clear g c = no_fault c.args.filed.now (c.is_clear.ensures c.if-is_clear.true)
