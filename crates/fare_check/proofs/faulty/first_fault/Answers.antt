-- the fault at the first faulty place
use Rattle.std.proofs.Common.{◌<◌, length, option_and_then, option_map, ap, sym, ◌∙◌, arith}
use Rattle.fare_tariff.specs.Faulty.{fault_of}
use Rattle.fare_csv.specs.CheckedFault.{checked_fault}
use Rattle.fare_check.proofs.PlacesLeft.{faulty_within, first_at, first_of_places}
use Rattle.fare_check.proofs.faulty.first_fault.Goals as goal

pub fault_at-requires-clause-within : goal.fault_at-requires-clause-within
fault_at-requires-clause-within c = faulty_within c.args.filed.now c.args.faulty.now c.in-Some.place.now c.requires.faulty c.in-Some.ensures.value

pub fault_at-requires-clause-in_limit : goal.fault_at-requires-clause-in_limit
fault_at-requires-clause-in_limit c = omega (arith, c.requires.in_limit, faulty_within c.args.filed.now c.args.faulty.now c.in-Some.place.now c.requires.faulty c.in-Some.ensures.value)

pub returns-in-None : goal.returns-in-None
returns-in-None c =
    sym (ap (option_map checked_fault) (first_of_places c.args.filed.now c.args.faulty.now c.requires.faulty ∙ ap (option_and_then (fault_of c.args.filed.now)) (sym c.in-None.ensures.value)))

pub returns-in-Some : goal.returns-in-Some
returns-in-Some c =
    let within : c.in-Some.place.now < length c.args.filed.now = faulty_within c.args.filed.now c.args.faulty.now c.in-Some.place.now c.requires.faulty c.in-Some.ensures.value in
    first_at c.args.filed.now c.args.faulty.now c.in-Some.place.now c.fault_at.result c.requires.faulty c.in-Some.ensures.value within c.fault_at.ensures
