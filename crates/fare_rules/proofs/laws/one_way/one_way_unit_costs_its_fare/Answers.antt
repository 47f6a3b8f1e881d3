use Rattle.fare_rules.proofs.OneWayLemmas.{one_way_unit}
use Rattle.fare_rules.proofs.laws.one_way.one_way_unit_costs_its_fare.Goals as goal

pub returns : goal.returns
returns c = one_way_unit
