use Rattle.std.proofs.Common.{refl}
use Rattle.fare_rules.proofs.FreeLemmas.{applicable_freely, free_stay}
use Rattle.fare_rules.proofs.laws.free.free_rule_asks_nothing.Goals as goal

pub returns-clause-applicable : goal.returns-clause-applicable
returns-clause-applicable c = applicable_freely

pub returns-clause-stay : goal.returns-clause-stay
returns-clause-stay c = free_stay

pub returns-clause-in_a_unit : goal.returns-clause-in_a_unit
returns-clause-in_a_unit c tariff = refl

pub returns-clause-end_on_end : goal.returns-clause-end_on_end
returns-clause-end_on_end c tariff = refl
