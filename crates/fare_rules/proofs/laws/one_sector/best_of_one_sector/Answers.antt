use Rattle.fare_rules.proofs.CheapestLemmas.{best_of_cheapest, cheapest_of_best, none_without_fare, no_fare_without_lawful}
use Rattle.fare_rules.proofs.laws.one_sector.best_of_one_sector.Goals as goal

pub returns-clause-best : goal.returns-clause-best
returns-clause-best c tariff trip number price one cheapest = best_of_cheapest tariff trip one number price cheapest

pub returns-clause-cheapest : goal.returns-clause-cheapest
returns-clause-cheapest c tariff trip parts price one best = cheapest_of_best tariff trip one parts price best

pub returns-clause-none : goal.returns-clause-none
returns-clause-none c tariff trip one none = none_without_fare tariff trip one none

pub returns-clause-no_fare : goal.returns-clause-no_fare
returns-clause-no_fare c tariff trip one none = no_fare_without_lawful tariff trip one none
