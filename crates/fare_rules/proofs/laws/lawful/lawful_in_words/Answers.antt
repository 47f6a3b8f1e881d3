use Rattle.fare_rules.proofs.LawfulLemmas.{unbroken}
use Rattle.fare_rules.proofs.RuleLemmas.{price_where_met, met_where_unbroken}
use Rattle.fare_rules.proofs.laws.lawful.lawful_in_words.Goals as goal

pub returns-clause-priced : goal.returns-clause-priced
returns-clause-priced c = price_where_met

pub returns-clause-met : goal.returns-clause-met
returns-clause-met c tariff trip parts cost lawful =
    met_where_unbroken tariff trip parts (unbroken tariff trip parts cost lawful)
