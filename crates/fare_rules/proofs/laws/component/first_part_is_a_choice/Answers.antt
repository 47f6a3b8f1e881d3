use Rattle.fare_rules.proofs.LawfulLemmas.{kept}
use Rattle.fare_rules.proofs.FirstPartLemmas.{first_is_choice}
use Rattle.fare_rules.proofs.laws.component.first_part_is_a_choice.Goals as goal

pub returns : goal.returns
returns c tariff trip parts price some lawful = first_is_choice tariff trip parts some (kept tariff trip parts price lawful)
