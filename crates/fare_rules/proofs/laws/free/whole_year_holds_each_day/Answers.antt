use Rattle.fare_rules.proofs.FreeLemmas.{whole_year_in_season}
use Rattle.fare_rules.proofs.laws.free.whole_year_holds_each_day.Goals as goal

pub returns : goal.returns
returns c = whole_year_in_season
