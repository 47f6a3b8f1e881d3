use Rattle.fare_homing.proofs.OnwardLemmas.{no_onwards}
use Rattle.fare_homing.proofs.onward.without_barred.Goals as goal

pub returns : goal.returns
returns c tariff trip closing jaw whole are = no_onwards tariff trip closing jaw whole c.args.rest.now are
