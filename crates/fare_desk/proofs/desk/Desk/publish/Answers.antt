use Rattle.fare_desk.proofs.PublishingLemmas.{no-room}
use Rattle.fare_desk.proofs.desk.Desk.publish.Goals as goal

pub returns-in_default-clause-publication : goal.returns-in_default-clause-publication
returns-in_default-clause-publication g c = no-room _ _
