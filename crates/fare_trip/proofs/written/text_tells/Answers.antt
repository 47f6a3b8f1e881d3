use Rattle.fare_trip.proofs.TextLemmas.{text_tells}
use Rattle.fare_trip.proofs.written.text_tells.Goals as goal

pub returns : goal.returns
returns c = text_tells c.args.one.now c.args.other.now
