use Rattle.fare_rounds.proofs.OneLemmas.{one-exchange}
use Rattle.fare_rounds.proofs.laws.round_of_one.Goals as goal

pub returns : goal.returns
returns g c = λ first last old new exchanged round rose.
    one-exchange g.H.Handler.step first last old new exchanged round rose
