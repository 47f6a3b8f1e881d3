use Rattle.std.proofs.Common.{subst}
use Rattle.fare_book.specs.Book.{BookState}
use Rattle.fare_counter.specs.Counter.{IsCounterAnswer}
use Rattle.fare_rounds.specs.Entries.{ViewsRound}
use Rattle.fare_serve.proofs.served_desk.ServedDeskRoundHandler.view.Goals as goal

pub returns : goal.returns
returns g c =
    subst (λ (book : BookState). ViewsRound (λ method path body reply. IsCounterAnswer book.editions method path body reply)
    c.args.round.now c.view_all.new.self) c.front.ensures c.view_all.ensures
