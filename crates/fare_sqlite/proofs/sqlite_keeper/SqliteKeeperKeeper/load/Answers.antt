use Rattle.std.proofs.Common.{sym, subst}
use Rattle.std.specs.Option.{ForSome}
use Rattle.sqlite.specs.Held.{state}
use Rattle.fare_ports.specs.Keeper.{HasPlace}
use Rattle.fare_sqlite.specs.Kept.{kept}
use Rattle.fare_sqlite.proofs.sqlite_keeper.SqliteKeeperKeeper.load.Goals as goal

pub load-answer-requires-clause-place : goal.load-answer-requires-clause-place
load-answer-requires-clause-place g c = subst (λ k. ForSome (kept (state g.S.Store k.conn)) (HasPlace c.args.place)) (sym c.self.view_is) c.requires.place
