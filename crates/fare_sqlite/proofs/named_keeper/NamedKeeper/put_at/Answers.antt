use Rattle.std.proofs.Common.{◌∙◌, ap, sym}
use Rattle.fare_sqlite.specs.Named.{NamedState}
use Rattle.fare_sqlite.proofs.Told.{told_found}
use Rattle.fare_sqlite.proofs.named_keeper.NamedKeeper.put_at.Goals as goal

pub replace-requires-clause-place : goal.replace-requires-clause-place
replace-requires-clause-place g c =
    told_found g.A.Store g.O.Opener.bodies c.args.self.now c.in-Some.table
    (ap (λ (k : NamedState _). k.is_as_found) (sym c.self.view_is) ∙ c.if-is_told.true)
    (ap (λ (k : NamedState _). k.table) (sym c.self.view_is) ∙ c.in-Some.is) c.requires.place
