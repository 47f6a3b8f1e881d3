use Rattle.std.proofs.Common.{refl}
use Rattle.fare_csv.proofs.FieldAt.{unwrap_or-lent}
use Rattle.fare_csv.proofs.rows.Row.field.Goals as goal

pub returns : goal.returns
returns c = rw (c.unwrap_or.ensures, ← c.self.view_is) (unwrap_or-lent c.get.result _ _ c.args.index refl c.get.ensures.value)
