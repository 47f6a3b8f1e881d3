-- a column that begins where it ends has nothing
use Rattle.std.proofs.Common.{refl, arith}
use Rattle.fare_component.proofs.ColumnLemmas.{empty_column}
use Rattle.fare_component.proofs.table.columns.serving.Goals as goal

pub returns-else-first-column-clause-right : goal.returns-else-first-column-clause-right
returns-else-first-column-clause-right c = λ tariff trip form right.
    empty_column tariff trip form c.args.j (record { first = c.args.j; high = 0 }) (omega arith) refl

pub returns-in_default-clause-right : goal.returns-in_default-clause-right
returns-in_default-clause-right c = λ tariff trip form right.
    empty_column tariff trip form c.args.j (record { first = c.args.j; high = 0 }) (omega arith) refl
