use Rattle.std.proofs.Common.{arith}
use Rattle.fare_csv.proofs.NameLemmas.{few-short}
use Rattle.fare_csv.proofs.name_list.read_list.Goals as goal

pub returns-clause-short : goal.returns-clause-short
returns-clause-short c =
    few-short c.names_of.result c.args.bytes.now (rw (← c.spaces_of.ensures) (omega arith)) (rw (c.as_slice.ensures.value, c.in_ok-pieces.ensures) at c.names_of.ensures)
