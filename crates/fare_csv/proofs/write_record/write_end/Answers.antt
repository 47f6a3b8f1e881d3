use Rattle.std.proofs.Common.{refl}
use Rattle.fare_csv.specs.Lines.{is_plain_row}
use Rattle.fare_csv.proofs.write_record.write_end.Goals as goal

pub write-requires : goal.write-requires
unfolding is_plain_row
write-requires c =
    rw c.as_slice.ensures refl
