-- A number that was read from a field is in its range.
use Rattle.std.proofs.Common.{◌≡◌, ◌≤◌, ℕ, Option, Some}
use Rattle.std.specs.Prelude.{IfSome}
use Rattle.fare_records.specs.declared.names.Names.{Names}
use Rattle.fare_records.specs.Record.{name_count}

pub most-of : (o : Option ℕ) (n most : ℕ) → o ≡ Some n → IfSome o (λ n. n ≤ most) → n ≤ most
most-of o n most e bound = rw e at bound

pub names-short : (o : Option Names) (names : Names) → o ≡ Some names → IfSome o (λ all. name_count all ≤ 64) → name_count names ≤ 64
names-short o names e short = rw e at short
