-- When two editions are one.
use Rattle.std.proofs.Common.{◌≡◌, ◌≢◌, ◌↔◌, Bool, true, false, IsTrue}
use Rattle.fare_tariff.specs.Tariff.{Tariff}

-- editions of one number and one effective day with the same records are one
pub one_edition : (one other : Tariff) → one.number ≡ other.number → one.effective ≡ other.effective → one.records ≡ other.records → one ≡ other
one_edition one other number effective records i =
    record { number = number i; effective = effective i; records = records i }

-- editions that a test tells apart aren't one
pub isnt : (one other : Tariff) (test : Bool) → IsTrue test ↔ (one ≡ other) → test ≡ false → one ≢ other
isnt one other true same off is = absurd cc
isnt one other false same off is = let on = same.1 is in absurd cc
