-- The buckets of records that a walk has passed.
use Rattle.std.proofs.Common.{◌≡◌, ◌<◌, Bool, true, false, cond, refl, ap, sym, ◌∙◌, arith}
use Rattle.fare_codes.specs.declared.city.City.{City}
use Rattle.fare_index.specs.Pairs.{greater, is_less, lesser}
use Rattle.fare_records.specs.declared.record.Record.{Record}
use Rattle.fare_records.specs.declared.record.Record.TheVariants as filed
use Rattle.fare_records.specs.Keyed.{own_key}
use Rattle.fare_records.specs.Record.{FareRecord}
use Rattle.fare_tariff.specs.Seen.{bucket_of_own, bucket_of_pair, bucket_of_record}

-- the bucket of two cities is that of the lesser and the greater
pub of_ordered : (a b : City) → bucket_of_pair a b ≡ bucket_of_pair (lesser a b) (greater a b)
of_ordered a b = go (is_less a b)
  where
    go : (t : Bool) → bucket_of_pair a b ≡ bucket_of_pair (cond t a b) (cond t b a)
    go true = refl
    go false = omega arith

-- a bucket is one of all
pub small : (one : Record) → bucket_of_record one < 61
small (filed.City r) = omega arith
small (filed.Cur r) = omega arith
small (filed.Rule r) = omega arith
small (filed.Fare r) = omega arith
small (filed.Mpm r) = omega arith
small (filed.Tpm r) = omega arith
small (filed.Ema r) = omega arith

-- that of a record other than a fare is that of its key
by_own : (one : Record) → ((fare : FareRecord) → one ≡ filed.Fare fare → ⊥) → bucket_of_record one ≡ bucket_of_own (own_key one)
by_own (filed.City r) isnt = refl
by_own (filed.Cur r) isnt = refl
by_own (filed.Rule r) isnt = refl
by_own (filed.Fare r) isnt = absurd (isnt r refl)
by_own (filed.Mpm r) isnt = refl
by_own (filed.Tpm r) isnt = refl
by_own (filed.Ema r) isnt = refl

-- a record with the key of one that is no fare is none
no_fare : (one other : Record) → ((fare : FareRecord) → one ≡ filed.Fare fare → ⊥) → own_key one ≡ own_key other → (fare : FareRecord) → other ≡ filed.Fare fare → ⊥
no_fare one other isnt own fare is = go one isnt (own ∙ ap own_key is)
  where
    go : (one : Record) → ((fare : FareRecord) → one ≡ filed.Fare fare → ⊥) → own_key one ≡ own_key (filed.Fare fare) → ⊥
    go (filed.City r) isnt h = cc
    go (filed.Cur r) isnt h = cc
    go (filed.Rule r) isnt h = cc
    go (filed.Fare r) isnt h = isnt r refl
    go (filed.Mpm r) isnt h = cc
    go (filed.Tpm r) isnt h = cc
    go (filed.Ema r) isnt h = cc

-- records other than fares with one key share a bucket
pub one_bucket : (one other : Record) → ((fare : FareRecord) → one ≡ filed.Fare fare → ⊥) → own_key one ≡ own_key other → bucket_of_record one ≡ bucket_of_record other
one_bucket one other isnt own =
    by_own one isnt ∙ ap bucket_of_own own ∙ sym (by_own other (no_fare one other isnt own))
