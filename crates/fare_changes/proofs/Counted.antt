-- How many records are removed, added and the same.
use Rattle.std.proofs.Common.{◌≡◌, ◌+◌, length, refl, arith}
use Rattle.std.proofs.lemmas.List.Sums.{length-filter}
use Rattle.std.proofs.lemmas.List.Sorted.{length_permutation}
use Rattle.std.proofs.lemmas.List.Filters.{length-filter_both}
use Rattle.fare_tariff.specs.Tariff.{Tariff}
use Rattle.fare_changes.specs.Diff.{is_in, is_missing, added, removed, same_count}
use Rattle.fare_changes.proofs.Shuffled.{StandOnce, in_common}

-- a record of the one edition is removed or the same
pub same_left : (old new : Tariff) → length (removed old new) + same_count old new ≡ length old.records
same_left old new =
    omega (arith, length-filter_both (is_in new.records) (is_missing new.records) (λ x. refl) old.records, length-filter (is_in new.records) old.records)

-- a record of the other edition is added or the same
pub same_right : (old new : Tariff) → StandOnce old.records → StandOnce new.records → length (added old new) + same_count old new ≡ length new.records
same_right old new once others =
    omega (
      arith,
      length-filter_both (is_in old.records) (is_missing old.records) (λ x. refl) new.records,
      length-filter (is_in new.records) old.records,
      length_permutation _ _ (in_common old.records new.records once others),
    )
