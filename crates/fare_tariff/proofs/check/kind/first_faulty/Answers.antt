-- the places are those of the list
use Rattle.std.proofs.Common.{◌≡◌, ◌+◌, ◌<◌, ◌-◌, ◌^◌, ℕ, All, length, refl, ap, subst, sym, ◌∙◌, arith, zero, suc}
use Rattle.std.specs.List.{position_from, range_with_len}
use Rattle.std.proofs.lemmas.Iterator.Adapters.{position_from-zero}
use Rattle.fare_tariff.specs.Faulty.{has_kind_at}
use Rattle.rayon.specs.Numbers.{nat_range}
use Rattle.rayon.proofs.ToStd.{nat_range-All, first_true-position}
use Rattle.fare_tariff.proofs.check.kind.first_faulty.Goals as goal

pub position_first-requires-clause-items : goal.position_first-requires-clause-items
position_first-requires-clause-items g c κs within =
    let ends = c.into_par_iter.ensures in
    let n = length c.args.filed.now in
    let last : c.into_par_iter.result.end ≡ n = ends.1 ∙ ap length c.records.ensures.records in
    let places : nat_range c.into_par_iter.result.start c.into_par_iter.result.end ≡ nat_range 0 n = λ i. nat_range (ends.0 i) (last i) in
    subst (λ l. All (λ i. i < n) l) (sym places) (nat_range-All (λ i. i < n) 0 n (λ i low high. high))

-- a range has as many numbers as it counts
length_range : (from count : ℕ) → length (range_with_len from count) ≡ count
length_range from zero = refl
length_range from (suc count) = ap suc (length_range (from + 1) count)

pub returns : goal.returns
returns g c =
    let ends = c.into_par_iter.ensures in
    let n = length c.args.filed.now in
    let last : c.into_par_iter.result.end ≡ n = ends.1 ∙ ap length c.records.ensures.records in
    let whole : n - 0 ≡ n = omega arith in
    let found = c.position_first.ensures in
    let places : found.0 ≡ range_with_len 0 n = found.2 ∙ (λ i. nat_range (ends.0 i) (last i)) ∙ ap (range_with_len 0) whole in
    let count : length found.0 ≡ n = ap length places ∙ length_range 0 n in
    let small : length found.0 < 2 ^ 64 = omega (arith, count, c.records.type_inv.0, ap length c.records.ensures.records) in
    found.4
    ∙ first_true-position (has_kind_at c.args.filed.now) found.0 found.1 found.3 small
    ∙ position_from-zero (has_kind_at c.args.filed.now) found.0
    ∙ ap (position_from (has_kind_at c.args.filed.now) 0) places
