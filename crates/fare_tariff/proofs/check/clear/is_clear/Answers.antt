-- each strip is asked, and each place is of one
use Rattle.std.proofs.Common.{◌≡◌, ℕ, ◌/◌, ◌%◌, ◌<◌, All, length, refl, ap, subst, sym, ◌∙◌, arith}
use Rattle.std.specs.List.{range_with_len}
use Rattle.rayon.specs.Numbers.{nat_range}
use Rattle.rayon.proofs.ToStd.{nat_range-All}
use Rattle.fare_tariff.proofs.Strips.{clear_everywhere, each_of_range}
use Rattle.fare_tariff.specs.Faulty.{IsClearAt}
use Rattle.fare_tariff.proofs.check.clear.is_clear.Goals as goal

pub any-requires-clause-items : goal.any-requires-clause-items
any-requires-clause-items g c κs within = λ k d low.
    let ends = c.into_par_iter.ensures in
    let first : c.with_min_len.result.base.start ≡ 0 = ap (λ b. b.start) c.with_min_len.ensures.base ∙ ends.0 in
    let last : c.with_min_len.result.base.end ≡ 64 = ap (λ b. b.end) c.with_min_len.ensures.base ∙ ends.1 in
    let strips : nat_range c.with_min_len.result.base.start c.with_min_len.result.base.end ≡ nat_range 0 64 = λ i. nat_range (first i) (last i) in
    (subst (λ l. All (λ i. i < 64) l) (sym strips) (nat_range-All (λ i. i < 64) 0 64 (λ i low high. high)) k d low, c.groups-groups.ensures)

pub returns : goal.returns
returns g c = λ none.
    let ends = c.into_par_iter.ensures in
    let first : c.with_min_len.result.base.start ≡ 0 = ap (λ b. b.start) c.with_min_len.ensures.base ∙ ends.0 in
    let last : c.with_min_len.result.base.end ≡ 64 = ap (λ b. b.end) c.with_min_len.ensures.base ∙ ends.1 in
    let asked = c.any.ensures in
    let strips : asked.0 ≡ range_with_len 0 64 = asked.1 ∙ (λ i. nat_range (first i) (last i)) in
    let all = c.args.filed.now in
    clear_everywhere c.args.filed.now c.groups-groups.result (λ place within.
    each_of_range _ (λ strip. (q : ℕ) → q / 64 % 64 ≡ strip → q < length c.args.filed.now → IsClearAt c.args.filed.now c.groups-groups.result q) 64 asked.0 c.any.result asked.2 strips none
    (place / 64 % 64) (omega arith) place refl within)
