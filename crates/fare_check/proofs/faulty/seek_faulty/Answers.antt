-- the places are those of the list
use Rattle.std.proofs.Common.{◌≡◌, ◌<◌, ◌-◌, filter, length, ap, ◌∙◌, arith}
use Rattle.std.specs.List.{range_with_len}
use Rattle.rayon.specs.Numbers.{nat_range}
use Rattle.rayon.proofs.ListFacts.{IfOk-then}
use Rattle.rayon.proofs.ToStd.{answers-by_ref, filter_by_mask-filter, nat_range-All}
use Rattle.fare_records.specs.declared.limits.TheConstants.{MOST_PLACES}
use Rattle.fare_tariff.specs.Faulty.{has_kind_at}
use Rattle.fare_check.specs.Faults.{faulty_from}
use Rattle.fare_check.proofs.faulty.seek_faulty.Goals as goal

pub collect-requires-clause-ready : goal.collect-requires-clause-ready
collect-requires-clause-ready g c κs within =
    let ends = c.into_par_iter.ensures in
    let inside = nat_range-All (λ i. (i < length c.args.filed.now) × (i < MOST_PLACES)) 0 c.args.count
    (λ i low high. (omega (arith, high, c.requires.count), omega (arith, high, c.requires.in_limit))) in
    rw (c.filter.ensures.base, c.filter.ensures.f, ends.0, ends.1) (λ k d lt. (λ r e. rw e (inside k d lt), λ y. tt))

pub returns : goal.returns
unfolding faulty_from
returns g c =
    let ends = c.into_par_iter.ensures in
    let all = c.args.filed.now in
    let whole : c.args.count - 0 ≡ length all - 0 = omega (arith, c.requires.count) in
    IfOk-then c.collect.result _ _ c.collect.ensures (λ v h.
    let chain = rw (c.filter.ensures.base, c.filter.ensures.f) at h.1 in
    let places = chain.2 ∙ (λ i. nat_range (ends.0 i) (ends.1 i)) ∙ ap (range_with_len 0) whole in
    h.2 ∙ chain.4 ∙ filter_by_mask-filter (has_kind_at all) chain.0 chain.1 (answers-by_ref (has_kind_at all) chain.0 chain.1 chain.3)
    ∙ ap (filter (has_kind_at all)) places)
