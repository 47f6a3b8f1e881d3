use Rattle.std.proofs.Common.{◌≡◌, ◌+◌, ◌-◌, subst, ◌∙◌, ap, arith, length-set, replicate}
use Rattle.std.specs.Prelude.{ℕ, Option, Some, None}
use Rattle.fare_trip.specs.Itinerary.{count}
use Rattle.fare_bounds.specs.Search.{AreRestsFrom}
use Rattle.fare_bounds.proofs.BoundLemmas.{rests_at_end, bounds_at_end, put_rest, put_bound}
use Rattle.fare_bounds.proofs.rest.Rest.of.Goals as goal

pub loop-i-init : goal.loop-i-init
loop-i-init c =
    let tariff = c.args.table.now.edition in
    let trip = c.args.table.now.trip in
    let last : c.count-count.result ≡ count trip = c.count-count.ensures.value ∙ ap count c.trip.ensures in
    record {
      long = length-set {A = Option ℕ} (replicate 17 None) c.count-count.result (Some 0);
      known = rw last (rests_at_end tariff trip 17 c.entries_are_of_fares.ensures (omega arith));
      bounds = bounds_at_end c.count-count.result 17 (omega arith);
    }

pub loop-i-preserved : goal.loop-i-preserved
loop-i-preserved c =
    let tariff = c.args.table.now.edition in
    let trip = c.args.table.now.trip in
    let rests = c.loop-i.least in
    let place = c.loop-i.i - 1 in
    let next : c.loop-i.i ≡ place + 1 = omega arith in
    record {
      long = length-set rests place c.rest_from.result ∙ c.loop-i.invariant.long;
      known = put_rest tariff trip rests place c.rest_from.result (omega (arith, c.loop-i.invariant.long)) (subst (λ first. AreRestsFrom tariff trip first rests) next c.loop-i.invariant.known) c.rest_from.ensures.least;
      bounds = put_bound rests place c.rest_from.result (omega (arith, c.loop-i.invariant.long)) c.loop-i.invariant.bounds c.rest_from.ensures.bound;
    }
