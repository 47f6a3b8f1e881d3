use Rattle.std.proofs.Common.{◌≡◌, ◌+◌, subst, sym, ◌∙◌, ap, arith}
use Rattle.fare_trip.specs.Itinerary.{count}
use Rattle.fare_bounds.specs.Covers.{IsLeast, rest_at}
use Rattle.fare_bounds.specs.Search.{GoesOn, IsBefore}
use Rattle.fare_bounds.proofs.BoundLemmas.{sum_bound}
use Rattle.fare_bounds.proofs.CostLemmas.{lesser_bound}
use Rattle.fare_bounds.proofs.CoverLemmas.{least_first, least_next, least_whole}
use Rattle.fare_bounds.proofs.rest.rest_from.Goals as goal

pub loop-b-init : goal.loop-b-init
loop-b-init c = record {
  least = rw (c.begin_after-a.ensures.value, c.trip-trip.ensures) (least_first c.args.table.now.edition c.args.table.now.trip c.args.i c.entries_are_of_fares.ensures);
  bound = tt;
}

pub loop-b-preserved : goal.loop-b-preserved
loop-b-preserved c =
    let tariff = c.args.table.now.edition in
    let trip = c.args.table.now.trip in
    let rest = rest_at c.args.rests.now c.loop-b.b in
    record {
      least = rw (c.lesser-least.ensures, c.sum_of.ensures.value, c.cheapest.ensures.value, c.entries.ensures.entries, c.begin_after-a.ensures.value, c.trip-trip.ensures)
          (least_next tariff trip c.args.i c.loop-b.b c.loop-b.least rest c.loop-b.invariant.least (c.requires.later c.loop-b.b (omega arith)));
      bound = rw (c.lesser-least.ensures, c.sum_of.ensures.value)
          (lesser_bound c.loop-b.least _ _ c.loop-b.invariant.bound (sum_bound c.cheapest.result rest c.args.i c.loop-b.b (omega arith) (omega arith) c.cheapest.ensures.bound (c.requires.bounds c.loop-b.b)));
    }

pub returns-clause-least : goal.returns-clause-least
returns-clause-least c =
    let tariff = c.args.table.now.edition in
    let trip = c.args.table.now.trip in
    let length : c.count-count.result ≡ count trip = c.count-count.ensures.value ∙ ap count c.trip-trip.ensures in
    let end : c.loop-b.b ≡ count trip + 1 = omega arith in
    least_whole tariff trip c.args.i c.entries_are_of_fares.ensures c.requires.within c.loop-b.least
    (subst (λ past. IsLeast (GoesOn tariff trip c.args.i (IsBefore past)) c.loop-b.least) end c.loop-b.invariant.least)
