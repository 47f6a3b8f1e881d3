use Rattle.std.proofs.Common.{◌≡◌, ◌≤◌, length, ap, ◌∙◌, arith}
use Rattle.fare_trip.specs.Itinerary.{count}
use Rattle.fare_branch.specs.Beginnings.{outward}
use Rattle.fare_branch.proofs.ChoiceLemmas.{choices_to_all, count_more, few_outward}
use Rattle.fare_branch.proofs.pieces.choices.Goals as goal

pub overflow_cast-total : goal.overflow_cast-total
overflow_cast-total c =
    let few : length (outward c.entries.result.now) ≤ length c.entries.result.now = few_outward c.entries.result.now in
    omega arith

pub overflow_add-total : goal.overflow_add-total
overflow_add-total c =
    let few : length (outward c.entries.result.now) ≤ length c.entries.result.now = few_outward c.entries.result.now in
    omega arith

pub loop-end-preserved : goal.loop-end-preserved
loop-end-preserved c =
    let n : c.count-sectors.result ≡ count c.args.table.now.trip = c.count-sectors.ensures.value ∙ ap count c.trip.ensures in
    let few : length (outward c.entries.result.now) ≤ length c.entries.result.now = few_outward c.entries.result.now in
    record {
      counted = rw c.count_of.ensures (count_more c.args.table.now.edition c.args.table.now.trip c.loop-end.end c.loop-end.total c.entries.result.now c.loop-end.auto.end (omega arith) c.entries.ensures.entries c.loop-end.invariant.counted);
      few = omega arith;
    }

pub returns : goal.returns
returns c =
    let n : c.count-sectors.result ≡ count c.args.table.now.trip = c.count-sectors.ensures.value ∙ ap count c.trip.ensures in
    c.loop-end.invariant.counted ∙ ap length (choices_to_all c.args.table.now.edition c.args.table.now.trip c.loop-end.end (omega arith))
