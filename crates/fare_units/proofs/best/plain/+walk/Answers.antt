use Rattle.std.proofs.Common.{◌≡◌, ◌+◌, ◌-◌, ◌*◌, ◌<◌, List, length, ap, sym, subst, ◌∙◌, arith}
use Rattle.fare_trip.specs.Itinerary.{count}
use Rattle.fare_rules.specs.declared.part.Part.{Part}
use Rattle.fare_rules.specs.Construction.{end_of, greatest_unit, places}
use Rattle.fare_units.specs.Walk.{Walks, Completes, IsFront, is_fruitless}
use Rattle.fare_units.proofs.StepLemmas.{walk_whole, walk_further, ends_none, ends_more, ends_all, fares_none, fares_more, fares_over, fares_all, units_none, units_more, units_all, part_none, part_walked}
use Rattle.fare_units.proofs.FrontLemmas.{front_more, front_short, front_falls}
use Rattle.fare_units.proofs.best.plain.+walk.Goals as goal

pub walk-returns-then-end_of-count : goal.walk-returns-then-end_of-count
walk-returns-then-end_of-count t c =
    let P : List Part → Type 0 = λ xs. c.end_of.result ≡ end_of xs (length xs) in
    let end : c.end_of.result ≡ end_of c.args.front.now (length c.args.front.now) = subst P c.parts-parts.ensures.parts c.end_of.ensures.value in
    walk_whole c.args.edition.now c.args.trip.now c.args.front.now c.args.best c.take.result (omega arith) c.take.ensures

pub walk-returns : goal.walk-returns
walk-returns t c =
    let P : List Part → Type 0 = λ xs. c.end_of.result ≡ end_of xs (length xs) in
    let end : c.end_of.result ≡ end_of c.args.front.now (length c.args.front.now) = subst P c.parts-parts.ensures.parts c.end_of.ensures.value in
    walk_further c.args.edition.now c.args.trip.now c.args.front.now c.args.best c.walk_ends.result (omega arith) c.walk_ends.ensures

pub walk_ends-loop-end-init : goal.walk_ends-loop-end-init
walk_ends-loop-end-init t c = rw c.next_start-end.ensures.value (ends_none c.args.edition.now c.args.trip.now c.args.front.now c.args.best)

pub walk_ends-loop-end-preserved : goal.walk_ends-loop-end-preserved
walk_ends-loop-end-preserved t c = ends_more c.args.edition.now c.args.trip.now c.args.front.now c.loop-end.end c.args.best c.loop-end.best c.walk_fares-best.result c.loop-end.invariant c.walk_fares-best.ensures

pub walk_ends-returns : goal.walk_ends-returns
walk_ends-returns t c = ends_all c.args.edition.now c.args.trip.now c.args.front.now c.loop-end.end c.args.best c.loop-end.best (omega arith) c.loop-end.invariant

pub walk_fares-loop-number-init : goal.walk_fares-loop-number-init
walk_fares-loop-number-init t c = fares_none c.args.edition.now c.args.trip.now c.args.front.now c.args.end c.args.best

pub walk_fares-loop-number-preserved-then-not-may_serve : goal.walk_fares-loop-number-preserved-then-not-may_serve
walk_fares-loop-number-preserved-then-not-may_serve t c = fares_over c.args.edition.now c.args.trip.now c.args.front.now c.args.end c.loop-number.number c.args.best c.loop-number.best (cc) c.loop-number.invariant

pub walk_fares-loop-number-preserved : goal.walk_fares-loop-number-preserved
walk_fares-loop-number-preserved t c = fares_more c.args.edition.now c.args.trip.now c.args.front.now c.args.end c.loop-number.number c.args.best c.loop-number.best c.walk_units-best.result c.loop-number.invariant c.walk_units-best.ensures

pub walk_fares-returns : goal.walk_fares-returns
walk_fares-returns t c =
    let n : length c.records.result.now ≡ length c.args.edition.now.records = ap length c.records.ensures.records in
    fares_all c.args.edition.now c.args.trip.now c.args.front.now c.args.end c.loop-number.number c.args.best c.loop-number.best (omega arith) c.loop-number.invariant

pub walk_part-with-longer-requires : goal.walk_part-with-longer-requires
walk_part-with-longer-requires t c =
    let short : length c.args.front.now < count c.args.trip.now = front_short c.args.trip.now c.args.front.now c.args.part c.requires.front c.requires.rises c.requires.within in
    omega arith

pub walk_part-returns-then-is_fruitless : goal.walk_part-returns-then-is_fruitless
walk_part-returns-then-is_fruitless t c = part_none c.args.edition.now c.args.trip.now c.args.front.now c.args.part c.args.best
    (sym (ap (is_fruitless c.args.edition.now) (c.parts.ensures.parts ∙ c.with-longer.ensures)) ∙ sym c.is_fruitless.ensures ∙ c.if-is_fruitless.true)

pub walk_part-walk-requires : goal.walk_part-walk-requires
walk_part-walk-requires t c =
    let P : List Part → Type 0 = λ xs. IsFront c.args.trip.now xs in
    let Q : List Part → Type 0 = λ xs. 5 * (count c.args.trip.now - end_of xs (length xs)) + 4 < 5 * (count c.args.trip.now - end_of c.args.front.now (length c.args.front.now)) in
    let falls : 5 * (count c.args.trip.now - end_of c.with-longer.result (length c.with-longer.result)) + 4 < 5 * (count c.args.trip.now - end_of c.args.front.now (length c.args.front.now)) =
    subst Q (sym c.with-longer.ensures) (front_falls c.args.trip.now c.args.front.now c.args.part c.requires.rises c.requires.within) in
    (omega arith, subst P (sym c.with-longer.ensures) (front_more c.args.trip.now c.args.front.now c.args.part c.requires.front c.requires.rises c.requires.within c.requires.ordered))

pub walk_part-returns : goal.walk_part-returns
walk_part-returns t c = part_walked c.args.edition.now c.args.trip.now c.args.front.now c.args.part c.args.best c.walk.result
    (let P : List Part → Type 0 = λ xs. Walks c.args.edition.now c.args.trip.now (Completes xs) c.args.best c.walk.result in
    subst P c.with-longer.ensures c.walk.ensures)

pub walk_units-loop-unit-init : goal.walk_units-loop-unit-init
walk_units-loop-unit-init t c = units_none c.args.edition.now c.args.trip.now c.args.front.now c.args.end c.args.number c.args.best

pub walk_units-loop-unit-preserved : goal.walk_units-loop-unit-preserved
walk_units-loop-unit-preserved t c = units_more c.args.edition.now c.args.trip.now c.args.front.now (record { end = c.args.end; unit = c.loop-unit.unit; fare = c.args.number }) c.args.best c.loop-unit.best c.walk_part-best.result c.loop-unit.invariant c.walk_part-best.ensures

pub walk_units-returns : goal.walk_units-returns
walk_units-returns t c =
    let P : List Part → Type 0 = λ xs. c.greatest_unit-unit-end.result ≡ greatest_unit xs (places xs) in
    let most : c.greatest_unit-unit-end.result ≡ greatest_unit c.args.front.now (places c.args.front.now) = subst P c.parts-parts.ensures.parts c.greatest_unit-unit-end.ensures.value in
    units_all c.args.edition.now c.args.trip.now c.args.front.now c.args.end c.args.number c.loop-unit.unit c.args.best c.loop-unit.best (omega arith) c.loop-unit.invariant
