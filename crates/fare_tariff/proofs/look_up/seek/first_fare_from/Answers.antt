-- one step from a fare between the key's cities to the next
use Rattle.std.proofs.Common.{◌≡◌, ◌+◌, true, false, cond, drop, get_or, Some, None, ap, sym, ◌∙◌}
use Rattle.std.specs.List.{position_from}
use Rattle.std.proofs.lemmas.Iterator.Adapters.{position_from-zero}
use Rattle.fare_index.specs.declared.key.Key.TheVariants.{Fares}
use Rattle.fare_tariff.specs.Sought.{is_sought}
use Rattle.fare_records.proofs.Chain.{from_place, keyed_first, from_first, walk_step, walk_here}
use Rattle.fare_tariff.proofs.Looks.{sought_looks}
use Rattle.fare_tariff.proofs.look_up.seek.first_fare_from.Goals as goal

pub loop-at-init : goal.loop-at-init
loop-at-init c = record {
  keyed = keyed_first _ _ _ c.requires;
  same = from_first _ _ _ (sought_looks c.args.key.now c.args.sought.now) c.args.filed.now c.args.first c.requires;
}

pub returns-then-is_sought-clause-place : goal.returns-then-is_sought-clause-place
returns-then-is_sought-clause-place c =
    let t = is_sought c.args.key.now c.args.sought.now in
    let read : c.index-records-place.result ≡ get_or c.args.filed.now c.in-Some.place c.index-records-place.result = c.index-records-place.is ∙ ap (λ l. get_or l c.in-Some.place c.index-records-place.result) c.records.ensures.records in
    let passes : true ≡ t c.index-records-place.result = c.if-is_sought.ensures in
    ap (λ b. cond b (Some c.in-Some.place) (position_from t (c.in-Some.place + 1) (drop (c.in-Some.place + 1) c.args.filed.now))) passes
    ∙ sym (walk_here (position_from t) None _ c.args.filed.now c.loop-at.at c.in-Some.place c.index-records-place.result c.in-Some.is c.loop-at.invariant.keyed read)
    ∙ c.loop-at.invariant.same
    ∙ sym (position_from-zero t c.args.filed.now)

pub loop-at-smaller : goal.loop-at-smaller
loop-at-smaller c =
    let read : c.index-records-place.result ≡ get_or c.args.filed.now c.in-Some.place c.index-records-place.result = c.index-records-place.is ∙ ap (λ l. get_or l c.in-Some.place c.index-records-place.result) c.records.ensures.records in
    (walk_step _ _ _ (sought_looks c.args.key.now c.args.sought.now) c.args.filed.now c.loop-at.at c.next-at.result c.in-Some.place c.index-records-place.result c.in-Some.is c.loop-at.invariant.keyed read (c.next-at.ensures c.index-records-place.result)).shorter

pub loop-at-preserved : goal.loop-at-preserved
loop-at-preserved c =
    let t = is_sought c.args.key.now c.args.sought.now in
    let read : c.index-records-place.result ≡ get_or c.args.filed.now c.in-Some.place c.index-records-place.result = c.index-records-place.is ∙ ap (λ l. get_or l c.in-Some.place c.index-records-place.result) c.records.ensures.records in
    let step = walk_step _ _ _ (sought_looks c.args.key.now c.args.sought.now) c.args.filed.now c.loop-at.at c.next-at.result c.in-Some.place c.index-records-place.result c.in-Some.is c.loop-at.invariant.keyed read (c.next-at.ensures c.index-records-place.result) in
    let fails : t c.index-records-place.result ≡ false = sym c.if-is_sought.ensures in
    record {
      keyed = step.keyed;
      same = step.there
          ∙ ap (λ b. cond b (Some c.in-Some.place) (position_from t (c.in-Some.place + 1) (drop (c.in-Some.place + 1) c.args.filed.now))) (sym fails)
          ∙ sym step.here
          ∙ c.loop-at.invariant.same;
    }

pub returns-clause-place : goal.returns-clause-place
returns-clause-place c =
    let t = is_sought c.args.key.now c.args.sought.now in
    ap (from_place (position_from t) None (Fares c.args.key.now.from c.args.key.now.to c.args.key.now.ind) c.args.filed.now) (sym c.in_default.is)
    ∙ c.loop-at.invariant.same
    ∙ sym (position_from-zero t c.args.filed.now)
