-- one step from a record with the key to the next
use Rattle.std.proofs.Common.{◌≡◌, ◌+◌, true, false, ◌||◌, drop, get_or, IfSome, ap, subst, sym, ◌∙◌}
use Rattle.std.specs.List.{position_from}
use Rattle.fare_records.specs.Keyed.{own_key, has_own_key}
use Rattle.fare_records.proofs.Chain.{IsKeyed, from_first, from_place, keyed_first, walk_here, walk_step}
use Rattle.fare_changes.specs.SameRecord.{same_record}
use Rattle.fare_changes.specs.Diff.{is_in}
use Rattle.fare_changes.proofs.HeldLemmas.{in_looks, in_rest}
use Rattle.fare_changes.proofs.held.place_by_key.Goals as goal

pub loop-at-init : goal.loop-at-init
loop-at-init c =
    let all = c.args.filed.now in
    let one = c.args.one.now in
    let found : c.first-at.result ≡ position_from (has_own_key (own_key one)) 0 all =
    c.first-at.ensures ∙ ap (λ k. position_from (has_own_key k) 0 all) c.key.ensures.key in
    record {
      keyed = keyed_first (own_key one) all c.first-at.result found;
      same = from_first (in_rest one) false (own_key one) (in_looks one) all c.first-at.result found;
    }

pub next-at-requires : goal.next-at-requires
next-at-requires c =
    let keyed : IsKeyed (own_key c.args.one.now) c.args.filed.now c.in-Some.place =
    subst (λ o. IfSome o (IsKeyed (own_key c.args.one.now) c.args.filed.now)) c.in-Some.is c.loop-at.invariant.keyed in
    keyed.within

pub returns-then-same_record : goal.returns-then-same_record
returns-then-same_record c =
    let all = c.args.filed.now in
    let one = c.args.one.now in
    let other = c.index-records-place.result in
    let read : c.index-records-place.result ≡ get_or c.args.filed.now c.in-Some.place c.index-records-place.result =
    c.index-records-place.is ∙ ap (λ l. get_or l c.in-Some.place other) c.records.ensures.records in
    let passes : true ≡ same_record one c.index-records-place.result = c.if-same_record.ensures in
    ap (λ b. b || is_in (drop (c.in-Some.place + 1) all) one) passes
    ∙ sym (walk_here (in_rest one) false (own_key one) all c.loop-at.at c.in-Some.place other c.in-Some.is c.loop-at.invariant.keyed read)
    ∙ c.loop-at.invariant.same

pub loop-at-smaller : goal.loop-at-smaller
loop-at-smaller c =
    let all = c.args.filed.now in
    let one = c.args.one.now in
    let other = c.index-records-place.result in
    let read : c.index-records-place.result ≡ get_or c.args.filed.now c.in-Some.place c.index-records-place.result =
    c.index-records-place.is ∙ ap (λ l. get_or l c.in-Some.place other) c.records.ensures.records in
    (walk_step (in_rest one) false (own_key one) (in_looks one) all c.loop-at.at c.next-at.result c.in-Some.place other c.in-Some.is c.loop-at.invariant.keyed read (c.next-at.ensures other)).shorter

pub loop-at-preserved : goal.loop-at-preserved
loop-at-preserved c =
    let all = c.args.filed.now in
    let one = c.args.one.now in
    let other = c.index-records-place.result in
    let read : c.index-records-place.result ≡ get_or c.args.filed.now c.in-Some.place c.index-records-place.result =
    c.index-records-place.is ∙ ap (λ l. get_or l c.in-Some.place other) c.records.ensures.records in
    let step = walk_step (in_rest one) false (own_key one) (in_looks one) all c.loop-at.at c.next-at.result c.in-Some.place other c.in-Some.is c.loop-at.invariant.keyed read (c.next-at.ensures other) in
    let fails : same_record one other ≡ false = sym c.if-same_record.ensures in
    record {
      keyed = step.keyed;
      same = step.there
          ∙ ap (λ b. b || is_in (drop (c.in-Some.place + 1) all) one) (sym fails)
          ∙ sym step.here
          ∙ c.loop-at.invariant.same;
    }

pub returns : goal.returns
returns c =
    ap (from_place (in_rest c.args.one.now) false (own_key c.args.one.now) c.args.filed.now) (sym c.in_default.is)
    ∙ c.loop-at.invariant.same
