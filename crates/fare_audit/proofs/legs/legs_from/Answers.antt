use Rattle.std.proofs.Common.{◌≡◌, ◌∙◌, ◌+◌, ◌-◌, ◌++◌, [], arith, refl, rules, sym, ap, append-nil, drop, length, take, List, ℕ}
use Rattle.std.proofs.lemmas.List.{length-append}
use Rattle.fare_line.specs.Line.{flown_count}
use Rattle.fare_audit.specs.declared.legs.Leg.{Leg}
use Rattle.fare_audit.specs.Legs.{part_legs}
use Rattle.fare_audit.proofs.LegLemmas.{leads_at, legs_past, legs_step, length-part_legs, shared_behind}
use Rattle.fare_audit.proofs.legs.legs_from.Goals as goal

pub loop-part-init : goal.loop-part-init
loop-part-init c =
    let none : c.new-legs.result.items ≡ [] = search rules in
    record { room = ap length none; within = omega arith; shared = c.requires; all = rw none refl }

pub overflow_sub-flown : goal.overflow_sub-flown
overflow_sub-flown c =
    let lead = leads_at _ _ c.args.parts.now _ c.part-item.result c.loop-part-test.true c.part-item.is c.loop-part.invariant.shared in
    omega (arith, lead.begins, c.gap_count.ensures)

pub split_at-requires : goal.split_at-requires
split_at-requires c =
    let lead = leads_at _ _ c.args.parts.now _ c.part-item.result c.loop-part-test.true c.part-item.is c.loop-part.invariant.shared in
    omega (arith, lead.fits, c.gap_count.ensures)

pub push_part-requires : goal.push_part-requires
push_part-requires c =
    let lead = leads_at _ _ c.args.parts.now _ c.part-item.result c.loop-part-test.true c.part-item.is c.loop-part.invariant.shared in
    let held : length c.loop-part.legs.items ≡ c.loop-part.begun = c.loop-part.invariant.room in
    omega (arith, lead.begins, lead.ends, c.gap_count.ensures, c.split_at.ensures.front_len, held)

pub loop-part-preserved : goal.loop-part-preserved
loop-part-preserved c =
    let lead = leads_at _ _ c.args.parts.now _ c.part-item.result c.loop-part-test.true c.part-item.is c.loop-part.invariant.shared in
    let count : c.part-item.result.end - (c.loop-part.begun + c.gap_count.result) ≡ flown_count c.loop-part.begun c.part-item.result = ap (λ (k : ℕ). c.part-item.result.end - (c.loop-part.begun + k)) c.gap_count.ensures in
    let front = c.split_at.ensures.front ∙ ap (λ (k : ℕ). take k c.loop-part.rest.now) count in
    let back = c.split_at.ensures.back ∙ ap (λ (k : ℕ). drop k c.loop-part.rest.now) count in
    let held : length c.loop-part.legs.items ≡ c.loop-part.begun = c.loop-part.invariant.room in
    let own = length-part_legs c.part-item.result.gap c.split_at.result.0.now in
    let longer = ap length c.push_part.ensures ∙ length-append c.loop-part.legs.items (part_legs c.part-item.result.gap c.split_at.result.0.now) in
    record {
      room = omega (arith, longer, own, held, c.split_at.ensures.front_len, lead.begins, c.gap_count.ensures);
      within = lead.ends;
      shared = shared_behind c.loop-part.begun c.loop-part.rest.now c.split_at.result.1.now c.part-item.result _ lead back;
      all = legs_step c.loop-part.legs.items _ c.loop-part.begun c.loop-part.rest.now c.split_at.result.0.now _ c.args.parts.now _ c.part-item.result c.loop-part-test.true c.part-item.is front back c.push_part.ensures ∙ c.loop-part.invariant.all;
    }

pub returns : goal.returns
returns c =
    let none = legs_past c.loop-part.begun c.loop-part.rest.now c.args.parts.now c.loop-part.part-index (omega arith) in
    sym (append-nil _) ∙ ap (λ (rest : List Leg). c.loop-part.legs.items ++ rest) (sym none) ∙ c.loop-part.invariant.all
