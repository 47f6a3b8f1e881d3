use Rattle.std.proofs.Common.{◌≡◌, ◌∙◌, ◌+◌, ◌-◌, ◌++◌, arith, sym, ap, append-nil, drop, take, List, ℕ}
use Rattle.fare_line.specs.Line.{flown_count}
use Rattle.fare_line.proofs.PartLemmas.{leads_at, priced_amount, rest_at, text_past, text_step}
use Rattle.fare_line.proofs.printing.push_parts.Goals as goal

pub overflow_add-flown : goal.overflow_add-flown
overflow_add-flown c =
    let lead = leads_at _ _ c.args.parts.now _ c.part-item.result c.loop-part-test.true c.part-item.is c.loop-part.invariant.shared in
    omega (arith, lead.begins, lead.ends, c.gap_count.ensures)

pub overflow_sub-flown : goal.overflow_sub-flown
overflow_sub-flown c =
    let lead = leads_at _ _ c.args.parts.now _ c.part-item.result c.loop-part-test.true c.part-item.is c.loop-part.invariant.shared in
    omega (arith, lead.begins, c.gap_count.ensures)

pub split_at-requires : goal.split_at-requires
split_at-requires c =
    let lead = leads_at _ _ c.args.parts.now _ c.part-item.result c.loop-part-test.true c.part-item.is c.loop-part.invariant.shared in
    omega (arith, lead.fits, c.gap_count.ensures)

pub push_part-requires : goal.push_part-requires
push_part-requires c =
    let lead = leads_at _ _ c.args.parts.now _ c.part-item.result c.loop-part-test.true c.part-item.is c.loop-part.invariant.shared in
    priced_amount c.part-item.result lead.priced

pub loop-part-preserved : goal.loop-part-preserved
loop-part-preserved c =
    let lead = leads_at _ _ c.args.parts.now _ c.part-item.result c.loop-part-test.true c.part-item.is c.loop-part.invariant.shared in
    let count : c.part-item.result.end - (c.loop-part.begun + c.gap_count.result) ≡ flown_count c.loop-part.begun c.part-item.result = ap (λ (k : ℕ). c.part-item.result.end - (c.loop-part.begun + k)) c.gap_count.ensures in
    let front = c.split_at.ensures.front ∙ ap (λ (k : ℕ). take k c.loop-part.rest.now) count in
    let back = c.split_at.ensures.back ∙ ap (λ (k : ℕ). drop k c.loop-part.rest.now) count in
    record {
      shared = rest_at c.loop-part.begun c.loop-part.rest.now c.split_at.result.1.now c.part-item.result _ lead back;
      written = text_step c.loop-part.text.items _ c.loop-part.begun c.loop-part.rest.now c.split_at.result.0.now _ c.args.parts.now _ c.part-item.result c.loop-part-test.true c.part-item.is front back (c.in_ok-push_part.ensures {u = tt}) ∙ c.loop-part.invariant.written;
    }

pub returns : goal.returns
returns c =
    let none = text_past c.loop-part.begun c.loop-part.rest.now c.args.parts.now c.loop-part.part-index (omega arith) in
    sym (append-nil _) ∙ ap (λ (rest : List ℕ). c.loop-part.text.items ++ rest) (sym none) ∙ c.loop-part.invariant.written
