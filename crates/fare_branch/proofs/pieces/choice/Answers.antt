use Rattle.std.proofs.Common.{◌≡◌, ◌+◌, ◌-◌, ◌≤◌, ◌<◌, None, Some, length, ap, ◌∙◌, arith}
use Rattle.std.specs.Prelude.{slice_get, slice_index, option_map}
use Rattle.fare_trip.specs.Itinerary.{count}
use Rattle.fare_rules.specs.Completion.{choice, first_part_choices}
use Rattle.fare_branch.specs.Beginnings.{outward}
use Rattle.fare_branch.proofs.ChoiceLemmas.{fares, choices_to_all, choice_over, choice_here, counted_at}
use Rattle.fare_branch.proofs.pieces.choice.Goals as goal

pub loop-end-init : goal.loop-end-init
loop-end-init c =
    let n : c.count-end.result ≡ count c.args.table.now.trip = c.count-end.ensures.value ∙ ap count c.trip.ensures in
    ap (λ cs. slice_get cs c.args.number) (choices_to_all c.args.table.now.edition c.args.table.now.trip (c.count-end.result + 1) (omega arith))

pub returns-in-None-clause-choice : goal.returns-in-None-clause-choice
returns-in-None-clause-choice c =
    let n : c.count-end.result ≡ count c.args.table.now.trip = c.count-end.ensures.value ∙ ap count c.trip.ensures in
    let counted : slice_index c.args.counts.now (c.loop-end.end - 1) ≡ length (outward c.entries-entries.result.now) = counted_at c.args.table.now.edition c.args.table.now.trip c.args.counts.now (c.loop-end.end - 1) c.entries-entries.result.now c.requires.counts (omega arith) (omega arith) c.entries-entries.ensures.entries in
    let here : c.loop-end.left < length (outward c.entries-entries.result.now) = omega arith in
    let one : None ≡ slice_get (fares c.entries-entries.result.now) c.loop-end.left = c.in-None.ensures in
    ap (option_map (choice (c.loop-end.end - 1))) one
    ∙ choice_here c.args.table.now.edition c.args.table.now.trip c.loop-end.end c.loop-end.left c.entries-entries.result.now (slice_get (first_part_choices c.args.table.now.edition c.args.table.now.trip) c.args.number) (omega arith) (omega arith) c.entries-entries.ensures.entries here c.loop-end.invariant

pub returns-in-Some-clause-choice : goal.returns-in-Some-clause-choice
returns-in-Some-clause-choice c =
    let n : c.count-end.result ≡ count c.args.table.now.trip = c.count-end.ensures.value ∙ ap count c.trip.ensures in
    let counted : slice_index c.args.counts.now (c.loop-end.end - 1) ≡ length (outward c.entries-entries.result.now) = counted_at c.args.table.now.edition c.args.table.now.trip c.args.counts.now (c.loop-end.end - 1) c.entries-entries.result.now c.requires.counts (omega arith) (omega arith) c.entries-entries.ensures.entries in
    let here : c.loop-end.left < length (outward c.entries-entries.result.now) = omega arith in
    let one : Some c.in-Some.fare ≡ slice_get (fares c.entries-entries.result.now) c.loop-end.left = c.in-Some.ensures in
    ap (option_map (choice (c.loop-end.end - 1))) one
    ∙ choice_here c.args.table.now.edition c.args.table.now.trip c.loop-end.end c.loop-end.left c.entries-entries.result.now (slice_get (first_part_choices c.args.table.now.edition c.args.table.now.trip) c.args.number) (omega arith) (omega arith) c.entries-entries.ensures.entries here c.loop-end.invariant

pub loop-end-preserved : goal.loop-end-preserved
loop-end-preserved c =
    let n : c.count-end.result ≡ count c.args.table.now.trip = c.count-end.ensures.value ∙ ap count c.trip.ensures in
    let counted : slice_index c.args.counts.now (c.loop-end.end - 1) ≡ length (outward c.entries-entries.result.now) = counted_at c.args.table.now.edition c.args.table.now.trip c.args.counts.now (c.loop-end.end - 1) c.entries-entries.result.now c.requires.counts (omega arith) (omega arith) c.entries-entries.ensures.entries in
    let over : length (outward c.entries-entries.result.now) ≤ c.loop-end.left = omega arith in
    rw counted (choice_over c.args.table.now.edition c.args.table.now.trip c.loop-end.end c.loop-end.left c.entries-entries.result.now (slice_get (first_part_choices c.args.table.now.edition c.args.table.now.trip) c.args.number) (omega arith) (omega arith) c.entries-entries.ensures.entries over c.loop-end.invariant)
