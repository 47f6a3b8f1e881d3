use Rattle.std.proofs.Common.{◌+◌, sym, ◌∙◌}
use Rattle.fare_component.proofs.WalkLemmas.{walked_first, walked_on, walked_all, stand_between, none_first}
use Rattle.fare_component.proofs.table.entries.measured_entries.Goals as goal

pub loop-number-init : goal.loop-number-init
loop-number-init c =
    let tariff = c.args.priced.now.edition.now in
    let trip = c.args.priced.now.trip.now in
    let candidates = c.all_candidates-candidates.result in
    record {
      walked = rw c.new-entries.ensures (walked_first tariff trip c.args.span.now.a c.args.span.now.b candidates
          (stand_between tariff trip c.args.span.now.a c.args.span.now.b 2 c.point-from.result c.point-to.result c.args.span.now.ind candidates c.point-from.ensures c.point-to.ensures c.requires.span.indicator c.all_candidates-candidates.ensures.stand));
      forms = c.requires.forms;
    }

pub loop-number-preserved : goal.loop-number-preserved
loop-number-preserved c =
    let tariff = c.args.priced.now.edition.now in
    let trip = c.args.priced.now.trip.now in
    let number = c.in-Some.number in
    let candidates = c.candidates_past-candidates.result in
    let stand = stand_between tariff trip c.args.span.now.a c.args.span.now.b (number + 1) c.point-from.result c.point-to.result c.args.span.now.ind candidates c.point-from.ensures c.point-to.ensures c.requires.span.indicator c.candidates_past-candidates.ensures.stand in
    record {
      walked = rw c.in_ok-keep_entry.ensures.kept (walked_on tariff trip c.args.span.now.a c.args.span.now.b number c.loop-number.candidates candidates c.loop-number.entries c.loop-number.invariant.walked (sym c.in-Some.ensures) stand c.candidates_past-candidates.ensures.more);
      forms = c.in_ok-keep_entry.ensures.forms;
    }

pub returns-clause-entries : goal.returns-clause-entries
returns-clause-entries c =
    let none = none_first c.first_candidate.result (λ number e. c.in_default.not-Some number e) in
    walked_all c.args.priced.now.edition.now c.args.priced.now.trip.now c.args.span.now.a c.args.span.now.b c.loop-number.candidates c.loop-number.entries c.loop-number.invariant.walked (sym c.first_candidate.ensures ∙ none) c.requires.span.rises c.requires.span.within
