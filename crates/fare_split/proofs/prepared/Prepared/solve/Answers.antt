use Rattle.std.proofs.Common.{rules, ◌≡◌, ◌≤◌, ℕ, List, Option, ◌++◌, All, map, take, drop, length, ap, sym, subst, ◌∙◌, arith}
use Rattle.fare_trip.specs.Itinerary.{count}
use Rattle.fare_rules.specs.declared.part.Part.{Part}
use Rattle.fare_rules.specs.Best.{IsBestAnswer}
use Rattle.fare_branch.specs.declared.pieces.Piece.{Piece}
use Rattle.fare_split.specs.Rows.{Preparation, ArePieces, IsEarliest, IsRun, choice_count, piece_of, rows_of}
use Rattle.fare_split.specs.Workers.{HaveRun}
use Rattle.fare_split.proofs.AnswerLemmas.{earliest_is_best, pieces_of_rows, prepared_again, results_of_rows, written}
use Rattle.fare_split.proofs.SettleLemmas.{found_all, settled_rows}
use Rattle.fare_split.proofs.prepared.Prepared.solve.Goals as goal

pub settled-least-requires-clause-all : goal.settled-least-requires-clause-all
settled-least-requires-clause-all g c =
    let p = c.self.inside in
    let len : p.workers.len ≡ length p.workers.items = search rules in
    let H : List Piece → Type 0 = λ ps. HaveRun p.word.shared.table_id p.table ps c.search_all.new.workers in
    let h = written p.word.shared.table_id p.table p.pieces.items p.workers.items c.search_all.new.workers p.workers.len len c.self.invariant.each (subst H c.as_slice-pieces.ensures.value c.search_all.ensures) in
    found_all p.word.shared.table_id p.table p.pieces.items c.as_slice-pieces.result.now (take p.workers.len (c.search_all.new.workers ++ drop (length c.search_all.new.workers) p.workers.items)) c.as_slice.result.now c.as_slice-pieces.ensures.value c.as_slice.ensures.value h c.self.invariant.some

pub invariant_of-self : goal.invariant_of-self
invariant_of-self g c =
    let p = c.self.inside in
    let len : p.workers.len ≡ length p.workers.items = search rules in
    let H : List Piece → Type 0 = λ ps. HaveRun p.word.shared.table_id p.table ps c.search_all.new.workers in
    let h = written p.word.shared.table_id p.table p.pieces.items p.workers.items c.search_all.new.workers p.workers.len len c.self.invariant.each (subst H c.as_slice-pieces.ensures.value c.search_all.ensures) in
    let r = settled_rows p.word.shared.table_id p.table p.pieces.items c.as_slice-pieces.result.now (take p.workers.len (c.search_all.new.workers ++ drop (length c.search_all.new.workers) p.workers.items)) c.as_slice.result.now c.settled-least.result.0 c.settled-least.result.1.items c.as_slice-pieces.ensures.value c.as_slice.ensures.value h c.self.invariant.some c.self.invariant.low c.settled-least.ensures.least c.settled-least.ensures.results in
    prepared_again p.word.shared.table_id p.table p.pieces.items p.workers.items (take p.workers.len (c.search_all.new.workers ++ drop (length c.search_all.new.workers) p.workers.items)) p.results.items c.settled-least.result.1.items c.self.invariant h r.0

pub returns-clause-pieces : goal.returns-clause-pieces
returns-clause-pieces g c =
    let p = c.self.inside in
    let len : p.workers.len ≡ length p.workers.items = search rules in
    let H : List Piece → Type 0 = λ ps. HaveRun p.word.shared.table_id p.table ps c.search_all.new.workers in
    let h = written p.word.shared.table_id p.table p.pieces.items p.workers.items c.search_all.new.workers p.workers.len len c.self.invariant.each (subst H c.as_slice-pieces.ensures.value c.search_all.ensures) in
    let r = settled_rows p.word.shared.table_id p.table p.pieces.items c.as_slice-pieces.result.now (take p.workers.len (c.search_all.new.workers ++ drop (length c.search_all.new.workers) p.workers.items)) c.as_slice.result.now c.settled-least.result.0 c.settled-least.result.1.items c.as_slice-pieces.ensures.value c.as_slice.ensures.value h c.self.invariant.some c.self.invariant.low c.settled-least.ensures.least c.settled-least.ensures.results in
    pieces_of_rows p.pieces.items c.settled-least.result.0 c.settled-least.result.1.items r.0
    ∙ sym (pieces_of_rows p.pieces.items p.least p.results.items c.self.invariant.full)
    ∙ ap (λ (q : Preparation). map piece_of q.rows) c.self.view_is

pub returns-clause-run : goal.returns-clause-run
returns-clause-run g c =
    let p = c.self.inside in
    let len : p.workers.len ≡ length p.workers.items = search rules in
    let H : List Piece → Type 0 = λ ps. HaveRun p.word.shared.table_id p.table ps c.search_all.new.workers in
    let h = written p.word.shared.table_id p.table p.pieces.items p.workers.items c.search_all.new.workers p.workers.len len c.self.invariant.each (subst H c.as_slice-pieces.ensures.value c.search_all.ensures) in
    let r = settled_rows p.word.shared.table_id p.table p.pieces.items c.as_slice-pieces.result.now (take p.workers.len (c.search_all.new.workers ++ drop (length c.search_all.new.workers) p.workers.items)) c.as_slice.result.now c.settled-least.result.0 c.settled-least.result.1.items c.as_slice-pieces.ensures.value c.as_slice.ensures.value h c.self.invariant.some c.self.invariant.low c.settled-least.ensures.least c.settled-least.ensures.results in
    subst (λ (q : Preparation). All (IsRun q.prices) (rows_of p.pieces.items c.settled-least.result.0 c.settled-least.result.1.items)) c.self.view_is r.1

pub returns-clause-earliest : goal.returns-clause-earliest
returns-clause-earliest g c =
    let p = c.self.inside in
    let len : p.workers.len ≡ length p.workers.items = search rules in
    let H : List Piece → Type 0 = λ ps. HaveRun p.word.shared.table_id p.table ps c.search_all.new.workers in
    let h = written p.word.shared.table_id p.table p.pieces.items p.workers.items c.search_all.new.workers p.workers.len len c.self.invariant.each (subst H c.as_slice-pieces.ensures.value c.search_all.ensures) in
    let r = settled_rows p.word.shared.table_id p.table p.pieces.items c.as_slice-pieces.result.now (take p.workers.len (c.search_all.new.workers ++ drop (length c.search_all.new.workers) p.workers.items)) c.as_slice.result.now c.settled-least.result.0 c.settled-least.result.1.items c.as_slice-pieces.ensures.value c.as_slice.ensures.value h c.self.invariant.some c.self.invariant.low c.settled-least.ensures.least c.settled-least.ensures.results in
    let P : List (Option (List Part × ℕ)) → Type 0 = λ results. IsEarliest results c.earliest.result in
    subst P (sym (results_of_rows p.pieces.items c.settled-least.result.0 c.settled-least.result.1.items r.0)) (subst P c.as_slice-2.ensures.value c.earliest.ensures)

pub returns-clause-best : goal.returns-clause-best
returns-clause-best g c =
    let p = c.self.inside in
    let len : p.workers.len ≡ length p.workers.items = search rules in
    let H : List Piece → Type 0 = λ ps. HaveRun p.word.shared.table_id p.table ps c.search_all.new.workers in
    let h = written p.word.shared.table_id p.table p.pieces.items p.workers.items c.search_all.new.workers p.workers.len len c.self.invariant.each (subst H c.as_slice-pieces.ensures.value c.search_all.ensures) in
    let r = settled_rows p.word.shared.table_id p.table p.pieces.items c.as_slice-pieces.result.now (take p.workers.len (c.search_all.new.workers ++ drop (length c.search_all.new.workers) p.workers.items)) c.as_slice.result.now c.settled-least.result.0 c.settled-least.result.1.items c.as_slice-pieces.ensures.value c.as_slice.ensures.value h c.self.invariant.some c.self.invariant.low c.settled-least.ensures.least c.settled-least.ensures.results in
    let sectors : c.count-sectors.result ≡ count p.table.trip = c.count-sectors.ensures.value ∙ ap count c.trip.ensures in
    let some : 1 ≤ c.count-sectors.result = c.count-sectors.ensures.some in
    let P : List (Option (List Part × ℕ)) → Type 0 = λ results. IsEarliest results c.earliest.result in
    let Q : List Piece → Type 0 = λ ps. ArePieces (choice_count p.table) ps in
    subst (λ (q : Preparation). IsBestAnswer q.prices.edition q.prices.trip c.earliest.result) c.self.view_is
    (earliest_is_best p.table (rows_of p.pieces.items c.settled-least.result.0 c.settled-least.result.1.items) (omega arith)
    (subst Q (sym (pieces_of_rows p.pieces.items c.settled-least.result.0 c.settled-least.result.1.items r.0)) c.self.invariant.split)
    r.1 c.earliest.result
    (subst P (sym (results_of_rows p.pieces.items c.settled-least.result.0 c.settled-least.result.1.items r.0)) (subst P c.as_slice-2.ensures.value c.earliest.ensures)))
