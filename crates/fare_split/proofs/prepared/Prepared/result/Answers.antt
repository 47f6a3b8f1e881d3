use Rattle.std.proofs.Common.{◌≡◌, ◌<◌, ℕ, List, Option, Some, map, length, get_or, ap, sym, subst, ◌∙◌, arith}
use Rattle.std.specs.Prelude.{slice_get}
use Rattle.fare_rules.specs.declared.part.Part.{Part}
use Rattle.fare_split.specs.Rows.{Preparation, result_of, rows_of}
use Rattle.fare_split.proofs.AnswerLemmas.{result_there, rows_count}
use Rattle.fare_split.proofs.prepared.Prepared.result.Goals as goal

abbrev Found : Type 0
Found = Option (List Part × ℕ)

pub bounds-deref-worker : goal.bounds-deref-worker
bounds-deref-worker c =
    let P : Preparation → Type 0 = λ p. c.args.worker < length p.rows in
    let low : c.args.worker < length (rows_of c.self.inside.pieces.items c.self.inside.least c.self.inside.results.items) = subst P (sym c.self.view_is) c.requires in
    let many : length (rows_of c.self.inside.pieces.items c.self.inside.least c.self.inside.results.items) ≡ length c.self.inside.pieces.items = rows_count c.self.inside.pieces.items c.self.inside.least c.self.inside.results.items c.self.invariant.full in
    let full : length c.self.inside.results.items ≡ length c.self.inside.pieces.items = c.self.invariant.full in
    let same : length c.deref.result.now ≡ length c.self.inside.results.items = ap (λ (founds : List Found). length founds) c.deref.ensures.0 in
    omega arith

pub returns-in-None : goal.returns-in-None
returns-in-None c =
    let P : Preparation → Type 0 = λ p. c.args.worker < length p.rows in
    ap (λ (p : Preparation). slice_get (map result_of p.rows) c.args.worker) (sym c.self.view_is)
    ∙ result_there c.self.inside.pieces.items c.self.inside.least c.self.inside.results.items c.args.worker c.index-deref-worker.result c.self.invariant.full (subst P (sym c.self.view_is) c.requires)
    ∙ ap (λ (founds : List Found). Some (get_or founds c.args.worker c.index-deref-worker.result)) (sym c.deref.ensures.0)
    ∙ ap (λ (f : Found). Some f) (sym c.index-deref-worker.is)
    ∙ ap (λ (f : Found). Some f) c.in-None.is

pub returns-in-Some : goal.returns-in-Some
returns-in-Some c =
    let P : Preparation → Type 0 = λ p. c.args.worker < length p.rows in
    ap (λ (p : Preparation). slice_get (map result_of p.rows) c.args.worker) (sym c.self.view_is)
    ∙ result_there c.self.inside.pieces.items c.self.inside.least c.self.inside.results.items c.args.worker c.index-deref-worker.result c.self.invariant.full (subst P (sym c.self.view_is) c.requires)
    ∙ ap (λ (founds : List Found). Some (get_or founds c.args.worker c.index-deref-worker.result)) (sym c.deref.ensures.0)
    ∙ ap (λ (f : Found). Some f) (sym c.index-deref-worker.is)
    ∙ ap (λ (f : Found). Some f) c.in-Some.is
