use Rattle.std.proofs.Common.{◌≡◌, ◌+◌, ◌++◌, ◌∷◌, [], ℕ, List, Option, None, length, refl, ap, sym, subst, ◌∙◌, arith}
use Rattle.std.specs.Prelude.{All}
use Rattle.std.proofs.lemmas.List.{length-append}
use Rattle.fare_rules.specs.declared.part.Part.{Part}
use Rattle.fare_split.proofs.AnswerLemmas.{unsettled_rows}
use Rattle.fare_split.proofs.EarliestLemmas.{all_last, all_none}
use Rattle.fare_split.proofs.settling.unsettled.Goals as goal

pub loop-piece-init : goal.loop-piece-init
loop-piece-init c =
    let P : List (Option (List Part × ℕ)) → Type 0 = λ results. All (λ result. result ≡ None) results in
    record {
      many = ap (λ (results : List (Option (List Part × ℕ))). length results) c.new-results.ensures;
      none = subst P (sym c.new-results.ensures) (all_none (λ result. result ≡ None));
    }

pub loop-piece-preserved : goal.loop-piece-preserved
loop-piece-preserved c =
    let items : c.push.new.self.items ≡ c.loop-piece.results.items ++ None ∷ [] = c.push.ensures.items in
    let long : length c.push.new.self.items ≡ length c.loop-piece.results.items + 1 =
    ap (λ (results : List (Option (List Part × ℕ))). length results) items ∙ length-append c.loop-piece.results.items (None ∷ []) in
    let many : length c.loop-piece.results.items ≡ c.loop-piece._piece-index = c.loop-piece.invariant.many in
    let P : List (Option (List Part × ℕ)) → Type 0 = λ results. All (λ result. result ≡ None) results in
    record {
      many = omega arith;
      none = subst P (sym items) (all_last (λ result. result ≡ None) c.loop-piece.results.items None c.loop-piece.invariant.none refl);
    }

pub returns-clause-rows : goal.returns-clause-rows
returns-clause-rows c =
    let many : length c.loop-piece.results.items ≡ c.loop-piece._piece-index = c.loop-piece.invariant.many in
    unsettled_rows c.args.pieces.now c.loop-piece.results.items (omega arith) c.loop-piece.invariant.none
