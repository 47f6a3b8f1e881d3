use Rattle.std.proofs.Common.{rules, ◌≡◌, ◌≤◌, ◌+◌, ◌++◌, ◌∷◌, [], ℕ, List, length, ap, sym, subst, ◌∙◌, arith}
use Rattle.std.proofs.lemmas.List.{length-append}
use Rattle.fare_branch.specs.declared.pieces.Piece.{Piece}
use Rattle.fare_split.specs.Rows.{ArePieces}
use Rattle.fare_split.proofs.RangeLemmas.{AreUpTo, one_more, range}
use Rattle.fare_split.proofs.pieces.shared_out.Goals as goal

pub loop-place-preserved : goal.loop-place-preserved
loop-place-preserved c =
    let past : ℕ = c.min-past.result in
    let before : List Piece = c.loop-place.pieces.items in
    let items : c.push.new.self.items ≡ before ++ range c.loop-place.first past ∷ [] = c.in_ok-push.ensures.items in
    let long : length c.push.new.self.items ≡ length before + 1 =
    ap (λ (ps : List Piece). length ps) items ∙ length-append before (range c.loop-place.first past ∷ []) in
    let many : length before + 1 ≡ c.loop-place.place = c.loop-place.invariant.many in
    let up : c.loop-place.first ≤ past = search rules in
    let low : past ≤ c.choices-count.result = search rules in
    let P : List Piece → Type 0 = λ ps. AreUpTo past ps in
    record {
      many = omega arith;
      within = search rules;
      low = low;
      split = subst P (sym items) (one_more c.loop-place.first past before up c.loop-place.invariant.split);
    }

pub returns-clause-split : goal.returns-clause-split
returns-clause-split c =
    let count : ℕ = c.choices-count.result in
    let before : List Piece = c.loop-place.pieces.items in
    let items : c.push-2.new.self.items ≡ before ++ range c.loop-place.first count ∷ [] = c.in_ok-push-2.ensures.items in
    let P : List Piece → Type 0 = λ ps. ArePieces count ps in
    let Q : ℕ → Type 0 = λ n. ArePieces n c.push-2.new.self.items in
    subst Q c.choices-count.ensures
    (subst P (sym items) (one_more c.loop-place.first count before c.loop-place.invariant.low c.loop-place.invariant.split).split)
