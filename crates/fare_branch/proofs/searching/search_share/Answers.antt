use Rattle.std.proofs.Common.{◌≡◌, ◌≤◌, ◌+◌, ◌++◌, ◌∷◌, [], ℕ, List, Option, length, take, ap, sym, subst, ◌∙◌, arith}
use Rattle.std.specs.Prelude.{slice_index_or}
use Rattle.std.proofs.lemmas.List.{length-append, take_all, take_more}
use Rattle.fare_rules.specs.declared.part.Part.{Part}
use Rattle.fare_branch.specs.declared.pieces.Piece.{Piece}
use Rattle.fare_branch.specs.declared.share.Share.{Share}
use Rattle.fare_branch.specs.LeastPrice.{least_price}
use Rattle.fare_branch.specs.Shares.{AreFoundIn}
use Rattle.fare_branch.proofs.LeastLemmas.{least_price_is}
use Rattle.fare_branch.proofs.ShareLemmas.{are_falls, are_more, begun_none}
use Rattle.fare_branch.proofs.searching.search_share.Goals as goal

pub found_in-found-requires-clause-under : goal.found_in-found-requires-clause-under
found_in-found-requires-clause-under g c parts price l =
    let same : g.B.Bound.fixed c.seen.new.self ≡ g.B.Bound.fixed c.args.bound.now = c.seen.ensures.fixed ∙ c.loop-piece.invariant.fixed in
    let least : g.B.Bound.fixed c.args.bound.now ≡ least_price c.args.plan.now.table.now.edition c.args.plan.now.table.now.trip = c.requires.least in
    let low : least_price c.args.plan.now.table.now.edition c.args.plan.now.table.now.trip ≤ price = (least_price_is c.args.plan.now.table.now.edition c.args.plan.now.table.now.trip).under parts price l in
    omega arith

pub found_in-found-requires-clause-begun : goal.found_in-found-requires-clause-begun
found_in-found-requires-clause-begun g c =
    begun_none c.args.plan.now.table.now.edition c.args.plan.now.table.now.trip (slice_index_or c.args.plan.now.pieces.now c.loop-piece.piece-index (record { first = 0; past = 0 })) (g.B.Bound.least c.seen.new.self)

pub push-requires : goal.push-requires
push-requires g c =
    let many : length c.loop-piece.finds.items ≡ c.loop-piece.piece-index = c.loop-piece.invariant.many in
    let few : length c.args.plan.now.pieces.now ≤ 16 = c.requires.plan.few in
    (omega arith, omega arith)

pub loop-piece-init : goal.loop-piece-init
loop-piece-init g c =
    let P : List (Option (List Part × ℕ)) → Type 0 = λ finds. AreFoundIn c.args.plan.now.table.now.edition c.args.plan.now.table.now.trip (record { number = c.args.number; count = length c.args.plan.now.pieces.now }) (g.B.Bound.least c.found.new.self) [] finds in
    record {
      fixed = c.found.ensures.fixed;
      many = ap (λ (finds : List (Option (List Part × ℕ))). length finds) c.new-finds.ensures;
      finds = subst P (sym c.new-finds.ensures) tt;
    }

pub loop-piece-preserved : goal.loop-piece-preserved
loop-piece-preserved g c =
    let piece : Piece = slice_index_or c.args.plan.now.pieces.now c.loop-piece.piece-index (record { first = 0; past = 0 }) in
    let share : Share = record { number = c.args.number; count = length c.args.plan.now.pieces.now } in
    let before : List Piece = take c.loop-piece.piece-index c.args.plan.now.pieces.now in
    let finds : List (Option (List Part × ℕ)) = c.loop-piece.finds.items in
    let was : ℕ = g.B.Bound.least c.loop-piece.bound in
    let least : ℕ = g.B.Bound.least c.found_in-found.new.bound in
    let falls : g.B.Bound.least c.found_in-found.new.bound ≤ g.B.Bound.least c.loop-piece.bound = omega arith in
    let items : c.push.new.self.items ≡ c.loop-piece.finds.items ++ c.found_in-found.result ∷ [] = c.push.ensures.items in
    let long : length c.push.new.self.items ≡ length c.loop-piece.finds.items + 1 =
    ap (λ (fs : List (Option (List Part × ℕ))). length fs) items ∙ length-append c.loop-piece.finds.items (c.found_in-found.result ∷ []) in
    let many : length c.loop-piece.finds.items ≡ c.loop-piece.piece-index = c.loop-piece.invariant.many in
    let Q : List Piece → Type 0 = λ ps. AreFoundIn c.args.plan.now.table.now.edition c.args.plan.now.table.now.trip (record { number = c.args.number; count = length c.args.plan.now.pieces.now }) (g.B.Bound.least c.found_in-found.new.bound) ps c.push.new.self.items in
    let R : List (Option (List Part × ℕ)) → Type 0 = λ fs. AreFoundIn c.args.plan.now.table.now.edition c.args.plan.now.table.now.trip (record { number = c.args.number; count = length c.args.plan.now.pieces.now }) (g.B.Bound.least c.found_in-found.new.bound) (take c.loop-piece.piece-index c.args.plan.now.pieces.now ++ slice_index_or c.args.plan.now.pieces.now c.loop-piece.piece-index (record { first = 0; past = 0 }) ∷ []) fs in
    record {
      fixed = c.found_in-found.ensures.fixed ∙ c.seen.ensures.fixed ∙ c.loop-piece.invariant.fixed;
      many = omega arith;
      finds = subst Q (sym (take_more c.args.plan.now.pieces.now c.loop-piece.piece-index (record { first = 0; past = 0 }) c.loop-piece-test.true))
          (subst R (sym items)
          (are_more share c.args.plan.now.table.now.edition c.args.plan.now.table.now.trip least before finds piece c.found_in-found.result
          (are_falls share c.args.plan.now.table.now.edition c.args.plan.now.table.now.trip was least before finds falls c.loop-piece.invariant.finds)
          c.found_in-found.ensures.found));
    }

pub returns-clause-found : goal.returns-clause-found
returns-clause-found g c =
    let Q : List Piece → Type 0 = λ ps. AreFoundIn c.args.plan.now.table.now.edition c.args.plan.now.table.now.trip (record { number = c.args.number; count = length c.args.plan.now.pieces.now }) (g.B.Bound.least c.loop-piece.bound) ps c.loop-piece.finds.items in
    subst Q (take_all c.loop-piece.piece-index c.args.plan.now.pieces.now (omega arith)) c.loop-piece.invariant.finds
