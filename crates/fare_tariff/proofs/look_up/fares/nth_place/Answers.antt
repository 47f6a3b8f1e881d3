-- one step from a fare between the cities to the next
use Rattle.std.proofs.Common.{◌≡◌, ◌+◌, ◌-◌, ◌<◌, ℕ, true, cond, List, [], ◌∷◌, drop, Option, slice_get, ap, sym, ◌∙◌, arith, zero, suc}
use Rattle.fare_index.specs.declared.key.Key.TheVariants.{Fares}
use Rattle.fare_tariff.specs.Lookup.{numbers_from, is_fare_between}
use Rattle.fare_records.proofs.Chain.{from_place, keyed_first, from_first, walk_on, walk_some}
use Rattle.fare_tariff.proofs.FoundByKey.{fare_tells}
use Rattle.fare_tariff.proofs.Looks.{between_looks}
use Rattle.fare_tariff.proofs.look_up.fares.nth_place.Goals as goal

-- past the first of a list
later : {A : Type 0} (x : A) (xs : List A) (k : ℕ) (o : Option A) → 0 < k → slice_get (x ∷ xs) k ≡ o → slice_get xs (k - 1) ≡ o
later x xs zero o h at = absurd (omega arith)
later x xs (suc k) o h at =
    let e : suc k - 1 ≡ k = omega arith in
    rw e at

pub loop-at-init : goal.loop-at-init
loop-at-init c = record {
  keyed = keyed_first _ _ _ c.first-at.ensures;
  same = ap (λ l. slice_get l c.args.k) (from_first _ _ _ (between_looks c.args.from c.args.to c.args.ind) c.args.filed.now c.first-at.result c.first-at.ensures);
}

pub returns-then-left-eq0-clause-place : goal.returns-then-left-eq0-clause-place
returns-then-left-eq0-clause-place c =
    let t = is_fare_between c.args.from c.args.to c.args.ind in
    let some = walk_some (numbers_from t) [] (Fares c.args.from c.args.to c.args.ind) c.args.filed.now c.loop-at.at c.in-Some.place c.in-Some.is c.loop-at.invariant.keyed in
    let passes : t some.0 ≡ true = sym (fare_tells c.args.from c.args.to c.args.ind some.0) ∙ some.1 in
    let rest = numbers_from t (c.in-Some.place + 1) (drop (c.in-Some.place + 1) c.args.filed.now) in
    let here : from_place (numbers_from t) [] (Fares c.args.from c.args.to c.args.ind) c.args.filed.now c.loop-at.at ≡ c.in-Some.place ∷ rest = some.2 ∙ ap (λ b. cond b (c.in-Some.place ∷ rest) rest) passes in
    let first : c.loop-at.left ≡ 0 = omega (arith, c.if-left-eq0.true) in
    ap (slice_get (c.in-Some.place ∷ rest)) (sym first) ∙ ap (λ l. slice_get l c.loop-at.left) (sym here) ∙ c.loop-at.invariant.same

pub loop-at-smaller : goal.loop-at-smaller
loop-at-smaller c =
    (walk_on _ _ _ (between_looks c.args.from c.args.to c.args.ind) c.args.filed.now c.loop-at.at c.next-at.result c.in-Some.place c.in-Some.is c.loop-at.invariant.keyed c.next-at.ensures).1.shorter

pub loop-at-preserved : goal.loop-at-preserved
loop-at-preserved c =
    let t = is_fare_between c.args.from c.args.to c.args.ind in
    let walk = walk_on _ _ _ (between_looks c.args.from c.args.to c.args.ind) c.args.filed.now c.loop-at.at c.next-at.result c.in-Some.place c.in-Some.is c.loop-at.invariant.keyed c.next-at.ensures in
    let step = walk.1 in
    let passes : t walk.0 ≡ true = sym (fare_tells c.args.from c.args.to c.args.ind walk.0) ∙ step.has_key in
    let rest = numbers_from t (c.in-Some.place + 1) (drop (c.in-Some.place + 1) c.args.filed.now) in
    let here : from_place (numbers_from t) [] (Fares c.args.from c.args.to c.args.ind) c.args.filed.now c.loop-at.at ≡ c.in-Some.place ∷ rest = step.here ∙ ap (λ b. cond b (c.in-Some.place ∷ rest) rest) passes in
    let some : 0 < c.loop-at.left = omega (arith, c.if-left-eq0.false) in
    record {
      keyed = step.keyed;
      same = ap (λ l. slice_get l (c.loop-at.left - 1)) step.there
          ∙ later c.in-Some.place rest c.loop-at.left _ some (ap (λ l. slice_get l c.loop-at.left) (sym here) ∙ c.loop-at.invariant.same);
    }
