use Rattle.std.proofs.Common.{◌≡◌, ℕ, ◌+◌, true, false, refl, subst, sym, ◌∙◌, inl, inr, arith}
use Rattle.std.proofs.lemmas.Bool.{both_ways, cases_eq}
use Rattle.fare_legs.specs.Costs.{IsUpTo, is_same_city}
use Rattle.fare_homing.specs.HomingRows.{IsBetween}
use Rattle.fare_homing.specs.Rows.{closing_from}
use Rattle.fare_legs.proofs.FloorLemmas.{lesser_kept, lesser_sum}
use Rattle.fare_homing.proofs.between.reach_between.Goals as goal

pub loop-b-preserved : goal.loop-b-preserved
loop-b-preserved c b x y low less apart part more =
    let tariff = c.args.table.now.edition in
    let trip = c.args.table.now.trip in
    let homing = c.args.homing.now in
    let start = c.args.start.now in
    let home = c.args.home in
    elim (cases_eq b c.loop-b.b) [
      | inl same ↦
          let P : ℕ → Type 0 = λ k. IsBetween tariff trip homing.unit_ceiling start.point home k x in
          let Q : ℕ → Type 0 = λ k. IsUpTo y (closing_from homing k k home) in
          lesser_sum c.loop-b.least c.step_to.result (closing_from homing c.loop-b.b c.loop-b.b home) c.lesser-least.result
          (rw (c.lesser-least.ensures, c.added.ensures, c.closing_from-behind.ensures) refl) x y (c.step_to.ensures x (subst P same part)) (subst Q same more)
      | inr other ↦ lesser_kept c.loop-b.least c.added.result c.lesser-least.result c.lesser-least.ensures (x + y) (c.loop-b.invariant b x y low (omega arith) apart part more)
    ]

pub loop-b-preserved-then-is : goal.loop-b-preserved-then-is
loop-b-preserved-then-is c b x y low less apart part more =
    let trip = c.args.table.now.trip in
    elim (cases_eq b c.loop-b.b) [
      | inl same ↦
          let here : c.is.result ≡ is_same_city trip c.args.home c.loop-b.b = cc in
          let city : is_same_city trip c.args.home c.loop-b.b ≡ true = sym here ∙ c.if-is.true in
          let P : ℕ → Type 0 = λ k. is_same_city trip c.args.home k ≡ false in
          absurd (both_ways (is_same_city trip c.args.home c.loop-b.b) (subst P same apart) city)
      | inr other ↦ c.loop-b.invariant b x y low (omega arith) apart part more
    ]

pub returns : goal.returns
returns c b x y low less apart part more = c.loop-b.invariant b x y low (omega arith) apart part more
