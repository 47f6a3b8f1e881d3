use Rattle.std.proofs.Common.{ℕ, ◌<◌, ◌≤◌, length-set, sym, ◌∙◌, ap, arith, max, refl, ◌≡◌}
use Rattle.std.specs.Prelude.{Option, Some}
use Rattle.fare_bounds.specs.Covers.{rest_at}
use Rattle.fare_legs.specs.Floor.{greater}
use Rattle.fare_legs.specs.Costs.{IsUpTo}
use Rattle.fare_legs.proofs.FloorLemmas.{stands_before}
use Rattle.fare_legs.proofs.ReachLemmas.{row_more}
use Rattle.fare_legs.proofs.owed.raised.Goals as goal

-- the greater of two numbers is up to what both are
greater_up : (a b found : Option ℕ) (x y cost : ℕ) → found ≡ greater a b → IsUpTo x a → IsUpTo y b → x ≤ cost → y ≤ cost → IsUpTo cost found
greater_up a b found x y cost is one other low high =
    let first : one.0 ≤ x = one.2 in
    let second : other.0 ≤ y = other.2 in
    (max one.0 other.0, is ∙ ap (λ n. greater n b) one.1 ∙ ap (greater (Some one.0)) other.1, omega arith)

pub loop-home-preserved : goal.loop-home-preserved
loop-home-preserved c =
    let row = c.args.row.now in
    let owed = c.args.owed.now in
    let Known : ℕ → Option ℕ → Type 0 = λ home number. (x y cost : ℕ) → IsUpTo x (rest_at row home) → IsUpTo y (rest_at owed home) → x ≤ cost → y ≤ cost → IsUpTo cost number in
    let is : c.greater.result ≡ greater (rest_at row c.loop-home.home) (rest_at owed c.loop-home.home) = rw (c.greater.ensures, c.number_at-here.ensures, c.number_at-least.ensures) refl in
    record {
      long = length-set c.loop-home.raised c.loop-home.home c.greater.result ∙ c.loop-home.invariant.long;
      known = λ home x y cost before. row_more Known c.loop-home.raised c.loop-home.home c.greater.result (omega (arith, c.loop-home.invariant.long)) (λ k past x y cost one other low high. c.loop-home.invariant.known k x y cost past one other low high)
          (λ x y cost one other low high. greater_up (rest_at row c.loop-home.home) (rest_at owed c.loop-home.home) c.greater.result x y cost is one other low high) home before x y cost;
    }

pub returns : goal.returns
returns c home x y cost one other low high =
    let short : home < 17 = omega (arith, c.told-row, stands_before c.args.row.now home x one) in
    c.loop-home.invariant.known home x y cost (omega arith) one other low high
