use Rattle.std.proofs.Common.{◌≡◌, ◌+◌, false, sym, ◌∙◌, ap}
use Rattle.std.proofs.lemmas.Bool.{both_ways}
use Rattle.fare_rules.specs.Construction.{begin_after}
use Rattle.fare_legs.specs.Costs.{is_same_city}
use Rattle.fare_homing.proofs.standing.next_at.Goals as goal

pub returns-then-is : goal.returns-then-is
returns-then-is c ceiling after known = record {
  last = λ j x up. c.lesser_of.ensures.kept j x up;
  between = λ b j x y city part less apart within up. c.lesser_of.ensures.under j (x + y) (known b j x y part less apart within up);
}

pub returns-else-is : goal.returns-else-is
returns-else-is c ceiling after known =
    let trip = c.args.table.now.trip in
    let start = c.args.start.now in
    let begins : begin_after trip start.behind ≡ start.point = sym c.requires.point in
    let here : c.is.result ≡ is_same_city trip c.args.stand start.point = cc in
    let city : is_same_city trip c.args.stand (begin_after trip start.behind) ≡ false = ap (is_same_city trip c.args.stand) begins ∙ sym here ∙ c.if-is.false in
    record {
      last = λ j x up. up;
      between = λ b j x y there part less apart within up. absurd (both_ways (is_same_city trip c.args.stand (begin_after trip start.behind)) city there);
    }
