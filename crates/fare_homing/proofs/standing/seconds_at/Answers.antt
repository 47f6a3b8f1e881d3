use Rattle.std.proofs.Common.{◌≡◌, ◌∙◌, ap, sym}
use Rattle.std.specs.Prelude.{true}
use Rattle.fare_rules.specs.Construction.{begin_after}
use Rattle.fare_bounds.specs.Covers.{rest_at}
use Rattle.fare_legs.specs.Costs.{is_same_city}
use Rattle.fare_legs.proofs.ReachLemmas.{up_more}
use Rattle.fare_homing.proofs.standing.seconds_at.Goals as goal

pub returns-then-is : goal.returns-then-is
returns-then-is c j x is =
    let trip = c.args.table.now.trip in
    let begins : begin_after trip c.args.start.now.behind ≡ c.args.start.now.point = sym c.requires.point in
    let here : c.is.result ≡ is_same_city trip c.args.stand c.args.start.now.point = cc in
    let city : is_same_city trip c.args.stand (begin_after trip c.args.start.now.behind) ≡ true = ap (is_same_city trip c.args.stand) begins ∙ sym here ∙ c.if-is.true in
    let owed = is.owed city in
    c.raised.ensures j is.last.0 owed.0 x (c.requires.last j is.last.0 is.last.1) (c.requires.owed j owed.0 is.within.0 is.within.1 owed.1) is.last.2 owed.2

pub returns-else-is : goal.returns-else-is
returns-else-is c j x is = up_more is.last.0 x (rest_at c.args.last.now j) is.last.2 (c.requires.last j is.last.0 is.last.1)
