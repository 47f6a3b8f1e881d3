-- a record whose place isn't the first of those that are left has no fault
use Rattle.std.proofs.Common.{◌≡◌, false, sym, ◌∙◌}
use Rattle.fare_tariff.specs.Faulty.{has_kind_at}
use Rattle.fare_check.proofs.PlacesLeft.{faultless, first_tells}
use Rattle.fare_check.proofs.faulty.fault_of.Goals as goal

pub returns-then-not-stands_first : goal.returns-then-not-stands_first
returns-then-not-stands_first c =
    let none : has_kind_at c.args.filed.now c.args.place ≡ false = sym (first_tells c.args.filed.now c.args.left.now c.args.place c.requires.within c.requires.left) ∙ sym c.stands_first.ensures ∙ c.if-not-stands_first.true in
    λ one. faultless c.args.filed.now c.args.place one c.requires.within none
