use Rattle.std.proofs.Common.{◌≤◌, sym, subst, nat_le}
use Rattle.std.specs.Prelude.{IfSome}
use Rattle.std.proofs.lemmas.Bool.{le-leb}
use Rattle.fare_rules.specs.declared.unit_sheet.UnitSheet.{UnitSheet}
use Rattle.fare_rules.specs.Construction.{own}
use Rattle.fare_calc.proofs.RangeLists.{both_hold}
use Rattle.fare_calc.proofs.SheetLemmas.{minimum_in_price, sum_in_price}
use Rattle.fare_calc.proofs.numbered_unit.numbered_unit.Goals as goal

pub returns-clause-fits : goal.returns-clause-fits
returns-clause-fits c =
    let n = c.args.number in
    let places = own c.args.c.now n in
    let is = sym c.unit_sheet-sheet.ensures.sheet in
    record {
      number = both_hold (nat_le 1 n) (nat_le n 16) (le-leb 1 n c.requires.from_one) (le-leb n 16 c.requires.few);
      price = c.unit_sheet-sheet.ensures.bound;
      sum = subst (λ (s : UnitSheet). s.sum ≤ s.price) is (sum_in_price c.args.edition.now c.args.trip.now c.args.c.now places);
      minimum = subst (λ (s : UnitSheet). IfSome s.minimum (λ m. m ≤ s.price)) is (minimum_in_price c.args.edition.now c.args.trip.now c.args.c.now places);
    }
