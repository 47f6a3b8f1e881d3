-- the record at the place that is found
use Rattle.std.proofs.Common.{◌≡◌, ◌-◌, length, Some, get_or, ap, sym, ◌∙◌, arith}
use Rattle.fare_records.proofs.Chain.{keyed_first, find_first, find_none}
use Rattle.fare_records.proofs.filed.Filed.find.Goals as goal

pub bounds-records-place : goal.bounds-records-place
bounds-records-place c =
    let keyed = keyed_first c.args.key.now c.args.self.now (Some c.in-Some.place) c.in-Some.ensures in
    omega (arith, keyed.within, ap length c.records.ensures.records)

pub offset_bounds-records-place : goal.offset_bounds-records-place
offset_bounds-records-place c =
    let keyed = keyed_first c.args.key.now c.args.self.now (Some c.in-Some.place) c.in-Some.ensures in
    omega (arith, keyed.within, ap length c.records.ensures.records)

pub returns-in-None : goal.returns-in-None
returns-in-None c = sym (find_none _ c.args.self.now 0 (sym c.in-None.ensures))

pub returns-in-Some : goal.returns-in-Some
returns-in-Some c =
    let one = c.index-records-place.result in
    let at : c.index-records-place.result ≡ get_or c.args.self.now c.in-Some.place c.index-records-place.result =
    c.index-records-place.is ∙ ap (λ records. get_or records c.in-Some.place one) c.records.ensures.records in
    let start : c.in-Some.place ≡ c.in-Some.place - 0 = omega arith in
    ap Some (at ∙ ap (λ i. get_or c.args.self.now i one) start) ∙ sym (find_first _ c.args.self.now 0 c.in-Some.place one (sym c.in-Some.ensures))
