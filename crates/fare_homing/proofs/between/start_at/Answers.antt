use Rattle.std.proofs.Common.{◌≡◌, sym, subst, ◌∙◌, ap, arith}
use Rattle.std.specs.Prelude.{slice_index_or}
use Rattle.std.proofs.lemmas.List.{get_or_default}
use Rattle.fare_trip.specs.Itinerary.{Itinerary, count}
use Rattle.fare_rules.specs.Construction.{begin_after}
use Rattle.fare_legs.specs.Legs.{AreLegsOf, no_legs}
use Rattle.fare_homing.proofs.between.start_at.Goals as goal

pub returns-clause-legs : goal.returns-clause-legs
returns-clause-legs c barred known =
    let tariff = c.args.table.now.edition in
    let trip = c.args.table.now.trip in
    let legs = c.args.legs.now in
    let begins : c.begin_after.result ≡ begin_after trip c.args.i = c.begin_after.ensures.value ∙ ap (λ (t : Itinerary). begin_after t c.args.i) c.trip-trip.ensures in
    let last : c.count-sectors.result ≡ count trip = c.count-sectors.ensures.value ∙ ap count c.trip-trip.ensures in
    let same : slice_index_or legs c.args.i no_legs ≡ slice_index_or legs c.args.i c.index-legs-i.result = get_or_default legs c.args.i no_legs c.index-legs-i.result (omega (arith, c.type_inv.legs, c.count-sectors.ensures.at_most, c.requires.within)) in
    subst (λ a. AreLegsOf tariff trip barred a (slice_index_or legs c.args.i c.index-legs-i.result)) (sym begins) (subst (AreLegsOf tariff trip barred (begin_after trip c.args.i)) same (known c.args.i c.requires.within))
