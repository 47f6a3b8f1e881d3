use Rattle.std.proofs.Common.{◌≡◌, ◌<◌, ◌++◌, ◌∷◌, [], length, ap, sym, subst, ◌∙◌}
use Rattle.fare_trip.specs.Itinerary.{count}
use Rattle.fare_units.specs.Walk.{IsFront}
use Rattle.fare_units.proofs.FrontLemmas.{front_more, front_short}
use Rattle.fare_floors.proofs.FollowLemmas.{follows, Follows}
use Rattle.fare_floors.proofs.partial.Partial.longer.Goals as goal

pub returns : goal.returns
returns c =
    let f : Follows c.args.table.now.trip c.args.self.now c.args.part = follows c.args.table.now.trip c.args.self.now c.args.part c.requires.follows in
    let short : length c.args.self.now < count c.args.table.now.trip = front_short c.args.table.now.trip c.args.self.now c.args.part c.requires.made f.rises f.within in
    let sectors : c.count-sectors.result ≡ count c.args.table.now.trip = c.count-sectors.ensures.value ∙ ap count c.trip.ensures in
    let longer : c.with_last.result ≡ c.args.self.now ++ c.args.part ∷ [] = cc in
    record {
      parts = longer;
      made = subst (IsFront c.args.table.now.trip) (sym longer) (front_more c.args.table.now.trip c.args.self.now c.args.part c.requires.made f.rises f.within f.ordered);
    }
