use Rattle.std.proofs.Common.{◌≡◌, refl, rules}
use Rattle.std.specs.Prelude.{Ok}
use Rattle.fare_csv.specs.Joined.{joined}
use Rattle.fare_csv.proofs.PiecesCut.{joined-further}
use Rattle.fare_csv.proofs.read_pieces.joined.Goals as goal

pub loop-found-init : goal.loop-found-init
unfolding joined
loop-found-init c = rw c.in_ok-records.ensures.items refl

pub loop-found-preserved : goal.loop-found-preserved
loop-found-preserved c =
    let was : c.in-Some.found ≡ Ok c.in_ok-more.more = search rules in
    rw c.in_ok-append.ensures.items (joined-further c.loop-found.yielded c.in-Some.found c.in_ok-more.more c.loop-found.records.items c.loop-found.invariant was)
