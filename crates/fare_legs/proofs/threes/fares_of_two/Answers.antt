use Rattle.std.proofs.Common.{ℕ}
use Rattle.std.proofs.lemmas.List.Elements.{All-replicate}
use Rattle.fare_legs.specs.Threes.{IsOfTwo}
use Rattle.fare_legs.proofs.ThreeLemmas.{none_of_none}
use Rattle.fare_legs.proofs.threes.fares_of_two.Goals as goal

pub loop-place-init : goal.loop-place-init
loop-place-init c = All-replicate (IsOfTwo c.args.table.now.edition c.args.table.now.trip) 16 0 (none_of_none c.args.table.now.edition c.args.table.now.trip)
