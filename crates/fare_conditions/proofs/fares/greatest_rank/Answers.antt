use Rattle.std.proofs.Common.{◌≡◌, ℕ, ◌+◌, ◌&&◌, max, ap, sym, ◌∙◌, arith}
use Rattle.std.specs.Prelude.{nat_le}
use Rattle.std.specs.List.{list_all}
use Rattle.fare_trip.specs.declared.sector.Sector.{Sector}
use Rattle.fare_trip.specs.Itinerary.{sector}
use Rattle.fare_rules.specs.Numbers.{numbers}
use Rattle.fare_rules.specs.ComponentAmount.{covers_cabin, rank}
use Rattle.fare_conditions.proofs.SpanLemmas.{rank_first, rank_next, rank_last}
use Rattle.fare_conditions.proofs.fares.greatest_rank.Goals as goal

pub loop-i-init : goal.loop-i-init
loop-i-init c = λ class. rank_first c.args.trip.now class c.args.a c.args.b

pub loop-i-preserved : goal.loop-i-preserved
loop-i-preserved c = λ class.
    let trip = c.args.trip.now in
    let i = c.loop-i.i in
    let e : c.max-greatest.result ≡ max c.loop-i.greatest (rank (sector trip (i + 1)).cabin) =
    c.max-greatest.ensures ∙ ap (max c.loop-i.greatest) (c.rank.ensures ∙ ap (λ (s : Sector). rank s.cabin) c.sector.ensures) in
    ap (λ (g : ℕ). nat_le g (rank class) && list_all (covers_cabin trip class) (numbers (i + 1 + 1) (c.args.b + 1))) e
    ∙ rank_next trip class c.loop-i.greatest i c.args.b c.loop-i-test.true
    ∙ c.loop-i.invariant class

pub returns : goal.returns
returns c = λ class.
    sym (c.loop-i.invariant class)
    ∙ rank_last c.args.trip.now class c.loop-i.greatest c.loop-i.i c.args.b (omega arith)
