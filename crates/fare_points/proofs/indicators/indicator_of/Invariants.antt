-- what is met so far, and in what is left, is met in all
use Rattle.std.proofs.Common.{◌≡◌, ◌||◌, ◌&&◌, drop}
use Rattle.std.specs.List.{list_any, list_all}
use Rattle.fare_rules.specs.Indicator.{crosses_atlantic, crosses_pacific, is_within_one}
use Rattle.fare_points.proofs.indicators.indicator_of.Given as goal

abbrev pub invariant-loop-number : goal.invariant-loop-number
invariant-loop-number l =
    ((l.met.atlantic || list_any (crosses_atlantic l.edition l.trip) (drop l.number-index l.sectors)) ≡ list_any (crosses_atlantic l.edition l.trip) l.sectors)
    × ((l.met.pacific || list_any (crosses_pacific l.edition l.trip) (drop l.number-index l.sectors)) ≡ list_any (crosses_pacific l.edition l.trip) l.sectors)
    × ((l.met.within_one && list_all (is_within_one l.edition l.trip) (drop l.number-index l.sectors)) ≡ list_all (is_within_one l.edition l.trip) l.sectors)
