use Rattle.std.proofs.Common.{◌≡◌, ◌++◌, map, take}
use Rattle.fare_audit.specs.declared.legs.Leg.TheVariants.{Flown}
use Rattle.fare_audit.proofs.legs.push_flown.Given as goal

-- the flown sectors before this one are there
abbrev pub invariant-loop-sector : goal.invariant-loop-sector
invariant-loop-sector l = l.legs.items ≡ l.fn.legs.items ++ map Flown (take l.sector-index l.flown)
