-- under what is behind the point until the unit comes home before this one
use Rattle.fare_floors.proofs.StackRowLemmas.{IsUntilBefore}
use Rattle.fare_floors.proofs.stacking.until_home.Given as goal

abbrev pub invariant-loop-home : goal.invariant-loop-home
invariant-loop-home l = IsUntilBefore l.trip l.homing l.fn.from l.opened.closes l.opened.stands l.opened.start l.i l.homes l.home l.least
