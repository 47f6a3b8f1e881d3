-- what is left answers as the whole
use Rattle.std.proofs.Common.{◌≡◌, drop}
use Rattle.std.specs.List.{list_any}
use Rattle.fare_rules.specs.Construction.{but_last}
use Rattle.fare_rules.specs.Shape.{ends_in}
use Rattle.fare_lawful.proofs.rules.shape.comes_home_early.Given as goal

abbrev pub invariant-loop-i : goal.invariant-loop-i
invariant-loop-i l = list_any (ends_in l.trip l.parts l.home) (but_last (drop l.i l.own)) ≡ list_any (ends_in l.trip l.parts l.home) (but_last l.own)
