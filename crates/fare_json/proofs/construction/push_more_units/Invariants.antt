-- the text holds the units before this one
use Rattle.std.proofs.Common.{◌≡◌, ◌++◌, take}
use Rattle.std.specs.List.{flat_map}
use Rattle.fare_json.specs.Spelled.{after_comma, unit_json}
use Rattle.fare_json.proofs.construction.push_more_units.Given as goal

abbrev pub invariant-loop-unit : goal.invariant-loop-unit
invariant-loop-unit l = l.text.items ≡ l.fn.text.items ++ flat_map (after_comma unit_json) (take l.unit-index l.units)
