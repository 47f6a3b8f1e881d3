-- the text holds the reasons before this one
use Rattle.std.proofs.Common.{◌≡◌, ◌++◌, take}
use Rattle.std.specs.List.{flat_map}
use Rattle.fare_json.specs.Spelled.{after_comma}
use Rattle.fare_why_json.specs.Spelled.{reason_json}
use Rattle.fare_why_json.proofs.telling.push_more_reasons.Given as goal

abbrev pub invariant-loop-reason : goal.invariant-loop-reason
invariant-loop-reason l = l.text.items ≡ l.fn.text.items ++ flat_map (after_comma reason_json) (take l.reason-index l.reasons)
