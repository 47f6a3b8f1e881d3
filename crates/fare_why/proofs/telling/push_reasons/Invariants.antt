use Rattle.std.proofs.Common.{◌≡◌, ◌++◌, take}
use Rattle.fare_why.specs.WhyText.{reasons_text}
use Rattle.fare_why.proofs.telling.push_reasons.Given as goal

abbrev pub invariant-loop-reason : goal.invariant-loop-reason
invariant-loop-reason l = l.text.items ≡ l.initial.text.items ++ reasons_text (take l.reason-index l.reasons)
