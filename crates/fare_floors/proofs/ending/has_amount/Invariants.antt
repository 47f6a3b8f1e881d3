-- no entry so far has the fare
use Rattle.std.proofs.Common.{take, map}
use Rattle.fare_rules.proofs.MemberLemmas.{Member}
use Rattle.fare_floors.specs.Costs.{fare_of_entry}
use Rattle.fare_floors.proofs.ending.has_amount.Given as goal

abbrev pub invariant-loop-entry : goal.invariant-loop-entry
invariant-loop-entry l = Member l.fn.fare (map fare_of_entry (take l.entry-index l.entry-items)) → ⊥
