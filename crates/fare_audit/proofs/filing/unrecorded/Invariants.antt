-- what is left to be looked at has the first part without a record
use Rattle.std.proofs.Common.{◌≡◌, ◌+◌, length}
use Rattle.std.specs.Prelude.{find}
use Rattle.fare_rules.specs.Construction.{places}
use Rattle.fare_rules.specs.Numbers.{numbers}
use Rattle.fare_audit.specs.Filing.{bare_parts, lacks_record}
use Rattle.fare_audit.proofs.filing.unrecorded.Given as goal

abbrev pub invariant-loop-i : goal.invariant-loop-i
invariant-loop-i l =
    find (lacks_record l.edition l.trip l.line) (numbers (l.i + 1) (length (bare_parts l.line) + 1))
    ≡ find (lacks_record l.edition l.trip l.line) (places (bare_parts l.line))
