use Rattle.std.proofs.Common.{take, map, length}
use Rattle.httparse.specs.Spans.{header_bytes}
use Rattle.fare_http.specs.Lengths.{AreNamed, IsOneWithin, values_named}
use Rattle.fare_http.proofs.lengths.values_of.Given as goal

-- what was found among the fields before the current one
abbrev pub invariant-loop-field : goal.invariant-loop-field
invariant-loop-field l = record {
  values : AreNamed l.taken l.found (values_named l.name (map (header_bytes l.taken) (take l.field-index l.fields)));
  within : IsOneWithin (length l.taken) l.found;
}
