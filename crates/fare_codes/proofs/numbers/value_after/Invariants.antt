use Rattle.std.proofs.Common.{◌≡◌, ◌≤◌, take}
use Rattle.std.specs.Str.Parse.{digits_value_after}
use Rattle.fare_codes.proofs.numbers.value_after.Given as goal

abbrev pub invariant-loop-byte : goal.invariant-loop-byte
invariant-loop-byte l = record {
  read : l.value ≡ digits_value_after 10 l.start (take l.byte-index l.bytes);
  small : l.value ≤ l.most;
}
