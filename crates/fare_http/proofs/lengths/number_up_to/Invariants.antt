use Rattle.std.proofs.Common.{◌≡◌, ◌≤◌, take}
use Rattle.std.specs.Str.Parse.{digits_value}
use Rattle.fare_http.proofs.lengths.number_up_to.Given as goal

-- the number of the digits before the current one
abbrev pub invariant-loop-digit : goal.invariant-loop-digit
invariant-loop-digit l = record {
  read : l.number ≡ digits_value 10 (take l.digit-index l.digits);
  small : l.number ≤ l.most;
}
