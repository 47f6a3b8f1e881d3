use Rattle.std.proofs.Common.{◌≡◌, ◌-◌, ◌^◌, ◌/◌, ◌++◌}
use Rattle.fare_codes.specs.Numbers.{last_digits}
use Rattle.fare_codes.proofs.decimals.push_last_digits.Given as goal

abbrev pub invariant-loop : goal.invariant-loop
invariant-loop l = record {
  power : l.unit ≡ 10 ^ (l.places - l.counter);
  written : l.text.bytes ≡ l.fn.text.bytes ++ last_digits l.counter (l.n / l.unit);
}
