use Rattle.std.proofs.Common.{◌≡◌, take}
use Rattle.fare_codes.proofs.texts.ascii_text.Given as goal

abbrev pub invariant-loop-byte : goal.invariant-loop-byte
invariant-loop-byte l = l.text.bytes ≡ take l.byte-index l.bytes
