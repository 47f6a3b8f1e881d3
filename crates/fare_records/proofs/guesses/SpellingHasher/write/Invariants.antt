-- the letters that were read are the digits so far
use Rattle.std.proofs.Common.{◌≡◌, ◌+◌, ◌*◌, ◌%◌, ◌^◌, take, fold}
use Rattle.fare_records.specs.declared.guesses.TheConstants.{LETTERS}
use Rattle.fare_records.proofs.guesses.SpellingHasher.write.Given as goal

abbrev pub invariant-loop-byte : goal.invariant-loop-byte
invariant-loop-byte l = l.self.number ≡ fold (λ n byte. ((n * LETTERS) % 2 ^ 64 + byte) % 2 ^ 64) l.initial.self.number (take l.byte-index l.bytes)
