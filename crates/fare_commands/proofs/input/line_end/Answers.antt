use Rattle.std.proofs.Common.{length, arith, sym}
use Rattle.std.proofs.lemmas.List.Sums.{position_or_len_is}
use Rattle.fare_commands.specs.Input.{is_line_feed}
use Rattle.fare_commands.proofs.input.line_end.Goals as goal

pub returns-clause-place : goal.returns-clause-place
returns-clause-place c =
    sym (position_or_len_is is_line_feed c.args.source.now (length c.args.source.now) 0 (omega arith)
    (λ k below. c.loop-i.invariant k (omega arith)) (λ below. absurd (omega arith)))
