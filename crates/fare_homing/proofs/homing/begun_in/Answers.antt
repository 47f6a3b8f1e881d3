use Rattle.std.proofs.Common.{sym, ap, arith}
use Rattle.std.proofs.lemmas.List.{get_or_past}
use Rattle.fare_homing.specs.declared.homing.Standing.{Standing}
use Rattle.fare_homing.specs.Rows.{cell, no_standing}
use Rattle.fare_homing.proofs.homing.begun_in.Goals as goal

pub returns-else-stand-lt-MOST_POINTS : goal.returns-else-stand-lt-MOST_POINTS
returns-else-stand-lt-MOST_POINTS c =
    sym (ap (λ (s : Standing). cell s.begun c.args.i c.args.home) (get_or_past c.args.standings.now c.args.stand no_standing (omega (arith, c.type_inv.standings))))
