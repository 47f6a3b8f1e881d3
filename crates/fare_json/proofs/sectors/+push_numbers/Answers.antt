-- Each piece stands behind the one before it.
use Rattle.std.proofs.Common.{◌++◌, append_assoc, arith, refl}
use Rattle.fare_json.proofs.SectorLemmas.{numbers_step}
use Rattle.fare_json.proofs.sectors.+push_numbers.Goals as goal

pub returns : goal.returns
returns t c =
    rw (
      c.in_ok-push_numbers.ensures,
      c.in_ok-push_labelled.ensures,
      numbers_step c.args.count c.args.first (omega (arith, c.if-count-eq0.false)),
    ) (simp append_assoc refl)
