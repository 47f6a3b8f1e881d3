-- Each piece stands behind the one before it.
use Rattle.std.proofs.Common.{append_assoc, refl}
use Rattle.fare_json.specs.Spelled.{broken_json}
use Rattle.fare_json.proofs.audits.push_broken.Goals as goal

pub returns : goal.returns
unfolding broken_json
returns c = rw (c.in_ok-push_numbered.ensures, c.from.ensures, c.in_ok-push_labelled.ensures) (simp append_assoc refl)
