-- Each piece stands behind the one before it.
use Rattle.std.proofs.Common.{append_assoc, refl}
use Rattle.fare_json.specs.Spelled.{fare_front_json}
use Rattle.fare_json.proofs.part.push_fare_front.Goals as goal

pub returns : goal.returns
unfolding fare_front_json
returns c =
    rw (
      c.in_ok-push_named-3.ensures,
      c.text-3.ensures.text,
      c.in_ok-push_named-2.ensures,
      c.text-2.ensures.text,
      c.in_ok-push_named.ensures,
      c.text.ensures.text,
    ) (simp append_assoc refl)
