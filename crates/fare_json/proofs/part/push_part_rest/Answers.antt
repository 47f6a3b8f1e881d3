-- Each piece stands behind the one before it.
use Rattle.std.proofs.Common.{◌++◌, append_assoc, arith, refl}
use Rattle.fare_json.specs.Spelled.{part_rest_json}
use Rattle.fare_json.proofs.part.push_part_rest.Goals as goal

pub returns : goal.returns
unfolding part_rest_json
returns c =
    rw (
      c.in_ok-push.ensures.items,
      c.in_ok-push_labelled.ensures,
      c.from.ensures,
      c.in_ok-push_named.ensures,
      c.text.ensures.text,
      c.in_ok-push_sectors.ensures,
      c.in_ok-extend_from_slice-3.ensures.items,
      c.in_ok-push_mileage.ensures,
      c.in_ok-extend_from_slice-2.ensures.items,
      c.in_ok-push_higher.ensures,
      c.in_ok-extend_from_slice.ensures.items,
    ) (simp append_assoc refl)
