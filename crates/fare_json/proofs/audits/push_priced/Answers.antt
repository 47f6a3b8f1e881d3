-- Each piece stands behind the one before it.
use Rattle.std.proofs.Common.{◌++◌, append_assoc, arith, refl}
use Rattle.fare_json.specs.Spelled.{priced_json}
use Rattle.fare_json.proofs.audits.push_priced.Goals as goal

pub returns : goal.returns
unfolding priced_json
returns c =
    rw (
      c.in_ok-push.ensures.items,
      c.in_ok-push_string-3.ensures,
      c.in_ok-extend_from_slice-3.ensures.items,
      c.in_ok-push_string-2.ensures,
      c.as_slice-2.ensures.value,
      c.in_ok-money_text-2.ensures,
      c.in_ok-extend_from_slice-2.ensures.items,
      c.in_ok-push_string.ensures,
      c.as_slice.ensures.value,
      c.in_ok-money_text.ensures,
      c.in_ok-extend_from_slice.ensures.items,
    ) (simp append_assoc refl)
