-- Each piece stands behind the one before it.
use Rattle.std.proofs.Common.{◌++◌, append_assoc, arith, refl}
use Rattle.fare_json.specs.Spelled.{listed_edition_json}
use Rattle.fare_json.proofs.listed.push_edition.Goals as goal

pub returns : goal.returns
unfolding listed_edition_json
returns c =
    rw (
      c.in_ok-push.ensures.items,
      c.in_ok-push_labelled-2.ensures,
      c.records.ensures.records,
      c.in_ok-push_labelled.ensures,
      c.number.ensures.value,
      c.in_ok-push_named.ensures,
      c.text.ensures.text,
      c.effective.ensures,
    ) (simp append_assoc refl)
