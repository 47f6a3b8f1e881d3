use Rattle.std.proofs.Common.{append_assoc}
use Rattle.fare_check.proofs.sentence.push_form.Goals as goal

pub returns : goal.returns
returns c =
    rw (c.in_ok-extend_from_slice-4.ensures.items, c.as_bytes-2.ensures.value, c.form.ensures, c.in_ok-extend_from_slice-3.ensures.items, c.in_ok-extend_from_slice-2.ensures.items, c.as_bytes.ensures.value, c.name.ensures, c.in_ok-extend_from_slice.ensures.items, c.in_ok-push_labelled.ensures, c.in-Some.is) (simp append_assoc)
