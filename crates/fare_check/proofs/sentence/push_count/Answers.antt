use Rattle.std.proofs.Common.{append_assoc}
use Rattle.fare_check.proofs.sentence.push_count.Goals as goal

pub returns : goal.returns
returns c =
    rw (c.in_ok-extend_from_slice-5.ensures.items, c.as_bytes-2.ensures.value, c.right.ensures, c.in_ok-extend_from_slice-4.ensures.items, c.in_ok-extend_from_slice-3.ensures.items, c.as_bytes.ensures.value, c.words.ensures, c.in_ok-extend_from_slice-2.ensures.items, c.in_ok-push_whole.ensures, c.in_ok-extend_from_slice.ensures.items, c.in-Some.is) (simp append_assoc)
