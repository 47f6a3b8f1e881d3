use Rattle.std.proofs.Common.{◌++◌, ◌∙◌, List, ℕ, ap, sym, arith, append_assoc, refl}
use Rattle.std.specs.Prelude.{codes}
use Rattle.fare_codes.specs.Numbers.{nuc_text}
use Rattle.fare_sentences.specs.VerdictWords.{dearer_words}
use Rattle.fare_sentences.proofs.verdict_sentences.push_dearer.Goals as goal

pub returns : goal.returns
unfolding dearer_words
returns c =
    let first = c.in_ok-extend_from_slice.ensures.items in
    let second = c.in_ok-push_decimal.ensures in
    let third = c.in_ok-extend_from_slice-2.ensures.items in
    rw (third, second, first, c.from.ensures) (simp append_assoc refl)
