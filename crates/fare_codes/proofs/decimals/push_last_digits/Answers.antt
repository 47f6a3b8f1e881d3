use Rattle.std.proofs.Common.{◌≡◌, ◌∙◌, ◌+◌, ◌/◌, ◌%◌, ◌++◌, ◌∷◌, [], length, arith, ap, lit<, sym, append_assoc, length-append}
use Rattle.std.proofs.lemmas.Grind.{common_steps}
use Rattle.std.specs.Char.{encode_utf8}
use Rattle.fare_codes.specs.Numbers.{last_digits}
use Rattle.fare_codes.proofs.TextLemmas.{length-ascii_char}
use Rattle.fare_codes.proofs.DecimalLemmas.{next_unit, last_digits_none, last_digits_more, length-last_digits}
use Rattle.fare_codes.proofs.decimals.push_last_digits.Goals as goal

pub loop-init : goal.loop-init
loop-init c = record {
  power = grind (arith, common_steps);
  written = grind (arith, common_steps, last_digits_none (c.args.n / c.pow-unit.result));
}

pub nonzero_div-n : goal.nonzero_div-n
nonzero_div-n c = (next_unit _ _ _ c.loop.invariant.power c.loop-test.true).1

pub push-requires : goal.push-requires
push-requires c =
    let one : length (encode_utf8 (48 + c.args.n / (c.loop.unit / 10) % 10)) ≡ 1 = length-ascii_char _ (omega arith) in
    let so_far : length c.loop.text.bytes ≡ length c.args.text.now.bytes + c.loop.counter =
    ap length c.loop.invariant.written ∙ length-append _ _ ∙ ap (λ k. length c.args.text.now.bytes + k) (length-last_digits c.loop.counter (c.args.n / c.loop.unit)) in
    (lit< tt, omega arith)

pub loop-preserved : goal.loop-preserved
loop-preserved c =
    let next = next_unit _ _ _ c.loop.invariant.power c.loop-test.true in
    let pushed = c.push.ensures.ascii (omega arith) in
    let more = last_digits_more c.loop.counter c.args.n c.loop.unit (c.loop.unit / 10) next.1 next.2 in
    record {
      power = next.0;
      written = pushed ∙ ap (λ front. front ++ (48 + c.args.n / (c.loop.unit / 10) % 10) ∷ []) c.loop.invariant.written
          ∙ append_assoc c.args.text.now.bytes (last_digits c.loop.counter (c.args.n / c.loop.unit)) ((48 + c.args.n / (c.loop.unit / 10) % 10) ∷ []) ∙ ap (λ back. c.args.text.now.bytes ++ back) (sym more);
    }
