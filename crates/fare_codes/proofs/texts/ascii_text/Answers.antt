use Rattle.std.proofs.Common.{◌≡◌, ◌<◌, ◌∙◌, arith, length, get_or, length-take-le, ap, lit<}
use Rattle.std.proofs.lemmas.Grind.{common_steps}
use Rattle.std.specs.Char.{encode_utf8}
use Rattle.fare_codes.proofs.TextLemmas.{ascii_at, length-ascii_char}
use Rattle.fare_codes.proofs.texts.ascii_text.Goals as goal

pub push-requires : goal.push-requires
push-requires c =
    let below : get_or c.args.bytes.now c.loop-byte.byte-index 0 < 128 = ascii_at _ _ c.loop-byte-test.true c.requires.ascii in
    let one : length (encode_utf8 (get_or c.args.bytes.now c.loop-byte.byte-index 0)) ≡ 1 = length-ascii_char _ below in
    let taken : length c.loop-byte.text.bytes ≡ c.loop-byte.byte-index = ap length c.loop-byte.invariant ∙ length-take-le c.loop-byte.byte-index c.args.bytes.now (omega arith) in
    (lit< tt, omega arith)

pub loop-byte-preserved : goal.loop-byte-preserved
loop-byte-preserved c =
    let below : get_or c.args.bytes.now c.loop-byte.byte-index 0 < 128 = ascii_at _ _ c.loop-byte-test.true c.requires.ascii in
    grind (arith, common_steps, c.push.ensures.ascii below)
