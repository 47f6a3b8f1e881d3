use Rattle.std.proofs.Common.{◌≡◌, ◌∙◌, ◌+◌, ◌/◌, ◌^◌, ◌++◌, ◌∷◌, [], length, decimal, arith, ap, lit<, append_assoc, length-append}
use Rattle.std.specs.Char.{encode_utf8}
use Rattle.fare_codes.specs.Numbers.{last_digits, decimal_text}
use Rattle.fare_codes.proofs.TextLemmas.{length-ascii_char}
use Rattle.fare_codes.proofs.DecimalLemmas.{power_positive, length_whole}
use Rattle.fare_codes.proofs.decimals.decimal_text.Goals as goal

pub nonzero_div-n : goal.nonzero_div-n
nonzero_div-n c = rw c.pow.ensures (power_positive c.args.places)

pub push_str-requires : goal.push_str-requires
push_str-requires c =
    let whole = length_whole c.args.places c.args.n c.requires.places c.requires.units in
    let written : length c.format.result.now ≡ length (decimal (c.args.n / 10 ^ c.args.places)) = ap length c.format.ensures.text ∙ ap (λ k. length (decimal (c.args.n / k))) c.pow.ensures in
    let empty : length c.new-text.result.bytes ≡ 0 = ap length c.new-text.ensures in
    (lit< tt, omega arith)

pub push-requires : goal.push-requires
push-requires c =
    let whole = length_whole c.args.places c.args.n c.requires.places c.requires.units in
    let written : length c.format.result.now ≡ length (decimal (c.args.n / 10 ^ c.args.places)) = ap length c.format.ensures.text ∙ ap (λ k. length (decimal (c.args.n / k))) c.pow.ensures in
    let empty : length c.new-text.result.bytes ≡ 0 = ap length c.new-text.ensures in
    let one : length (encode_utf8 46) ≡ 1 = length-ascii_char 46 (omega arith) in
    (lit< tt, omega arith)

pub push_last_digits-requires-clause-room : goal.push_last_digits-requires-clause-room
push_last_digits-requires-clause-room c =
    let whole = length_whole c.args.places c.args.n c.requires.places c.requires.units in
    let written : length c.format.result.now ≡ length (decimal (c.args.n / 10 ^ c.args.places)) = ap length c.format.ensures.text ∙ ap (λ k. length (decimal (c.args.n / k))) c.pow.ensures in
    let empty : length c.new-text.result.bytes ≡ 0 = ap length c.new-text.ensures in
    let pushed : length c.push.new.self.bytes ≡ length c.push_str.new.self.bytes + 1 = ap length (c.push.ensures.ascii (omega arith)) ∙ length-append c.push_str.new.self.bytes (46 ∷ []) in
    omega arith

pub returns : goal.returns
unfolding decimal_text
returns c =
    let written = c.format.ensures.text ∙ ap (λ k. decimal (c.args.n / k)) c.pow.ensures in
    let first = c.push_str.ensures.bytes ∙ ap (λ b. b ++ c.format.result.now) c.new-text.ensures ∙ written in
    let second = c.push.ensures.ascii (omega arith) ∙ ap (λ b. b ++ 46 ∷ []) first in
    c.push_last_digits.ensures ∙ ap (λ b. b ++ last_digits c.args.places c.args.n) second
    ∙ append_assoc (decimal (c.args.n / 10 ^ c.args.places)) (46 ∷ []) (last_digits c.args.places c.args.n)
