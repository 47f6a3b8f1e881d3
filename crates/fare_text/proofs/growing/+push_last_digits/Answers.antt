use Rattle.std.proofs.Common.{◌∙◌, ◌+◌, ◌-◌, ◌/◌, ◌%◌, ◌++◌, ◌∷◌, [], List, ℕ, arith, ap, sym, append_assoc}
use Rattle.fare_codes.specs.Numbers.{last_digits}
use Rattle.fare_text.proofs.Digits.{last_digits_step}
use Rattle.fare_text.proofs.growing.+push_last_digits.Goals as goal

pub returns : goal.returns
returns t c =
    let last : List ℕ = (48 + c.args.n % 10) ∷ [] in
    let front : List ℕ = last_digits (c.args.places - 1) (c.args.n / 10) in
    c.in_ok-push.ensures.items ∙ ap (λ (before : List ℕ). before ++ last) c.in_ok-push_last_digits.ensures
    ∙ append_assoc c.args.text.now.items front last
    ∙ ap (λ (back : List ℕ). c.args.text.now.items ++ back) (sym (last_digits_step c.args.places c.args.n (omega arith)))
