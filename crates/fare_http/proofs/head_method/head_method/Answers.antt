use Rattle.std.proofs.Common.{Err, ap, ◌∙◌}
use Rattle.fare_http.proofs.TokenLemmas.{method-token}
use Rattle.fare_http.proofs.head_method.head_method.Goals as goal

pub unreachable-requires : goal.unreachable-requires
unreachable-requires c =
    let invalid = c.in-Err-Invalid.is ∙ ap Err c.in-Err-Invalid.field-0-is in
    c.from_bytes.ensures.invalid.0 invalid (method-token c.args.token.now c.requires)
