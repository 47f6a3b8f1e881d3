use Rattle.std.proofs.Common.{◌≡◌, subst}
use Rattle.fare_http.specs.declared.lengths.BodyFault.{BodyFault}
use Rattle.fare_http.specs.Refusals.{SaysFault}
use Rattle.fare_http.proofs.BringsLemmas.{refused-behind, short-behind, whole-behind}
use Rattle.fare_http.proofs.laws.fault_is_told.Goals as goal

pub returns-clause-same : goal.returns-clause-same
returns-clause-same c bytes fault reply announces brings =
    let refused = refused-behind bytes announces.1 announces.0 reply announces.2 brings in
    let one : refused.0 ≡ fault = cc (announces.3, refused.1) in
    subst (λ (some : BodyFault). SaysFault some reply) one refused.2

pub returns-clause-not_whole : goal.returns-clause-not_whole
returns-clause-not_whole c bytes fault request announces brings =
    let whole = whole-behind bytes announces.1 announces.0 request announces.2 brings in
    cc (announces.3, whole.announced)

pub returns-clause-not_short : goal.returns-clause-not_short
returns-clause-not_short c bytes fault announces brings =
    let short = short-behind bytes announces.1 announces.0 announces.2 brings in
    cc (announces.3, short.1)
