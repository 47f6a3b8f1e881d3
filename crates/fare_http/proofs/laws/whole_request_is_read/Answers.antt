use Rattle.std.proofs.Common.{◌≡◌, arith}
use Rattle.fare_http.proofs.BringsLemmas.{brings-all, one-request, refused-behind, short-behind, whole-behind}
use Rattle.fare_http.proofs.laws.whole_request_is_read.Goals as goal

pub returns-clause-same : goal.returns-clause-same
returns-clause-same c bytes request other whole brings =
    let head = whole.head in
    let first = whole-behind bytes whole.rest head request whole.has_head (brings-all bytes request whole) in
    one-request head whole.rest request other first (whole-behind bytes whole.rest head other whole.has_head brings)

pub returns-clause-not_refused : goal.returns-clause-not_refused
returns-clause-not_refused c bytes request reply whole brings =
    let refused = refused-behind bytes whole.rest whole.head reply whole.has_head brings in
    cc (whole.announced, refused.1)

pub returns-clause-not_short : goal.returns-clause-not_short
returns-clause-not_short c bytes request whole brings =
    let short = short-behind bytes whole.rest whole.head whole.has_head brings in
    let count : short.0 ≡ whole.count = cc (whole.announced, short.1) in
    absurd (omega (arith, count, short.2, whole.within))
