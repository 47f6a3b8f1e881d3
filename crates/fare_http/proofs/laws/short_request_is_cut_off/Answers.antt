use Rattle.std.proofs.Common.{◌≡◌, ◌++◌, inl, inr, sym, subst, arith}
use Rattle.fare_http.specs.Requests.{HasHead}
use Rattle.fare_http.proofs.BringsLemmas.{head-behind, no-refusal, refused-behind, taken-first, whole-behind}
use Rattle.fare_http.proofs.laws.short_request_is_cut_off.Goals as goal

pub returns-clause-not_whole : goal.returns-clause-not_whole
returns-clause-not_whole c bytes request (inl early) brings =
    let split = taken-first bytes brings.1.0 brings.0 brings.1.1 in
    let whole = brings.1.2 in
    let longer = head-behind brings.1.0 split.0 whole.rest whole.head whole.has_head in
    early.1 whole.head (whole.rest ++ split.0)
    (subst (λ all. HasHead all whole.head (whole.rest ++ split.0)) (sym split.2) longer).reads
returns-clause-not_whole c bytes request (inr inside) brings =
    let whole = whole-behind bytes inside.2 inside.1 request inside.4 brings in
    let count : whole.count ≡ inside.3 = cc (whole.announced, inside.5) in
    absurd (omega (arith, count, whole.within, inside.6))

pub returns-clause-body : goal.returns-clause-body
returns-clause-body c bytes reply inside brings =
    let refused = refused-behind bytes inside.2 inside.1 reply inside.4 brings in
    cc (refused.1, inside.5)

pub returns-clause-head : goal.returns-clause-head
returns-clause-head c bytes more rest head reply none has brings =
    no-refusal bytes more rest head reply none has brings
