use Rattle.std.proofs.Common.{◌≡◌, ◌++◌, Err, drop, sym, ap, ◌∙◌, rules, arith}
use Rattle.std.proofs.KnownBytes.{Consumes-trans}
use Rattle.fare_http.specs.declared.piece.NoPiece.TheVariants.{Ended}
use Rattle.fare_http.proofs.RequestLemmas.{head-then, body-taken, body-short}
use Rattle.fare_http.proofs.request.read_whole.Goals as goal

pub returns-clause-whole : goal.returns-clause-whole
returns-clause-whole g c =
    let read = c.in_ok-head.ensures in
    let head = read.whole.0 in
    let at = read.whole.1 in
    let grown = c.in_ok-body.ensures.whole in
    let piece = grown.0 in
    let taken = c.in_ok-head.head.taken.items in
    let rest = drop c.in_ok-head.head.spans.len taken in
    let body = body-taken c.in_ok-announced.announced rest piece c.in_ok-body.body.items
    (grown.2 ∙ ap (λ begun. begun ++ piece) c.in_ok-begun.ensures.begun) c.in_ok-body.ensures.announced in (
      taken ++ piece,
      Consumes-trans _ _ _ _ _ read.taken grown.1,
      record {
        head = head;
        rest = rest ++ piece;
        count = c.in_ok-announced.announced;
        has_head = head-then taken piece c.read_head.new.fields c.in_ok-head.head.spans head at read.within read.most (omega (arith, c.read_head.auto.fields));
        announced = sym (c.announced_length.ensures head at) ∙ c.in_ok-announced.was;
        within = body.0;
        method = c.in_ok-method.ensures head at;
        path = c.in_ok-path.ensures head at;
        body = c.from.ensures ∙ body.1;
      },
    )

pub returns-in_err-body-clause-body_ended : goal.returns-in_err-body-clause-body_ended
returns-in_err-body-clause-body_ended g c same =
    let ended : c.in_err-body.field-0.0 ≡ Ended = search rules in
    let is = c.in_err-body.was ∙ ap Err ended in
    let read = c.in_ok-head.ensures in
    let head = read.whole.0 in
    let at = read.whole.1 in
    let short = c.read_body.ensures.short is in
    let piece = short.0 in
    let taken = c.in_ok-head.head.taken.items in
    let rest = drop c.in_ok-head.head.spans.len taken in
    let begun = rw c.in_ok-begun.ensures.begun at short.2 in (
      taken ++ piece,
      Consumes-trans _ _ _ _ _ read.taken short.1,
      (
        c.read_body.ensures.ended is,
        head,
        rest ++ piece,
        c.in_ok-announced.announced,
        head-then taken piece c.read_head.new.fields c.in_ok-head.head.spans head at read.within read.most (omega (arith, c.read_head.auto.fields)),
        sym (c.announced_length.ensures head at) ∙ c.in_ok-announced.was,
        body-short c.in_ok-announced.announced rest piece begun,
      ),
    )
