use Rattle.std.proofs.Common.{◌≡◌, arith, subst, Option, get_or}
use Rattle.std.proofs.lemmas.List.{take_all}
use Rattle.fare_changes.specs.declared.compared.Compared.{Compared}
use Rattle.fare_changes.proofs.Answered.{Gathered, gathered_more, gathered_none}
use Rattle.fare_changes.proofs.side_by_side.gather.Goals as goal

pub loop-answer-init : goal.loop-answer-init
loop-answer-init c = gathered_none c.args.compared.now.items

pub loop-answer-preserved : goal.loop-answer-preserved
loop-answer-preserved c =
    let stands = subst (λ (o : Option Compared). o ≡ get_or c.args.answers.now c.loop-answer.answer-index o) c.in-Some.is c.answer-item.is in
    gathered_more c.args.answers.now c.loop-answer.answer-index c.in-Some.one c.args.compared.now.items c.loop-answer.compared.items
    c.push.new.self.items c.loop-answer-test.true stands c.in_ok-push.ensures.items c.loop-answer.invariant

pub returns : goal.returns
returns c =
    let all = take_all c.loop-answer.answer-index c.args.answers.now (omega arith) in
    subst (λ (l : _). Gathered l c.args.compared.now.items c.loop-answer.compared.items) all c.loop-answer.invariant
