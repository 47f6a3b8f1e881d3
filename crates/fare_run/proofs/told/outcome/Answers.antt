use Rattle.fare_commands.specs.declared.exit.Exit.TheVariants as ended
use Rattle.fare_run.proofs.ToldLemmas.{at_exit, comes, comes_of, door_fault_apart, ends, keeper_fault_apart, leaves}
use Rattle.fare_run.proofs.ToldLemmas.{limit_apart, read_fault_apart, serves, silences, stays}
use Rattle.fare_run.proofs.told.outcome.Goals as goal

pub returns-clause-comes : goal.returns-clause-comes
returns-clause-comes g c =
    comes_of _ c.args.asked.now _ _ _ _ _ _ c.answer-answer.ensures.answer c.answer-answer.ensures.reading.cause
    c.answer-answer.ensures.keeping.cause c.answer-answer.ensures.door_cause c.told.ensures

pub returns-clause-unread : goal.returns-clause-unread
returns-clause-unread g c left =
    comes c.args.asked.now _ _ _ _ _ _ (c.answer-answer.ensures.unread left) c.answer-answer.ensures.reading.cause
    c.answer-answer.ensures.keeping.cause c.answer-answer.ensures.door_cause c.told.ensures

pub returns-clause-ends : goal.returns-clause-ends
returns-clause-ends g c =
    ends _ _ _ c.answer-answer.ensures.own c.answer-answer.ensures.text c.answer-answer.ensures.ends c.told.ensures

pub returns-clause-silent : goal.returns-clause-silent
returns-clause-silent g c silent = silences _ _ _ c.answer-answer.ensures.own c.told.ensures silent

pub returns-clause-limit : goal.returns-clause-limit
returns-clause-limit g c is =
    at_exit _ ended.Limit _ _ (λ own. own) limit_apart c.answer-answer.ensures.own
    c.answer-answer.ensures.reading.too_long c.told.ensures is

pub returns-clause-read_fault : goal.returns-clause-read_fault
returns-clause-read_fault g c is =
    at_exit _ ended.ReadFault _ _ (λ own. own) read_fault_apart c.answer-answer.ensures.own
    c.answer-answer.ensures.reading.cause c.told.ensures is

pub returns-clause-keeper_fault : goal.returns-clause-keeper_fault
returns-clause-keeper_fault g c is =
    at_exit _ ended.KeeperFault _ _ (λ own. own) keeper_fault_apart c.answer-answer.ensures.own
    c.answer-answer.ensures.keeping.cause c.told.ensures is

pub returns-clause-keeper_last : goal.returns-clause-keeper_last
returns-clause-keeper_last g c is =
    at_exit _ ended.KeeperFault _ _ (λ own. own) keeper_fault_apart c.answer-answer.ensures.own
    c.answer-answer.ensures.keeper_last c.told.ensures is

pub returns-clause-door_fault : goal.returns-clause-door_fault
returns-clause-door_fault g c is =
    at_exit _ ended.DoorFault _ _ (λ own. own) door_fault_apart c.answer-answer.ensures.own
    c.answer-answer.ensures.door_cause c.told.ensures is

pub returns-clause-refused : goal.returns-clause-refused
returns-clause-refused g c silent =
    stays _ _ _ _ _ _ c.answer-answer.ensures.own c.answer-answer.ensures.refused c.answer-answer.ensures.bodies
    c.told.ensures silent

pub returns-clause-nobody : goal.returns-clause-nobody
returns-clause-nobody g c nobody =
    leaves _ _ _ c.answer-answer.ensures.own c.answer-answer.ensures.nobody c.answer-answer.ensures.door c.told.ensures
    nobody

pub returns-clause-serving : goal.returns-clause-serving
returns-clause-serving g c = serves _ _ _ _ _ c.answer-answer.ensures.serving c.told.ensures
