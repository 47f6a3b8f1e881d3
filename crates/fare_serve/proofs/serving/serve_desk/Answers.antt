use Rattle.fare_desk.specs.Publishing.{state}
use Rattle.fare_counter.proofs.StepLemmas.{rises}
use Rattle.fare_serve.proofs.CounterLemmas.{count-kept, failure-of-counter, name-kept, text-of-counter}
use Rattle.fare_serve.proofs.serving.serve_desk.Goals as goal

pub returns-in-Ok-clause-same_reference : goal.returns-in-Ok-clause-same_reference
returns-in-Ok-clause-same_reference g c =
    name-kept c.args.served.now c.serve_port.new.handler (λ served. served.counter.desk.keeper.ghost_name) c.in-Ok.ensures.serves.service
    (λ old method path body reply new taken. taken.0)

pub returns-in-Ok-clause-serves : goal.returns-in-Ok-clause-serves
returns-in-Ok-clause-serves g c =
    text-of-counter c.args.served.now c.serve_port.new.handler
    (λ served. state served.counter.desk.book (g.P.Keeper.bodies served.counter.desk.keeper.now) (g.P.Keeper.faults served.counter.desk.keeper.now))
    c.in-Ok.ensures.serves (λ old method path body reply new taken. taken.2)

pub returns-in-Ok-clause-keeper_faults : goal.returns-in-Ok-clause-keeper_faults
returns-in-Ok-clause-keeper_faults g c =
    count-kept c.args.served.now c.serve_port.new.handler (λ served. g.P.Keeper.faults served.counter.desk.keeper.now)
    c.in-Ok.ensures.serves.service (λ old method path body reply new taken. rises _ _ method path body reply taken.2)

pub returns-in-Err-clause-same_reference : goal.returns-in-Err-clause-same_reference
returns-in-Err-clause-same_reference g c =
    name-kept c.args.served.now c.serve_port.new.handler (λ served. served.counter.desk.keeper.ghost_name) c.in-Err.ensures.serves.service
    (λ old method path body reply new taken. taken.0)

pub returns-in-Err-clause-serves : goal.returns-in-Err-clause-serves
returns-in-Err-clause-serves g c =
    failure-of-counter c.args.served.now c.serve_port.new.handler
    (λ served. state served.counter.desk.book (g.P.Keeper.bodies served.counter.desk.keeper.now) (g.P.Keeper.faults served.counter.desk.keeper.now))
    c.in-Err.ensures.serves (λ old method path body reply new taken. taken.2)

pub returns-in-Err-clause-keeper_faults : goal.returns-in-Err-clause-keeper_faults
returns-in-Err-clause-keeper_faults g c =
    count-kept c.args.served.now c.serve_port.new.handler (λ served. g.P.Keeper.faults served.counter.desk.keeper.now)
    c.in-Err.ensures.serves.service (λ old method path body reply new taken. rises _ _ method path body reply taken.2)

pub returns-in-Ok-clause-name : goal.returns-in-Ok-clause-name
returns-in-Ok-clause-name g c =
    name-kept c.args.served.now c.serve_port.new.handler (λ served. g.P.Keeper.opened_as served.counter.desk.keeper.now)
    c.in-Ok.ensures.serves.service (λ old method path body reply new taken. taken.1)

pub returns-in-Err-clause-name : goal.returns-in-Err-clause-name
returns-in-Err-clause-name g c =
    name-kept c.args.served.now c.serve_port.new.handler (λ served. g.P.Keeper.opened_as served.counter.desk.keeper.now)
    c.in-Err.ensures.serves.service (λ old method path body reply new taken. taken.1)
