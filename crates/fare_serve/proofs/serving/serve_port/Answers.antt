use Rattle.std.proofs.Common.{[], ap, arith, inr, refl}
use Rattle.fare_serve.specs.Service.{DoorState, standing}
use Rattle.fare_serve.proofs.ServiceLemmas.{door-asked}
use Rattle.fare_serve.proofs.serving.serve_port.Goals as goal

pub returns-then-is_err-clause-serves : goal.returns-then-is_err-clause-serves
returns-then-is_err-clause-serves g c =
    let asked = c.listen.ensures in
    record {
      served = 0;
      cut = 0;
      service = record {
        heard = g.D.Door.listens_at c.listen.new.self;
        listened = g.D.Door.faults c.listen.new.self;
        asked = asked.never_falls;
        rounds = [];
        let_in = inr refl;
        each = ap (λ (door : DoorState). standing c.args.handler.now door 0 0)
            (door-asked _ _ _ _ _ _ _ _ asked.waiting asked.sent asked.cuts);
        within = omega arith;
      };
    }
