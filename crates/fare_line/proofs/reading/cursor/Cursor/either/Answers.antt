use Rattle.std.proofs.Common.{refl}
use Rattle.std.specs.Fn.{FnOnceReturnsAtMut}
use Rattle.fare_line.proofs.Choices.{both_stop, first_found, second_found}
use Rattle.fare_line.proofs.reading.cursor.Cursor.either.Goals as goal

pub returns-in-Ok : goal.returns-in-Ok
returns-in-Ok g c = λ a b one two.
    let called : FnOnceReturnsAtMut g.F.FnOnce c.args.first c.args.self.now c.first.result c.first.new.arg2 =
    record { shown = _; shows = refl; left = _; met = c.first.ensures; leaves = refl } in
    first_found c.first.result c.in-Ok.found c.first.new.arg2.rest.now a b c.in-Ok.is (one c.first.result c.first.new.arg2 called)

pub returns-in-Ok-second : goal.returns-in-Ok-second
returns-in-Ok-second g c = λ a b one two.
    let called : FnOnceReturnsAtMut g.F.FnOnce c.args.first c.args.self.now c.first.result c.first.new.arg2 =
    record { shown = _; shows = refl; left = _; met = c.first.ensures; leaves = refl } in
    let called_again : FnOnceReturnsAtMut g.G.FnOnce c.args.second c.args.self.now c.second.result c.second.new.arg2 =
    record { shown = _; shows = refl; left = _; met = c.second.ensures; leaves = refl } in
    second_found c.first.result c.second.result c.in-Ok-second.found c.in-Err.left c.first.new.arg2.rest.now c.second.new.arg2.rest.now a b
    c.in-Err.is (one c.first.result c.first.new.arg2 called) c.in-Ok-second.is (two c.second.result c.second.new.arg2 called_again)

pub returns-in-Err-second : goal.returns-in-Err-second
returns-in-Err-second g c = λ a b one two.
    let called : FnOnceReturnsAtMut g.F.FnOnce c.args.first c.args.self.now c.first.result c.first.new.arg2 =
    record { shown = _; shows = refl; left = _; met = c.first.ensures; leaves = refl } in
    let called_again : FnOnceReturnsAtMut g.G.FnOnce c.args.second c.args.self.now c.second.result c.second.new.arg2 =
    record { shown = _; shows = refl; left = _; met = c.second.ensures; leaves = refl } in
    both_stop c.first.result c.second.result c.in-Err.left c.in-Err-second.more c.min.result c.first.new.arg2.rest.now c.second.new.arg2.rest.now a b
    c.in-Err.is (one c.first.result c.first.new.arg2 called) c.in-Err-second.is (two c.second.result c.second.new.arg2 called_again)
    c.min.ensures
