use Rattle.std.proofs.Common.{refl}
use Rattle.fare_outside.proofs.Places.{at_place-there, at_place-set}
use Rattle.fare_outside.proofs.at_place.read_at.Goals as goal

pub returns-in-Some-clause-bytes : goal.returns-in-Some-clause-bytes
returns-in-Some-clause-bytes c =
    let item = c.index-sources-place.result in
    let old = at_place-there c.args.place _ c.args.sources.now item c.in-Some.is c.if-place-sources.true in
    let new = at_place-set c.args.place _ c.args.sources.now c.read.new.self c.in-Some.is c.if-place-sources.true in
    rw (old, new) c.read.ensures.bytes

pub returns-in-Some-clause-answer : goal.returns-in-Some-clause-answer
returns-in-Some-clause-answer c =
    let item = c.index-sources-place.result in
    let old = at_place-there c.args.place _ c.args.sources.now item c.in-Some.is c.if-place-sources.true in
    rw old c.read.ensures.answer

pub returns-in-Some-clause-rest : goal.returns-in-Some-clause-rest
returns-in-Some-clause-rest c =
    let item = c.index-sources-place.result in
    let old = at_place-there c.args.place _ c.args.sources.now item c.in-Some.is c.if-place-sources.true in
    rw (old, c.in-Some.is, c.read.ensures.rest) refl
