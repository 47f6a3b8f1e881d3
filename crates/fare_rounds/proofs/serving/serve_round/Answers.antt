use Rattle.std.proofs.Common.{◌≡◌, length, sym, ap, ◌∙◌, subst, arith}
use Rattle.std.specs.Prelude.{IfSome}
use Rattle.std.specs.List.{AllZip}
use Rattle.fare_rounds.specs.Entries.{IsViewed}
use Rattle.fare_rounds.specs.Finishing.{failed_writes}
use Rattle.fare_rounds.specs.Taking.{RoseBy, entries_of, failed_reads, places_from, TakesEach}
use Rattle.fare_rounds.proofs.GatherLemmas.{rose-both}
use Rattle.fare_rounds.proofs.RoundLemmas.{merged, merged-connections, merged-cut, merged-failures, merged-sent, merged-served, round-count, round-served}
use Rattle.fare_rounds.proofs.serving.serve_round.Goals as goal

pub returns-clause-round : goal.returns-clause-round
returns-clause-round g c =
    let first = c.args.door.now in
    let between = c.take_round-round.new.door in
    let door = c.finish-counts.new.door in
    let taken = c.take_round-round.ensures in
    let done = c.finish-counts.ensures in
    let arrivals = taken.taken.0 in
    let answered = done.answered.0 in
    let step = g.H.Handler.step in
    let replies = g.H.RoundHandler.reply in
    let start = c.args.handler.now in
    let gathers = taken.taken.1 in
    let viewed = c.view.new.round in
    let views = c.view.ensures in
    let count = round-count step replies start _ _ c.take_round-round.result.0 viewed answered _ _ views done.answered.1
    done.answered.3 done.answered.4 in
    let same : length (entries_of arrivals) ≡ length answered = sym (count.1 ∙ ap length gathers.entries) in
    let zipped = subst (λ entries. AllZip (IsViewed (replies start)) entries viewed.entries) gathers.entries views.0 in
    let answers = done.answered.2 in
    let rose = rose-both (failed_reads arrivals) (failed_writes answered) (g.D.Door.cuts first) (g.D.Door.cuts between)
    (g.D.Door.cuts door) gathers.failed answers.failed in
    let told = subst (λ places. IfSome (g.D.Door.sent first) (λ lists. places ≡ places_from (length lists) arrivals))
    (sym gathers.held) gathers.told in (
      merged arrivals answered,
      round-served step replies g.met.H.RoundHandler.shows start start _ arrivals viewed.entries answered gathers.read zipped done.answered.1 answers.each,
      subst (λ count. RoseBy count (g.D.Door.cuts first) (g.D.Door.cuts door)) (sym (merged-failures arrivals answered same)) rose,
      subst (TakesEach (g.D.Door.waiting first) (g.D.Door.waiting door)) (sym (merged-connections arrivals answered same))
          (rw done.waiting gathers.waiting),
      merged-sent (g.D.Door.sent first) (g.D.Door.sent between) (g.D.Door.sent door) (g.D.Door.held between) arrivals answered
          same gathers.sent told answers.sent,
      done.answered.3 ∙ sym (merged-served arrivals answered same),
      omega (arith, done.answered.4, views.1, gathers.cut, merged-cut arrivals answered same),
    )

pub returns-clause-most : goal.returns-clause-most
returns-clause-most g c =
    let done = c.finish-counts.ensures.answered in
    let count = round-count g.H.Handler.step g.H.RoundHandler.reply c.args.handler.now _ _ c.take_round-round.result.0
    c.view.new.round done.0 _ _ c.view.ensures done.1 done.3 done.4 in
    omega (arith, count.0, c.take_round-round.ensures.most)

pub returns-clause-open : goal.returns-clause-open
returns-clause-open g c = λ open-end.
    let done = c.finish-counts.ensures.answered in
    let count = round-count g.H.Handler.step g.H.RoundHandler.reply c.args.handler.now _ _ c.take_round-round.result.0
    c.view.new.round done.0 _ _ c.view.ensures done.1 done.3 done.4 in
    omega (arith, count.0, c.take_round-round.ensures.open open-end)

pub returns-clause-all : goal.returns-clause-all
returns-clause-all g c = λ not-failed.
    let done = c.finish-counts.ensures.answered in
    let count = round-count g.H.Handler.step g.H.RoundHandler.reply c.args.handler.now _ _ c.take_round-round.result.0
    c.view.new.round done.0 _ _ c.view.ensures done.1 done.3 done.4 in
    rw count.0 (c.take_round-round.ensures.all not-failed)
