use Rattle.std.proofs.Common.{◌≡◌, ◌<◌, ◌+◌, Bool, true, false, length, List, ℕ, refl, sym, ◌∙◌, arith, append-nil, add-zero}
use Rattle.std.specs.Bool.{OnFalse}
use Rattle.fare_ports.specs.declared.door.TheConstants.{MOST_HELD}
use Rattle.fare_rounds.specs.Taking.{RoseBy, cut_off, held}
use Rattle.fare_rounds.proofs.ArrivalLemmas.{entry-brought, no-entry}
use Rattle.fare_rounds.proofs.round.Round.gather.Goals as goal

-- a row that isn't full takes one connection more
has-room : (answer : Bool) (places : List ℕ) → length places < MOST_HELD → OnFalse answer (length places ≡ MOST_HELD) → answer ≡ true
has-room true places few full = refl
has-room false places few full = absurd (omega (arith, full, few))

-- one connection's failures are all
rose-zero : (failures first last : ℕ) → RoseBy failures first last → RoseBy (failures + 0) first last
rose-zero failures first last rose = omega (arith, rose)

pub returns-in-Some-clause-taken : goal.returns-in-Some-clause-taken
returns-in-Some-clause-taken g c =
    let read = c.read_request.ensures in
    let door = c.read_request.new.door in
    let few : length (g.D.Door.held door) < MOST_HELD = rw read.held c.requires.held in
    let answered = has-room c.hold.result (g.D.Door.held door) few c.hold.ensures.full in
    let is = sym c.in-Some.is ∙ c.of.ensures in
    let seen = c.self.view_is in
    record {
      arrival = held (g.D.Door.left c.args.door.now) c.in-Some.entry;
      connection = refl;
      held = rw (answered, read.held, read.current) at c.hold.ensures.held;
      read = entry-brought c.read_request.result c.in-Some.entry _ _ read.whole read.fixed is;
      failed = omega (arith, read.never_falls, c.hold.ensures.cuts);
      entries = rw (sym seen) c.push.ensures.items;
      cut = rw (sym seen, add-zero) refl;
    }

pub returns-in-None-clause-taken : goal.returns-in-None-clause-taken
returns-in-None-clause-taken g c =
    let read = c.read_request.ensures in
    let closed = c.close.ensures in
    let is = sym c.in-None.is ∙ c.of.ensures in
    let seen = c.self.view_is in
    let first = g.D.Door.cuts c.args.door.now in
    let why = no-entry c.read_request.result (g.D.Door.left c.args.door.now) (g.D.Door.left c.read_request.new.door) first
    (g.D.Door.cuts c.read_request.new.door) read.never_falls read.cut is in
    record {
      arrival = cut_off (g.D.Door.left c.args.door.now) why.0;
      connection = refl;
      held = closed.held ∙ read.held ∙ sym (append-nil (g.D.Door.held c.args.door.now));
      read = why.2;
      failed = rw closed.cuts (rose-zero why.0 first _ why.1);
      entries = rw (sym seen, append-nil) refl;
      cut = rw (sym seen) refl;
    }
