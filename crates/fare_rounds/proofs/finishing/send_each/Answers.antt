use Rattle.std.proofs.Common.{◌≡◌, ◌<◌, ◌+◌, ◌++◌, [], ◌∷◌, ℕ, Bool, true, false, List, Option, length, map, take, refl, sym, ap, ◌∙◌, arith, length-take}
use Rattle.std.specs.Bool.{OnFalse}
use Rattle.std.proofs.lemmas.List.{length-map, map-append, take_more}
use Rattle.fare_http.specs.declared.reply.Reply.{Reply}
use Rattle.fare_rounds.specs.declared.entry.Entry.{Entry}
use Rattle.fare_rounds.proofs.AnswerLemmas.{answering-counts, answering-next}
use Rattle.fare_rounds.proofs.finishing.send_each.Goals as goal

-- the replies of so many entries
count-replies : (entries : List Entry) (i : ℕ) → i < length entries
    → length (map (λ (e : Entry). e.reply) (take i entries)) ≡ i
count-replies entries i below =
    length-map (take i entries) (λ (e : Entry). e.reply) ∙ omega (arith, length-take i entries, below)

-- a connection is held
some-held : (answer : Bool) (places : List ℕ) → 0 < length places → OnFalse answer (places ≡ []) → answer ≡ true
some-held true places some none = refl
some-held false places some none = absurd (omega (arith, some, ap length none))

pub add-requires-clause-served : goal.add-requires-clause-served
add-requires-clause-served g c =
    let counts = answering-counts _ _ _ _ _ _ _ _ _ _ c.entries.invariant.done in
    let count = count-replies c.args.entries.now c.entries.entry-index c.entries-test.true in
    omega (arith, counts.0, count, c.requires.few, c.entries-test.true)

pub add-requires-clause-cut : goal.add-requires-clause-cut
add-requires-clause-cut g c =
    let counts = answering-counts _ _ _ _ _ _ _ _ _ _ c.entries.invariant.done in
    let count = count-replies c.args.entries.now c.entries.entry-index c.entries-test.true in
    omega (arith, counts.0, count, c.requires.few, c.entries-test.true)

pub entries-preserved : goal.entries-preserved
entries-preserved g c =
    let before = c.entries.invariant in
    let entries : List Entry = c.args.entries.now in
    let i = c.entries.entry-index in
    let below = c.entries-test.true in
    let counts = answering-counts _ _ _ _ _ _ _ _ _ _ before.done in
    let count = count-replies entries i below in
    let some : 0 < length (g.D.Door.held c.entries.door) = omega (arith, counts.1, count, c.requires.held, below) in
    let is = some-held c.resume.result (g.D.Door.held c.entries.door) some c.resume.ensures.none in
    let takes = rw (is) at c.resume.ensures.taken in
    let sent = rw (c.as_ref.ensures.value, c.resume.ensures.sent, c.resume.ensures.cuts) at c.send.ensures in
    let reply : Option Reply = c.entry-item.result.reply in
    let next = answering-next (g.D.Door.cuts c.args.door.now) (g.D.Door.cuts c.entries.door) (g.D.Door.cuts c.send.new.door)
    _ _ (g.D.Door.held c.resume.new.self) _ _ (g.D.Door.sent c.send.new.door) _ _ _ _ (g.D.Door.current c.resume.new.self)
    reply c.send.result sent.never_falls before.done takes sent.served sent.cut sent.cause in
    let replies : map (λ (e : Entry). e.reply) (take (i + 1) entries) ≡ map (λ (e : Entry). e.reply) (take i entries) ++ reply ∷ [] =
    ap (map (λ (e : Entry). e.reply)) (take_more entries i c.entry-item.result below)
    ∙ map-append (λ (e : Entry). e.reply) (take i entries) _
    ∙ ap (λ (e : Entry). map (λ (other : Entry). other.reply) (take i entries) ++ e.reply ∷ []) (sym c.entry-item.is) in
    record {
      done = rw (replies, c.add.ensures.served, c.add.ensures.cut, sent.held) next;
      none_current = λ none. sent.closed;
      waiting = sent.waiting ∙ c.resume.ensures.waiting ∙ before.waiting;
      port = sent.port ∙ c.resume.ensures.port ∙ before.port;
      faults = sent.faults ∙ c.resume.ensures.faults ∙ before.faults;
      never_falls = omega (arith, before.never_falls, sent.never_falls);
    }
