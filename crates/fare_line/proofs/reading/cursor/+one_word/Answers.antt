use Rattle.std.proofs.Common.{arith, rules, ℕ, List, [], map, Bor}
use Rattle.std.proofs.lemmas.Grind.{common_steps}
use Rattle.fare_line.specs.reader.Reading.{Gives, later, one_of}
use Rattle.fare_line.proofs.Words.{index_of_word}
use Rattle.fare_line.proofs.reading.cursor.+one_word.Goals as goal

pub Cursor::first_or_later-returns : goal.Cursor::first_or_later-returns
unfolding one_of
Cursor::first_or_later-returns t c =
    c.either.ensures (one_of c.args.word.now [] c.args.self.now.rest.now)
    (later (one_of c.args.next.now (map (λ (w : Bor (List ℕ)). w.now) c.args.behind.now) c.args.self.now.rest.now))
    (λ r left called. search rules) (λ r left called. search rules)

pub Cursor::one_of-returns-in-len1-up-clause-index : goal.Cursor::one_of-returns-in-len1-up-clause-index
Cursor::one_of-returns-in-len1-up-clause-index t c =
    let read : Gives c.first_or_later.result c.first_or_later.new.self.rest.now (one_of c.args.word.now (map (λ (w : Bor (List ℕ)). w.now) c.args.others.now) c.args.self.now.rest.now) = grind (arith, common_steps) in
    index_of_word (λ (w : Bor (List ℕ)). w.now) c.args.word.now c.args.others.now c.args.self.now.rest.now c.first_or_later.new.self.rest.now c.first_or_later.result read
