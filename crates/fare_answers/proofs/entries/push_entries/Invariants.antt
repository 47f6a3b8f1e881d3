-- what is left of the text are the entries from this one on
use Rattle.std.proofs.Common.{◌≡◌, ◌+◌, ◌++◌, drop}
use Rattle.fare_answers.specs.BestText.{entries_text}
use Rattle.fare_answers.proofs.entries.push_entries.Given as goal

abbrev pub invariant-loop-place : goal.invariant-loop-place
invariant-loop-place l =
    l.fn.text.items ++ entries_text l.first.edition.now l.first.trip.now 1 l.first.list.now
    ≡ l.text.items ++ entries_text l.first.edition.now l.first.trip.now (l.place + 1) (drop l.place l.first.list.now)
