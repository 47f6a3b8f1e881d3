-- what is left of the text are the entries from this one on
use Rattle.std.proofs.Common.{◌≡◌, ◌++◌, drop}
use Rattle.fare_json.specs.Spelled.{entry_json, listed_json}
use Rattle.fare_json.proofs.EntryLemmas.{rest_json}
use Rattle.fare_json.proofs.first.push_entries.Given as goal

abbrev pub invariant-loop-place : goal.invariant-loop-place
invariant-loop-place l =
    l.fn.text.items ++ listed_json (entry_json l.first.edition.now l.first.trip.now) l.first.list.now
    ≡ l.text.items ++ rest_json l.first.edition.now l.first.trip.now l.place (drop l.place l.first.list.now)
