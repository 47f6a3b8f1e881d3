use Rattle.std.proofs.Common.{◌++◌, ◌<◌, length, arith}
use Rattle.fare_json.specs.Spelled.{entry_json, listed_json}
use Rattle.fare_json.proofs.EntryLemmas.{entry_more}
use Rattle.fare_json.proofs.first.push_entries.Goals as goal

pub loop-place-preserved : goal.loop-place-preserved
loop-place-preserved c =
    let first = c.args.first.now in
    let within : c.loop-place.place < length first.list.now = omega arith in
    entry_more first.edition.now first.trip.now first.list.now c.loop-place.place c.loop-place.text.items
    c.push_place.new.text.items
    (c.args.text.now.items ++ listed_json (entry_json first.edition.now first.trip.now) first.list.now)
    within c.in_ok-push_place.ensures c.loop-place.invariant
