use Rattle.std.proofs.Common.{◌++◌, arith}
use Rattle.fare_changes.specs.CompareText.{item_lines}
use Rattle.fare_changes.proofs.ItemLines.{items_done, items_more}
use Rattle.fare_changes.proofs.item_line.push_items.Goals as goal

pub loop-place-preserved : goal.loop-place-preserved
loop-place-preserved c =
    let more = items_more c.args.compared.now c.loop-place.place c.index-compared-place.result c.loop-place.text.items
    (c.args.text.now.items ++ item_lines 1 c.args.compared.now) (omega arith) c.index-compared-place.is c.loop-place.invariant in
    rw c.in_ok-push_item.ensures more

pub returns : goal.returns
returns c =
    items_done c.args.compared.now c.loop-place.place c.loop-place.text.items
    (c.args.text.now.items ++ item_lines 1 c.args.compared.now) (omega arith) c.loop-place.invariant
