use Rattle.std.proofs.Common.{ap}
use Rattle.std.specs.Prelude.{codes}
use Rattle.fare_changes.specs.CompareText.{words_of}
use Rattle.fare_changes.proofs.ItemLines.{on_end}
use Rattle.fare_changes.proofs.item_line.push_words.Goals as goal

pub returns-in_ok-extend_from_slice-in-Unknown : goal.returns-in_ok-extend_from_slice-in-Unknown
unfolding words_of
returns-in_ok-extend_from_slice-in-Unknown c =
    on_end c.push_city.result c.push_city.new.text.items c.args.text.now.items c.extend_from_slice-in-Unknown.new.self.items
    (codes "FAULT UNKNOWN PLACE ") _ (words_of c.args.one.now) c.push_city.ensures c.in_ok-extend_from_slice-in-Unknown.ensures.items
    (ap words_of c.in-Unknown.is)
