use Rattle.std.proofs.Common.{append_assoc, codes, decimal}
use Rattle.fare_check.specs.Sentences.{kind_sentence}
use Rattle.fare_check.proofs.Pieces.{two, three}
use Rattle.fare_check.proofs.sentence.push_kind.Goals as goal

pub returns-in-Duplicate : goal.returns-in-Duplicate
unfolding kind_sentence
returns-in-Duplicate c = rw c.in-Duplicate.is (two c.push_labelled.result c.push_labelled.new.text.items c.args.text.now.items (codes "its key is that of record ") (decimal c.in-Duplicate.first) c.push_labelled.ensures)

pub returns-in_ok-extend_from_slice-in-UnknownCity-2 : goal.returns-in_ok-extend_from_slice-in-UnknownCity-2
unfolding kind_sentence
returns-in_ok-extend_from_slice-in-UnknownCity-2 c =
    rw (c.in-UnknownCity.is, c.in_ok-extend_from_slice-in-UnknownCity-2.ensures.items, c.in_ok-push_city-in-UnknownCity.ensures, c.unknown_city.ensures, c.in_ok-extend_from_slice-in-UnknownCity.ensures.items) (simp append_assoc)

pub returns-in-UnknownRule : goal.returns-in-UnknownRule
unfolding kind_sentence
returns-in-UnknownRule c = rw (c.in-UnknownRule.is, ← c.field.ensures) (three c.push_between.result c.push_between.new.text.items c.args.text.now.items (codes "the rule ") c.field.result.now (codes " has no RULE record") c.push_between.ensures)

pub returns-in-UnknownCurrency : goal.returns-in-UnknownCurrency
unfolding kind_sentence
returns-in-UnknownCurrency c = rw (c.in-UnknownCurrency.is, ← c.field-in-UnknownCurrency.ensures) (three c.push_between-in-UnknownCurrency.result c.push_between-in-UnknownCurrency.new.text.items c.args.text.now.items (codes "the country ") c.field-in-UnknownCurrency.result.now (codes " has no CUR record") c.push_between-in-UnknownCurrency.ensures)

pub returns-in_ok-extend_from_slice-in-SamePoint : goal.returns-in_ok-extend_from_slice-in-SamePoint
unfolding kind_sentence
returns-in_ok-extend_from_slice-in-SamePoint c = rw c.in-SamePoint.is c.in_ok-extend_from_slice-in-SamePoint.ensures.items

pub returns-in_ok-extend_from_slice-in-OutOfLimit : goal.returns-in_ok-extend_from_slice-in-OutOfLimit
unfolding kind_sentence
returns-in_ok-extend_from_slice-in-OutOfLimit c = rw c.in-OutOfLimit.is c.in_ok-extend_from_slice-in-OutOfLimit.ensures.items
