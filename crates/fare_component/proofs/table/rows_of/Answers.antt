use Rattle.std.proofs.Common.{◌≡◌, ◌+◌, ◌-◌, ◌∙◌, arith}
use Rattle.fare_component.specs.Table.{row_of}
use Rattle.fare_component.proofs.TableLemmas.{made_none, made_on}
use Rattle.fare_component.proofs.table.rows_of.Goals as goal

pub loop-done-init : goal.loop-done-init
loop-done-init c =
    let tariff = c.args.priced.now.edition.now in
    let trip = c.args.priced.now.trip.now in
    record {
      whole = c.new-rows.ensures.items ∙ made_none (row_of tariff trip) c.count-count.result;
      forms = c.new-forms.ensures tariff trip (c.count-count.result - 0);
    }

pub of-requires : goal.of-requires
of-requires c =
    c.begin.ensures c.args.priced.now.edition.now (c.count-count.result - c.loop-done.done) c.loop-done.invariant.forms

pub loop-done-preserved : goal.loop-done-preserved
loop-done-preserved c =
    let tariff = c.args.priced.now.edition.now in
    let trip = c.args.priced.now.trip.now in
    let count = c.count-count.result in
    let done = c.loop-done.done in
    let left : (count - 1 - done) + 1 + done ≡ count = omega arith in
    let a : count - 1 - done ≡ count - (done + 1) = omega arith in
    record {
      whole = c.in_ok-push.ensures.items
          ∙ made_on (row_of tariff trip) c.loop-done.rows.items c.in_ok-of.field-0 count done (count - 1 - done) left c.loop-done.invariant.whole c.in_ok-of.ensures.row;
      forms = rw (← a) c.in_ok-of.ensures.forms;
    }
