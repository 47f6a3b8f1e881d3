use Rattle.std.proofs.Common.{ℕ, ◌<◌, ap, sym, subst, ◌∙◌}
use Rattle.std.specs.Prelude.{Some}
use Rattle.fare_codes.specs.declared.nuc.TheConstants.{FARE_LIMIT}
use Rattle.fare_records.specs.Record.{FareRecord}
use Rattle.fare_component.specs.References.{IsReference}
use Rattle.fare_component.proofs.OwnLemmas.{own_form}
use Rattle.fare_component.proofs.table.entry.learn.Goals as goal

pub put-requires-clause-found : goal.put-requires-clause-found
put-requires-clause-found c =
    let tariff = c.args.priced.now.edition.now in
    let trip = c.args.priced.now.trip.now in
    let form = c.args.known.now.form in
    let tried = c.args.tried.now in
    let span = tried.span.now in
    let own = ap (λ (r : FareRecord). r.amount) c.fare.view_is in
    let same = c.hundredths-amount.ensures.value ∙ own in
    subst (λ (amount : ℕ). IsReference tariff trip form span.a span.b (Some amount)) (sym same)
    (own_form tariff tried.number tried.fare.now c.fare_of_a_day_is_one.ensures.number c.requires.tried.filed
    trip span.a span.b c.args.back form
    c.requires.form c.requires.known.day c.requires.suits (subst (λ (amount : ℕ). amount < FARE_LIMIT) own c.fare.invariant))
