-- the column that is kept is as long as the one that is asked for
use Rattle.std.proofs.Common.{◌≡◌, max, ◌∙◌, arith}
use Rattle.fare_component.proofs.ColumnLemmas.{longer_column}
use Rattle.fare_component.proofs.table.columns.greatest_to.Goals as goal

pub keep-requires-clause-column : goal.keep-requires-clause-column
keep-requires-clause-column c =
    let tariff = c.args.priced.now.edition.now in
    let trip = c.args.priced.now.trip.now in
    let form = c.args.known.now.form in
    let column = c.serving-column.ensures.right tariff trip form (c.requires.known.columns c.args.j c.requires.within) in
    let high : c.max-high.result ≡ max c.greatest_before-more.result c.serving-column.result.high = omega arith in
    let longer = longer_column tariff trip form c.args.first c.args.j c.greatest_before-more.result c.max-high.result c.serving-column.result column
    c.serving-column.ensures.behind c.serving-column.ensures.within c.greatest_before-more.ensures.value c.greatest_before-more.ensures.bound high in
    rw c.greatest_before-more.ensures.form longer

pub new-requires : goal.new-requires
new-requires c =
    let tariff = c.args.priced.now.edition.now in
    let trip = c.args.priced.now.trip.now in
    let form = c.args.known.now.form in
    let column = c.serving-column.ensures.right tariff trip form (c.requires.known.columns c.args.j c.requires.within) in
    let high : c.max-high.result ≡ max c.greatest_before-more.result c.serving-column.result.high = omega arith in
    let longer = longer_column tariff trip form c.args.first c.args.j c.greatest_before-more.result c.max-high.result c.serving-column.result column
    c.serving-column.ensures.behind c.serving-column.ensures.within c.greatest_before-more.ensures.value c.greatest_before-more.ensures.bound high in
    omega (arith, longer.bound)

pub returns-clause-value : goal.returns-clause-value
returns-clause-value c =
    let tariff = c.args.priced.now.edition.now in
    let trip = c.args.priced.now.trip.now in
    let form = c.args.known.now.form in
    let column = c.serving-column.ensures.right tariff trip form (c.requires.known.columns c.args.j c.requires.within) in
    let high : c.max-high.result ≡ max c.greatest_before-more.result c.serving-column.result.high = omega arith in
    let longer = longer_column tariff trip form c.args.first c.args.j c.greatest_before-more.result c.max-high.result c.serving-column.result column
    c.serving-column.ensures.behind c.serving-column.ensures.within c.greatest_before-more.ensures.value c.greatest_before-more.ensures.bound high in
    c.new.ensures ∙ longer.value

pub returns-clause-bound : goal.returns-clause-bound
returns-clause-bound c =
    let tariff = c.args.priced.now.edition.now in
    let trip = c.args.priced.now.trip.now in
    let form = c.args.known.now.form in
    let column = c.serving-column.ensures.right tariff trip form (c.requires.known.columns c.args.j c.requires.within) in
    let high : c.max-high.result ≡ max c.greatest_before-more.result c.serving-column.result.high = omega arith in
    let longer = longer_column tariff trip form c.args.first c.args.j c.greatest_before-more.result c.max-high.result c.serving-column.result column
    c.serving-column.ensures.behind c.serving-column.ensures.within c.greatest_before-more.ensures.value c.greatest_before-more.ensures.bound high in
    omega (arith, longer.bound, c.new.ensures)
