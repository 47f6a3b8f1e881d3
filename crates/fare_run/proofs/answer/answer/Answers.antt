use Rattle.std.proofs.Common.{◌≡◌, rules, Some}
use Rattle.fare_words.specs.declared.command.Command.TheVariants as command
use Rattle.fare_run.proofs.WithinLemmas.{is_drill, is_round, price_asks_few, quote_asks_few}
use Rattle.fare_run.proofs.answer.answer.Goals as goal

pub price-requires-after_bounds : goal.price-requires-after_bounds
price-requires-after_bounds g c κs within =
    let is : c.args.asked.now ≡ Some (command.Price c.in-Price.workers c.in-Price.asked c.in-Price.json) =
    search rules in
    let same : c.new.result.asked ≡ c.in-Price.asked = search rules in
    rw same (price_asks_few _ _ _ _ is c.requires.within)

pub stored_quote-requires-after_bounds : goal.stored_quote-requires-after_bounds
stored_quote-requires-after_bounds g c κs within =
    let is : c.args.asked.now ≡
    Some (command.Quote c.in-Quote.name c.in-Quote.workers c.in-Quote.asked c.in-Quote.json) = search rules in
    let same : c.new-question.result.asked ≡ c.in-Quote.asked = search rules in
    rw same (quote_asks_few _ _ _ _ _ is c.requires.within)

pub drill-requires-clause-seed : goal.drill-requires-clause-seed
drill-requires-clause-seed g c κs within =
    let is : c.args.asked.now ≡
    Some (command.Drill c.in-Drill.seed c.in-Drill.sectors c.in-Drill.extra c.in-Drill.workers) = search rules in
    (is_drill _ _ _ _ _ is c.requires.within).0

pub drill-requires-clause-some : goal.drill-requires-clause-some
drill-requires-clause-some g c κs within =
    let is : c.args.asked.now ≡
    Some (command.Drill c.in-Drill.seed c.in-Drill.sectors c.in-Drill.extra c.in-Drill.workers) = search rules in
    (is_drill _ _ _ _ _ is c.requires.within).1

pub drill-requires-clause-few : goal.drill-requires-clause-few
drill-requires-clause-few g c κs within =
    let is : c.args.asked.now ≡
    Some (command.Drill c.in-Drill.seed c.in-Drill.sectors c.in-Drill.extra c.in-Drill.workers) = search rules in
    (is_drill _ _ _ _ _ is c.requires.within).2

pub drill-requires-clause-few_extra : goal.drill-requires-clause-few_extra
drill-requires-clause-few_extra g c κs within =
    let is : c.args.asked.now ≡
    Some (command.Drill c.in-Drill.seed c.in-Drill.sectors c.in-Drill.extra c.in-Drill.workers) = search rules in
    (is_drill _ _ _ _ _ is c.requires.within).3

pub serve-requires-clause-some : goal.serve-requires-clause-some
serve-requires-clause-some g c κs within =
    let is : c.args.asked.now ≡ Some (command.Serve c.in-Serve.name c.in-Serve.port c.in-Serve.count
    c.in-Serve.workers c.in-Serve.round) = search rules in
    let same : c.service_of-service.result.round ≡ c.in-Serve.round = search rules in
    rw same (is_round _ _ _ _ _ _ is c.requires.within).0

pub serve-requires-clause-few : goal.serve-requires-clause-few
serve-requires-clause-few g c κs within =
    let is : c.args.asked.now ≡ Some (command.Serve c.in-Serve.name c.in-Serve.port c.in-Serve.count
    c.in-Serve.workers c.in-Serve.round) = search rules in
    let same : c.service_of-service.result.round ≡ c.in-Serve.round = search rules in
    rw same (is_round _ _ _ _ _ _ is c.requires.within).1
