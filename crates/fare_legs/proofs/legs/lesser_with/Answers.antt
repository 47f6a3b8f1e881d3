use Rattle.std.proofs.Common.{◌≡◌, refl, ◌∙◌, ap}
use Rattle.std.specs.Prelude.{option_map}
use Rattle.fare_legs.specs.Barred.{unless_barred}
use Rattle.fare_legs.specs.Floor.{capped}
use Rattle.fare_legs.specs.Costs.{single_cost, first_cost, back_cost}
use Rattle.fare_legs.proofs.LeastLemmas.{cost_more}
use Rattle.fare_legs.proofs.legs.lesser_with.Goals as goal

pub returns : goal.returns
returns c entries known =
    let tariff = c.args.edition.now in
    let barred = c.args.barred.now in
    let entry = c.args.entry.now in
    let alone : c.unless-alone.result ≡ unless_barred tariff barred single_cost entry = rw (c.unless-alone.ensures, c.is_barred-out_of_use.ensures, c.single_cost.ensures) refl in
    let first : c.unless-first.result ≡ unless_barred tariff barred first_cost entry = rw (c.unless-first.ensures, c.is_barred-out_of_use.ensures, c.half_cost.ensures) refl in
    let last : c.unless-last.result ≡ unless_barred tariff barred back_cost entry = rw (c.unless-last.ensures, c.is_barred-out_of_use.ensures, c.half_cost-2.ensures) refl in
    record {
      alone = rw (c.lesser.ensures) (cost_more (unless_barred tariff barred single_cost) entries entry c.args.least.alone c.of.result (c.of.ensures ∙ ap (option_map capped) alone) known.alone);
      first = rw (c.lesser-2.ensures) (cost_more (unless_barred tariff barred first_cost) entries entry c.args.least.first c.of-2.result (c.of-2.ensures ∙ ap (option_map capped) first) known.first);
      last = rw (c.lesser-3.ensures) (cost_more (unless_barred tariff barred back_cost) entries entry c.args.least.last c.of-3.result (c.of-3.ensures ∙ ap (option_map capped) last) known.last);
    }
