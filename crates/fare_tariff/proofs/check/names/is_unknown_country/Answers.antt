use Rattle.std.proofs.Common.{is_none, ap, sym, ◌∙◌}
use Rattle.fare_tariff.proofs.FoundByKey.{none_told, currency_unknown}
use Rattle.fare_tariff.proofs.check.names.is_unknown_country.Goals as goal

pub returns : goal.returns
returns c = none_told c.first.result c.is_none.result c.is_none.ensures ∙ ap is_none c.first.ensures ∙ sym (currency_unknown c.args.country c.args.filed.now)
