use Rattle.std.proofs.Common.{is_none, ap, sym, ◌∙◌}
use Rattle.fare_tariff.proofs.FoundByKey.{none_told, city_unknown}
use Rattle.fare_tariff.proofs.check.names.has_no_place.Goals as goal

pub returns : goal.returns
returns c = none_told c.first.result c.is_none.result c.is_none.ensures ∙ ap is_none c.first.ensures ∙ sym (city_unknown c.args.city c.args.filed.now)
