use Rattle.std.proofs.Common.{◌∙◌, ap}
use Rattle.fare_codes.specs.declared.month_day.MonthDay.{MonthDay}
use Rattle.fare_records.specs.declared.fare_key.FareKey.{FareKey}
use Rattle.fare_tariff.specs.Lookup.{fare_number}
use Rattle.fare_audit.specs.Filing.{key_of}
use Rattle.fare_audit.proofs.filing.record_for.Goals as goal

pub returns : goal.returns
returns c =
    c.fare.ensures.number ∙ ap (λ (key : FareKey). fare_number c.args.edition.now key c.season_day.result) c.key_of-key.ensures
    ∙ ap (λ (on : MonthDay). fare_number c.args.edition.now (key_of c.args.edition.now c.args.trip.now c.args.line.now c.args.k c.args.part.now) on) c.season_day.ensures
