-- what is shown is the construction with its line, its price and the rule that it breaks
use Rattle.std.proofs.Common.{◌≡◌, refl, subst}
use Rattle.fare_tariff.specs.Tariff.{Tariff}
use Rattle.fare_line.specs.LineText.{line_text}
use Rattle.fare_calc.specs.LineOf.{line_of}
use Rattle.fare_why.proofs.alternative.reason_of.Goals as goal

pub returns : goal.returns
returns c = record {
  kind = refl;
  construction = refl;
  line = subst (λ (e : Tariff). c.in_ok-line.line.items ≡ line_text (line_of e c.args.asked.now.trip.now c.args.best.0)) c.requires.made c.in_ok-line.ensures;
  price = refl;
  saves = c.saved_by-saves.ensures.value;
  barred = c.broken_rule-broken.ensures;
}
