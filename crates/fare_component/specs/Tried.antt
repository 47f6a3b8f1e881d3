-- A fare that is tried for a span, by its record number, and what it costs there.
use Rattle.std.specs.Prelude.{◌≡◌, ◌*◌, ◌<◌, Bool, false, List, Option, Some, IfSome}
use Rattle.fare_codes.specs.declared.nuc.TheConstants.{FARE_LIMIT}
use Rattle.fare_tariff.specs.Lookup.{fare_at}
use Rattle.fare_rules.specs.declared.amount.Amount.{Amount}
use Rattle.fare_rules.specs.ComponentAmount.{fare_amount}
use Rattle.fare_component.specs.declared.table.entry.Candidate.{Candidate}
use Rattle.fare_component.specs.declared.table.entry.Out.{Out}
use Rattle.fare_conditions.specs.declared.priced.Priced.{Priced}
use Rattle.fare_component.specs.declared.table.references.References.{References}
use Rattle.fare_component.specs.References.{AreForms, AreReferencesFrom}
use Rattle.fare_conditions.specs.Spans.{IsSpan}
use Rattle.fare_component.specs.Table.{single_price}
use Rattle.fare_conditions.specs.Usable.{IsAmount, is_for_span}

-- a candidate is a fare that its number files, and a span that fares may be tried for
pub record IsCandidate (priced : Priced) (tried : Candidate) : Type 0 where
  pub span : IsSpan priced.edition.now priced.trip.now tried.span.now
  pub filed : fare_at priced.edition.now tried.number ≡ Some tried.fare.now

-- what is known of a form is right, and of the day of the span that a candidate is tried for
abbrev pub AreReferencesFor : Priced → Candidate → References → Type 0
AreReferencesFor priced tried known = AreReferencesFrom priced.edition.now priced.trip.now tried.span.now.a known

-- and so is what is known of each form
abbrev pub AreFormsFor : Priced → Candidate → List References → Type 0
AreFormsFor priced tried items = AreForms priced.edition.now priced.trip.now tried.span.now.a items

-- a candidate is for its span, priced back or not
abbrev pub suits : Priced → Candidate → Bool → Bool
suits priced tried back =
    is_for_span priced.edition.now priced.trip.now tried.span.now.a tried.span.now.b back tried.fare.now

-- what a candidate costs for its span, priced back or not
abbrev pub cost_of : Priced → Candidate → Bool → Option Amount
cost_of priced tried back =
    fare_amount priced.edition.now priced.trip.now tried.span.now.a tried.span.now.b back tried.fare.now

-- what a candidate costs where it is priced out, and its price as a unit of its own, each in its bounds
pub record IsOut (priced : Priced) (tried : Candidate) (out : Out) : Type 0 where
  pub amount : out.amount ≡ cost_of priced tried false
  pub single : out.single
      ≡ single_price priced.edition.now priced.trip.now tried.span.now.a tried.span.now.b tried.number
  pub in_bounds : IfSome out.amount IsAmount
  pub below : IfSome out.single (λ price. price < 2 * FARE_LIMIT)
