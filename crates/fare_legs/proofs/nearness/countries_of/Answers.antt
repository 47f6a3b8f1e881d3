use Rattle.std.proofs.Common.{◌≡◌, refl, ℕ, ◌∙◌, ap, arith, length-set}
use Rattle.std.specs.Prelude.{Option}
use Rattle.fare_codes.specs.declared.country.Country.{Country}
use Rattle.fare_trip.specs.Itinerary.{count, point}
use Rattle.fare_rules.specs.Indicator.{country}
use Rattle.fare_legs.proofs.ReachLemmas.{row_more}
use Rattle.fare_legs.proofs.nearness.countries_of.Goals as goal

pub loop-i-preserved : goal.loop-i-preserved
loop-i-preserved c =
    let P : ℕ → Option Country → Type 0 = λ k found. found ≡ country c.args.table.now.edition (point c.args.table.now.trip k) in
    record {
      long = length-set c.loop-i.countries c.loop-i.i c.country.result ∙ c.loop-i.invariant.long;
      known = row_more P c.loop-i.countries c.loop-i.i c.country.result (omega (arith, c.loop-i.invariant.long)) c.loop-i.invariant.known
          (rw (c.country.ensures, c.edition.ensures, c.point.ensures, c.trip-trip.ensures) refl);
    }

pub returns : goal.returns
returns c k low =
    let last : c.count-count.result ≡ count c.args.table.now.trip = c.count-count.ensures.value ∙ ap count c.trip-trip.ensures in
    c.loop-i.invariant.known k (omega arith)
