-- The entries of spans, computed on the definitions.
use Rattle.std.specs.Prelude.{◌≡◌, refl, ℕ, [], ◌∷◌, Some, None, true, false}
use Rattle.fare_codes.specs.declared.area.Area.TheVariants.{Two}
use Rattle.fare_codes.specs.declared.cabin.Cabin.TheVariants.{Y}
use Rattle.fare_codes.specs.declared.indicator.Indicator.TheVariants.{EH, PA}
use Rattle.fare_codes.specs.declared.kind.Kind.TheVariants.{OW, HR}
use Rattle.fare_codes.specs.declared.mode.Mode.TheVariants.{Up, Nearest}
use Rattle.fare_codes.specs.declared.over.Over.TheVariants as marked
use Rattle.fare_codes.specs.Amounts.{surcharged}
use Rattle.fare_codes.specs.Day.{day_number, days_since_1970}
use Rattle.fare_codes.specs.Season.{season_holds}
use Rattle.jiff_core.specs.Calendar.{days_of_months}
use Rattle.fare_trip.specs.Itinerary.{Itinerary}
use Rattle.fare_tariff.specs.Tariff.{Tariff}
use Rattle.fare_rules.specs.declared.amount.Amount.{Amount}
use Rattle.fare_rules.specs.Backhaul.{greatest_reference, backhaul}
use Rattle.fare_rules.specs.Base.{compared_pairs, base}
use Rattle.fare_rules.specs.ComponentAmount.{repeats_city, runs_between, has_indicator, covers_cabins, covers_carriers, in_season, span_surcharge, is_applicable, fare_amount, component_amount}
use Rattle.fare_rules.specs.Indicator.{indicator_of}
use Rattle.fare_rules.specs.Mileage.{surcharge, sum_of_miles, compared_miles, mileage}
use Rattle.fare_rules.specs.Reference.{reference}
use Rattle.fare_rules.specs.Terms.{stops_hold, transfers_hold, advance_holds}
use Rattle.fare_rules.specs.UnitPrice.{one_way_price}
use Rattle.fare_rules.proofs.Editions.{beside_paris, pacific_circle}
use Rattle.fare_rules.proofs.Filed.{city, currency, permitted, ticketed, seasonal, edition, free, trip, detailed}
use Rattle.fare_rules.proofs.Trips.{stopping_in_paris, by_the_pacific}
use Rattle.fare_component.specs.declared.table.entry.Entry.{Entry}
use Rattle.fare_component.specs.Table.{entries_of, entry_at}

-- an amount by its base, its surcharge and itself
abbrev amount : ℕ → ℕ → ℕ → Amount
amount base surcharge whole = record { base = base; surcharge = surcharge; amount = whole }

-- a one way fare with its amount and its price as a unit
abbrev one_way : ℕ → Amount → ℕ → Entry
one_way number found price = record { fare = number; out = Some found; back = None; single = Some price }

-- a half round trip that is priced out, or back
abbrev out_only : ℕ → Amount → Entry
out_only number found = record { fare = number; out = Some found; back = None; single = None }

abbrev back_only : ℕ → Amount → Entry
back_only number found = record { fare = number; out = None; back = Some found; single = None }

-- fares in both directions between Lyon, Rome and Frankfurt, in no order
abbrev in_both_directions : Tariff
in_both_directions = edition (
    seasonal "FRA" "ROM" EH "YY" Y HR free "01-01" "12-31" 17_498
    ∷ seasonal "LYS" "FRA" EH "YY" Y HR free "06-13" "01-19" 25_000
    ∷ seasonal "ROM" "LYS" EH "YY" Y HR free "05-09" "01-07" 28_999
    ∷ seasonal "LYS" "ROM" EH "YY" Y HR free "10-28" "01-09" 15_000
    ∷ city "MAN" "GB" Two
    ∷ permitted "LYS" "FRA" EH 1450
    ∷ ticketed "FRA" "MAN" 1365
    ∷ seasonal "ROM" "FRA" EH "YY" Y OW free "12-14" "01-04" 20_000
    ∷ ticketed "ROM" "FRA" 640
    ∷ currency "GB" "GBP" 1_000_000 0 10000 Up
    ∷ seasonal "LYS" "ROM" EH "YY" Y OW free "08-27" "11-14" 30_000
    ∷ ticketed "FRA" "LON" 1968
    ∷ seasonal "ROM" "FRA" EH "YY" Y OW free "11-19" "12-13" 20_000
    ∷ seasonal "LYS" "ROM" EH "YY" Y OW free "11-15" "07-30" 24_904
    ∷ ticketed "ROM" "MIL" 1785
    ∷ seasonal "ROM" "LYS" EH "YY" Y HR free "01-08" "05-08" 23_984
    ∷ city "LON" "GB" Two
    ∷ seasonal "LYS" "MIL" PA "YY" Y HR free "01-01" "12-31" 50_000
    ∷ seasonal "LYS" "FRA" EH "YY" Y OW free "01-01" "12-31" 30_000
    ∷ ticketed "LYS" "ROM" 1165
    ∷ seasonal "LYS" "MAN" EH "YY" Y HR free "08-08" "08-02" 41_800
    ∷ seasonal "LYS" "FRA" EH "YY" Y HR free "01-20" "04-09" 20_000
    ∷ city "LYS" "FR" Two
    ∷ currency "FR" "EUR" 912_345 1 10000 Up
    ∷ city "MIL" "IT" Two
    ∷ city "ROM" "IT" Two
    ∷ seasonal "ROM" "FRA" EH "YY" Y OW free "01-05" "11-18" 20_000
    ∷ ticketed "LYS" "MAN" 2084
    ∷ ticketed "ROM" "MAN" 1391
    ∷ currency "DE" "EUR" 1_000_000 1 10 Nearest
    ∷ seasonal "ROM" "FRA" EH "YY" Y HR free "01-01" "12-31" 19_980
    ∷ city "FRA" "DE" Two
    ∷ ticketed "MIL" "FRA" 1692
    ∷ ticketed "LYS" "FRA" 1805
    ∷ seasonal "LYS" "FRA" EH "YY" Y HR free "04-10" "06-12" 20_000
    ∷ currency "IT" "EUR" 1_234_567_654_321 2 1 Up
    ∷ seasonal "FRA" "LYS" EH "YY" Y HR free "01-01" "12-31" 30_000
    ∷ seasonal "LYS" "ROM" EH "YY" Y OW free "07-31" "08-26" 20_000
    ∷ [])

-- Lyon to Frankfurt by way of Rome
abbrev by_rome : Itinerary
by_rome = trip "2025-05-04" "LYS" (
    detailed "ROM" "Q1" "2025-05-09" Y marked.Unmarked true false
    ∷ detailed "FRA" "Q1" "2025-05-11" Y marked.AT false false
    ∷ [])

-- out and back, one way and half round trips, with a surcharge where the span asks for one, in record order
pub entries_by_rome :
    (entries_of in_both_directions by_rome 0 1
    ∷ entries_of in_both_directions by_rome 0 2
    ∷ entries_of in_both_directions by_rome 1 2
    ∷ [])
    ≡ ((back_only 4 (amount 28_999 0 28_999) ∷ one_way 15 (amount 24_904 0 24_904) 24_904 ∷ [])
    ∷ (one_way 20 (amount 30_000 25 37_500) 37_500 ∷ out_only 36 (amount 20_000 25 25_000) ∷ back_only 38 (amount 30_000 25 37_500) ∷ [])
    ∷ (back_only 2 (amount 17_498 0 17_498) ∷ one_way 28 (amount 20_000 0 20_000) 20_000 ∷ out_only 32 (amount 19_980 0 19_980) ∷ [])
    ∷ [])
unfolding entries_of entry_at one_way_price greatest_reference backhaul compared_pairs base repeats_city runs_between
    has_indicator covers_cabins covers_carriers in_season span_surcharge is_applicable fare_amount component_amount
    indicator_of surcharge sum_of_miles compared_miles mileage reference stops_hold transfers_hold advance_holds
    day_number season_holds days_of_months days_since_1970 surcharged
entries_by_rome = refl

-- a backhaul minimum raises the price of a one way unit above its amount
pub entries_beside_paris :
    (entries_of (beside_paris 45_000 20_000) stopping_in_paris 0 2
    ∷ entries_of (beside_paris 45_000 20_000) stopping_in_paris 0 1
    ∷ entries_of (beside_paris 45_000 20_000) stopping_in_paris 1 2
    ∷ [])
    ≡ ((one_way 8 (amount 45_000 0 45_000) 50_000 ∷ [])
    ∷ (one_way 9 (amount 45_000 0 45_000) 45_000 ∷ [])
    ∷ (one_way 10 (amount 20_000 0 20_000) 20_000 ∷ [])
    ∷ [])
unfolding entries_of entry_at one_way_price greatest_reference backhaul compared_pairs base repeats_city runs_between
    has_indicator covers_cabins covers_carriers in_season span_surcharge is_applicable fare_amount component_amount
    indicator_of surcharge sum_of_miles compared_miles mileage reference stops_hold transfers_hold advance_holds
    day_number season_holds days_of_months days_since_1970 surcharged
entries_beside_paris = refl

-- both halves of a circle trip are there, the cheaper and the dearer one
pub entries_by_the_pacific :
    (entries_of pacific_circle by_the_pacific 0 1 ∷ entries_of pacific_circle by_the_pacific 1 3 ∷ [])
    ≡ ((out_only 8 (amount 40_000 0 40_000) ∷ [])
    ∷ (back_only 9 (amount 39_000 0 39_000) ∷ back_only 15 (amount 40_000 0 40_000) ∷ [])
    ∷ [])
unfolding entries_of entry_at one_way_price greatest_reference backhaul compared_pairs base repeats_city runs_between
    has_indicator covers_cabins covers_carriers in_season span_surcharge is_applicable fare_amount component_amount
    indicator_of surcharge sum_of_miles compared_miles mileage reference stops_hold transfers_hold advance_holds
    day_number season_holds days_of_months days_since_1970 surcharged
entries_by_the_pacific = refl

-- two points that make no span have none
pub entries_of_no_span :
    (entries_of pacific_circle by_the_pacific 1 1 ∷ entries_of pacific_circle by_the_pacific 2 1
    ∷ entries_of pacific_circle by_the_pacific 1 4 ∷ [])
    ≡ ([] ∷ [] ∷ [] ∷ [])
unfolding entries_of
entries_of_no_span = refl
