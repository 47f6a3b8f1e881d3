-- References between the points of a trip that a table has looked up, each once for all fares that share it.
use Rattle.std.specs.Prelude.{◌≡◌, ℕ, ◌+◌, ◌-◌, ◌*◌, ◌<◌, ◌≤◌, ◌==◌, Bool, ◌&&◌, List, Option, Some, None, IfSome}
use Rattle.std.specs.Prelude.{All, slice_index_or}
use Rattle.std.specs.Prelude.{option_map, filter, filter_map, flat_map, unwrap_or, if◌then◌else◌}
use Rattle.fare_codes.specs.declared.nuc.Nuc.{Nuc}
use Rattle.fare_codes.specs.declared.nuc.TheConstants.{FARE_LIMIT}
use Rattle.fare_trip.specs.Itinerary.{Itinerary, count}
use Rattle.fare_records.specs.Record.{FareRecord}
use Rattle.fare_tariff.specs.Tariff.{Tariff}
use Rattle.fare_rules.specs.declared.limits.TheConstants.{MOST_POINTS}
use Rattle.fare_rules.specs.Numbers.{greatest_of, numbers}
use Rattle.fare_rules.specs.Base.{Compared, with_amount, is_end_or_stopover, reference_between, greatest_amount}
use Rattle.fare_rules.specs.Span.{first_day, is_stopover}
use Rattle.fare_rules.specs.Terms.{terms_of_fare}
use Rattle.fare_component.specs.declared.table.known.Known.{Known}
use Rattle.fare_component.specs.declared.table.known.TheConstants.{NOT_LOOKED_UP, NO_REFERENCE, LEAST_REFERENCE}
use Rattle.fare_component.specs.declared.table.references.Column.{Column}
use Rattle.fare_component.specs.declared.table.references.Form.{Form}
use Rattle.fare_component.specs.declared.table.references.Reach.{Reach}
use Rattle.fare_component.specs.declared.table.references.References.{References}

-- a fare has the same references in a direction as the fare of a form on the form's day: their carriers, classes, kinds
-- and rules are the same, and so is the direction
pub record IsOfForm (fare : FareRecord) (back : Bool) (form : Form) : Type 0 where
  pub carrier : form.fare.carrier ≡ fare.carrier
  pub class : form.fare.class ≡ fare.class
  pub kind : form.fare.kind ≡ fare.kind
  pub rule : form.fare.rule ≡ fare.rule
  pub direction : form.back ≡ back

-- what stands for a reference that wasn't looked up
abbrev pub nothing : Known
nothing = record { number = NOT_LOOKED_UP }

-- what a number stands for: nothing yet, that there is no reference, or one of so many hundredths
abbrev pub found_of : Known → Option (Option Nuc)
found_of known =
    if known.number == NOT_LOOKED_UP then None
    else if known.number == NO_REFERENCE then Some None
    else Some (Some (known.number - LEAST_REFERENCE))

-- what is known of two points: nothing yet, or what was found between them
abbrev pub known_at : References → ℕ → ℕ → Option (Option Nuc)
known_at known i j = found_of (slice_index_or known.found (i * MOST_POINTS + j) nothing)

-- the reference of a form between two points
abbrev pub reference_of : Tariff → Itinerary → Form → ℕ → ℕ → Option Nuc
reference_of tariff trip form i j = reference_between tariff trip form.fare form.back form.on i j

-- what was found between two points is the reference of a form, which is below every fare's limit
pub record IsReference (tariff : Tariff) (trip : Itinerary) (form : Form) (i j : ℕ) (found : Option Nuc) : Type 0 where
  pub value : found ≡ reference_of tariff trip form i j
  pub bound : IfSome found (λ amount. amount < FARE_LIMIT)

-- what a form has between a stopover and a later point
abbrev pub stop_to : Tariff → Itinerary → Form → ℕ → ℕ → Option Compared
stop_to tariff trip form j i =
    option_map (with_amount i j) (if is_stopover trip i then reference_of tariff trip form i j else None)

-- the greatest of what a form has between the stopovers from a point on, before another, and a later point; 0 where it
-- has nothing
unfoldable pub greatest_to : Tariff → Itinerary → Form → ℕ → ℕ → ℕ → Nuc
greatest_to tariff trip form first past j =
    greatest_amount 0 (filter_map (stop_to tariff trip form j) (numbers first past))

-- a column knows the greatest of what a form has between all stopovers from a point on and a later point, which is
-- below every fare's limit
pub record IsColumn (tariff : Tariff) (trip : Itinerary) (form : Form) (j : ℕ) (column : Column) : Type 0 where
  pub value : column.high ≡ greatest_to tariff trip form column.first j j
  pub bound : column.high < FARE_LIMIT

-- what is kept of the stopovers before a point: nothing yet, or a column
abbrev pub kept_at : References → ℕ → Option Column
kept_at known j = slice_index_or known.columns j None

-- what a form has for a pair of points that is compared in each component from a point to one behind the pair: a pair
-- from the component's start or a stopover to a stopover
abbrev pub inner_pair : Tariff → Itinerary → Form → ℕ → ℕ → ℕ → Option Compared
inner_pair tariff trip form a i j =
    option_map (with_amount i j)
    (if is_stopover trip j && is_end_or_stopover trip a i then reference_of tariff trip form i j else None)

-- what it has for those of them that begin at a point and end before another
abbrev pub inner_from : Tariff → Itinerary → Form → ℕ → ℕ → ℕ → List Compared
inner_from tariff trip form a past i = filter_map (inner_pair tariff trip form a i) (numbers (i + 1) past)

-- the greatest of what it has for those that end before a point; 0 where it has nothing
unfoldable pub greatest_inner : Tariff → Itinerary → Form → ℕ → ℕ → Nuc
greatest_inner tariff trip form a past =
    greatest_amount 0 (flat_map (inner_from tariff trip form a past) (numbers a past))

-- what a form has from a point to a stopover
abbrev pub to_stop : Tariff → Itinerary → Form → ℕ → ℕ → Option Nuc
to_stop tariff trip form a j = if is_stopover trip j then reference_of tariff trip form a j else None

-- the greatest of what a form has from a point to the stopovers behind it and before another; 0 where it has nothing
unfoldable pub greatest_from : Tariff → Itinerary → Form → ℕ → ℕ → Nuc
greatest_from tariff trip form a past =
    unwrap_or (greatest_of (reference_of tariff trip form a) (filter (is_stopover trip) (numbers (a + 1) past))) 0

-- a form has come from a point to a later one: it knows the greatest of what it has for the pairs that end before, and
-- for those that begin at that point, which are below every fare's limit
pub record IsReach (tariff : Tariff) (trip : Itinerary) (form : Form) (reach : Reach) : Type 0 where
  pub rises : reach.from < reach.past
  pub value : reach.high ≡ greatest_inner tariff trip form reach.from reach.past
  pub bound : reach.high < FARE_LIMIT
  pub first : reach.first ≡ greatest_from tariff trip form reach.from reach.past
  pub first_bound : reach.first < FARE_LIMIT

-- what is known is right: of two points of the trip nothing yet, or their reference; the columns that are kept; how far
-- the form has come; and the terms of its rule
pub record AreReferences (tariff : Tariff) (trip : Itinerary) (known : References) : Type 0 where
  pub found : (i j : ℕ) → i < j → j ≤ count trip → IfSome (known_at known i j) (IsReference tariff trip known.form i j)
  pub columns : (j : ℕ) → j ≤ count trip → IfSome (kept_at known j) (IsColumn tariff trip known.form j)
  pub reach : IsReach tariff trip known.form known.reach
  pub asked : known.asked ≡ terms_of_fare tariff known.form.fare

-- what is known is right, and of the day of a component's first sector
pub record AreReferencesFrom (tariff : Tariff) (trip : Itinerary) (a : ℕ) (known : References) : Type 0 where
  pub right : AreReferences tariff trip known
  pub day : known.form.on ≡ first_day trip a

-- what is known of each form is right, and of the day of a component's first sector
abbrev pub AreForms : Tariff → Itinerary → ℕ → List References → Type 0
AreForms tariff trip a items = All (AreReferencesFrom tariff trip a) items
