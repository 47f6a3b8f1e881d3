-- The fares of a drill: each way to fly between two of its cities, in order, with the draw of its number.
use Rattle.std.specs.Prelude.{ℕ, ◌+◌, ◌*◌, ◌-◌, ◌%◌, List, [], ◌∷◌, map, codes, Option, Some, None, ◌==◌, if◌then◌else◌}
use Rattle.std.specs.List.{flat_map, range_with_len, enumerate_from}
use Rattle.fare_codes.specs.declared.carrier.Carrier.{Carrier}
use Rattle.fare_codes.specs.declared.rule_id.RuleId.{RuleId}
use Rattle.fare_codes.specs.declared.cabin.Cabin.TheVariants.{Y}
use Rattle.fare_codes.specs.declared.kind.Kind.{Kind}
use Rattle.fare_codes.specs.declared.kind.Kind.TheVariants.{OW, HR}
use Rattle.fare_codes.specs.declared.indicator.Indicator.TheVariants.{EH}
use Rattle.fare_codes.specs.Season.{whole_year}
use Rattle.fare_records.specs.declared.record.Record.{Record}
use Rattle.fare_records.specs.declared.record.Record.TheVariants as filed
use Rattle.fare_drill.specs.Cities.{city}
use Rattle.fare_drill.specs.Draws.{draw}

-- a way to fly from a city to another, by their numbers, for which a fare is filed
pub record FareWay : Type 0 where
  pub from : ℕ
  pub to : ℕ
  pub kind : Kind
  pub carrier : Carrier
  pub rule : Option RuleId

-- the distance of two numbers
abbrev pub distance : ℕ → ℕ → ℕ
distance i j = (i - j) + (j - i)

-- the kinds of fare, in their order
abbrev pub kinds : List Kind
kinds = OW ∷ HR ∷ []

-- the carriers of fares, in their order
abbrev pub carriers : List Carrier
carriers = codes "YY" ∷ codes "Q1" ∷ []

-- the rules of fares, in their order: first the free rule
abbrev pub rules : List (Option RuleId)
rules = None ∷ Some (codes "A") ∷ []

-- the ways between two cities: each kind with each carrier, and each of these with each rule
abbrev pub ways_between : ℕ → ℕ → List FareWay
ways_between i j =
    flat_map (λ kind. flat_map (λ carrier. map (λ rule.
    record { from = i; to = j; kind = kind; carrier = carrier; rule = rule }) rules) carriers) kinds

-- the ways from a city to another; none from a city to itself
abbrev pub ways_to : ℕ → ℕ → List FareWay
ways_to i j = if i == j then [] else ways_between i j

-- the ways from a city to each other one of so many
abbrev pub ways_from : ℕ → ℕ → List FareWay
ways_from count i = flat_map (ways_to i) (range_with_len 0 count)

-- the ways from each of so many cities to each other one
abbrev pub ways : ℕ → List FareWay
ways count = flat_map (ways_from count) (range_with_len 0 count)

-- the amount, in hundredths, on which the amounts of a kind are built
abbrev pub base_of : Kind → ℕ
base_of OW = 20_000
base_of HR = 22_500

-- a fare's amount: that of its kind, 3,000 for each step of distance, and a part of its draw
abbrev pub amount_of : FareWay → ℕ → ℕ
amount_of way drawn = base_of way.kind + 3_000 * distance way.from way.to + drawn % 2_000

-- the fare of a way and its draw, in class Y and by the eastern hemisphere
abbrev pub fare_of : FareWay → ℕ → Record
fare_of way drawn = filed.Fare (record {
  from = city way.from;
  to = city way.to;
  ind = EH;
  carrier = way.carrier;
  class = Y;
  kind = way.kind;
  rule = way.rule;
  season = whole_year;
  amount = amount_of way drawn;
})

-- the fare of a way that has a number among the fares: it takes the draw of that number
abbrev pub drawn_fare : ℕ → (ℕ × FareWay) → Record
drawn_fare seed numbered = fare_of numbered.1 (draw seed numbered.0)

-- the fares between so many cities
abbrev pub fares : ℕ → ℕ → List Record
fares seed count = map (drawn_fare seed) (enumerate_from 0 (ways count))
