-- The numbers of homing are no more than what each next part costs, with what is then behind it.
use Rattle.std.proofs.Common.{◌≡◌, List, [], ℕ, ◌+◌, ◌<◌, ◌≤◌, Bool, true, false, arith}
use Rattle.std.specs.Prelude.{Option, Some, Contains}
use Rattle.fare_trip.specs.Itinerary.{Itinerary, count}
use Rattle.fare_tariff.specs.Tariff.{Tariff}
use Rattle.fare_rules.specs.Construction.{begin_after}
use Rattle.fare_component.specs.declared.table.entry.Entry.{Entry}
use Rattle.fare_component.specs.Table.{entries_of}
use Rattle.fare_legs.specs.declared.ceiling.Ceiling.{Ceiling}
use Rattle.fare_legs.specs.Barred.{is_barred, unless_barred}
use Rattle.fare_legs.specs.Ceiling.{below_ceiling}
use Rattle.fare_legs.specs.Costs.{IsUpTo, single_cost, first_cost, between_cost, back_cost, heads_to, is_same_city}
use Rattle.fare_homing.specs.Homing.{closing_by, may_end_at, homing_at}
use Rattle.fare_homing.specs.HomingRows.{AreHomings, AreRests, IsBetween, IsLast, IsPart, IsSecond}
use Rattle.fare_legs.specs.Pairs.{HasPair}
use Rattle.fare_legs.specs.Threes.{IsOneOfThree}
use Rattle.fare_homing.proofs.HomingRowLemmas.{part_after}

module _ {tariff : Tariff} {trip : Itinerary} {ceiling : Option Ceiling} {begun closing jaw : ℕ → ℕ → ℕ → Option ℕ} {whole : ℕ → ℕ → Option ℕ} {left : ℕ → Option ℕ} (are : AreHomings tariff trip ceiling begun closing jaw whole left) where
  pub alone_under : (i j : ℕ) (entry : Entry) (cost : ℕ) → Contains (entries_of tariff trip (begin_after trip i) j) entry → entry.single ≡ Some cost → IsUpTo cost (whole i j)
  alone_under i j entry cost there e =
      let part : IsPart tariff trip single_cost (begin_after trip i) j cost = record { entry = entry; there = there; costs = e } in
      let after = part_after tariff trip single_cost i j cost part in
      (are.wholes i (omega (arith, after.0, after.1))).alone j cost part

  pub first_under : (i b j : ℕ) (entry : Entry) (cost behind all : ℕ) → Contains (entries_of tariff trip (begin_after trip i) b) entry → first_cost entry ≡ Some cost → b < j
      → may_end_at tariff trip (begin_after trip i) j ≡ true → IsUpTo behind (homing_at trip (begun b) (jaw b) (begin_after trip i) b j) → cost + behind ≤ all → HasPair tariff trip [] (begin_after trip i) j all → IsUpTo all (whole i j)
  first_under i b j entry cost behind all there e less ends later sum pair =
      let part : IsPart tariff trip first_cost (begin_after trip i) b cost = record { entry = entry; there = there; costs = e } in
      let after = part_after tariff trip first_cost i b cost part in
      (are.wholes i (omega (arith, after.0, after.1))).first b j cost behind all ends part less later sum pair

  pub between_under : (more : Bool) (c i b j : ℕ) (entry : Entry) (cost behind : ℕ) → c ≤ i → is_same_city trip c (begin_after trip i) ≡ true → Contains (entries_of tariff trip (begin_after trip i) b) entry
      → below_ceiling tariff trip ceiling (begin_after trip i) j b (between_cost (heads_to tariff trip (begin_after trip i) b j)) entry ≡ Some cost → IsOneOfThree tariff trip entry.fare → b < j → j ≤ count trip → is_same_city trip j b ≡ false → IsUpTo behind (closing b b j) → IsUpTo (cost + behind) (closing_by more begun closing c i j)
  between_under more c i b j entry cost behind low stands there e third less within apart later =
      let part : IsBetween tariff trip ceiling (begin_after trip i) j b cost = record { part = record { entry = entry; there = there; costs = e }; third = third } in
      let after = part_after tariff trip (below_ceiling tariff trip ceiling (begin_after trip i) j b (between_cost (heads_to tariff trip (begin_after trip i) b j))) i b cost part.part in
      by_more more part (omega (arith, after.0, after.1))
    where
      by_more : (more : Bool) → IsBetween tariff trip ceiling (begin_after trip i) j b cost → i < count trip → IsUpTo (cost + behind) (closing_by more begun closing c i j)
      by_more true part before = (are.closes c i low before).between b j cost behind stands part less apart within later
      by_more false part before = (are.begins c i low before).between b j cost behind stands part less apart within later

  pub last_closes_under : (c i j cost : ℕ) → c ≤ i → IsLast tariff trip c i j cost → IsUpTo cost (closing c i j)
  last_closes_under c i j cost low is =
      let after = part_after tariff trip back_cost i j cost is.part in
      (are.closes c i low (omega (arith, after.0, after.1))).last j cost is

  pub second_closes_under : (c i j worth : ℕ) → c ≤ i → IsSecond tariff trip c i j worth → IsUpTo worth (begun c i j)
  second_closes_under c i j worth low is =
      let after = part_after tariff trip back_cost i j is.last.0 is.last.1.part in
      (are.begins c i low (omega (arith, after.0, after.1))).last j worth is

  pub last_jaw_under : (c i j : ℕ) (entry : Entry) (cost : ℕ) → c ≤ i → is_same_city trip c (begin_after trip i) ≡ true → Contains (entries_of tariff trip (begin_after trip i) j) entry → back_cost entry ≡ Some cost → IsUpTo cost (jaw c i j)
  last_jaw_under c i j entry cost low stands there e =
      let part : IsPart tariff trip back_cost (begin_after trip i) j cost = record { entry = entry; there = there; costs = e } in
      let after = part_after tariff trip back_cost i j cost part in
      (are.ends c i low (omega (arith, after.0, after.1))).last j cost stands part

  pub nested_closes_under : (more : Bool) (c i b j cost behind : ℕ) → c ≤ i → i < b → b < j → b ≤ count trip → IsUpTo cost (whole i b) → IsUpTo behind (closing_by more begun closing c b j) → IsUpTo (cost + behind) (closing_by more begun closing c i j)
  nested_closes_under true c i b j cost behind low before less within up later = (are.closes c i low (omega arith)).nested b j cost behind before less up later
  nested_closes_under false c i b j cost behind low before less within up later = (are.begins c i low (omega arith)).nested b j cost behind before less up later

  pub nested_jaw_under : (c i b j cost behind : ℕ) → c ≤ i → i < b → b < j → b ≤ count trip → IsUpTo cost (whole i b) → IsUpTo behind (jaw c b j) → IsUpTo (cost + behind) (jaw c i j)
  nested_jaw_under c i b j cost behind low before less within up later = (are.ends c i low (omega arith)).nested b j cost behind before less up later

  pub onward_under : (i b cost behind : ℕ) → i < b → b ≤ count trip → IsUpTo cost (whole i b) → IsUpTo behind (left b) → IsUpTo (cost + behind) (left i)
  onward_under i b cost behind low high up later = are.onward i (omega arith) b cost behind low high up later

  pub nothing_left : left (count trip) ≡ Some 0
  nothing_left = are.nothing

-- what isn't barred costs what it does
free_cost : (tariff : Tariff) (barred : List ℕ) (cost_of : Entry → Option ℕ) (entry : Entry) (cost : ℕ) → is_barred tariff barred entry.fare ≡ false → cost_of entry ≡ Some cost → unless_barred tariff barred cost_of entry ≡ Some cost
free_cost tariff barred cost_of entry cost free e = rw free e

-- where some fares are barred
module _ {tariff : Tariff} {trip : Itinerary} {barred : List ℕ} {begun jaw : ℕ → ℕ → ℕ → Option ℕ} {whole : ℕ → ℕ → Option ℕ} {left : ℕ → Option ℕ} (are : AreRests tariff trip barred begun jaw whole left) where
  pub alone_free_under : (i j : ℕ) (entry : Entry) (cost : ℕ) → Contains (entries_of tariff trip (begin_after trip i) j) entry → is_barred tariff barred entry.fare ≡ false → entry.single ≡ Some cost → IsUpTo cost (whole i j)
  alone_free_under i j entry cost there free e =
      let part : IsPart tariff trip (unless_barred tariff barred single_cost) (begin_after trip i) j cost = record { entry = entry; there = there; costs = free_cost tariff barred single_cost entry cost free e } in
      let after = part_after tariff trip (unless_barred tariff barred single_cost) i j cost part in
      (are.wholes i (omega (arith, after.0, after.1))).alone j cost part

  pub first_free_under : (i b j : ℕ) (entry : Entry) (cost behind all : ℕ) → Contains (entries_of tariff trip (begin_after trip i) b) entry → is_barred tariff barred entry.fare ≡ false → first_cost entry ≡ Some cost → b < j
      → may_end_at tariff trip (begin_after trip i) j ≡ true → IsUpTo behind (homing_at trip (begun b) (jaw b) (begin_after trip i) b j) → cost + behind ≤ all → HasPair tariff trip barred (begin_after trip i) j all → IsUpTo all (whole i j)
  first_free_under i b j entry cost behind all there free e less ends later sum pair =
      let part : IsPart tariff trip (unless_barred tariff barred first_cost) (begin_after trip i) b cost = record { entry = entry; there = there; costs = free_cost tariff barred first_cost entry cost free e } in
      let after = part_after tariff trip (unless_barred tariff barred first_cost) i b cost part in
      (are.wholes i (omega (arith, after.0, after.1))).first b j cost behind all ends part less later sum pair

  pub onward_free_under : (i b cost behind : ℕ) → i < b → b ≤ count trip → IsUpTo cost (whole i b) → IsUpTo behind (left b) → IsUpTo (cost + behind) (left i)
  onward_free_under i b cost behind low high up later = are.onward i (omega arith) b cost behind low high up later

  pub nothing_free_left : left (count trip) ≡ Some 0
  nothing_free_left = are.nothing
