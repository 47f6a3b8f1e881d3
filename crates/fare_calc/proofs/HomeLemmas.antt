-- The city where a construction that breaks no rule begins is one of a filed fare, and so it is filed.
use Rattle.std.proofs.Common.{◌≡◌, ℕ, ◌≤◌, Bool, true, false, cond, List, subst, arith}
use Rattle.std.specs.Prelude.{Some, None, IsSome, bytes_eq}
use Rattle.std.proofs.lemmas.Bool.{and_parts}
use Rattle.std.proofs.lemmas.Slice.Eq.{bytes_eq-Decides}
use Rattle.fare_codes.specs.declared.city.City.{City}
use Rattle.fare_trip.specs.Itinerary.{Itinerary, count, point}
use Rattle.fare_tariff.specs.Filed.{IsFiledFare}
use Rattle.fare_tariff.specs.Record.{FareRecord}
use Rattle.fare_tariff.specs.Tariff.{Tariff}
use Rattle.fare_tariff.specs.Lookup.{fare_at, city_record}
use Rattle.fare_rules.specs.declared.part.Part.{Part}
use Rattle.fare_rules.specs.ComponentAmount.{runs_between, is_filed_between}
use Rattle.fare_rules.specs.Construction.{part_at, end_of}
use Rattle.fare_rules.specs.Direction.{is_back}
use Rattle.fare_rules.specs.Lawful.{first_broken}
use Rattle.fare_rules.proofs.AmountLemmas.{fare_is_filed, part_may_be_used}
use Rattle.fare_rules.proofs.LawfulLemmas.{kept_from_unbroken}
use Rattle.fare_calc.proofs.LineParts.{lawful_some_parts}

same_bytes : (a b : List ℕ) → bytes_eq a b ≡ true → a ≡ b
same_bytes a b e = (bytes_eq-Decides a b).0 e

filed_between : (tariff : Tariff) (fare : FareRecord) (from to : City) → IsFiledFare tariff fare → is_filed_between fare from to ≡ true → (IsSome (city_record tariff from)) × (IsSome (city_record tariff to))
filed_between tariff fare from to filed e =
    let both = and_parts (bytes_eq fare.from from) (bytes_eq fare.to to) e in
    (subst (λ c. IsSome (city_record tariff c)) (same_bytes fare.from from both.0) filed.from_known, subst (λ c. IsSome (city_record tariff c)) (same_bytes fare.to to both.1) filed.to_known)

filed_either : (tariff : Tariff) (fare : FareRecord) (back : Bool) (a b : City) → IsFiledFare tariff fare → cond back (is_filed_between fare b a) (is_filed_between fare a b) ≡ true → IsSome (city_record tariff a)
filed_either tariff fare true a b filed e = (filed_between tariff fare b a filed e).1
filed_either tariff fare false a b filed e = (filed_between tariff fare a b filed e).0

-- the city where the construction begins is filed
pub home_is_filed : (tariff : Tariff) (trip : Itinerary) (parts : List Part) → first_broken tariff trip parts ≡ None → 1 ≤ count trip → count trip ≤ 16 → ((number : ℕ) (fare : FareRecord) → fare_at tariff number ≡ Some fare → IsFiledFare tariff fare) → IsSome (city_record tariff (point trip 0))
unfolding runs_between
home_is_filed tariff trip parts lawful some short filed =
    let kept = kept_from_unbroken tariff trip parts lawful in
    let low : 1 ≤ 1 = omega arith in
    let high = lawful_some_parts tariff trip parts lawful short some in
    let first = fare_is_filed tariff trip parts kept 1 low high in
    let used = part_may_be_used tariff trip parts kept 1 low high first.0 first.1 in
    filed_either tariff first.0 (is_back tariff trip parts 1) (point trip 0) (point trip (end_of parts 1)) (filed (part_at parts 1).fare first.0 first.1) used.pair
