-- A stretch that is one sector longer.
use Rattle.std.proofs.Common.{◌≡◌, ℕ, ◌+◌, ◌-◌, ◌≤◌, Bool, [], ◌∷◌, ◌&&◌, ◌||◌, Option, ap, sym, ◌∙◌, arith}
use Rattle.std.specs.List.{list_any, list_all}
use Rattle.std.proofs.lemmas.List.Folds.{list_any-append, list_all-append}
use Rattle.std.proofs.Math.Bool.{or-false, and-true}
use Rattle.fare_codes.specs.declared.area.Area.{Area}
use Rattle.fare_codes.specs.declared.over.Over.{Over}
use Rattle.fare_trip.specs.Itinerary.{Itinerary, point, sector}
use Rattle.fare_tariff.specs.Tariff.{Tariff}
use Rattle.fare_rules.specs.Numbers.{numbers}
use Rattle.fare_rules.specs.Indicator.{area, ocean, is_atlantic, is_pacific, is_first_area, crosses_atlantic, crosses_pacific, is_within_one}
use Rattle.fare_rules.proofs.NumberLemmas.{numbers_more}
use Rattle.fare_points.specs.declared.crossings.Crossings.{Crossings}
use Rattle.fare_points.specs.declared.stretch.Stretch.{Stretch}
use Rattle.fare_points.specs.Stretch.{IsStretch}

-- some number of a range that is one longer passes: one of the range, or the last
any_last : (test : ℕ → Bool) (first past : ℕ) → first ≤ past → list_any test (numbers first (past + 1)) ≡ (list_any test (numbers first past) || test past)
any_last test first past h =
    ap (list_any test) (numbers_more first past h)
    ∙ list_any-append test (numbers first past) (past ∷ [])
    ∙ ap (λ t. list_any test (numbers first past) || t) (or-false (test past))

-- all numbers of a range that is one longer pass: those of the range, and the last
all_last : (test : ℕ → Bool) (first past : ℕ) → first ≤ past → list_all test (numbers first (past + 1)) ≡ (list_all test (numbers first past) && test past)
all_last test first past h =
    ap (list_all test) (numbers_more first past h)
    ∙ list_all-append test (numbers first past) (past ∷ [])
    ∙ ap (λ t. list_all test (numbers first past) && t) (and-true (test past))

-- a stretch and what the next sector crosses and touches make the stretch that is one sector longer
pub one_more : (tariff : Tariff) (trip : Itinerary) (a b : ℕ) (stretch : Stretch) (more met : Crossings) (reached : Option Area) (over : Over) → a ≤ b → IsStretch tariff trip a b stretch
    → reached ≡ area tariff (point trip (b + 1))
    → over ≡ (sector trip (b + 1)).over
    → more.atlantic ≡ is_atlantic (ocean stretch.area reached over)
    → more.pacific ≡ is_pacific (ocean stretch.area reached over)
    → more.within_one ≡ (is_first_area stretch.area && is_first_area reached)
    → met ≡ record { atlantic = stretch.met.atlantic || more.atlantic; pacific = stretch.met.pacific || more.pacific; within_one = stretch.met.within_one && more.within_one }
    → IsStretch tariff trip a (b + 1) (record { met = met; area = reached })
one_more tariff trip a b stretch more met reached over h is there marked atlantic pacific within_one both =
    let back : b ≡ (b + 1) - 1 = omega arith in
    let rises : a + 1 ≤ b + 1 = omega arith in
    let here : stretch.area ≡ area tariff (point trip ((b + 1) - 1)) = is.area ∙ ap (λ i. area tariff (point trip i)) back in
    let over_atlantic : more.atlantic ≡ crosses_atlantic tariff trip (b + 1) = atlantic ∙ (λ i. is_atlantic (ocean (here i) (there i) (marked i))) in
    let over_pacific : more.pacific ≡ crosses_pacific tariff trip (b + 1) = pacific ∙ (λ i. is_pacific (ocean (here i) (there i) (marked i))) in
    let touched : more.within_one ≡ is_within_one tariff trip (b + 1) = within_one ∙ (λ i. is_first_area (here i) && is_first_area (there i)) in
    record {
      atlantic =
          ap (λ (m : Crossings). m.atlantic) both
          ∙ (λ i. is.atlantic i || over_atlantic i)
          ∙ sym (any_last (crosses_atlantic tariff trip) (a + 1) (b + 1) rises);
      pacific =
          ap (λ (m : Crossings). m.pacific) both
          ∙ (λ i. is.pacific i || over_pacific i)
          ∙ sym (any_last (crosses_pacific tariff trip) (a + 1) (b + 1) rises);
      within_one =
          ap (λ (m : Crossings). m.within_one) both
          ∙ (λ i. is.within_one i && touched i)
          ∙ sym (all_last (is_within_one tariff trip) (a + 1) (b + 1) rises);
      area = there;
    }
