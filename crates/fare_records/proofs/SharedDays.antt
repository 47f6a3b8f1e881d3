-- Two seasons share a day exactly where one of them holds the other's first day.
use Rattle.std.proofs.Common.{◌≡◌, ℕ, Bool, true, false, List, ◌&&◌, ◌||◌, nat_le, if◌then◌else◌, IsTrue, arith, refl, ◌⊎◌, inl, inr}
use Rattle.std.proofs.lemmas.Bool.Decides.{nat_tests}
use Rattle.fare_codes.specs.declared.season.Season.{Season}
use Rattle.fare_codes.specs.Day.{place_in_year, is_month_day}
use Rattle.fare_codes.specs.Season.{season_holds}
use Rattle.fare_records.specs.Seasons.{seasons_overlap, ShareADay}

-- a season of two places in the year holds a place
abbrev holds_place : ℕ → ℕ → ℕ → Bool
holds_place first last on = if nat_le first last then (nat_le first on && nat_le on last) else (nat_le first on || nat_le on last)

-- a season holds its first place
own_first : (first last : ℕ) → holds_place first last first ≡ true
own_first first last = grind (arith, nat_tests)

-- of two seasons that hold a place one holds the other's first place
shared_place : (a b c d on : ℕ) → holds_place a b on ≡ true → holds_place c d on ≡ true → (holds_place a b c || holds_place c d a) ≡ true
shared_place a b c d on h g = grind (arith, nat_tests)

-- one of two tests that are not both false is true
or_cases : (p q : Bool) → (p || q) ≡ true → (p ≡ true) ⊎ (q ≡ true)
or_cases true q h = inl refl
or_cases false q h = inr h

-- a season holds its first day
pub holds_first : (a : Season) → season_holds a a.first ≡ true
unfolding season_holds
holds_first a = own_first (place_in_year a.first) (place_in_year a.last)

-- the first day that the other season holds is shared
pub shared : (a b : Season) → is_month_day a.first ≡ true → is_month_day b.first ≡ true → IsTrue (seasons_overlap a b) → ShareADay a b
shared a b form_a form_b h =
    elim (or_cases (season_holds a b.first) (season_holds b a.first) h) [
      | inl in_a ↦ record { on = b.first; is_a_day = form_b; in_first = in_a; in_second = holds_first b }
      | inr in_b ↦ record { on = a.first; is_a_day = form_a; in_first = holds_first a; in_second = in_b }
    ]

-- where both seasons hold a day one holds the other's first day
pub both_hold : (a b : Season) (on : List ℕ) → season_holds a on ≡ true → season_holds b on ≡ true → seasons_overlap a b ≡ true
unfolding season_holds
both_hold a b on in_a in_b =
    shared_place (place_in_year a.first) (place_in_year a.last) (place_in_year b.first) (place_in_year b.last) (place_in_year on) in_a in_b

-- where a day is shared one season holds the other's first day
pub found : (a b : Season) → ShareADay a b → IsTrue (seasons_overlap a b)
found a b day = both_hold a b day.on day.in_first day.in_second
