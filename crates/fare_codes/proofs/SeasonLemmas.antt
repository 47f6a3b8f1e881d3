-- The whole year holds each of its days.
use Rattle.std.proofs.Common.{◌≡◌, ℕ, true, List, ap, sym, ◌∙◌, arith}
use Rattle.std.proofs.lemmas.Bool.Decides.{nat_tests}
use Rattle.fare_codes.specs.declared.season.Season.{Season}
use Rattle.fare_codes.specs.Day.{is_month_day}
use Rattle.fare_codes.specs.Season.{season_holds, whole_year}
use Rattle.fare_codes.proofs.MonthDayLemmas.{place_in_bounds}

-- each place of the year lies from its first to its last
pub whole_year_holds : (on : List ℕ) → is_month_day on ≡ true → season_holds whole_year on ≡ true
unfolding season_holds
whole_year_holds on h =
    let bounds = place_in_bounds on h in
    grind (arith, nat_tests)

-- so does a season that is the whole year
pub held_all_year : (season : Season) (on : List ℕ) → is_month_day on ≡ true → season ≡ whole_year → true ≡ season_holds season on
held_all_year season on h e = sym (whole_year_holds on h) ∙ ap (λ (s : Season). season_holds s on) (sym e)
