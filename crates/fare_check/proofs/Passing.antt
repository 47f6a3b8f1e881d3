-- The row of a number, one row further.
use Rattle.std.proofs.Common.{◌≡◌, ◌<◌, ℕ, suc, ◌+◌, ◌-◌, Bool, true, false, cond, List, [], ◌∷◌, get_or, ap, ◌∙◌, arith}
use Rattle.fare_csv.specs.Rows.{Fields}

-- one row is passed
pub passed : (wanted : Fields) (rows more : List Fields) (row : Fields) (found : Bool) (number at : ℕ) → wanted ≡ get_or rows (number - at) [] → rows ≡ cond found (row ∷ more) [] → found ≡ true → at < number → wanted ≡ get_or more (number - (at + 1)) []
passed wanted rows more row found number at is h e less =
    let step : number - at ≡ suc (number - (at + 1)) = omega arith in
    is ∙ (λ i. get_or ((h ∙ ap (λ t. cond t (row ∷ more) []) e) i) (step i) [])

-- the row is at hand
pub reached : (wanted : Fields) (rows more : List Fields) (row : Fields) (found : Bool) (place : ℕ) → wanted ≡ get_or rows place [] → rows ≡ cond found (row ∷ more) [] → found ≡ true → place ≡ 0 → wanted ≡ row
reached wanted rows more row found place is h e none = is ∙ (λ i. get_or ((h ∙ ap (λ t. cond t (row ∷ more) []) e) i) (none i) [])

-- there are no more rows
pub run_out : (wanted : Fields) (rows more : List Fields) (row : Fields) (found : Bool) (place : ℕ) → wanted ≡ get_or rows place [] → rows ≡ cond found (row ∷ more) [] → found ≡ false → wanted ≡ []
run_out wanted rows more row found place is h e = is ∙ ap (λ l. get_or l place []) (h ∙ ap (λ t. cond t (row ∷ more) []) e)
