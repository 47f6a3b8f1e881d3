-- Numbers in a row, as they are spelled and as values.
use Rattle.std.proofs.Common.{◌≡◌, ℕ, zero, suc, ◌+◌, ◌-◌, ◌<◌, List, [], ◌∷◌, ◌++◌, map, refl, ap, ◌∙◌, sym, arith}
use Rattle.std.specs.Prelude.{true, codes, decimal}
use Rattle.std.specs.List.{range_with_len}
use Rattle.std.proofs.lemmas.List.{append_assoc}
use Rattle.serde_json.specs.Data.{array}
use Rattle.serde_json.specs.View.{items_of}
use Rattle.serde_json.specs.Written.{compact_text, items_text}
use Rattle.fare_json.specs.QuotationData.{count, sectors_data}
use Rattle.fare_json.specs.Spelled.{counted_json, numbers_json, sectors_json}

-- one of some numbers
pub numbers_step : (many first : ℕ) → 0 < many → numbers_json many first ≡ codes "," ++ decimal first ++ numbers_json (many - 1) (first + 1)
unfolding numbers_json
numbers_step zero first some = absurd (omega arith)
numbers_step (suc more) first some =
    let e : suc more - 1 ≡ more = omega arith in
    ap (λ (n : ℕ). codes "," ++ decimal first ++ numbers_json n (first + 1)) (sym e)

-- the first of some numbers
pub counted_step : (many first : ℕ) → 0 < many → counted_json many first ≡ codes "[" ++ decimal first ++ numbers_json (many - 1) (first + 1) ++ codes "]"
counted_step zero first some = absurd (omega arith)
counted_step (suc more) first some =
    let e : suc more - 1 ≡ more = omega arith in
    ap (λ (n : ℕ). codes "[" ++ decimal first ++ numbers_json n (first + 1) ++ codes "]") (sym e)

-- numbers behind the first
rest_text : (more first : ℕ) → numbers_json more first ++ codes "]" ≡ items_text true (items_of (map count (range_with_len first more)))
unfolding numbers_json
rest_text zero first = refl
rest_text (suc more) first =
    ap (λ (t : List ℕ). 44 ∷ t) (append_assoc (decimal first) (numbers_json more (first + 1)) (codes "]")
    ∙ ap (λ (t : List ℕ). decimal first ++ t) (rest_text more (first + 1)))

counted_text : (many first : ℕ) → counted_json many first ≡ compact_text (array (items_of (map count (range_with_len first many))))
counted_text zero first = refl
counted_text (suc more) first =
    ap (λ (t : List ℕ). 91 ∷ t) (append_assoc (decimal first) (numbers_json more (first + 1)) (codes "]")
    ∙ ap (λ (t : List ℕ). decimal first ++ t) (rest_text more (first + 1)))

-- the sectors between two points
pub sectors_text : (start end : ℕ) → sectors_json start end ≡ compact_text (sectors_data start end)
sectors_text start end =
    let e : end - start ≡ end + 1 - (start + 1) = omega arith in
    counted_text (end - start) (start + 1) ∙ ap (λ (n : ℕ). compact_text (array (items_of (map count (range_with_len (start + 1) n))))) e
