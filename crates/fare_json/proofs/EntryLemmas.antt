-- The entries of a list of constructions, one after another.
use Rattle.std.proofs.Common.{◌≡◌, ℕ, zero, suc, ◌+◌, ◌<◌, List, [], ◌∷◌, ◌++◌, length, drop, Some, refl, ap, sym, ◌∙◌, arith}
use Rattle.std.specs.Prelude.{slice_get, flat_map}
use Rattle.std.proofs.Math.Numerals.{add-one}
use Rattle.std.proofs.Math.Seq.{drop-length}
use Rattle.std.proofs.lemmas.List.{append_assoc, append-nil}
use Rattle.fare_trip.specs.Itinerary.{Itinerary}
use Rattle.fare_tariff.specs.Tariff.{Tariff}
use Rattle.fare_rules.specs.FirstK.{Priced}
use Rattle.fare_json.specs.Spelled.{after_comma, comma_at, entry_json, listed_json, place_json}

-- what is left of a list from a place on
record Next (xs : List Priced) (place : ℕ) : Type 0 where
  one : Priced
  there : slice_get xs place ≡ Some one
  left : drop place xs ≡ one ∷ drop (suc place) xs

next : (xs : List Priced) (place : ℕ) → place < length xs → Next xs place
next [] place h = absurd (omega arith)
next (x ∷ xs) zero h = record { one = x; there = refl; left = refl }
next (x ∷ xs) (suc place) h = let n = next xs place (omega arith) in record { one = n.one; there = n.there; left = n.left }

-- what is left to write at a place: from the first one on all, and from another one on each behind a comma
abbrev pub rest_json : Tariff → Itinerary → ℕ → List Priced → List ℕ
rest_json tariff trip zero all = listed_json (entry_json tariff trip) all
rest_json tariff trip (suc before) all = flat_map (after_comma (entry_json tariff trip)) all

module _ (tariff : Tariff) (trip : Itinerary) where
  split : (place : ℕ) (one : Priced) (rest : List Priced) → rest_json tariff trip place (one ∷ rest) ≡ (comma_at place ++ entry_json tariff trip one) ++ rest_json tariff trip (suc place) rest
  split zero one rest = refl
  split (suc place) one rest = refl

  nothing_left : (place : ℕ) → rest_json tariff trip place [] ≡ []
  nothing_left zero = refl
  nothing_left (suc place) = refl

  pub entry_more : (first : List Priced) (place : ℕ) (before after all : List ℕ) → place < length first
      → after ≡ before ++ place_json tariff trip place (slice_get first place)
      → all ≡ before ++ rest_json tariff trip place (drop place first)
      → all ≡ after ++ rest_json tariff trip (place + 1) (drop (place + 1) first)
  entry_more first place before after all h one so_far =
      let n = next first place h in
      let text : List ℕ = comma_at place ++ entry_json tariff trip n.one in
      let rest : List ℕ = rest_json tariff trip (suc place) (drop (suc place) first) in
      let cut : rest_json tariff trip place (drop place first) ≡ text ++ rest = ap (rest_json tariff trip place) n.left ∙ split place n.one (drop (suc place) first) in
      let taken : after ≡ before ++ text = one ∙ ap (λ o. before ++ place_json tariff trip place o) n.there in
      let same : (before ++ text) ++ rest ≡ before ++ (text ++ rest) = append_assoc before text rest in
      let whole : all ≡ after ++ rest = so_far ∙ ap (λ ys. before ++ ys) cut ∙ sym same ∙ ap (λ ys. ys ++ rest) (sym taken) in
      rw (add-one place) whole

  pub entries_done : (first : List Priced) (place : ℕ) (text all : List ℕ) → place ≡ length first
      → all ≡ text ++ rest_json tariff trip place (drop place first) → text ≡ all
  entries_done first place text all e so_far =
      let none : drop place first ≡ [] = ap (λ n. drop n first) e ∙ drop-length first in
      sym (so_far ∙ ap (λ ys. text ++ rest_json tariff trip place ys) none ∙ ap (λ ys. text ++ ys) (nothing_left place) ∙ append-nil text)
