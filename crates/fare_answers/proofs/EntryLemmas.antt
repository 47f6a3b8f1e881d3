-- The entries of a text, one after another.
use Rattle.std.proofs.Common.{◌≡◌, ℕ, zero, suc, ◌+◌, ◌<◌, List, [], ◌∷◌, ◌++◌, length, drop, Some, refl, ap, sym, ◌∙◌, arith}
use Rattle.std.specs.Prelude.{slice_get}
use Rattle.std.proofs.Math.Numerals.{add-one}
use Rattle.std.proofs.Math.Seq.{drop-length}
use Rattle.std.proofs.lemmas.List.{append_assoc, append-nil}
use Rattle.fare_trip.specs.Itinerary.{Itinerary}
use Rattle.fare_tariff.specs.Tariff.{Tariff}
use Rattle.fare_rules.specs.FirstK.{Priced}
use Rattle.fare_calc.specs.Answer.{no_fare_line}
use Rattle.fare_answers.specs.BestText.{entries_text, entry_text, first_text, place_text}

-- what is left of a list from a place on
record Next (xs : List Priced) (place : ℕ) : Type 0 where
  one : Priced
  there : slice_get xs place ≡ Some one
  left : drop place xs ≡ one ∷ drop (suc place) xs

next : (xs : List Priced) (place : ℕ) → place < length xs → Next xs place
next [] place h = absurd (omega arith)
next (x ∷ xs) zero h = record { one = x; there = refl; left = refl }
next (x ∷ xs) (suc place) h = let n = next xs place (omega arith) in record { one = n.one; there = n.there; left = n.left }

module _ (tariff : Tariff) (trip : Itinerary) where
  pub entry_more : (first : List Priced) (place : ℕ) (before after all : List ℕ) → place < length first
      → after ≡ before ++ place_text tariff trip (place + 1) (slice_get first place)
      → all ≡ before ++ entries_text tariff trip (place + 1) (drop place first)
      → all ≡ after ++ entries_text tariff trip (place + 1 + 1) (drop (place + 1) first)
  entry_more first place before after all h one so_far =
      let n = next first place h in
      let text : List ℕ = entry_text tariff trip (place + 1) n.one in
      let rest : List ℕ = entries_text tariff trip (suc (place + 1)) (drop (place + 1) first) in
      let left : drop place first ≡ n.one ∷ drop (place + 1) first = rw (add-one place) n.left in
      let split : entries_text tariff trip (place + 1) (drop place first) ≡ text ++ rest = ap (entries_text tariff trip (place + 1)) left in
      let taken : after ≡ before ++ text = one ∙ ap (λ o. before ++ place_text tariff trip (place + 1) o) n.there in
      let same : (before ++ text) ++ rest ≡ before ++ (text ++ rest) = append_assoc before text rest in
      let whole : all ≡ after ++ rest = so_far ∙ ap (λ ys. before ++ ys) split ∙ sym same ∙ ap (λ ys. ys ++ rest) (sym taken) in
      rw (add-one (place + 1)) whole

  pub entries_done : (first : List Priced) (place : ℕ) (text all : List ℕ) → place ≡ length first
      → all ≡ text ++ entries_text tariff trip (place + 1) (drop place first) → text ≡ all
  entries_done first place text all e so_far =
      let none : drop place first ≡ [] = ap (λ n. drop n first) e ∙ drop-length first in
      sym (so_far ∙ ap (λ ys. text ++ entries_text tariff trip (place + 1) ys) none ∙ append-nil text)

  pub text_of_none : (first : List Priced) → length first ≡ 0 → first_text tariff trip first ≡ no_fare_line
  text_of_none [] e = refl
  text_of_none (one ∷ rest) e = absurd (omega arith)

  pub text_of_some : (first : List Priced) → 0 < length first → first_text tariff trip first ≡ entries_text tariff trip 1 first
  text_of_some [] h = absurd (omega arith)
  text_of_some (one ∷ rest) h = refl
