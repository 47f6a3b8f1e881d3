-- What the searches found, from place to place and kind to kind.
use Rattle.std.proofs.Common.{◌≡◌, ℕ, zero, suc, ◌+◌, ◌<◌, true, false, List, [], ◌∷◌, ◌++◌, map, length, refl, ap, sym, subst, ◌∙◌, arith}
use Rattle.std.specs.Prelude.{Option, Some, None, All, IsSome, filter_map, ⊤}
use Rattle.std.specs.List.{AllZip}
use Rattle.std.proofs.lemmas.List.{map-append, append-nil}
use Rattle.std.proofs.lemmas.List.Elements.{All-append, filter_map-append}
use Rattle.fare_trip.specs.Itinerary.{Itinerary}
use Rattle.fare_tariff.specs.Tariff.{Tariff}
use Rattle.fare_relaxed.specs.declared.term.Term.{Term}
use Rattle.fare_why.specs.Explanation.{Alternative}
use Rattle.fare_why.specs.Reasons.{IsShownFor, those_there}
use Rattle.fare_why.specs.Asked.{Slot, AreSearched, shown_in, shown_at}

-- what is shown at some places and one more
pub shown_more : (slots : List Slot) (slot : Slot)
    → shown_at (slots ++ slot ∷ []) ≡ shown_at slots ++ those_there (shown_in slot ∷ [])
shown_more slots slot =
    ap those_there (map-append shown_in slots (slot ∷ []))
    ∙ filter_map-append (λ one. one) (map shown_in slots) (shown_in slot ∷ [])

one_there : (shown : Option Alternative) → All IsSome (Some shown ∷ [])
one_there shown zero d low = refl
one_there shown (suc k) d low = absurd (omega arith)

pub there_more : (slots : List Slot) (shown : Option Alternative) → All IsSome slots
    → All IsSome (slots ++ Some shown ∷ [])
there_more slots shown h = All-append IsSome slots (Some shown ∷ []) h (one_there shown)

-- a place at which nothing is shown
shown_none : (slots : List Slot) → shown_at (slots ++ Some None ∷ []) ≡ shown_at slots
shown_none slots = shown_more slots (Some None) ∙ append-nil (shown_at slots)

pub shown_same : (slots : List Slot) (slot : Slot) (inner : Option Alternative) → slot ≡ Some inner → inner ≡ None
    → shown_at (slots ++ slot ∷ []) ≡ shown_at slots
shown_same slots slot inner e f =
    ap (λ (s : Slot). shown_at (slots ++ s ∷ [])) (e ∙ ap Some f) ∙ shown_none slots

pub there_same : (slots : List Slot) (slot : Slot) (inner : Option Alternative) → slot ≡ Some inner
    → All IsSome slots → All IsSome (slots ++ slot ∷ [])
there_same slots slot inner e h =
    subst (λ (s : Slot). All IsSome (slots ++ s ∷ [])) (sym e) (there_more slots inner h)

not_there : false ≡ true → ⊥
not_there e = cc

-- where each place has its answer, what is shown goes with the kinds
pub zipped : (tariff : Tariff) (trip : Itinerary) (total : Option ℕ) (terms : List Term) (slots : List Slot)
    → AreSearched tariff trip total terms slots → All IsSome slots
    → AllZip (IsShownFor tariff trip total) terms (map shown_in slots)
zipped tariff trip total [] [] s h = tt
zipped tariff trip total [] (slot ∷ slots) s h = absurd (omega (arith, s.count))
zipped tariff trip total (term ∷ terms) [] s h = absurd (omega (arith, s.count))
zipped tariff trip total (term ∷ terms) (None ∷ slots) s h = absurd (not_there (h 0 None (omega arith)))
zipped tariff trip total (term ∷ terms) (Some shown ∷ slots) s h =
    let rest : AreSearched tariff trip total terms slots = record {
      count = omega (arith, s.count);
      each = λ i slot one low. s.each (suc i) slot one (omega arith);
    } in
    (s.each 0 None term (omega arith), zipped tariff trip total terms slots rest (λ k d low. h (suc k) d (omega arith)))
