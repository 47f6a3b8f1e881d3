-- Shares: which lists belong to them, and what a search of a share comes to.
use Rattle.std.proofs.Common.{◌≡◌, ℕ, zero, suc, ◌<◌, ◌≤◌, ◌+◌, ◌*◌, ◌/◌, Bool, true, false, ◌&&◌, not, List, [], ◌∷◌, ◌++◌, Option, Some, None, length, refl, ap, sym, subst, ◌∙◌, inl, inr, arith}
use Rattle.std.specs.Prelude.{nat_le, slice_index_or, ◌==◌}
use Rattle.std.proofs.Math.Nat.{div-lt_iff_lt-mul, mod-lt}
use Rattle.std.proofs.lemmas.Bool.{cases_Bool, leb-true, leb-false, eq-eqb}
use Rattle.std.proofs.lemmas.List.{length-append}
use Rattle.fare_trip.specs.Itinerary.{Itinerary}
use Rattle.fare_tariff.specs.Tariff.{Tariff}
use Rattle.fare_rules.specs.declared.part.Part.{Part}
use Rattle.fare_rules.specs.Best.{IsLawful}
use Rattle.fare_units.proofs.NextLemmas.{front_part}
use Rattle.fare_branch.specs.declared.pieces.Piece.{Piece}
use Rattle.fare_branch.specs.declared.share.Share.{Share}
use Rattle.fare_branch.specs.Search.{BeginsIn, IsSearched, kept_at}
use Rattle.fare_branch.specs.Shares.{AreFoundIn, IsBegun, IsFoundIn, IsPassedIn, is_elsewhere, mark, share_of}
use Rattle.fare_branch.specs.Sought.{AllBehindPassed, IsWalk}
use Rattle.fare_branch.specs.Walked.{IsHeld, IsPassed, IsTold, is_beaten}
use Rattle.fare_branch.proofs.PieceLemmas.{cheaper, dearer}
use Rattle.fare_branch.proofs.WalkedLemmas.{beaten_is_passed, passed_falls, told_falls}

abbrev Found : Type 0
Found = Option (List Part × ℕ)

true_false : true ≡ false → ⊥
true_false e = cc

first_true : (a b : Bool) → (a && b) ≡ true → a ≡ true
first_true true b h = refl
first_true false b h = h

-- the mark of a list is that of its first parts
mark_longer : (front rest : List Part) → 3 ≤ length front → mark (front ++ rest) ≡ mark front
mark_longer front rest long =
    rw (front_part front rest 1 (omega arith) (omega arith), front_part front rest 2 (omega arith) (omega arith), front_part front rest 3 (omega arith) (omega arith)) refl

-- what goes on from parts of another share belongs to that too
pub elsewhere_longer : (share : Share) (front rest : List Part) → is_elsewhere share front ≡ true → is_elsewhere share (front ++ rest) ≡ true
elsewhere_longer share front rest h =
    let marked : nat_le 3 (length front) ≡ true = first_true (nat_le 3 (length front)) (not (share_of (mark front) share.count == share.number)) h in
    let long : 3 ≤ length front = leb-true 3 (length front) marked in
    let all : length (front ++ rest) ≡ length front + length rest = length-append front rest in
    let wide : nat_le 3 (length (front ++ rest)) ≡ true = is_le (length (front ++ rest)) (omega arith) in
    rw (wide, mark_longer front rest long) (rw marked at h)
  where
    is_le : (n : ℕ) → 3 ≤ n → nat_le 3 n ≡ true
    is_le n up = elim (cases_Bool (nat_le 3 n)) [ inl t ↦ t | inr f ↦ (let low : n < 3 = leb-false 3 n f in absurd (omega arith)) ]

-- each list belongs to one of some shares
pub belongs : (count : ℕ) (parts : List Part) → 1 ≤ count → (number : ℕ) × (number < count) × (is_elsewhere (record { number = number; count = count }) parts ≡ false)
belongs count parts some =
    (share_of (mark parts) count, below (mark parts) (small parts), own (nat_le 3 (length parts)) (share_of (mark parts) count))
  where
    small : (parts : List Part) → mark parts < 65521
    small parts = mod-lt _ (omega arith)

    less : (m : ℕ) → m < 65521 → m * count < count * 65521
    less m low = grind arith

    below : (m : ℕ) → m < 65521 → m * count / 65521 < count
    below m low = (div-lt_iff_lt-mul {k = 65521} {x = m * count} {y = count} (omega arith)).1 (less m low)

    own : (b : Bool) (n : ℕ) → (b && not (n == n)) ≡ false
    own true n = ap not (eq-eqb n n refl)
    own false n = refl

-- so none belongs to another than the only one
pub never_elsewhere : (parts : List Part) → is_elsewhere (record { number = 0; count = 1 }) parts ≡ true → ⊥
never_elsewhere parts h =
    let one = belongs 1 parts (omega arith) in
    let low : one.0 < 1 = one.1 in
    let same : one.0 ≡ 0 = omega arith in
    true_false (sym h ∙ subst (λ n. is_elsewhere (record { number = n; count = 1 }) parts ≡ false) same one.2)

module _ (tariff : Tariff) (trip : Itinerary) where
  -- what was dived for is told where the least price falls
  pub begun_falls : (piece : Piece) (before after : ℕ) (found : Found) → after ≤ before → IsBegun tariff trip piece before found → IsBegun tariff trip piece after found
  begun_falls piece before after found falls b = record { told = told_falls tariff trip before after found falls b.told; begins = b.begins }

module _ (share : Share) where
  -- what goes on from parts that are beaten is passed
  pub beaten_in : (least floor : ℕ) (best : Found) (front : List Part) → is_beaten best front floor ≡ true → AllBehindPassed front floor (IsPassedIn share least best)
  beaten_in least floor best front h rest price up = inr (beaten_is_passed best front floor least h rest price up)

  module _ (tariff : Tariff) (trip : Itinerary) where
    -- what a walk passes it passes in a share
    pub walk_in : (D : List Part → Type 0) (before after : ℕ) (best found : Found) → IsWalk tariff trip D (IsPassed before best) (IsHeld best) (IsPassed after found) (IsHeld found) → IsWalk tariff trip D (IsPassedIn share before best) (IsHeld best) (IsPassedIn share after found) (IsHeld found)
    walk_in D before after best found walk = record {
      kept = λ parts price p. elim p [ inl e ↦ inl e | inr q ↦ inr (walk.kept parts price q) ];
      walked = λ parts price l d. inr (walk.walked parts price l d);
      from = walk.from;
    }

    pub found_falls : (piece : Piece) (before after : ℕ) (found : Found) → after ≤ before → IsFoundIn tariff trip share before piece found → IsFoundIn tariff trip share after piece found
    found_falls piece before after found falls f = record {
      begun = begun_falls tariff trip piece before after found falls f.begun;
      passed = λ parts price l b. elim (f.passed parts price l b) [ inl e ↦ inl e | inr q ↦ inr (passed_falls before after found parts price falls q) ];
    }

    -- a walk over a piece from what was dived for there
    pub found_by_walk : (piece : Piece) (before after : ℕ) (best found : Found) → IsBegun tariff trip piece before best → IsTold tariff trip after found → IsWalk tariff trip (BeginsIn tariff trip piece) (IsPassedIn share before best) (IsHeld best) (IsPassedIn share after found) (IsHeld found) → IsFoundIn tariff trip share after piece found
    found_by_walk piece before after best found b told walk = record {
      begun = record { told = told; begins = λ parts h. elim (walk.from parts h) [ inl was ↦ b.begins parts was | inr is ↦ is ] };
      passed = walk.walked;
    }

    -- piece by piece
    pub are_falls : (before after : ℕ) (pieces : List Piece) (finds : List Found) → after ≤ before → AreFoundIn tariff trip share before pieces finds → AreFoundIn tariff trip share after pieces finds
    are_falls before after [] [] falls f = tt
    are_falls before after [] (x ∷ xs) falls f = f
    are_falls before after (p ∷ ps) [] falls f = f
    are_falls before after (p ∷ ps) (x ∷ xs) falls f = (found_falls p before after x falls f.0, are_falls before after ps xs falls f.1)

    pub are_more : (least : ℕ) (pieces : List Piece) (finds : List Found) (piece : Piece) (found : Found) → AreFoundIn tariff trip share least pieces finds → IsFoundIn tariff trip share least piece found → AreFoundIn tariff trip share least (pieces ++ piece ∷ []) (finds ++ found ∷ [])
    are_more least [] [] piece found f one = (one, tt)
    are_more least [] (x ∷ xs) piece found f one = absurd f
    are_more least (p ∷ ps) [] piece found f one = absurd f
    are_more least (p ∷ ps) (x ∷ xs) piece found f one = (f.0, are_more least ps xs piece found f.1 one)

    pub are_at : (least : ℕ) (pieces : List Piece) (finds : List Found) (k : ℕ) (d : Piece) (e : Found) → k < length pieces → AreFoundIn tariff trip share least pieces finds → IsFoundIn tariff trip share least (slice_index_or pieces k d) (slice_index_or finds k e)
    are_at least [] finds k d e low f = absurd (omega arith)
    are_at least (p ∷ ps) [] k d e low f = absurd f
    are_at least (p ∷ ps) (x ∷ xs) zero d e low f = f.0
    are_at least (p ∷ ps) (x ∷ xs) (suc k) d e low f = are_at least ps xs k d e (omega arith) f.1

    pub are_as_many : (least : ℕ) (pieces : List Piece) (finds : List Found) → AreFoundIn tariff trip share least pieces finds → length finds ≡ length pieces
    are_as_many least [] [] f = refl
    are_as_many least [] (x ∷ xs) f = absurd f
    are_as_many least (p ∷ ps) [] f = absurd f
    are_as_many least (p ∷ ps) (x ∷ xs) f = ap suc (are_as_many least ps xs f.1)

module _ (tariff : Tariff) (trip : Itinerary) where
  -- nothing was dived for
  pub begun_none : (piece : Piece) (least : ℕ) → IsBegun tariff trip piece least None
  begun_none piece least = record { told = tt; begins = λ parts h. absurd h }

  -- what a search answers where all that begins in its piece is passed
  pub searched_by : (piece : Piece) (after least : ℕ) (found : Found) → least ≤ after → IsBegun tariff trip piece after found → ((parts : List Part) (price : ℕ) → IsLawful tariff trip parts price → BeginsIn tariff trip piece parts → IsPassed after found parts price) → IsSearched tariff trip piece least (kept_at found least)
  searched_by piece after least None low begun passed = λ parts price l b.
      elim (passed parts price l b) [ inl h ↦ omega arith | inr h ↦ absurd h ]
  searched_by piece after least (Some one) low begun passed =
      let told : after ≤ one.1 = begun.told.1 in
      elim (cases_Bool (nat_le one.1 least)) [
        | inl t ↦
            let up : one.1 ≤ least = leb-true one.1 least t in
            rw t (record {
              lawful = begun.told.0;
              begins = begun.begins one.0 refl;
              told = omega arith;
              first = λ other cost l b. elim (passed other cost l b) [ inl h ↦ dearer other one.0 cost one.1 (omega arith) | inr h ↦ h ];
            })
        | inr f ↦
            let above : least < one.1 = leb-false one.1 least f in
            rw f (λ parts price l b. elim (passed parts price l b) [
              | inl h ↦ omega arith
              | inr h ↦ let up : one.1 ≤ price = cheaper parts one.0 price one.1 h in omega arith
            ])
      ]

  -- by the only share
  pub whole_searched : (piece : Piece) (after least : ℕ) (found : Found) → least ≤ after → IsFoundIn tariff trip (record { number = 0; count = 1 }) after piece found → IsSearched tariff trip piece least (kept_at found least)
  whole_searched piece after least found low f =
      searched_by piece after least found low f.begun
      (λ parts price l b. elim (f.passed parts price l b) [ inl e ↦ absurd (never_elsewhere parts e) | inr q ↦ q ])
