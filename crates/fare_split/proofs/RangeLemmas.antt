-- Ranges that follow one another share out the numbers below their end.
use Rattle.std.proofs.Common.{◌≡◌, ℕ, zero, suc, ◌<◌, ◌≤◌, ◌⊎◌, List, [], ◌∷◌, ◌++◌, length, Some, refl, ap, sym, subst, inl, inr, arith}
use Rattle.std.specs.Prelude.{All, slice_get, slice_index_or}
use Rattle.std.proofs.lemmas.Bool.{cases_lt}
use Rattle.std.proofs.lemmas.Option.{none-some}
use Rattle.fare_branch.specs.declared.pieces.Piece.{Piece}
use Rattle.fare_split.specs.Rows.{LiesInOne, ArePieces}
use Rattle.fare_split.proofs.EarliestLemmas.{all_last, all_none}

-- a range
abbrev pub range : ℕ → ℕ → Piece
range first past = record { first = first; past = past }

-- pieces share out the numbers below one, and none goes beyond it
pub record AreUpTo (count : ℕ) (pieces : List Piece) : Type 0 where
  pub within : All (λ piece. piece.past ≤ count) pieces
  pub split : ArePieces count pieces

some_same : {A : Type 0} (x y : A) → Some x ≡ Some y → x ≡ y
some_same x y e = cc

module _ {A : Type 0} where
  there_still : (xs ys : List A) (k : ℕ) (x : A) → slice_get xs k ≡ Some x → slice_get (xs ++ ys) k ≡ Some x
  there_still [] ys k x e = absurd (none-some x e)
  there_still (z ∷ zs) ys zero x e = e
  there_still (z ∷ zs) ys (suc k) x e = there_still zs ys k x e

  there_last : (xs : List A) (y : A) → slice_get (xs ++ y ∷ []) (length xs) ≡ Some y
  there_last [] y = refl
  there_last (z ∷ zs) y = there_last zs y

  -- what is at a place of a list with one more at its end
  at_last : (xs : List A) (y : A) (k : ℕ) (x : A) → slice_get (xs ++ y ∷ []) k ≡ Some x
      → (slice_get xs k ≡ Some x) ⊎ ((k ≡ length xs) × (y ≡ x))
  at_last [] y zero x e = inr (refl, some_same y x e)
  at_last [] y (suc k) x e = absurd (none-some x e)
  at_last (z ∷ zs) y zero x e = inl e
  at_last (z ∷ zs) y (suc k) x e = elim (at_last zs y k x e) [ inl h ↦ inl h | inr h ↦ inr (ap suc h.0, h.1) ]

  all_at : (P : A → Type 0) (xs : List A) (k : ℕ) (x : A) → All P xs → slice_get xs k ≡ Some x → P x
  all_at P [] k x h e = absurd (none-some x e)
  all_at P (z ∷ zs) zero x h e = subst P (some_same z x e) (h zero z (omega arith))
  all_at P (z ∷ zs) (suc k) x h e = all_at P zs k x (λ j d low. h (suc j) d (omega arith)) e

pub none_shared : AreUpTo 0 []
none_shared = record { within = all_none (λ piece. piece.past ≤ 0); split = λ number low. absurd (omega arith) }

module _ (first past : ℕ) (pieces : List Piece) (up : first ≤ past) (before : AreUpTo first pieces) where
  abbrev pub last : Piece
  last = range first past

  -- a number that lies in one of the pieces lies in none but that one
  still : (number : ℕ) → number < first → LiesInOne (pieces ++ last ∷ []) number
  still number low =
      let one = before.split number low in
      record {
        place = one.place;
        lies = record {
          piece = one.lies.piece;
          there = there_still pieces (last ∷ []) one.place one.lies.piece one.lies.there;
          above = one.lies.above;
          below = one.lies.below;
        };
        only = λ other lies. elim (at_last pieces last other lies.piece lies.there) [
          | inl h ↦ one.only other (record { piece = lies.piece; there = h; above = lies.above; below = lies.below })
          | inr h ↦
              let from : first ≤ number = subst (λ (p : Piece). p.first ≤ number) (sym h.1) lies.above in
              absurd (omega arith)
        ];
      }

  -- a number of the last one lies in that alone
  new : (number : ℕ) → first ≤ number → number < past → LiesInOne (pieces ++ last ∷ []) number
  new number above below =
      record {
        place = length pieces;
        lies = record { piece = last; there = there_last pieces last; above = above; below = below };
        only = λ other lies. elim (at_last pieces last other lies.piece lies.there) [
          | inl h ↦
              let short : lies.piece.past ≤ first = all_at (λ piece. piece.past ≤ first) pieces other lies.piece before.within h in
              let to : number < lies.piece.past = lies.below in
              absurd (omega arith)
          | inr h ↦ h.0
        ];
      }

  pub one_more : AreUpTo past (pieces ++ last ∷ [])
  one_more = record {
    within = all_last (λ piece. piece.past ≤ past) pieces last wider (omega arith);
    split = λ number low. elim (cases_lt number first) [
      | inl p ↦ still number p
      | inr q ↦ new number (omega arith) low
    ];
  }
    where
      wider : All (λ piece. piece.past ≤ past) pieces
      wider k d low =
          let short : (slice_index_or pieces k d).past ≤ first = before.within k d low in
          omega arith
