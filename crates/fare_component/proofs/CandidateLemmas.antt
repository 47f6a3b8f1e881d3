-- The first of two numbers.
use Rattle.std.proofs.Common.{◌≡◌, ℕ, ◌⊎◌, min, arith, ap, inl, inr}
use Rattle.std.specs.Prelude.{Option, Some, None}
use Rattle.std.proofs.lemmas.Bool.{cases_lt}
use Rattle.std.proofs.lemmas.Option.{same_Some}
use Rattle.fare_component.specs.declared.table.candidates.Candidates.{Candidates}
use Rattle.fare_component.specs.Candidates.{first_of, lesser}

-- the lesser of two numbers is one of them
lesser_is : (a b : Option ℕ) (number : ℕ) → lesser a b ≡ Some number → (a ≡ Some number) ⊎ (b ≡ Some number)
lesser_is None b number e = inr e
lesser_is (Some a) None number e = inl e
lesser_is (Some a) (Some b) number e =
    let s = same_Some (min a b) number e in
    elim (cases_lt a b) [
      | inl less ↦ inl (ap Some (omega arith))
      | inr not_less ↦ inr (ap Some (omega arith))
    ]

-- one of the cursors shows the first candidate
pub is_shown : (candidates : Candidates) (number : ℕ) → first_of candidates ≡ Some number
    → (candidates.out.next ≡ Some number) ⊎ (candidates.back.next ≡ Some number)
is_shown candidates number e = lesser_is candidates.out.next candidates.back.next number e
