-- The test of two outcomes says whether they are equal.
use Rattle.std.proofs.Common.{◌≡◌, ◌↔◌, Bool, IsTrue, refl}
use Rattle.std.specs.Bool.{Decides}
use Rattle.std.proofs.lemmas.Bool.Decides.{same_from_decides}
use Rattle.fare_changes.specs.declared.outcome.Outcome.{Outcome}
use Rattle.fare_changes.specs.declared.outcome.Outcome.TheVariants.{Same, Dearer, Cheaper, Opened, Closed, Neither, Fault}
use Rattle.fare_changes.specs.CompareText.{same_outcome}

outcomes : (a b : Outcome) → Decides (same_outcome a b) (a ≡ b)
outcomes Same Same = (λ h. refl, λ e. refl)
outcomes Dearer Dearer = (λ h. refl, λ e. refl)
outcomes Cheaper Cheaper = (λ h. refl, λ e. refl)
outcomes Opened Opened = (λ h. refl, λ e. refl)
outcomes Closed Closed = (λ h. refl, λ e. refl)
outcomes Neither Neither = (λ h. refl, λ e. refl)
outcomes Fault Fault = (λ h. refl, λ e. refl)
outcomes _ _ = (λ h. cc, λ e. cc)

-- what is true exactly where two outcomes are equal is their test
pub outcome_test : (r : Bool) (a b : Outcome) → (IsTrue r ↔ (a ≡ b)) → r ≡ same_outcome a b
outcome_test r a b h = same_from_decides r (same_outcome a b) h (outcomes a b)
