-- What is true exactly where two codes are equal is the test that compares them.
use Rattle.std.proofs.Common.{◌≡◌, ℕ, Bool, List, IsTrue, ◌↔◌, bytes_eq, refl}
use Rattle.std.specs.Bool.{Decides}
use Rattle.std.proofs.lemmas.Slice.Eq.{bytes_eq-Decides}
use Rattle.std.proofs.lemmas.Bool.Decides.{same_from_decides}
use Rattle.fare_codes.specs.declared.indicator.Indicator.{Indicator}
use Rattle.fare_codes.specs.declared.indicator.Indicator.TheVariants.{WH, EH, AT, PA, AP}
use Rattle.fare_codes.specs.declared.cabin.Cabin.{Cabin}
use Rattle.fare_codes.specs.declared.cabin.Cabin.TheVariants.{F, C, Y}
use Rattle.fare_codes.specs.declared.kind.Kind.{Kind}
use Rattle.fare_codes.specs.declared.kind.Kind.TheVariants.{OW, HR}
use Rattle.fare_codes.specs.Same.{same_indicator, same_cabin, same_kind}

-- of two texts
pub same_text : (r : Bool) (a b : List ℕ) → (IsTrue r ↔ (a ≡ b)) → r ≡ bytes_eq a b
same_text r a b h = same_from_decides r (bytes_eq a b) h (bytes_eq-Decides a b)

-- the test of two indicators says whether they are equal
indicators : (a b : Indicator) → Decides (same_indicator a b) (a ≡ b)
indicators WH WH = (λ h. refl, λ e. refl)
indicators EH EH = (λ h. refl, λ e. refl)
indicators AT AT = (λ h. refl, λ e. refl)
indicators PA PA = (λ h. refl, λ e. refl)
indicators AP AP = (λ h. refl, λ e. refl)
indicators _ _ = (λ h. cc, λ e. cc)

-- the test of two cabins says whether they are equal
cabins : (a b : Cabin) → Decides (same_cabin a b) (a ≡ b)
cabins F F = (λ h. refl, λ e. refl)
cabins C C = (λ h. refl, λ e. refl)
cabins Y Y = (λ h. refl, λ e. refl)
cabins _ _ = (λ h. cc, λ e. cc)

-- the test of two kinds of fare says whether they are equal
kinds : (a b : Kind) → Decides (same_kind a b) (a ≡ b)
kinds OW OW = (λ h. refl, λ e. refl)
kinds HR HR = (λ h. refl, λ e. refl)
kinds _ _ = (λ h. cc, λ e. cc)

-- of two indicators
pub indicator_test : (r : Bool) (a b : Indicator) → (IsTrue r ↔ (a ≡ b)) → r ≡ same_indicator a b
indicator_test r a b h = same_from_decides r (same_indicator a b) h (indicators a b)

-- of two cabins
pub cabin_test : (r : Bool) (a b : Cabin) → (IsTrue r ↔ (a ≡ b)) → r ≡ same_cabin a b
cabin_test r a b h = same_from_decides r (same_cabin a b) h (cabins a b)

-- of two kinds of fare
pub kind_test : (r : Bool) (a b : Kind) → (IsTrue r ↔ (a ≡ b)) → r ≡ same_kind a b
kind_test r a b h = same_from_decides r (same_kind a b) h (kinds a b)
