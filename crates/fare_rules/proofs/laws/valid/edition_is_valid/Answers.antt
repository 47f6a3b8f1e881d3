-- each fare is filed, and so in form and between two cities
use Rattle.std.proofs.Common.{◌≡◌, ◌≢◌, ℕ, List, Bool, true, false, refl}
use Rattle.std.specs.Str.{bytes_eq}
use Rattle.std.proofs.lemmas.Slice.Eq.{bytes_eq-Decides}
use Rattle.fare_rules.proofs.laws.valid.edition_is_valid.Goals as goal

pub returns-clause-in_form : goal.returns-clause-in_form
returns-clause-in_form c = λ number fare h. (c.fares_are_filed.ensures number fare h).in_form

-- a test that is true only where something that doesn't hold does is false
fails : (test : Bool) {P : Type 0} → (test ≡ true → P) → (P → ⊥) → test ≡ false
fails true tells h = absurd (h (tells refl))
fails false tells h = refl

differ : (a b : List ℕ) → a ≢ b → bytes_eq a b ≡ false
differ a b h = fails (bytes_eq a b) (bytes_eq-Decides a b).0 h

pub returns-clause-two_cities : goal.returns-clause-two_cities
returns-clause-two_cities c = λ number fare h. differ fare.from fare.to (c.fares_are_filed.ensures number fare h).points_differ
