-- From what is known of what is found to what is known of an answer.
use Rattle.std.proofs.Common.{◌≡◌, Option, Some, None, IfSome, OnSome, refl, rules, Bor}
use Rattle.std.specs.Option.{option_copied}

-- a fact of the value that an option holds
pub of_value : {A : Type 0} (result : Option A) (P : A → Type 0) → ((v : A) → result ≡ Some v → P v) → IfSome result P
of_value None P h = search rules
of_value (Some v) P h = h v refl

-- a fact that holds where an option holds a value
pub of_some : {A : Type 0} (result : Option A) (P : Type 0) → ((v : A) → result ≡ Some v → P) → OnSome result P
of_some None P h = search rules
of_some (Some v) P h = h v refl

-- a fact of what the reference that an option holds points to
pub of_copied : {A : Type 0} (result : Option (Bor A)) (P : A → Type 0) → ((v : A) → option_copied result ≡ Some v → P v) → IfSome result (λ r. P r.now)
of_copied None P h = search rules
of_copied (Some r) P h = h r.now refl

-- a fact that holds where an option holds a reference
pub of_reference : {A : Type 0} (result : Option (Bor A)) (P : Type 0) → ((v : A) → option_copied result ≡ Some v → P) → OnSome result P
of_reference None P h = search rules
of_reference (Some r) P h = h r.now refl
