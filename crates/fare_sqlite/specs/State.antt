-- What is known of the keepers over a table.
use Rattle.std.specs.Prelude.{ℕ, List, Option}
use Rattle.std.specs.Coded.{Coded, code_by, coded×, coded_ℕ, coded_list, coded_option}
use Rattle.std.specs.Prelude.{refl}
use Rattle.sqlite.specs.Held.{Held, held_code}

-- of a keeper over a store: its connection, the name by which it was opened first, if it was, and how many of its calls
-- have failed
pub record KeeperState (S : Type 0) : Type 0 where
  pub conn : Held S
  pub name : Option (List ℕ)
  pub faults : ℕ

abbrev pub keeper_code : {S : Type 0} → Coded S → Coded (KeeperState S)
keeper_code {S} store =
    code_by (Held S × (Option (List ℕ) × ℕ))
    (coded× (held_code store) (coded× (coded_option (coded_list coded_ℕ)) coded_ℕ))
    (λ k. (k.conn, (k.name, k.faults)))
    (λ p. record { conn = p.0; name = p.1.0; faults = p.1.1 })
    (λ _. refl)
