-- Walks over constructions: how they are put together, whatever they look for.
use Rattle.std.proofs.Common.{◌≡◌, ℕ, ◌⊎◌, List, Ok, Err, sym, subst, ◌∙◌, inl, inr}
use Rattle.fare_trip.specs.Itinerary.{Itinerary}
use Rattle.fare_tariff.specs.Tariff.{Tariff}
use Rattle.fare_rules.specs.declared.part.Part.{Part}
use Rattle.fare_rules.specs.declared.broken.Broken.{Broken}
use Rattle.fare_rules.specs.Best.{IsLawful}
use Rattle.fare_rules.specs.Lawful.{lawful_price}
use Rattle.fare_units.specs.Walk.{IsList}
use Rattle.fare_branch.specs.Sought.{IsStill, IsWalk}

-- what is passed, and what is held
abbrev pub Passed : Type 1
Passed = List Part → ℕ → Type 0

abbrev pub Held : Type 1
Held = List Part → Type 0

-- nothing changed twice
pub still_then : (a b c : Passed) (x y z : Held) → IsStill a x b y → IsStill b y c z → IsStill a x c z
still_then a b c x y z first second = record {
  kept = λ parts price p. second.kept parts price (first.kept parts price p);
  from = λ parts h. first.from parts (second.from parts h);
}

err_ok : (x : Broken) (y : ℕ) → Err x ≡ Ok y → ⊥
err_ok x y e = cc

module _ (tariff : Tariff) (trip : Itinerary) where
  -- lists that are left out, since each lawful one is passed
  pub walk_left_out : (D : List Part → Type 0) (a b : Passed) (x y : Held) → IsStill a x b y → ((parts : List Part) (price : ℕ) → IsLawful tariff trip parts price → D parts → b parts price) → IsWalk tariff trip D a x b y
  walk_left_out D a b x y still passed = record { kept = still.kept; walked = passed; from = λ parts h. inl (still.from parts h) }

  -- a walk over lists of which none is lawful
  pub walk_nothing : (D : List Part → Type 0) (a : Passed) (x : Held) → ((parts : List Part) (price : ℕ) → IsLawful tariff trip parts price → D parts → ⊥) → IsWalk tariff trip D a x a x
  walk_nothing D a x none = record {
    kept = λ parts price p. p;
    walked = λ parts price l d. absurd (none parts price l d);
    from = λ parts h. inl h;
  }

  -- or over a list that is not
  pub walk_unlawful : (parts : List Part) (broken : Broken) (a : Passed) (x : Held) → lawful_price tariff trip parts ≡ Err broken → IsWalk tariff trip (IsList parts) a x a x
  walk_unlawful parts broken a x e =
      walk_nothing (IsList parts) a x
      (λ others price l d.
      let P : List Part → Type 0 = λ xs. IsLawful tariff trip xs price in
      err_ok broken price (sym e ∙ subst P d l))

  -- a walk after nothing changed
  pub walk_after : (D : List Part → Type 0) (a b c : Passed) (x y z : Held) → IsStill a x b y → IsWalk tariff trip D b y c z → IsWalk tariff trip D a x c z
  walk_after D a b c x y z still walk = record {
    kept = λ parts price p. walk.kept parts price (still.kept parts price p);
    walked = walk.walked;
    from = λ parts h. elim (walk.from parts h) [ inl was ↦ inl (still.from parts was) | inr d ↦ inr d ];
  }

  -- one walk after another
  pub walk_then : (D E F : List Part → Type 0) (a b c : Passed) (x y z : Held) → IsWalk tariff trip D a x b y → IsWalk tariff trip E b y c z → ((parts : List Part) → F parts → D parts ⊎ E parts) → ((parts : List Part) → D parts → F parts) → ((parts : List Part) → E parts → F parts) → IsWalk tariff trip F a x c z
  walk_then D E F a b c x y z first second each d e = record {
    kept = λ parts price p. second.kept parts price (first.kept parts price p);
    walked = λ parts price l f. elim (each parts f) [ inl h ↦ second.kept parts price (first.walked parts price l h) | inr h ↦ second.walked parts price l h ];
    from = λ parts h. elim (second.from parts h) [
      | inl was ↦ elim (first.from parts was) [ inl before ↦ inl before | inr one ↦ inr (d parts one) ]
      | inr two ↦ inr (e parts two)
    ];
  }

  -- a walk over lists among which are all lawful ones of those asked for
  pub walk_within : (D E : List Part → Type 0) (a b : Passed) (x y : Held) → IsWalk tariff trip E a x b y → ((parts : List Part) (price : ℕ) → IsLawful tariff trip parts price → D parts → E parts) → ((parts : List Part) → E parts → D parts) → IsWalk tariff trip D a x b y
  walk_within D E a b x y walk each back = record {
    kept = walk.kept;
    walked = λ parts price l d. walk.walked parts price l (each parts price l d);
    from = λ parts h. elim (walk.from parts h) [ inl was ↦ inl was | inr e ↦ inr (back parts e) ];
  }
