-- What is no more than what each of some entries costs, by one entry more.
use Rattle.std.proofs.Common.{◌≡◌, ℕ, ◌≤◌, List, [], ◌∷◌, ◌++◌, ◌∙◌, ap, sym, inl, inr, arith}
use Rattle.std.specs.Prelude.{Option, None, option_map}
use Rattle.std.proofs.lemmas.Option.{none-some}
use Rattle.std.proofs.lemmas.List.Elements.{Contains-push_cases}
use Rattle.fare_component.specs.declared.table.entry.Entry.{Entry}
use Rattle.fare_bounds.specs.Covers.{lesser}
use Rattle.fare_legs.specs.Floor.{capped}
use Rattle.fare_legs.specs.Costs.{IsUpTo}
use Rattle.fare_legs.specs.Least.{IsUnderEach}
use Rattle.fare_legs.proofs.ReachLemmas.{up_first, up_second}

-- what is kept of an amount is no more than it
pub capped_up : (amount found : Option ℕ) (x : ℕ) → found ≡ option_map capped amount → IsUpTo x amount → IsUpTo x found
capped_up amount found x is up =
    let low : up.0 ≤ x = up.2 in
    (capped up.0, is ∙ ap (option_map capped) up.1, omega arith)

pub cost_none : (cost_of : Entry → Option ℕ) (found : Option ℕ) → IsUnderEach cost_of [] found
cost_none cost_of found cost is = absurd (omega (arith, is.there.1))

pub cost_more : (cost_of : Entry → Option ℕ) (entries : List Entry) (d : Entry) (least number : Option ℕ) → number ≡ option_map capped (cost_of d) → IsUnderEach cost_of entries least
    → IsUnderEach cost_of (entries ++ d ∷ []) (lesser least number)
cost_more cost_of entries d least number is known cost h =
    elim (Contains-push_cases entries d h.entry h.there) [
      | inl before ↦ up_first least number cost (known cost (record { entry = h.entry; there = before; costs = h.costs }))
      | inr here ↦ up_second least number cost (capped_up (cost_of d) number cost is (cost, ap cost_of here ∙ h.costs, omega arith))
    ]

-- an entry that costs nothing that is known changes nothing
pub cost_skip : (cost_of : Entry → Option ℕ) (entries : List Entry) (d : Entry) (least : Option ℕ) → cost_of d ≡ None → IsUnderEach cost_of entries least → IsUnderEach cost_of (entries ++ d ∷ []) least
cost_skip cost_of entries d least none known cost h =
    elim (Contains-push_cases entries d h.entry h.there) [
      | inl before ↦ known cost (record { entry = h.entry; there = before; costs = h.costs })
      | inr here ↦ absurd (none-some cost (sym none ∙ ap cost_of here ∙ h.costs))
    ]
