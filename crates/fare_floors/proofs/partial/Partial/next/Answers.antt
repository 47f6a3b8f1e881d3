use Rattle.std.proofs.Common.{◌≡◌, ◌++◌, ◌∷◌, [], List, ◌||◌, sym, subst, ◌∙◌, true, false, inl, inr}
use Rattle.std.proofs.lemmas.Bool.{or_cases}
use Rattle.fare_trip.specs.Itinerary.{Itinerary}
use Rattle.fare_tariff.specs.Tariff.{Tariff}
use Rattle.fare_rules.specs.declared.part.Part.{Part}
use Rattle.fare_units.specs.Onward.{is_shut_unit, is_stranded}
use Rattle.fare_lawful.specs.Shut.{is_priceless}
use Rattle.fare_units.specs.Walk.{is_fruitless}
use Rattle.fare_floors.specs.Floors.{HasNoCompletion, may_follow}
use Rattle.fare_floors.specs.Refusals.{is_hopeless, is_worthless, is_broken_off}
use Rattle.fare_floors.proofs.FollowLemmas.{none_follows}
use Rattle.fare_floors.proofs.ShutLemmas.{fruitless_is_none, priceless_is_none}
use Rattle.fare_floors.proofs.RefusalLemmas.{shut_is_none, stranded_is_none, worthless_is_none, broken_is_none}
use Rattle.fare_floors.proofs.partial.Partial.next.Goals as goal

hopeless_is_none : (tariff : Tariff) (trip : Itinerary) (front : List Part) (part : Part) → is_hopeless tariff trip (front ++ part ∷ []) part.unit ≡ true → HasNoCompletion tariff trip (front ++ part ∷ [])
hopeless_is_none tariff trip front part none =
    elim (or_cases (is_fruitless tariff (front ++ part ∷ []) || is_priceless tariff trip (front ++ part ∷ []) part.unit || is_stranded tariff trip (front ++ part ∷ []) part.unit || is_worthless tariff trip (front ++ part ∷ []) part.unit) (is_broken_off tariff trip (front ++ part ∷ []) part.unit) none) [
      | inl four ↦ elim (or_cases (is_fruitless tariff (front ++ part ∷ []) || is_priceless tariff trip (front ++ part ∷ []) part.unit || is_stranded tariff trip (front ++ part ∷ []) part.unit) (is_worthless tariff trip (front ++ part ∷ []) part.unit) four) [
        | inl three ↦ elim (or_cases (is_fruitless tariff (front ++ part ∷ []) || is_priceless tariff trip (front ++ part ∷ []) part.unit) (is_stranded tariff trip (front ++ part ∷ []) part.unit) three) [
          | inl two ↦ elim (or_cases (is_fruitless tariff (front ++ part ∷ [])) (is_priceless tariff trip (front ++ part ∷ []) part.unit) two) [
            | inl f ↦ fruitless_is_none tariff trip front part f
            | inr p ↦ priceless_is_none tariff trip front part p
          ]
          | inr s ↦ stranded_is_none tariff trip front part s
        ]
        | inr w ↦ worthless_is_none tariff trip front part w
      ]
      | inr b ↦ broken_is_none tariff trip front part b
    ]

pub returns-then-not-may_follow : goal.returns-then-not-may_follow
returns-then-not-may_follow c =
    let none : may_follow c.args.table.now.trip c.args.self.now c.args.part ≡ false = cc in
    none_follows c.args.table.now.edition c.args.table.now.trip c.args.self.now c.args.part none

pub returns-then-is_shut_unit : goal.returns-then-is_shut_unit
returns-then-is_shut_unit c =
    let shut : is_shut_unit c.args.table.now.edition c.args.table.now.trip c.args.self.now c.args.part.unit ≡ true = cc in
    shut_is_none c.args.table.now.edition c.args.table.now.trip c.args.self.now c.args.part shut

pub returns-then-is_hopeless : goal.returns-then-is_hopeless
returns-then-is_hopeless c =
    let P : List Part → Type 0 = λ xs. is_hopeless c.args.table.now.edition c.args.table.now.trip xs c.args.part.unit ≡ true in
    hopeless_is_none c.args.table.now.edition c.args.table.now.trip c.args.self.now c.args.part (subst P c.longer-longer.ensures.parts (sym c.is_hopeless.ensures ∙ c.if-is_hopeless.true))
