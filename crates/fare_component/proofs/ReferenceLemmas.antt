-- The references of a form serve each fare of it.
use Rattle.std.proofs.Common.{◌≡◌, refl, ℕ, ◌+◌, ◌-◌, ◌*◌, ◌<◌, ◌≤◌, Bool, false, cond, List, length, set, replicate, get_or, ap, sym, subst, ◌∙◌, arith, inl, inr}
use Rattle.std.specs.Prelude.{Option, Some, None, IfSome, option_and_then, unwrap_or}
use Rattle.std.proofs.lemmas.Bool.{cases_eq, cases_lt, le-ltb}
use Rattle.std.proofs.lemmas.Grind.{get_or-set_at}
use Rattle.std.proofs.lemmas.List.{get_or-replicate, get_or-set_other, get_or_past, length-replicate, length-set}
use Rattle.fare_codes.specs.declared.limits.TheConstants.{MOST_SECTORS}
use Rattle.fare_trip.specs.Itinerary.{Itinerary, count}
use Rattle.fare_records.specs.Record.{FareRecord}
use Rattle.fare_tariff.specs.Lookup.{terms}
use Rattle.fare_tariff.specs.Tariff.{Tariff}
use Rattle.fare_rules.specs.declared.limits.TheConstants.{MOST_POINTS}
use Rattle.fare_rules.specs.Backhaul.{backhaul, greatest_reference, minimum_above}
use Rattle.fare_rules.specs.Base.{base, compared_pairs, greatest_amount}
use Rattle.fare_rules.specs.Numbers.{greatest_of}
use Rattle.fare_rules.specs.Reference.{reference}
use Rattle.fare_rules.specs.Span.{first_day, stopovers}
use Rattle.fare_rules.specs.Terms.{terms_of_fare}
use Rattle.fare_component.specs.declared.table.known.Known.{Known}
use Rattle.fare_component.specs.declared.table.references.Column.{Column}
use Rattle.fare_component.specs.declared.table.references.Form.{Form}
use Rattle.fare_component.specs.declared.table.references.References.{References}
use Rattle.fare_component.specs.References.{AreReferences, IsColumn, IsOfForm, IsReach, IsReference, found_of, greatest_from, kept_at, nothing, reference_of}

-- at each place of a list of one value stands that value, and behind it too where that is what stands behind
pub same_at : {A : Type 0} (x : A) (n place : ℕ) → get_or (replicate n x) place x ≡ x
same_at x n place =
    elim (cases_lt place n) [
      | inl within ↦ get_or-replicate n place x x within
      | inr past ↦ get_or_past (replicate n x) place x (omega (arith, length-replicate n x, past))
    ]

-- what is known at a place once one is written
at_put : (slots : List Known) (place at : ℕ) (one : Known) (P : Option ℕ → Type 0)
    → (at ≡ place → IfSome (found_of one) P) → IfSome (found_of (get_or slots at nothing)) P
    → IfSome (found_of (get_or (set slots place one) at nothing)) P
at_put slots place at one P here there =
    elim (cases_eq at place) [
      | inr other ↦ subst (λ (k : Known). IfSome (found_of k) P) (sym (get_or-set_other slots place at one nothing other)) there
      | inl same ↦
          elim (cases_lt place (length slots)) [
            | inl within ↦ subst (λ (k : Known). IfSome (found_of k) P) (sym (get_or-set_at slots place at one nothing same within)) (here same)
            | inr past ↦
                subst (λ (k : Known). IfSome (found_of k) P)
                (sym (get_or_past (set slots place one) at nothing (omega (arith, length-set slots place one, past, same)))) tt
          ]
    ]

-- what is known is right once one more reference is
pub references_put : (tariff : Tariff) (trip : Itinerary) (known : References) (i j : ℕ) (found : Option ℕ) (one : Known)
    → count trip ≤ MOST_SECTORS → i < j → j ≤ count trip → AreReferences tariff trip known
    → IsReference tariff trip known.form i j found → found_of one ≡ Some found
    → AreReferences tariff trip (record known { found = set known.found (i * MOST_POINTS + j) one })
references_put tariff trip known i j found one short rises within right reference stands =
    record {
      found = λ p q up last. at_put known.found (i * MOST_POINTS + j) (p * MOST_POINTS + q) one (IsReference tariff trip known.form p q)
          (λ same.
          let first : i ≡ p = omega arith in
          let second : j ≡ q = omega arith in
          subst (λ (o : Option (Option ℕ)). IfSome o (IsReference tariff trip known.form p q)) (sym stands)
          (subst (λ (n : ℕ). IsReference tariff trip known.form n q found) first
          (subst (λ (n : ℕ). IsReference tariff trip known.form i n found) second reference)))
          (right.found p q up last);
      columns = right.columns;
      reach = right.reach;
      asked = right.asked;
    }

-- where nothing is known, what is known is right
pub nothing_known : (tariff : Tariff) (trip : Itinerary) (known : References)
    → ((place : ℕ) → found_of (get_or known.found place nothing) ≡ None) → ((j : ℕ) → kept_at known j ≡ None)
    → IsReach tariff trip known.form known.reach → known.asked ≡ terms_of_fare tariff known.form.fare
    → AreReferences tariff trip known
nothing_known tariff trip known none columns reach asked =
    record {
      found = λ i j up last. subst (λ (o : Option (Option ℕ)). IfSome o (IsReference tariff trip known.form i j)) (sym (none (i * MOST_POINTS + j))) tt;
      columns = λ j within. subst (λ (o : Option Column). IfSome o (IsColumn tariff trip known.form j)) (sym (columns j)) tt;
      reach = reach;
      asked = asked;
    }

-- the fare of a form with what tells its references apart taken from a fare
abbrev pub moulded : FareRecord → FareRecord → FareRecord
moulded fare other =
    record other { carrier = fare.carrier; class = fare.class; kind = fare.kind; rule = fare.rule }

-- that is the fare of the form
pub is_moulded : (fare : FareRecord) (back : Bool) (form : Form) → IsOfForm fare back form
    → form.fare ≡ moulded fare form.fare
is_moulded fare back form of_form =
    λ i. record form.fare { carrier = of_form.carrier i; class = of_form.class i; kind = of_form.kind i; rule = of_form.rule i }

-- and compares with what the fare does
moulded_pairs : (tariff : Tariff) (trip : Itinerary) (a b : ℕ) (fare other : FareRecord) (back : Bool)
    → compared_pairs tariff trip a b (moulded fare other) back ≡ compared_pairs tariff trip a b fare back
unfolding compared_pairs reference
moulded_pairs tariff trip a b fare other back = refl

-- the base of a fare by the references of its form
pub base_of_form : (tariff : Tariff) (trip : Itinerary) (a b : ℕ) (fare : FareRecord) (back : Bool) (form : Form)
    → IsOfForm fare back form
    → greatest_amount fare.amount (compared_pairs tariff trip a b form.fare form.back) ≡ base tariff trip a b fare back
unfolding base
base_of_form tariff trip a b fare back form of_form =
    ap (greatest_amount fare.amount)
    (ap (λ f. compared_pairs tariff trip a b f form.back) (is_moulded fare back form of_form)
    ∙ moulded_pairs tariff trip a b fare form.fare form.back
    ∙ ap (compared_pairs tariff trip a b fare) of_form.direction)

-- the minimum above what there may be, where nothing counts as 0
minimum_of : (low : ℕ) (high : Option ℕ)
    → minimum_above low (unwrap_or high 0) ≡ option_and_then (minimum_above low) high
minimum_of low None = ap (λ t. cond t (Some (0 + (0 - low))) None) (le-ltb low 0 (omega arith))
minimum_of low (Some high) = refl

-- the backhaul minimum of a fare by the references of its form
pub backhaul_of_form : (tariff : Tariff) (trip : Itinerary) (a b : ℕ) (fare : FareRecord) (form : Form)
    → IsOfForm fare false form → form.on ≡ first_day trip a
    → minimum_above fare.amount (greatest_from tariff trip form a b) ≡ backhaul tariff trip a b fare
unfolding greatest_from backhaul greatest_reference reference
backhaul_of_form tariff trip a b fare form of_form day =
    ap (λ (f : Form). minimum_above fare.amount (unwrap_or (greatest_of (reference_of tariff trip f a) (stopovers trip a b)) 0))
    (λ i. record { fare = is_moulded fare false form of_form i; ahead = form.ahead; back = of_form.direction i; on = day i })
    ∙ minimum_of fare.amount (greatest_reference tariff trip a b fare)

-- the terms of a fare are those of its form
pub terms_of_form : (tariff : Tariff) (fare : FareRecord) (back : Bool) (form : Form) → IsOfForm fare back form
    → terms_of_fare tariff form.fare ≡ terms_of_fare tariff fare
terms_of_form tariff fare back form of_form = ap (λ rule. terms tariff rule) of_form.rule
