-- Where no rule asks for anything by a kind of condition, relaxing it changes nothing.
use Rattle.std.proofs.Common.{◌≡◌, ℕ, Bool, true, false, not, ◌||◌, List, [], ◌∷◌, map, refl, ap, sym, ◌∙◌, cond}
use Rattle.std.specs.Prelude.{◌==◌}
use Rattle.std.proofs.lemmas.Bool.{eqb-true, not-false}
use Rattle.std.specs.List.{list_any}
use Rattle.fare_records.specs.declared.limits.TheConstants.{MOST_DAYS, MOST_STOPS, MOST_TRANSFERS}
use Rattle.fare_records.specs.declared.names.Names.{Names}
use Rattle.fare_records.specs.declared.names.Names.TheVariants.{All, Of}
use Rattle.fare_records.specs.declared.record.Record.{Record}
use Rattle.fare_records.specs.declared.record.Record.TheVariants as filed
use Rattle.fare_records.specs.Record.{RuleRecord}
use Rattle.fare_tariff.specs.Tariff.{Tariff}
use Rattle.fare_relaxed.specs.declared.term.Term.{Term}
use Rattle.fare_relaxed.specs.declared.term.Term.TheVariants.{Advance, Stay, Stopovers, Transfers, Surcharge, Units, Ends}
use Rattle.fare_relaxed.specs.Relax.{asks, names_ask, record_asks, relax, relaxed_record, relaxed_records, relaxed_rule, rule_asks}

nothing_else : (a b : ℕ) → not (a == b) ≡ false → b ≡ a
nothing_else a b e = sym (eqb-true a b (not-false (a == b) e))

true_false : true ≡ false → ⊥
true_false e = cc

first_false : (a b : Bool) → (a || b) ≡ false → a ≡ false
first_false false b e = refl
first_false true b e = absurd (true_false e)

second_false : (a b : Bool) → (a || b) ≡ false → b ≡ false
second_false false b e = e
second_false true b e = absurd (true_false e)

all_names : (names : Names) → names_ask names ≡ false → All ≡ names
all_names All e = refl
all_names (Of list) e = absurd (true_false e)

rule_same : (term : Term) (r : RuleRecord) → rule_asks term r ≡ false → relaxed_rule term r ≡ r
rule_same Advance r e = ap (λ (n : ℕ). record r { advance = n }) (nothing_else r.advance 0 e)
rule_same Stay r e =
    let least = nothing_else r.min_stay 0 (first_false (not (r.min_stay == 0)) (not (r.max_stay == MOST_DAYS)) e) in
    let greatest = nothing_else r.max_stay MOST_DAYS (second_false (not (r.min_stay == 0)) (not (r.max_stay == MOST_DAYS)) e) in
    ap (λ (n : ℕ). record r { min_stay = n; max_stay = MOST_DAYS }) least
    ∙ ap (λ (n : ℕ). record r { max_stay = n }) greatest
rule_same Stopovers r e = ap (λ (n : ℕ). record r { stops = n }) (nothing_else r.stops MOST_STOPS e)
rule_same Transfers r e = ap (λ (n : ℕ). record r { transfers = n }) (nothing_else r.transfers MOST_TRANSFERS e)
rule_same Surcharge r e = ap (λ (b : Bool). record r { excess = b }) (sym (not-false r.excess e))
rule_same Units r e = ap (λ (names : Names). record r { units = names }) (all_names r.units e)
rule_same Ends r e = ap (λ (names : Names). record r { ends = names }) (all_names r.ends e)

record_same : (term : Term) (one : Record) → record_asks term one ≡ false → relaxed_record term one ≡ one
record_same term (filed.Rule r) e = ap filed.Rule (rule_same term r e)
record_same term (filed.City r) e = refl
record_same term (filed.Cur r) e = refl
record_same term (filed.Fare r) e = refl
record_same term (filed.Mpm r) e = refl
record_same term (filed.Tpm r) e = refl
record_same term (filed.Ema r) e = refl

records_same : (term : Term) (records : List Record) → list_any (record_asks term) records ≡ false
    → relaxed_records term records ≡ records
records_same term [] e = refl
records_same term (one ∷ rest) e =
    ap (λ (first : Record). first ∷ relaxed_records term rest)
    (record_same term one (first_false (record_asks term one) (list_any (record_asks term) rest) e))
    ∙ ap (λ (others : List Record). one ∷ others)
    (records_same term rest (second_false (record_asks term one) (list_any (record_asks term) rest) e))

pub unasked_same : (tariff : Tariff) (term : Term) → asks term tariff ≡ false → relax term tariff ≡ tariff
unfolding relax
unasked_same tariff term e = ap (λ (records : List Record). record tariff { records = records }) (records_same term tariff.records e)
