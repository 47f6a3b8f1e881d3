-- What the rules of a relaxed edition ask: the same as before of every kind but the relaxed one, and no more of that.
use Rattle.std.proofs.Common.{◌≡◌, ℕ, ◌-◌, ◌≤◌, ◌≢◌, Bool, true, false, cond, ◌&&◌, ◌||◌, leb, eqb, List, length, refl, ap, sym, ◌∙◌, arith}
use Rattle.std.specs.Prelude.{Option, Some, None, option_map}
use Rattle.std.proofs.lemmas.Bool.{and_parts, leb-true, le-leb}
use Rattle.fare_codes.specs.declared.rule_id.RuleId.{RuleId}
use Rattle.fare_records.specs.declared.limits.TheConstants.{MOST_DAYS, MOST_STOPS, MOST_TRANSFERS}
use Rattle.fare_records.specs.declared.names.Names.{Names}
use Rattle.fare_records.specs.declared.names.Names.TheVariants.{All}
use Rattle.fare_records.specs.declared.terms.Terms.{Terms}
use Rattle.fare_records.specs.Record.{RuleRecord, FareRecord, IsRule}
use Rattle.fare_tariff.specs.Tariff.{Tariff}
use Rattle.fare_tariff.specs.Lookup.{rule_record, terms, terms_of, lists, lists_in, unit_names, end_names, unit_ok, ends_ok}
use Rattle.fare_rules.specs.Terms.{term_holds, allows_stops, allows_transfers, allows_advance, allows_surcharge, allows_stay}
use Rattle.fare_relaxed.specs.declared.term.Term.{Term}
use Rattle.fare_relaxed.specs.declared.term.Term.TheVariants.{Advance, Stay, Stopovers, Transfers, Surcharge, Units, Ends}
use Rattle.fare_relaxed.specs.Terms.{rule_number}
use Rattle.fare_relaxed.specs.Relax.{relaxed_rule, relax}
use Rattle.fare_relaxed.specs.Ranges.{HasRulesInRange}
use Rattle.fare_relaxed.proofs.LookUps.{rule_record_relaxed}

-- a test on terms tells nothing of a kind of condition
abbrev pub IsApart : Term → (Terms → Bool) → Type 0
IsApart term test = (r : RuleRecord) → test (terms_of (relaxed_rule term r)) ≡ test (terms_of r)

pub apart_stops : (term : Term) (n : ℕ) → rule_number term ≢ 13 → IsApart term (allows_stops n)
apart_stops Stopovers n other r = absurd (other refl)
apart_stops _ n other r = refl

pub apart_transfers : (term : Term) (n : ℕ) → rule_number term ≢ 14 → IsApart term (allows_transfers n)
apart_transfers Transfers n other r = absurd (other refl)
apart_transfers _ n other r = refl

pub apart_advance : (term : Term) (n : ℕ) → rule_number term ≢ 15 → IsApart term (allows_advance n)
apart_advance Advance n other r = absurd (other refl)
apart_advance _ n other r = refl

pub apart_surcharge : (term : Term) (n : ℕ) → rule_number term ≢ 17 → IsApart term (allows_surcharge n)
apart_surcharge Surcharge n other r = absurd (other refl)
apart_surcharge _ n other r = refl

pub apart_stay : (term : Term) (n : ℕ) → rule_number term ≢ 18 → IsApart term (allows_stay n)
apart_stay Stay n other r = absurd (other refl)
apart_stay _ n other r = refl

apart_units : (term : Term) → rule_number term ≢ 19 → (r : RuleRecord) → (relaxed_rule term r).units ≡ r.units
apart_units Units other r = absurd (other refl)
apart_units _ other r = refl

apart_ends : (term : Term) → rule_number term ≢ 20 → (r : RuleRecord) → (relaxed_rule term r).ends ≡ r.ends
apart_ends Ends other r = absurd (other refl)
apart_ends _ other r = refl

-- what a rule in its ranges allows, the relaxed one does
abbrev pub IsKeptBy : Term → (Terms → Bool) → Type 0
IsKeptBy term test =
    (r : RuleRecord) → IsRule r → test (terms_of r) ≡ true → test (terms_of (relaxed_rule term r)) ≡ true

-- a test in order at a greater limit
further : (a b c : ℕ) → leb a b ≡ true → b ≤ c → leb a c ≡ true
further a b c h more = le-leb a c (omega (arith, leb-true a b h))

pub kept_stops : (term : Term) (n : ℕ) → IsKeptBy term (allows_stops n)
kept_stops Stopovers n r range h = further n r.stops MOST_STOPS h range.stops
kept_stops _ n r range h = h

pub kept_transfers : (term : Term) (n : ℕ) → IsKeptBy term (allows_transfers n)
kept_transfers Transfers n r range h = further n r.transfers MOST_TRANSFERS h range.transfers
kept_transfers _ n r range h = h

pub kept_advance : (term : Term) (n : ℕ) → IsKeptBy term (allows_advance n)
kept_advance Advance n r range h = le-leb 0 n (omega arith)
kept_advance _ n r range h = h

or_true : (a : Bool) → (a || true) ≡ true
or_true true = refl
or_true false = refl

pub kept_surcharge : (term : Term) (n : ℕ) → IsKeptBy term (allows_surcharge n)
kept_surcharge Surcharge n r range h = or_true (eqb n 0)
kept_surcharge _ n r range h = h

pub kept_stay : (term : Term) (n : ℕ) → IsKeptBy term (allows_stay n)
kept_stay Stay n r range h =
    let each = and_parts (leb r.min_stay n) (leb n r.max_stay) h in
    rw (le-leb 0 n (omega arith), further n r.max_stay MOST_DAYS each.1 range.max_stay)
kept_stay _ n r range h = h

true_false : false ≡ true → ⊥
true_false e = cc

-- a test on the terms of a rule that was looked for
tested : (test : Terms → Bool) (change : RuleRecord → RuleRecord)
    → ((r : RuleRecord) → test (terms_of (change r)) ≡ test (terms_of r)) → (o : Option RuleRecord)
    → term_holds test (option_map terms_of (option_map change o)) ≡ term_holds test (option_map terms_of o)
tested test change same None = refl
tested test change same (Some r) = same r

kept_tested : (test : Terms → Bool) (change : RuleRecord → RuleRecord) (o : Option RuleRecord)
    → ((r : RuleRecord) → o ≡ Some r → test (terms_of r) ≡ true → test (terms_of (change r)) ≡ true)
    → term_holds test (option_map terms_of o) ≡ true
    → term_holds test (option_map terms_of (option_map change o)) ≡ true
kept_tested test change None keeps h = absurd (true_false h)
kept_tested test change (Some r) keeps h = keeps r refl h

listed : (names : RuleRecord → Names) (change : RuleRecord → RuleRecord)
    → ((r : RuleRecord) → names (change r) ≡ names r) → (o : Option RuleRecord)
    → option_map names (option_map change o) ≡ option_map names o
listed names change same None = refl
listed names change same (Some r) = ap Some (same r)

kept_listed : (names : RuleRecord → Names) (change : RuleRecord → RuleRecord)
    → ((r : RuleRecord) (rule : Option RuleId) → lists (names r) rule ≡ true → lists (names (change r)) rule ≡ true)
    → (o : Option RuleRecord) (rule : Option RuleId) → lists_in (option_map names o) rule ≡ true
    → lists_in (option_map names (option_map change o)) rule ≡ true
kept_listed names change keeps None rule h = h
kept_listed names change keeps (Some r) rule h = keeps r rule h

kept_units : (term : Term) (r : RuleRecord) (rule : Option RuleId) → lists r.units rule ≡ true
    → lists (relaxed_rule term r).units rule ≡ true
kept_units Units r rule h = refl
kept_units _ r rule h = h

kept_ends : (term : Term) (r : RuleRecord) (rule : Option RuleId) → lists r.ends rule ≡ true
    → lists (relaxed_rule term r).ends rule ≡ true
kept_ends Ends r rule h = refl
kept_ends _ r rule h = h

both : (a b : Bool) → a ≡ true → b ≡ true → (a && b) ≡ true
both a b h k = rw (h, k)

module _ (term : Term) (tariff : Tariff) where
  pub terms_apart : (test : Terms → Bool) → IsApart term test → (rule : Option RuleId)
      → term_holds test (terms (relax term tariff) rule) ≡ term_holds test (terms tariff rule)
  terms_apart test same None = refl
  terms_apart test same (Some id) =
      rw (rule_record_relaxed term tariff id) (tested test (relaxed_rule term) same (rule_record tariff id))

  pub terms_kept : (test : Terms → Bool) → IsKeptBy term test → HasRulesInRange tariff → (rule : Option RuleId)
      → term_holds test (terms tariff rule) ≡ true → term_holds test (terms (relax term tariff) rule) ≡ true
  terms_kept test keeps range None h = h
  terms_kept test keeps range (Some id) h =
      rw (rule_record_relaxed term tariff id) (kept_tested test (relaxed_rule term) (rule_record tariff id) (λ r found holds. keeps r (range id r found) holds) h)

  unit_names_apart : rule_number term ≢ 19 → (rule : Option RuleId)
      → unit_names (relax term tariff) rule ≡ unit_names tariff rule
  unit_names_apart other None = refl
  unit_names_apart other (Some id) =
      rw (rule_record_relaxed term tariff id) (listed (λ r. r.units) (relaxed_rule term) (apart_units term other) (rule_record tariff id))

  end_names_apart : rule_number term ≢ 20 → (rule : Option RuleId)
      → end_names (relax term tariff) rule ≡ end_names tariff rule
  end_names_apart other None = refl
  end_names_apart other (Some id) =
      rw (rule_record_relaxed term tariff id) (listed (λ r. r.ends) (relaxed_rule term) (apart_ends term other) (rule_record tariff id))

  unit_names_kept : (rule other : Option RuleId) → lists_in (unit_names tariff rule) other ≡ true
      → lists_in (unit_names (relax term tariff) rule) other ≡ true
  unit_names_kept None other h = h
  unit_names_kept (Some id) other h =
      rw (rule_record_relaxed term tariff id) (kept_listed (λ r. r.units) (relaxed_rule term) (kept_units term) (rule_record tariff id) other h)

  end_names_kept : (rule other : Option RuleId) → lists_in (end_names tariff rule) other ≡ true
      → lists_in (end_names (relax term tariff) rule) other ≡ true
  end_names_kept None other h = h
  end_names_kept (Some id) other h =
      rw (rule_record_relaxed term tariff id) (kept_listed (λ r. r.ends) (relaxed_rule term) (kept_ends term) (rule_record tariff id) other h)

  pub unit_ok_apart : rule_number term ≢ 19 → (a b : Option RuleId)
      → unit_ok (relax term tariff) a b ≡ unit_ok tariff a b
  unit_ok_apart other a b = rw (unit_names_apart other a, unit_names_apart other b)

  pub ends_ok_apart : rule_number term ≢ 20 → (a b : Option RuleId)
      → ends_ok (relax term tariff) a b ≡ ends_ok tariff a b
  ends_ok_apart other a b = rw (end_names_apart other a, end_names_apart other b)

  pub unit_ok_kept : (a b : Option RuleId) → unit_ok tariff a b ≡ true → unit_ok (relax term tariff) a b ≡ true
  unit_ok_kept a b h =
      let each = and_parts (lists_in (unit_names tariff a) b) (lists_in (unit_names tariff b) a) h in
      both (lists_in (unit_names (relax term tariff) a) b) (lists_in (unit_names (relax term tariff) b) a) (unit_names_kept a b each.0) (unit_names_kept b a each.1)

  pub ends_ok_kept : (a b : Option RuleId) → ends_ok tariff a b ≡ true → ends_ok (relax term tariff) a b ≡ true
  ends_ok_kept a b h =
      let each = and_parts (lists_in (end_names tariff a) b) (lists_in (end_names tariff b) a) h in
      both (lists_in (end_names (relax term tariff) a) b) (lists_in (end_names (relax term tariff) b) a) (end_names_kept a b each.0) (end_names_kept b a each.1)
