-- What is behind each point where no unit is open, by what is barred.
use Rattle.std.proofs.Common.{◌≡◌, ℕ, zero, suc, ◌<◌, Bool, true, false, not, ◌&&◌, List, [], replicate, refl, sym, subst, ◌∙◌, inl, inr, arith}
use Rattle.std.specs.Prelude.{Option, Some, None, position, slice_index_or}
use Rattle.std.proofs.lemmas.Bool.{and_parts, cases_Bool}
use Rattle.std.proofs.lemmas.Option.{none-some}
use Rattle.fare_codes.specs.declared.rule_id.RuleId.{RuleId}
use Rattle.fare_trip.specs.Itinerary.{Itinerary}
use Rattle.fare_tariff.specs.Tariff.{Tariff}
use Rattle.fare_rules.specs.Construction.{begin_after}
use Rattle.fare_component.specs.declared.table.entry.Entry.{Entry}
use Rattle.fare_bounds.specs.Covers.{rest_at}
use Rattle.fare_homing.specs.declared.onward.Onward.{Onward}
use Rattle.fare_homing.specs.declared.onward.Onwards.{Onwards}
use Rattle.fare_legs.specs.Barred.{is_among, is_barred, is_of_rule, unless_barred}
use Rattle.fare_legs.specs.Costs.{first_cost, single_cost}
use Rattle.fare_homing.specs.HomingRows.{AreRests}
use Rattle.fare_homing.specs.Onward.{AreOnwards, HasRests, next_by, no_onward, onward_at}
use Rattle.fare_legs.specs.Pairs.{HasPair, are_mates, days_between}

true_false : true ≡ false → ⊥
true_false e = cc

-- what costs something is not barred, and costs that where nothing is
freed : (tariff : Tariff) (barred : List ℕ) (cost_of : Entry → Option ℕ) (entry : Entry) (cost : ℕ) → unless_barred tariff barred cost_of entry ≡ Some cost → cost_of entry ≡ Some cost
freed tariff barred cost_of entry cost e = elim (cases_Bool (is_barred tariff barred entry.fare)) [
  | inl t ↦ let never : None ≡ Some cost = rw t at e in absurd (none-some cost never)
  | inr f ↦ rw f at e
]

-- where nothing is barred all that is known holds by any that are
pub weaker : (tariff : Tariff) (trip : Itinerary) (barred : List ℕ) (begun jaw : ℕ → ℕ → ℕ → Option ℕ) (whole : ℕ → ℕ → Option ℕ) (left : ℕ → Option ℕ) → AreRests tariff trip [] begun jaw whole left → AreRests tariff trip barred begun jaw whole left
weaker tariff trip barred begun jaw whole left are = record {
  wholes = λ i high. record {
    alone = λ j cost part. (are.wholes i high).alone j cost (record { entry = part.entry; there = part.there; costs = freed tariff barred single_cost part.entry cost part.costs });
    first = λ b j x y cost may part less up sum pair. (are.wholes i high).first b j x y cost may (record { entry = part.entry; there = part.there; costs = freed tariff barred first_cost part.entry x part.costs }) less up sum (any_pair i j cost pair);
  };
  onward = are.onward;
  nothing = are.nothing;
}
  where
    and_all : (mates : Bool) → mates ≡ true → (mates && true) ≡ true
    and_all mates e = rw e refl

    any_pair : (i j cost : ℕ) → HasPair tariff trip barred (begin_after trip i) j cost → HasPair tariff trip [] (begin_after trip i) j cost
    any_pair i j cost pair = record {
      end = pair.end;
      first = pair.first;
      first_there = pair.first_there;
      first_amount = pair.first_amount;
      first_costs = pair.first_costs;
      begin = pair.begin;
      later = pair.later;
      last = pair.last;
      last_there = pair.last_there;
      last_amount = pair.last_amount;
      last_costs = pair.last_costs;
      may = and_all (are_mates tariff (days_between trip (begin_after trip i) pair.begin) pair.first.fare pair.last.fare) (and_parts (are_mates tariff (days_between trip (begin_after trip i) pair.begin) pair.first.fare pair.last.fare) (not (is_barred tariff barred pair.first.fare) && not (is_barred tariff barred pair.last.fare)) pair.may).0;
      sum = pair.sum;
    }

-- numbers where nothing is barred alone lead nowhere else
module _ (tariff : Tariff) (trip : Itinerary) (begun jaw : ℕ → ℕ → ℕ → Option ℕ) (whole : ℕ → ℕ → Option ℕ) (rest : List (Option ℕ)) (are : AreRests tariff trip [] begun jaw whole (rest_at rest)) where
  abbrev all : Onward
  all = record { barred = replicate 16 0; rest = rest; next = replicate 16 0 }

  abbrev Only : Onwards
  Only = record { rules = replicate 16 0; sets = replicate 64 all }

  is_all : (n set : ℕ) → set < n → slice_index_or (replicate n all) set no_onward ≡ all
  is_all zero set less = absurd (omega arith)
  is_all (suc n) zero less = refl
  is_all (suc n) (suc set) less = is_all n set (omega arith)

  at_all : (set : ℕ) → set < 64 → onward_at Only set ≡ all
  at_all set less = is_all 64 set less

  -- no rule is that of no fare
  none_has : (rule : Option RuleId) → position (is_of_rule tariff rule) (replicate 16 0) ≡ None
  none_has rule = refl

  none_barred : (rule : Option RuleId) → is_among tariff (replicate 16 0) rule ≡ false
  none_barred rule = refl

  stays : (set : ℕ) (rule : Option RuleId) → next_by tariff Only set rule ≡ set
  stays set rule = refl

  pub no_onwards : AreOnwards tariff trip begun jaw Only
  no_onwards = record {
    rests = λ set less.
        let P : Onward → Type 0 = λ o. HasRests tariff trip begun jaw o in
        subst P (sym (at_all set less)) (whole, weaker tariff trip (replicate 16 0) begun jaw whole (rest_at rest) are);
    first = λ rule h. true_false (sym h ∙ none_barred rule);
    within = λ set rule less. less;
    steps = λ set rule less other h. inl h;
  }
