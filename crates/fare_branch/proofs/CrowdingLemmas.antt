-- First parts behind which more rules must be taken than they leave have no completion.
use Rattle.std.proofs.Common.{◌≡◌, ℕ, zero, suc, ◌+◌, ◌-◌, ◌<◌, ◌≤◌, Bool, true, false, not, List, [], ◌∷◌, ◌++◌, length, refl, ap, sym, subst, ◌∙◌, ◌&&◌, inl, inr, arith}
use Rattle.std.specs.Prelude.{Option, Some, None, Contains, IfSome, filter, is_none, is_some, option_and_then, slice_index}
use Rattle.std.specs.List.{list_any}
use Rattle.std.proofs.Math.ListN.{length-append}
use Rattle.std.proofs.lemmas.Bool.{and_parts, cases_Bool, ne_eqb, or_cases, or_left, or_right}
use Rattle.std.proofs.lemmas.List.Elements.{All-contains}
use Rattle.std.proofs.lemmas.Option.{same_Some}
use Rattle.std.proofs.lemmas.Slice.Eq.{bytes_eq-Decides}
use Rattle.fare_codes.specs.declared.rule_id.RuleId.{RuleId}
use Rattle.fare_trip.specs.Itinerary.{Itinerary, count}
use Rattle.fare_tariff.specs.Record.{FareRecord}
use Rattle.fare_tariff.specs.Tariff.{Tariff}
use Rattle.fare_tariff.specs.Lookup.{ends_ok}
use Rattle.fare_rules.specs.declared.part.Part.{Part}
use Rattle.fare_rules.specs.Best.{IsLawful}
use Rattle.fare_rules.specs.Construction.{end_of, fare_of, part_at, places, unit_of}
use Rattle.fare_rules.specs.Numbers.{numbers}
use Rattle.fare_rules.specs.Shape.{is_ow, is_same_unit}
use Rattle.fare_rules.specs.UnitRules.{are_end_mates, clashed, clashes, is_clash, rules_pass}
use Rattle.fare_rules.proofs.AmountLemmas.{fare_is_filed}
use Rattle.fare_rules.proofs.LawfulLemmas.{IsKept, kept}
use Rattle.fare_rules.proofs.MemberLemmas.{Member, contains, member_filter, member_numbers}
use Rattle.fare_rules.proofs.NumberLemmas.{find_none}
use Rattle.fare_units.proofs.AloneLemmas.{alone_in_unit}
use Rattle.fare_component.specs.declared.table.entry.Entry.{Entry}
use Rattle.fare_component.specs.Table.{entries_of}
use Rattle.fare_legs.specs.Lonely.{AreLonely, has_rule, is_rule, is_rule_of, rule_at, suits_itself}
use Rattle.fare_branch.specs.Crowding.{AreNeeds, bars_rule, combines_with, leaves_fare, leaves_rule, left_count, may_come, taken, takes_rule}
use Rattle.fare_floors.specs.Floors.{HasNoCompletion}
use Rattle.fare_floors.proofs.CostLemmas.{unit_from_one}
use Rattle.fare_floors.proofs.GoesOnLemmas.{not_so}
use Rattle.fare_floors.proofs.OverLemmas.{behind_next, behind_all, behind_front, begins_next, part_rises}
use Rattle.fare_floors.proofs.StandLemmas.{point_behind}
use Rattle.fare_floors.proofs.SameLemmas.{fare_same}
use Rattle.fare_floors.proofs.ShutLemmas.{any_at, both_true}
use Rattle.fare_floors.proofs.SumLemmas.{range_member}
use Rattle.fare_floors.proofs.TrueCostLemmas.{entry, entry_there, no_single}
use Rattle.fare_floors.proofs.UnitLemmas.{all}

true_false : true ≡ false → ⊥
true_false e = cc

-- what a test keeps of a list is no longer than the list, and shorter where a member fails it
kept_few : (p : ℕ → Bool) (xs : List ℕ) → length (filter p xs) ≤ length xs
kept_few p [] = omega arith
kept_few p (x ∷ xs) =
    let few : length (filter p xs) ≤ length xs = kept_few p xs in
    elim (cases_Bool (p x)) [ inl t ↦ rw t (omega arith) | inr f ↦ rw f (omega arith) ]

kept_fewer : (p : ℕ → Bool) (n : ℕ) (xs : List ℕ) → Member n xs → p n ≡ false → length (filter p xs) + 1 ≤ length xs
kept_fewer p n [] m fails = absurd m
kept_fewer p n (x ∷ xs) (inl e) fails =
    let few : length (filter p xs) ≤ length xs = kept_few p xs in
    let P : ℕ → Type 0 = λ k. p k ≡ false in
    let here : p x ≡ false = subst P e fails in
    rw here (omega arith)
kept_fewer p n (x ∷ xs) (inr m) fails =
    let fewer : length (filter p xs) + 1 ≤ length xs = kept_fewer p n xs m fails in
    elim (cases_Bool (p x)) [ inl t ↦ rw t (omega arith) | inr f ↦ rw f (omega arith) ]

-- a member that a test finds
any_has : (p : ℕ → Bool) (xs : List ℕ) → list_any p xs ≡ true → (k : ℕ) × Member k xs × (p k ≡ true)
any_has p [] h = absurd (true_false (sym h))
any_has p (x ∷ xs) h =
    elim (or_cases (p x) (list_any p xs) h) [
      | inl here ↦ (x, inl refl, here)
      | inr more ↦ let found = any_has p xs more in (found.0, inr found.1, found.2)
    ]

-- the test of a rule finds this rule alone
is_rule_true : (id : RuleId) (rule : Option RuleId) → is_rule id rule ≡ true → rule ≡ Some id
is_rule_true id None h = absurd (true_false (sym h))
is_rule_true id (Some other) h = ap Some ((bytes_eq-Decides other id).0 h)

is_rule_self : (id : RuleId) (rule : Option RuleId) → rule ≡ Some id → is_rule id rule ≡ true
is_rule_self id rule e = let P : Option RuleId → Type 0 = λ r. is_rule id r ≡ true in subst P (sym e) ((bytes_eq-Decides id id).1 refl)

-- a rule of some fares is there
rule_named : (tariff : Tariff) (fares : List ℕ) (rule : Option RuleId) → is_rule_of tariff fares rule ≡ true → (id : RuleId) × (rule ≡ Some id) × (list_any (has_rule tariff id) fares ≡ true)
rule_named tariff fares None h = absurd (true_false (sym h))
rule_named tariff fares (Some id) h = (id, refl, h)

-- a fare that passes with another combines with the rule of that
combines : (tariff : Tariff) (found : Option FareRecord) (fare : FareRecord) → rules_pass (ends_ok tariff) found (Some fare) ≡ true → combines_with tariff fare.rule found ≡ true
combines tariff None fare h = absurd (true_false (sym h))
combines tariff (Some one) fare h = h

-- one of some fares has a rule
abbrev HasFareOf : Tariff → RuleId → List ℕ → Type 0
HasFareOf tariff id fares = (number : ℕ) × Member number fares × (rule_at tariff number ≡ Some id)

-- the part at a place takes the rule of one of some fares
record IsTaker (tariff : Tariff) (parts : List Part) (fares : List ℕ) (k : ℕ) : Type 0 where
  fare : FareRecord
  filed : fare_of tariff parts k ≡ Some fare
  rule : RuleId
  has : fare.rule ≡ Some rule
  listed : HasFareOf tariff rule fares
  way : is_ow tariff parts k ≡ true

module _ (tariff : Tariff) (trip : Itinerary) (parts : List Part) (price : ℕ) (lawful : IsLawful tariff trip parts price) where
  holds : IsKept tariff trip parts
  holds = kept tariff trip parts price lawful

  -- a one way fare combines end on end with each part before it
  mates : (j k : ℕ) → 1 ≤ j → j < k → k ≤ length parts → is_ow tariff parts k ≡ true → are_end_mates tariff parts j k ≡ true
  unfolding clashed
  mates j k low less high way =
      let unit : 1 ≤ unit_of parts k = unit_from_one tariff trip parts price lawful k (omega arith) high in
      let apart : is_same_unit parts k j ≡ false =
      ne_eqb (unit_of parts k) (unit_of parts j) (λ same. true_false (sym way ∙ (alone_in_unit tariff parts holds.alone j k low less high unit same).1)) in
      let fails : clashes tariff parts k ≡ false = find_none (clashes tariff parts) 1 (length parts + 1) holds.ends k (omega arith) (omega arith) in
      let none : is_clash tariff parts k j ≡ false = not_so (is_clash tariff parts k j) (λ t. true_false (sym (any_at (is_clash tariff parts k) j (numbers 1 k) (member_numbers 1 k j low less) t) ∙ fails)) in
      elim (cases_Bool (are_end_mates tariff parts j k)) [
        | inl t ↦ t
        | inr f ↦
            let bars : not (are_end_mates tariff parts j k) ≡ true = ap not f in
            let other : not (is_same_unit parts k j) ≡ true = ap not apart in
            absurd (true_false (sym (both_true (not (is_same_unit parts k j)) (not (are_end_mates tariff parts j k)) other bars) ∙ none))
      ]

  -- so its rule combines with the fare of each
  combines_behind : (j k : ℕ) → 1 ≤ j → j < k → k ≤ length parts → is_ow tariff parts k ≡ true → (fare : FareRecord) → fare_of tariff parts k ≡ Some fare → combines_with tariff fare.rule (fare_of tariff parts j) ≡ true
  combines_behind j k low less high way fare filed =
      let P : Option FareRecord → Type 0 = λ found. rules_pass (ends_ok tariff) (fare_of tariff parts j) found ≡ true in
      combines tariff (fare_of tariff parts j) fare (subst P filed (mates j k low less high way))

  combines_taker : (fares : List ℕ) (j k : ℕ) → 1 ≤ j → j < k → k ≤ length parts → (taker : IsTaker tariff parts fares k) → combines_with tariff (Some taker.rule) (fare_of tariff parts j) ≡ true
  combines_taker fares j k low less high taker =
      let P : Option RuleId → Type 0 = λ rule. combines_with tariff rule (fare_of tariff parts j) ≡ true in
      subst P taker.has (combines_behind j k low less high taker.way taker.fare taker.filed)

  module _ (fares : List ℕ) (lonely : AreLonely tariff fares) where
    abbrev Taker : ℕ → Type 0
    Taker k = IsTaker tariff parts fares k

    abbrev here : ℕ → Entry
    here k = entry tariff trip parts price lawful k

    one_way : (k : ℕ) → 1 ≤ k → k ≤ length parts → is_some (here k).single ≡ true → is_ow tariff parts k ≡ true
    one_way k low high t =
        elim (cases_Bool (is_ow tariff parts k)) [
          | inl way ↦ way
          | inr half ↦ absurd (true_false (sym t ∙ ap is_some (no_single tariff trip parts price lawful k low high half)))
        ]

    taker : (k : ℕ) → 1 ≤ k → k ≤ length parts → takes_rule tariff fares (here k) ≡ true → Taker k
    taker k low high t =
        let both = and_parts (is_some (here k).single) (is_rule_of tariff fares (rule_at tariff (here k).fare)) t in
        let filed = fare_is_filed tariff trip parts holds k low high in
        let rule : rule_at tariff (here k).fare ≡ filed.0.rule = ap (option_and_then (λ (fare : FareRecord). fare.rule)) filed.1 in
        let P : Option RuleId → Type 0 = λ found. is_rule_of tariff fares found ≡ true in
        let named = rule_named tariff fares filed.0.rule (subst P rule both.1) in
        let found = any_has (has_rule tariff named.0) fares named.2 in
        record {
          fare = filed.0;
          filed = filed.1;
          rule = named.0;
          has = named.1;
          listed = (found.0, found.1, is_rule_true named.0 (rule_at tariff found.0) found.2);
          way = one_way k low high both.0;
        }

    -- two takers have two rules
    differ : (j k : ℕ) → 1 ≤ j → j < k → k ≤ length parts → (one : Taker j) → (other : Taker k) → one.rule ≡ other.rule → ⊥
    differ j k low less high one other same =
        let P : Option FareRecord → Type 0 = λ found. combines_with tariff (Some other.rule) found ≡ true in
        let Q : Option RuleId → Type 0 = λ rule. ends_ok tariff rule (Some other.rule) ≡ true in
        let R : RuleId → Type 0 = λ id. ends_ok tariff (Some one.rule) (Some id) ≡ true in
        let S : Option RuleId → Type 0 = λ rule. IfSome rule (λ id. suits_itself tariff id ≡ false) in
        let T : ℕ → Type 0 = λ number. IfSome (rule_at tariff number) (λ id. suits_itself tariff id ≡ false) in
        let suits : suits_itself tariff one.rule ≡ true = subst R (sym same) (subst Q one.has (subst P one.filed (combines_taker fares j k low less high other))) in
        let not_so : suits_itself tariff one.rule ≡ false = subst S one.listed.2 (All-contains T fares one.listed.0 lonely (contains one.listed.0 fares one.listed.1)) in
        true_false (sym suits ∙ not_so)

    -- the fare of a record number has another rule
    abbrev is_other : RuleId → ℕ → Bool
    is_other id number = not (has_rule tariff id number)

    -- the rule of each taker behind a place is one of some fares
    abbrev AreLeft : ℕ → List ℕ → Type 0
    AreLeft k left = (j : ℕ) → k < j → j ≤ length parts → (one : Taker j) → HasFareOf tariff one.rule left

    -- the rules of the takers behind a taker are those of the fares without its rule
    others_left : (k : ℕ) (left : List ℕ) → 1 ≤ k → (one : Taker k) → AreLeft k left → AreLeft k (filter (is_other one.rule) left)
    others_left k left low one are_left j later high other =
        let found = are_left j later high other in
        let passes : is_other one.rule found.0 ≡ true =
        elim (cases_Bool (has_rule tariff one.rule found.0)) [
          | inl t ↦ absurd (differ k j low later high one other (same_Some one.rule other.rule (sym (is_rule_true one.rule (rule_at tariff found.0) t) ∙ found.2)))
          | inr f ↦ ap not f
        ] in
        (found.0, member_filter (is_other one.rule) found.0 left passes found.1, found.2)

    module _ (front : List Part) (from : ℕ) (needs : List ℕ) (are : AreNeeds tariff trip fares front from needs) (may : (k : ℕ) → length front < k → k ≤ length parts → may_come tariff front (here k) ≡ true) where
      -- what a part takes with what is behind its end is no less than the number of the point behind which it begins
      step : (k : ℕ) → length front ≤ k → from ≤ point_behind parts k → k + 1 ≤ length parts → slice_index needs (point_behind parts k) ≤ taken tariff fares (here (k + 1)) + slice_index needs (point_behind parts (k + 1))
      step k behind low high =
          let rises : point_behind parts k < end_of parts (k + 1) = part_rises tariff trip parts price lawful k high in
          let within : end_of parts (k + 1) ≤ count trip = (all tariff trip parts price lawful).within (k + 1) (omega arith) high in
          let P : ℕ → Type 0 = λ a. Contains (entries_of tariff trip a (end_of parts (k + 1))) (here (k + 1)) in
          let there = subst P (sym (begins_next tariff trip parts price lawful k high)) (entry_there tariff trip parts price lawful (k + 1) (omega arith) high) in
          let up : slice_index needs (point_behind parts k) ≤ taken tariff fares (here (k + 1)) + slice_index needs (end_of parts (k + 1)) = are.steps (point_behind parts k) low (omega arith) (end_of parts (k + 1)) (here (k + 1)) there (may (k + 1) (omega arith) high) in
          let Q : ℕ → Type 0 = λ i. slice_index needs (point_behind parts k) ≤ taken tariff fares (here (k + 1)) + slice_index needs i in
          subst Q (sym (behind_next parts k)) up

      -- so there are as many fares as must be taken
      needs_up : (m k : ℕ) → k + m ≡ length parts → length front ≤ k → from ≤ point_behind parts k → (left : List ℕ) → AreLeft k left → slice_index needs (point_behind parts k) ≤ length left
      needs_up zero k e past low left are_left =
          let P : ℕ → Type 0 = λ n. point_behind parts n ≡ count trip in
          let whole : length parts ≡ k = omega arith in
          let last : point_behind parts k ≡ count trip = subst P whole (behind_all parts ∙ (all tariff trip parts price lawful).last) in
          let none : slice_index needs (point_behind parts k) ≡ 0 = ap (slice_index needs) last ∙ are.at_end in
          omega arith
      needs_up (suc m) k e past low left are_left =
          let high : k + 1 ≤ length parts = omega arith in
          let up = step k past low high in
          let rises : point_behind parts k < end_of parts (k + 1) = part_rises tariff trip parts price lawful k high in
          let next : point_behind parts (k + 1) ≡ end_of parts (k + 1) = behind_next parts k in
          elim (cases_Bool (takes_rule tariff fares (here (k + 1)))) [
            | inl t ↦
                let one = taker (k + 1) (omega arith) high t in
                let found = are_left (k + 1) (omega arith) high one in
                let behind : AreLeft (k + 1) left = λ j later most other. are_left j (omega arith) most other in
                let fails : is_other one.rule found.0 ≡ false = ap not (is_rule_self one.rule (rule_at tariff found.0) found.2) in
                let fewer : length (filter (is_other one.rule) left) + 1 ≤ length left = kept_fewer (is_other one.rule) found.0 left found.1 fails in
                let rest : slice_index needs (point_behind parts (k + 1)) ≤ length (filter (is_other one.rule) left) = needs_up m (k + 1) (omega arith) (omega arith) (omega arith) (filter (is_other one.rule) left) (others_left (k + 1) left (omega arith) one behind) in
                let takes : taken tariff fares (here (k + 1)) ≡ 1 = rw t refl in
                omega arith
            | inr f ↦
                let rest : slice_index needs (point_behind parts (k + 1)) ≤ length left = needs_up m (k + 1) (omega arith) (omega arith) (omega arith) left (λ j later most other. are_left j (omega arith) most other) in
                let takes : taken tariff fares (here (k + 1)) ≡ 0 = rw f refl in
                omega arith
          ]

module _ (tariff : Tariff) (trip : Itinerary) (fares : List ℕ) (lonely : AreLonely tariff fares) (front rest : List Part) (price : ℕ) (lawful : IsLawful tariff trip (front ++ rest) price) where
  -- the first parts leave the rule of a one way fare behind them
  left_by : (j : ℕ) → length front < j → j ≤ length (front ++ rest) → is_ow tariff (front ++ rest) j ≡ true → (fare : FareRecord) → fare_of tariff (front ++ rest) j ≡ Some fare → leaves_rule tariff front fare.rule ≡ true
  left_by j later high way fare filed =
      elim (cases_Bool (list_any (bars_rule tariff front fare.rule) (places front))) [
        | inl t ↦
            let found = any_has (bars_rule tariff front fare.rule) (places front) t in
            let place = range_member 1 (length front + 1 - 1) found.0 found.1 in
            let low : 1 ≤ found.0 = place.0 in
            let most : found.0 < 1 + (length front + 1 - 1) = place.1 in
            let P : Option FareRecord → Type 0 = λ one. combines_with tariff fare.rule one ≡ true in
            let suits : combines_with tariff fare.rule (fare_of tariff front found.0) ≡ true =
            subst P (fare_same tariff trip front rest found.0 low (omega arith)) (combines_behind tariff trip (front ++ rest) price lawful found.0 j low (omega arith) high way fare filed) in
            absurd (true_false (sym found.2 ∙ ap not suits))
        | inr f ↦ ap not f
      ]

  -- so each part behind them may come
  may_come_behind : (j : ℕ) → length front < j → j ≤ length (front ++ rest) → may_come tariff front (entry tariff trip (front ++ rest) price lawful j) ≡ true
  may_come_behind j later high =
      elim (cases_Bool (is_ow tariff (front ++ rest) j)) [
        | inl way ↦
            let filed = fare_is_filed tariff trip (front ++ rest) (holds tariff trip (front ++ rest) price lawful) j (omega arith) high in
            let rule : rule_at tariff (part_at (front ++ rest) j).fare ≡ filed.0.rule = ap (option_and_then (λ (fare : FareRecord). fare.rule)) filed.1 in
            let P : Option RuleId → Type 0 = λ found. leaves_rule tariff front found ≡ true in
            or_right (is_none (entry tariff trip (front ++ rest) price lawful j).single) (leaves_rule tariff front (rule_at tariff (part_at (front ++ rest) j).fare)) (subst P (sym rule) (left_by j later high way filed.0 filed.1))
        | inr half ↦
            or_left (is_none (entry tariff trip (front ++ rest) price lawful j).single) (leaves_rule tariff front (rule_at tariff (part_at (front ++ rest) j).fare)) (ap is_none (no_single tariff trip (front ++ rest) price lawful j (omega arith) high half))
      ]

  -- and the fare of its rule is among those that are left
  taker_left : (j : ℕ) → length front < j → j ≤ length (front ++ rest) → (one : IsTaker tariff (front ++ rest) fares j) → HasFareOf tariff one.rule (filter (leaves_fare tariff front) fares)
  taker_left j later high one =
      let P : Option RuleId → Type 0 = λ rule. leaves_rule tariff front rule ≡ true in
      let Q : Option RuleId → Type 0 = λ rule. (is_some rule && leaves_rule tariff front rule) ≡ true in
      let left : leaves_rule tariff front (Some one.rule) ≡ true = subst P one.has (left_by j later high one.way one.fare one.filed) in
      (one.listed.0, member_filter (leaves_fare tariff front) one.listed.0 fares (subst Q (sym one.listed.2) left) one.listed.1, one.listed.2)

  enough : (needs : List ℕ) → AreNeeds tariff trip fares front (end_of front (length front)) needs → slice_index needs (end_of front (length front)) ≤ left_count tariff front fares
  enough needs are =
      let P : ℕ → Type 0 = λ i. slice_index needs i ≤ left_count tariff front fares in
      let end : point_behind (front ++ rest) (length front) ≡ end_of front (length front) = behind_front front rest in
      subst P end
      (needs_up tariff trip (front ++ rest) price lawful fares lonely front (end_of front (length front)) needs are may_come_behind (length rest) (length front) (sym (length-append front rest)) (omega arith) (omega arith)
      (filter (leaves_fare tariff front) fares) taker_left)

-- where first parts leave fewer rules than must be taken behind them they have no completion
pub crowded_is_none : (tariff : Tariff) (trip : Itinerary) (fares : List ℕ) → AreLonely tariff fares → (front : List Part) (needs : List ℕ) → AreNeeds tariff trip fares front (end_of front (length front)) needs
    → left_count tariff front fares < slice_index needs (end_of front (length front)) → HasNoCompletion tariff trip front
crowded_is_none tariff trip fares lonely front needs are less parts price c =
    let P : List Part → Type 0 = λ xs. IsLawful tariff trip xs price in
    let up : slice_index needs (end_of front (length front)) ≤ left_count tariff front fares = enough tariff trip fares lonely front c.begins.0 price (subst P c.begins.1 c.lawful) needs are in
    omega arith
