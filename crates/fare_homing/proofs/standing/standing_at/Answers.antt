use Rattle.std.proofs.Common.{rules, ◌≡◌, ℕ, ◌+◌, ◌-◌, ◌<◌, List, [], refl, sym, subst, ◌∙◌, ap, inl, inr, arith, length, length-set, set}
use Rattle.std.specs.Prelude.{Option, None, slice_index_or}
use Rattle.std.proofs.lemmas.Bool.{cases_eq}
use Rattle.std.proofs.lemmas.List.{get_or-set_same, get_or-set_other}
use Rattle.fare_trip.specs.Itinerary.{count}
use Rattle.fare_bounds.specs.Covers.{rest_at}
use Rattle.fare_homing.specs.HomingRows.{AreBetweens, AreClosings, AreJaws, AreNext, IsLast, IsSecond}
use Rattle.fare_homing.specs.Rows.{cell, closing_from}
use Rattle.fare_legs.specs.Costs.{IsUpTo}
use Rattle.fare_homing.proofs.HomingRowLemmas.{closings_of, closings_same, jaws_same}
use Rattle.fare_homing.proofs.standing.standing_at.Goals as goal

pub loop-i-init : goal.loop-i-init
loop-i-init c =
    let last : c.count-i.result ≡ count c.args.table.now.trip = c.count-i.ensures.value ∙ ap count c.trip-trip.ensures in
    record {
      long_begun = search rules;
      long_closing = search rules;
      long_jaw = search rules;
      begins = λ i low high. absurd (omega arith);
      closes = λ i low high. absurd (omega arith);
      ends = λ i low high. absurd (omega arith);
    }

pub loop-i-preserved : goal.loop-i-preserved
loop-i-preserved c =
    let tariff = c.args.table.now.edition in
    let trip = c.args.table.now.trip in
    let homing = c.args.homing.now in
    let stand = c.args.stand in
    let place = c.loop-i.i - 1 in
    let next : c.loop-i.i ≡ place + 1 = omega arith in
    let begun = c.loop-i.standing.begun in
    let closing = c.loop-i.standing.closing in
    let jaw = c.loop-i.standing.jaw in
    let new_begun = c.lowered_by-begun.result in
    let new = c.lowered_by-closing.result in
    let new_jaw = c.jaws_at-jaw.result in
    let known = c.loop-i.invariant in
    let After : ℕ → ℕ → Option ℕ = λ b. closing_from homing b b in
    let other_row : (rows : List (List (Option ℕ))) (row : List (Option ℕ)) (b j : ℕ) → (b ≡ place → ⊥) → cell (set rows place row) b j ≡ cell rows b j =
    λ rows row b j other. ap (λ (xs : List (Option ℕ)). slice_index_or xs j None) (get_or-set_other rows place b row [] other) in
    let this_row : (rows : List (List (Option ℕ))) (row : List (Option ℕ)) (j : ℕ) → place < length rows → cell (set rows place row) place j ≡ rest_at row j =
    λ rows row j long. ap (λ (xs : List (Option ℕ)). slice_index_or xs j None) (get_or-set_same rows place row [] long) in
    let behind : c.start_at-start.result.behind ≡ place = c.start_at-start.ensures.behind in
    let Rows : (ℕ → ℕ → Type 0) → (ℕ → ℕ → Option ℕ) → ℕ → (ℕ → Option ℕ) → Type 0 = λ worth stays i row. AreClosings tariff trip homing.unit_ceiling worth After (cell homing.whole i) stays stand i row in
    let Second : ℕ → ℕ → Type 0 = λ j x. IsUpTo x (rest_at c.seconds_at-second.result j) in
    let Last : ℕ → ℕ → Type 0 = λ j x. IsUpTo x (rest_at c.lasts_at-last.result j) in
    let second : (j x : ℕ) → IsSecond tariff trip stand place j x → Second j x = λ j x is. c.seconds_at-second.ensures j x (subst (λ i. IsSecond tariff trip stand i j x) (sym behind) is) in
    let last_one : (j x : ℕ) → IsLast tariff trip stand place j x → Last j x = λ j x is. c.lasts_at-last.ensures j x (subst (λ i. IsLast tariff trip stand i j x) (sym behind) is) in
    let last : c.count-i.result ≡ count trip = c.count-i.ensures.value ∙ ap count c.trip-trip.ensures in
    let within : place < count trip = omega arith in
    let Betweens : ℕ → Type 0 = λ i. AreBetweens tariff trip homing.unit_ceiling After i (cell c.args.betweens.now place) in
    let betweens : Betweens c.start_at-start.result.behind = subst Betweens (sym behind) (c.requires.betweens place (omega arith) within) in
    let one : AreNext tariff trip homing.unit_ceiling Second After stand place (rest_at c.next_at-one.result) = subst (λ i. AreNext tariff trip homing.unit_ceiling Second After stand i (rest_at c.next_at-one.result)) behind (c.next_at-one.ensures homing.unit_ceiling After betweens) in
    let more : AreNext tariff trip homing.unit_ceiling Last After stand place (rest_at c.next_at-more.result) = subst (λ i. AreNext tariff trip homing.unit_ceiling Last After stand i (rest_at c.next_at-more.result)) behind (c.next_at-more.ensures homing.unit_ceiling After betweens) in
    let begun_here : Rows (IsSecond tariff trip stand place) (cell begun) place (rest_at new_begun) =
    closings_of tariff trip homing.unit_ceiling Second (IsSecond tariff trip stand place) After (cell homing.whole place) (cell begun) stand place (rest_at c.next_at-one.result) (rest_at new_begun) second one c.lowered_by-begun.ensures.kept c.lowered_by-begun.ensures.under in
    let closing_here : Rows (IsLast tariff trip stand place) (cell closing) place (rest_at new) =
    closings_of tariff trip homing.unit_ceiling Last (IsLast tariff trip stand place) After (cell homing.whole place) (cell closing) stand place (rest_at c.next_at-more.result) (rest_at new) last_one more c.lowered_by-closing.ensures.kept c.lowered_by-closing.ensures.under in
    record {
      long_begun = length-set begun place new_begun ∙ known.long_begun;
      long_closing = length-set closing place new ∙ known.long_closing;
      long_jaw = length-set jaw place new_jaw ∙ known.long_jaw;
      begins = λ i low high. elim (cases_eq i place) [
        | inl same ↦
            let P : ℕ → Type 0 = λ k. Rows (IsSecond tariff trip stand k) (cell (set begun place new_begun)) k (cell (set begun place new_begun) k) in
            subst P (sym same) (closings_same tariff trip homing.unit_ceiling (IsSecond tariff trip stand place) After After (cell homing.whole place) (cell homing.whole place) (cell begun) (cell (set begun place new_begun)) stand place (rest_at new_begun) (cell (set begun place new_begun) place)
            (λ b j past. refl) (λ j. refl) (λ b j past. other_row begun new_begun b j (λ e. omega arith)) (λ j. this_row begun new_begun j (omega (arith, known.long_begun))) begun_here)
        | inr other ↦ closings_same tariff trip homing.unit_ceiling (IsSecond tariff trip stand i) After After (cell homing.whole i) (cell homing.whole i) (cell begun) (cell (set begun place new_begun)) stand i (cell begun i) (cell (set begun place new_begun) i)
            (λ b j past. refl) (λ j. refl) (λ b j past. other_row begun new_begun b j (λ e. omega arith)) (λ j. other_row begun new_begun i j other) (known.begins i (omega arith) high)
      ];
      closes = λ i low high. elim (cases_eq i place) [
        | inl same ↦
            let P : ℕ → Type 0 = λ k. Rows (IsLast tariff trip stand k) (cell (set closing place new)) k (cell (set closing place new) k) in
            subst P (sym same) (closings_same tariff trip homing.unit_ceiling (IsLast tariff trip stand place) After After (cell homing.whole place) (cell homing.whole place) (cell closing) (cell (set closing place new)) stand place (rest_at new) (cell (set closing place new) place)
            (λ b j past. refl) (λ j. refl) (λ b j past. other_row closing new b j (λ e. omega arith)) (λ j. this_row closing new j (omega (arith, known.long_closing))) closing_here)
        | inr other ↦ closings_same tariff trip homing.unit_ceiling (IsLast tariff trip stand i) After After (cell homing.whole i) (cell homing.whole i) (cell closing) (cell (set closing place new)) stand i (cell closing i) (cell (set closing place new) i)
            (λ b j past. refl) (λ j. refl) (λ b j past. other_row closing new b j (λ e. omega arith)) (λ j. other_row closing new i j other) (known.closes i (omega arith) high)
      ];
      ends = λ i low high. elim (cases_eq i place) [
        | inl same ↦
            let P : ℕ → Type 0 = λ k. AreJaws tariff trip (cell homing.whole k) (cell (set jaw place new_jaw)) stand k (cell (set jaw place new_jaw) k) in
            subst P (sym same) (jaws_same tariff trip (cell homing.whole place) (cell homing.whole place) (cell jaw) (cell (set jaw place new_jaw)) stand place (rest_at new_jaw) (cell (set jaw place new_jaw) place)
            (λ j. refl) (λ b j past. other_row jaw new_jaw b j (λ e. omega arith)) (λ j. this_row jaw new_jaw j (omega (arith, known.long_jaw))) c.jaws_at-jaw.ensures)
        | inr other ↦ jaws_same tariff trip (cell homing.whole i) (cell homing.whole i) (cell jaw) (cell (set jaw place new_jaw)) stand i (cell jaw i) (cell (set jaw place new_jaw) i)
            (λ j. refl) (λ b j past. other_row jaw new_jaw b j (λ e. omega arith)) (λ j. other_row jaw new_jaw i j other) (known.ends i (omega arith) high)
      ];
    }

pub returns-clause-begins : goal.returns-clause-begins
returns-clause-begins c i low high = c.loop-i.invariant.begins i (omega arith) high

pub returns-clause-closes : goal.returns-clause-closes
returns-clause-closes c i low high = c.loop-i.invariant.closes i (omega arith) high

pub returns-clause-ends : goal.returns-clause-ends
returns-clause-ends c i low high = c.loop-i.invariant.ends i (omega arith) high
