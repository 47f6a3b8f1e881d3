-- What items cost, in their order.
use Rattle.std.proofs.Common.{◌≡◌, ℕ, zero, suc, ◌+◌, ◌-◌, ◌<◌, ◌≤◌, List, [], ◌∷◌, ◌++◌, Option, Some, None, Result, Ok, Err, OnOk, IfSome, map, length, take, drop, get_or, refl, ap, subst, sym, ◌∙◌, arith, append_assoc, append-nil, zero-add}
use Rattle.std.proofs.Math.Seq.{take-nil}
use Rattle.std.proofs.lemmas.List.{take-append-le, take_all, take_more, map-append}
use Rattle.serde_json.specs.View.{items_view, view}
use Rattle.serde_json.specs.declared.value.Value.{Value}
use Rattle.fare_trip.specs.ItineraryText.{trip_of}
use Rattle.fare_tariff.specs.Tariff.{Tariff}
use Rattle.fare_changes.specs.declared.compared.Compared.{Compared}
use Rattle.fare_changes.specs.Compared.{AreCompared, IsCompared}
use Rattle.fare_changes.specs.SideBySide.{AreAnswered}

-- the items of two lists are compared one list after the other
pub compared_append : (old new : Tariff) (xs ys : List Value) (a b : List Compared)
    → AreCompared old new (items_view xs) a → AreCompared old new (items_view ys) b
    → AreCompared old new (items_view (xs ++ ys)) (a ++ b)
compared_append old new [] ys a b none more =
    let F : List Compared → Type 0 = λ l. AreCompared old new (items_view ys) (l ++ b) in subst F (sym none) more
compared_append old new (x ∷ xs) ys a b (one, rest, first, others, joined) more =
    (one, rest ++ b, first, compared_append old new xs ys rest b others more, ap (λ l. l ++ b) joined)

-- what holds at each place holds of all answers, which were written over as many places
pub answered_all : (old new : Tariff) (values : List Value) (before after : List (Option Compared)) (count : ℕ)
    → length after ≡ count → count ≡ length values
    → ((i : ℕ) (value : Value) (answer : Option Compared) → i < length values →
    IfSome (get_or after i answer) (IsCompared old new (trip_of (view (get_or values i value)))))
    → AreAnswered old new values (take count (after ++ drop (length after) before))
answered_all old new values before after count same as_many each =
    let all : take count (after ++ drop (length after) before) ≡ after =
    take-append-le count after (drop (length after) before) (omega (arith, same)) ∙ take_all count after (omega (arith, same)) in
    let answered : AreAnswered old new values after = record { count = same ∙ as_many; each = each } in
    rw all answered

-- answers that are all there are what the items cost
some_answers : (old new : Tariff) (values : List Value) (part : List Compared)
    → AreAnswered old new values (map Some part) → AreCompared old new (items_view values) part
some_answers old new [] [] answered = refl
some_answers old new [] (one ∷ part) answered = absurd (omega (arith, answered.count))
some_answers old new (value ∷ values) [] answered = absurd (omega (arith, answered.count))
some_answers old new (value ∷ values) (one ∷ part) answered =
    let others : AreAnswered old new values (map Some part) = record {
      count = omega (arith, answered.count);
      each = λ i v r below. answered.each (suc i) v r (omega (arith, below));
    } in
    (one, part, answered.each 0 value None (omega arith), some_answers old new values part others, refl)

-- the same of answers that are seen to be there
pub of_answers : (old new : Tariff) (values : List Value) (answers : List (Option Compared)) (part : List Compared)
    → AreAnswered old new values answers → answers ≡ map Some part → AreCompared old new (items_view values) part
of_answers old new values answers part answered there =
    some_answers old new values part (subst (λ (l : List (Option Compared)). AreAnswered old new values l) there answered)

-- answers gathered so far behind what there was
abbrev pub Gathered : List (Option Compared) → List Compared → List Compared → Type 0
Gathered answers before after = (part : List Compared) × (answers ≡ map Some part) × (after ≡ before ++ part)

-- none was gathered
pub gathered_none : (before : List Compared) → Gathered [] before before
gathered_none before = ([], refl, sym (append-nil before))

-- one answer more was gathered
pub gathered_more : (answers : List (Option Compared)) (place : ℕ) (one : Compared) (before so_far after : List Compared)
    → place < length answers → Some one ≡ get_or answers place (Some one) → after ≡ so_far ++ one ∷ []
    → Gathered (take place answers) before so_far → Gathered (take (place + 1) answers) before after
gathered_more answers place one before so_far after below is pushed (part, there, same) = (
  part ++ one ∷ [],
  take_more answers place (Some one) below ∙ (λ k. there k ++ sym is k ∷ []) ∙ sym (map-append Some part (one ∷ [])),
  pushed ∙ ap (λ l. l ++ one ∷ []) same ∙ append_assoc before part (one ∷ []),
)

-- so many items, and so many behind them
taken : (xs : List Value) (n m : ℕ) → take n xs ++ take m (drop n xs) ≡ take (n + m) xs
taken xs zero m = rw zero-add refl
taken [] (suc n) m = take-nil m ∙ sym (take-nil (suc n + m))
taken (x ∷ xs) (suc n) m =
    let e : suc n + m ≡ suc (n + m) = omega arith in
    rw e (ap (λ l. x ∷ l) (taken xs n m))

-- the items up to a place are compared, and then those up to a later one
pub compared_further : (old new : Tariff) (items : List Value) (from to : ℕ) (before part after : List Compared) → from ≤ to
    → AreCompared old new (items_view (take from items)) before
    → AreCompared old new (items_view (take (to - from) (drop from items))) part
    → after ≡ before ++ part → AreCompared old new (items_view (take to items)) after
compared_further old new items from to before part after h first more same =
    let there : from + (to - from) ≡ to = omega arith in
    let whole : take from items ++ take (to - from) (drop from items) ≡ take to items = taken items from (to - from) ∙ ap (λ n. take n items) there in
    let both = compared_append old new (take from items) (take (to - from) (drop from items)) before part first more in
    let F : List Value → Type 0 = λ l. AreCompared old new (items_view l) after in
    let G : List Compared → Type 0 = λ l. AreCompared old new (items_view (take from items ++ take (to - from) (drop from items))) l in
    subst F whole (subst G (sym same) both)

-- answers that were gathered are what the items cost, unless memory was wanting
pub add_all : {A E : Type 0} (result : Result A E) (old new : Tariff) (values : List Value) (answers seen : List (Option Compared)) (before after : List Compared)
    → AreAnswered old new values answers → seen ≡ answers → OnOk result (Gathered seen before after)
    → OnOk result ((part : List Compared) × AreCompared old new (items_view values) part × (after ≡ before ++ part))
add_all (Ok done) old new values answers seen before after answered same (part, there, joined) =
    (part, of_answers old new values answers part answered (sym same ∙ there), joined)
add_all (Err fault) old new values answers seen before after answered same gathered = tt
