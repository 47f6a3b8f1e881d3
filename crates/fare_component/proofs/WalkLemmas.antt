-- A walk over the candidates of a span: what it has kept is what is to be kept of all numbers that it has come past.
use Rattle.std.proofs.Common.{◌≡◌, refl, ℕ, ◌+◌, ◌-◌, ◌<◌, ◌≤◌, Bool, true, false, cond, List, [], ◌∷◌, ◌++◌, length, ap, sym, subst, ◌∙◌, arith, inl, inr}
use Rattle.std.specs.Prelude.{Option, Some, None, IfSome, unwrap_or, filter_map}
use Rattle.std.proofs.lemmas.List.{length-append}
use Rattle.fare_codes.specs.declared.city.City.{City}
use Rattle.fare_codes.specs.declared.indicator.Indicator.{Indicator}
use Rattle.fare_trip.specs.Itinerary.{Itinerary, count, point}
use Rattle.fare_tariff.specs.Tariff.{Tariff}
use Rattle.fare_tariff.specs.Lookup.{is_fare_between, number_at}
use Rattle.fare_rules.specs.Numbers.{numbers}
use Rattle.fare_rules.specs.Indicator.{indicator}
use Rattle.fare_component.specs.declared.table.entry.Entry.{Entry}
use Rattle.fare_component.specs.declared.table.cursor.Cursor.{Cursor}
use Rattle.fare_component.specs.declared.table.candidates.Candidates.{Candidates}
use Rattle.fare_component.specs.Candidates.{StandsAt, StandAt, first_of, lesser, passed, reached}
use Rattle.fare_component.specs.Table.{entry_at, entry_of, entries_of, has_amount}
use Rattle.fare_component.proofs.CandidateLemmas.{is_shown}
use Rattle.fare_component.proofs.CursorLemmas.{of_value, number_high}
use Rattle.fare_component.proofs.EntryLemmas.{no_entry_between, entries_of_span, kept_push, kept_to, kept_entry}

-- the lesser of two numbers is above what both are not below
least_low : (a b : Option ℕ) (low past : ℕ) → IfSome a (λ shown. low ≤ shown) → IfSome b (λ shown. low ≤ shown)
    → low ≤ past → low ≤ unwrap_or (lesser a b) past
least_low None None low past ha hb h = h
least_low None (Some b) low past ha hb h = hb
least_low (Some a) None low past ha hb h = ha
least_low (Some a) (Some b) low past ha hb h = omega arith

least_high : (a b : Option ℕ) (past : ℕ) → IfSome a (λ shown. shown ≤ past) → IfSome b (λ shown. shown ≤ past)
    → unwrap_or (lesser a b) past ≤ past
least_high None None past ha hb = omega arith
least_high None (Some b) past ha hb = hb
least_high (Some a) None past ha hb = ha
least_high (Some a) (Some b) past ha hb = omega arith

-- what is below it is below both
below_first : (a b : Option ℕ) (past k : ℕ) → k < unwrap_or (lesser a b) past → IfSome a (λ shown. k < shown)
below_first None b past k h = tt
below_first (Some a) None past k h = h
below_first (Some a) (Some b) past k h = omega arith

below_second : (a b : Option ℕ) (past k : ℕ) → k < unwrap_or (lesser a b) past → IfSome b (λ shown. k < shown)
below_second a None past k h = tt
below_second None (Some b) past k h = h
below_second (Some a) (Some b) past k h = omega arith

-- and it is above neither
first_above : (a b : Option ℕ) (past : ℕ) → IfSome a (λ shown. unwrap_or (lesser a b) past ≤ shown)
first_above None b past = tt
first_above (Some a) None past = omega arith
first_above (Some a) (Some b) past = omega arith

second_above : (a b : Option ℕ) (past : ℕ) → IfSome b (λ shown. unwrap_or (lesser a b) past ≤ shown)
second_above a None past = tt
second_above None (Some b) past = omega arith
second_above (Some a) (Some b) past = omega arith

-- a cursor that stands at a number stands at each later one that its next fare isn't behind
stands_later : (tariff : Tariff) (from to : City) (ind : Indicator) (number later : ℕ) (cursor : Cursor)
    → StandsAt tariff from to ind number cursor → number ≤ later → IfSome cursor.next (λ shown. later ≤ shown)
    → StandsAt tariff from to ind later cursor
stands_later tariff from to ind number later cursor s h ahead = record {
  next = s.next;
  few = s.few;
  more = s.more;
  ahead = ahead;
  none_between = λ place low before. s.none_between place (omega arith) before;
}

-- the fares that a cursor shows have the numbers of records
shown_high : (tariff : Tariff) (from to : City) (ind : Indicator) (number : ℕ) (cursor : Cursor)
    → StandsAt tariff from to ind number cursor
    → IfSome cursor.next (λ shown. shown < number_at (length tariff.records))
shown_high tariff from to ind number cursor s =
    of_value cursor.next (λ shown. shown < number_at (length tariff.records)) (λ shown e.
    omega (arith, number_high (is_fare_between from to ind) 2 tariff.records cursor.place shown (sym s.next ∙ e)))

at_most : (o : Option ℕ) (past : ℕ) → IfSome o (λ shown. shown < past) → IfSome o (λ shown. shown ≤ past)
at_most None past h = tt
at_most (Some shown) past h = omega arith

at_value : (o : Option ℕ) (past number : ℕ) → o ≡ Some number → IfSome o (λ shown. shown < past) → number < past
at_value o past number e h = subst (λ x. IfSome x (λ shown. shown < past)) e h

-- a walk over the candidates of a span has come to those that are still to come: it has kept the entries of all numbers
-- before, of which there are no more than fares were passed
pub record IsWalked (tariff : Tariff) (trip : Itinerary) (a b : ℕ) (candidates : Candidates) (entries : List Entry) :
    Type 0 where
  pub stand : StandAt tariff (point trip a) (point trip b) (indicator tariff trip a b) (reached tariff candidates) candidates
  pub low : 2 ≤ reached tariff candidates
  pub high : reached tariff candidates ≤ number_at (length tariff.records)
  pub few : length entries ≤ passed candidates
  pub whole : entries ≡ filter_map (entry_at tariff trip a b) (numbers 2 (reached tariff candidates))

-- no number between one at which both cursors stand and the first candidate is an entry
none_reached : (tariff : Tariff) (trip : Itinerary) (a b number : ℕ) (candidates : Candidates)
    → StandAt tariff (point trip a) (point trip b) (indicator tariff trip a b) number candidates → 2 ≤ number
    → (k : ℕ) → number ≤ k → k < reached tariff candidates → entry_at tariff trip a b k ≡ None
none_reached tariff trip a b number candidates s low k h before =
    let past = number_at (length tariff.records) in
    let e : number_at (k - 2) ≡ k = omega arith in
    let here : number ≤ number_at (k - 2) = omega arith in
    let there : number_at (k - 2) < reached tariff candidates = omega arith in
    subst (λ n. entry_at tariff trip a b n ≡ None) e (no_entry_between tariff trip a b (k - 2)
    (s.out.none_between (k - 2) here (below_first candidates.out.next candidates.back.next past (number_at (k - 2)) there))
    (s.back.none_between (k - 2) here (below_second candidates.out.next candidates.back.next past (number_at (k - 2)) there)))

-- where the entries of all numbers before one are kept, and both cursors stand there, they are walked
walked_from : (tariff : Tariff) (trip : Itinerary) (a b number : ℕ) (candidates : Candidates) (entries : List Entry)
    → StandAt tariff (point trip a) (point trip b) (indicator tariff trip a b) number candidates → 2 ≤ number
    → number ≤ number_at (length tariff.records) → length entries ≤ passed candidates
    → entries ≡ filter_map (entry_at tariff trip a b) (numbers 2 number)
    → IsWalked tariff trip a b candidates entries
walked_from tariff trip a b number candidates entries s low high few whole =
    let past = number_at (length tariff.records) in
    let out = candidates.out.next in
    let back = candidates.back.next in
    let further : number ≤ reached tariff candidates = least_low out back number past s.out.ahead s.back.ahead high in
    record {
      stand = record {
        out = stands_later tariff (point trip a) (point trip b) (indicator tariff trip a b) number (reached tariff candidates) candidates.out s.out further (first_above out back past);
        back = stands_later tariff (point trip b) (point trip a) (indicator tariff trip a b) number (reached tariff candidates) candidates.back s.back further (second_above out back past);
      };
      low = omega arith;
      high = least_high out back past
          (at_most out past (shown_high tariff (point trip a) (point trip b) (indicator tariff trip a b) number candidates.out s.out))
          (at_most back past (shown_high tariff (point trip b) (point trip a) (indicator tariff trip a b) number candidates.back s.back));
      few = few;
      whole = whole ∙ sym (kept_to (entry_at tariff trip a b) 2 number (reached tariff candidates) low further (none_reached tariff trip a b number candidates s low));
    }

-- at first nothing is kept
pub walked_first : (tariff : Tariff) (trip : Itinerary) (a b : ℕ) (candidates : Candidates)
    → StandAt tariff (point trip a) (point trip b) (indicator tariff trip a b) 2 candidates
    → IsWalked tariff trip a b candidates []
walked_first tariff trip a b candidates s =
    walked_from tariff trip a b 2 candidates [] s (omega arith) (omega arith) (omega arith) refl

-- both cursors stand at the first candidate
pub stand_first : (tariff : Tariff) (trip : Itinerary) (a b number : ℕ) (candidates : Candidates) (entries : List Entry)
    → IsWalked tariff trip a b candidates entries → first_of candidates ≡ Some number
    → StandAt tariff (point trip a) (point trip b) (indicator tariff trip a b) number candidates
stand_first tariff trip a b number candidates entries w e =
    subst (λ o. StandAt tariff (point trip a) (point trip b) (indicator tariff trip a b) (unwrap_or o (number_at (length tariff.records))) candidates) e w.stand

first_high : (tariff : Tariff) (from to : City) (ind : Indicator) (number first : ℕ) (candidates : Candidates)
    → StandAt tariff from to ind number candidates → first_of candidates ≡ Some first
    → first < number_at (length tariff.records)
first_high tariff from to ind number first candidates s e =
    let past = number_at (length tariff.records) in
    elim (is_shown candidates first e) [
      | inl out ↦ at_value candidates.out.next past first out (shown_high tariff from to ind number candidates.out s.out)
      | inr back ↦ at_value candidates.back.next past first back (shown_high tariff to from ind number candidates.back s.back)
    ]

one_at_most : (test : Bool) (entry : Entry) → length (cond test (entry ∷ []) []) ≤ 1
one_at_most true entry = omega arith
one_at_most false entry = omega arith

-- the first candidate is kept where it has an amount
pub walked_on : (tariff : Tariff) (trip : Itinerary) (a b number : ℕ) (candidates next : Candidates)
    (entries : List Entry) → IsWalked tariff trip a b candidates entries → first_of candidates ≡ Some number
    → StandAt tariff (point trip a) (point trip b) (indicator tariff trip a b) (number + 1) next
    → passed candidates < passed next
    → IsWalked tariff trip a b next (entries ++ cond (has_amount (entry_of tariff trip a b number)) (entry_of tariff trip a b number ∷ []) [])
walked_on tariff trip a b number candidates next entries w e s more =
    let f = entry_at tariff trip a b in
    let past = number_at (length tariff.records) in
    let kept = cond (has_amount (entry_of tariff trip a b number)) (entry_of tariff trip a b number ∷ []) [] in
    let here : reached tariff candidates ≡ number = ap (λ o. unwrap_or o past) e in
    let low : 2 ≤ number = subst (λ n. 2 ≤ n) here w.low in
    let before : entries ≡ filter_map f (numbers 2 number) = subst (λ n. entries ≡ filter_map f (numbers 2 n)) here w.whole in
    let high = first_high tariff (point trip a) (point trip b) (indicator tariff trip a b) (reached tariff candidates) number candidates w.stand e in
    walked_from tariff trip a b (number + 1) next (entries ++ kept) s (omega arith) (omega arith)
    (omega (arith, length-append entries kept, one_at_most (has_amount (entry_of tariff trip a b number)) (entry_of tariff trip a b number), w.few))
    (ap (λ front. front ++ kept) before
    ∙ ap (λ rest. filter_map f (numbers 2 number) ++ rest) (sym (kept_entry tariff trip a b number))
    ∙ sym (kept_push f 2 number low))

-- where no candidate is to come, all is kept
pub walked_all : (tariff : Tariff) (trip : Itinerary) (a b : ℕ) (candidates : Candidates) (entries : List Entry)
    → IsWalked tariff trip a b candidates entries → first_of candidates ≡ None → a < b → b ≤ count trip
    → entries ≡ entries_of tariff trip a b
walked_all tariff trip a b candidates entries w e rises within =
    let here : reached tariff candidates ≡ number_at (length tariff.records) = ap (λ o. unwrap_or o (number_at (length tariff.records))) e in
    w.whole ∙ ap (λ n. filter_map (entry_at tariff trip a b) (numbers 2 n)) here ∙ sym (entries_of_span tariff trip a b rises within)

-- there is room for one more entry
pub walked_room : (tariff : Tariff) (trip : Itinerary) (a b number : ℕ) (candidates next : Candidates)
    (entries : List Entry) → IsWalked tariff trip a b candidates entries
    → StandAt tariff (point trip a) (point trip b) (indicator tariff trip a b) number next
    → passed candidates < passed next → length entries < 128
walked_room tariff trip a b number candidates next entries w s more = omega (arith, w.few, s.out.few, s.back.few)

-- the ends of a span and its indicator under other names
pub stand_between : (tariff : Tariff) (trip : Itinerary) (a b number : ℕ) (from to : City) (ind : Indicator)
    (candidates : Candidates) → from ≡ point trip a → to ≡ point trip b → ind ≡ indicator tariff trip a b
    → StandAt tariff from to ind number candidates
    → StandAt tariff (point trip a) (point trip b) (indicator tariff trip a b) number candidates
stand_between tariff trip a b number from to ind candidates f t i s =
    subst (λ (x : Indicator). StandAt tariff (point trip a) (point trip b) x number candidates) i
    (subst (λ (x : City). StandAt tariff (point trip a) x ind number candidates) t
    (subst (λ (x : City). StandAt tariff x to ind number candidates) f s))

pub none_first : (o : Option ℕ) → ((number : ℕ) → o ≡ Some number → ⊥) → o ≡ None
none_first None h = refl
none_first (Some number) h = absurd (h number refl)
