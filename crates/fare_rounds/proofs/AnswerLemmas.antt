-- Answers that are sent one after the other.
use Rattle.std.proofs.Common.{◌≡◌, ℕ, ◌+◌, ◌<◌, ◌≤◌, suc, List, [], ◌∷◌, ◌++◌, length, map, take, drop, get_or, set, add-one, Option, None, Some, refl, sym, ap, ◌∙◌, subst, arith, append_assoc, length-append}
use Rattle.std.specs.Prelude.{option_map}
use Rattle.std.proofs.Math.Seq.{drop-cons}
use Rattle.std.proofs.lemmas.List.{drop-set-lt, length-map, map-append, take_more, take_more_set}
use Rattle.std.proofs.lemmas.List.Elements.{All-append, All-cons, All-nil}
use Rattle.fare_ports.specs.Cause.{Rose}
use Rattle.fare_ports.specs.Door.{TakesHeld, with_more_at}
use Rattle.fare_http.specs.declared.reply.Reply.{Reply}
use Rattle.fare_http.specs.declared.sending.Exchange.{Exchange}
use Rattle.fare_http.specs.declared.sending.Exchange.TheVariants.{Served, Cut}
use Rattle.fare_http.specs.Answers.{answer_bytes}
use Rattle.fare_http.specs.Sending.{sent_more, SentPrefix}
use Rattle.fare_rounds.specs.declared.entry.Entry.{Entry}
use Rattle.fare_rounds.specs.Finishing.{Answered, Answers, InTurn, IsReplied, IsSent, SentAs, failed_writes, sent_each, served_count, cut_count}
use Rattle.fare_rounds.specs.Taking.{RoseBy}
use Rattle.fare_rounds.proofs.GatherLemmas.{rose-both}

-- how far the connections that are held have been answered
pub record Answering (first last : ℕ) (held_before held_now : List ℕ) (before now : Option (List (List ℕ)))
    (replies : List (Option Reply)) (served cut_before cut_now : ℕ) : Type 0 where
  pub places : List ℕ
  pub answered : List Answered
  pub held : held_before ≡ places ++ held_now
  pub each : length places ≡ length answered
  pub replies_are : map (λ answer. answer.reply) answered ≡ replies
  pub answers : Answers places before now first last answered
  pub served_is : served ≡ served_count (map (λ answer. answer.ending) answered)
  pub cut_is : cut_now ≡ cut_before + cut_count (map (λ answer. answer.ending) answered)

served_count-append : (xs ys : List Exchange) → served_count (xs ++ ys) ≡ served_count xs + served_count ys
served_count-append [] ys = omega arith
served_count-append (Served ∷ xs) ys = let rest = served_count-append xs ys in omega (arith, rest)
served_count-append (Cut ∷ xs) ys = served_count-append xs ys

cut_count-append : (xs ys : List Exchange) → cut_count (xs ++ ys) ≡ cut_count xs + cut_count ys
cut_count-append [] ys = omega arith
cut_count-append (Served ∷ xs) ys = cut_count-append xs ys
cut_count-append (Cut ∷ xs) ys = let rest = cut_count-append xs ys in omega (arith, rest)

-- one piece more, at one place more
sent_each-push : (places : List ℕ) (pieces : List (List ℕ)) (place : ℕ) (piece : List ℕ) (lists : List (List ℕ))
    → length places ≡ length pieces
    → sent_each (places ++ place ∷ []) (pieces ++ piece ∷ []) lists
    ≡ with_more_at (Some place) piece (sent_each places pieces lists)
sent_each-push [] [] place piece lists same = refl
sent_each-push [] (other ∷ pieces) place piece lists same = absurd (omega (arith, same))
sent_each-push (other ∷ places) [] place piece lists same = absurd (omega (arith, same))
sent_each-push (p ∷ places) (x ∷ pieces) place piece lists same =
    sent_each-push places pieces place piece (with_more_at (Some p) x lists) (omega (arith, same))

failed_writes-append : (xs ys : List Answered) → failed_writes (xs ++ ys) ≡ failed_writes xs + failed_writes ys
failed_writes-append [] ys = omega arith
failed_writes-append (answer ∷ xs) ys = let rest = failed_writes-append xs ys in omega (arith, rest)

-- what was sent of one answer, and how many of its writes failed
sent-of : (first last : ℕ) (current : Option ℕ) (before now : Option (List (List ℕ))) (answer : List ℕ)
    (ending : Exchange) → first ≤ last → (ending ≡ Served → now ≡ sent_more current before answer)
    → (ending ≡ Cut → SentPrefix current before now answer) → (ending ≡ Cut → Rose first last)
    → (failures : ℕ) × RoseBy failures first last × (sent : List ℕ) × SentAs failures ending answer sent
    × (now ≡ sent_more current before sent)
sent-of first last current before now answer Served grows whole part rose =
    (0, omega (arith, grows), answer, refl, whole refl)
sent-of first last current before now answer Cut grows whole part rose =
    let front = part refl in
    let risen : Rose first last = rose refl in
    (1, omega (arith, risen), take front.0 answer, (omega arith, (front.0, front.1, refl)), front.2)

-- the answer to no connection
pub answering-none : (cuts : ℕ) (held : List ℕ) (sent : Option (List (List ℕ))) (cut : ℕ)
    → Answering cuts cuts held held sent sent [] 0 cut cut
answering-none cuts held sent cut = record {
  places = [];
  answered = [];
  held = refl;
  each = refl;
  replies_are = refl;
  answers = record { each = All-nil IsSent; failed = omega arith; sent = same sent };
  served_is = refl;
  cut_is = omega arith;
}
  where
    same : (lists : Option (List (List ℕ))) → lists ≡ option_map (sent_each [] []) lists
    same None = refl
    same (Some lists) = refl

-- what was sent with one answer more
sent-push : (before between now : Option (List (List ℕ))) (places : List ℕ) (pieces : List (List ℕ)) (place : ℕ)
    (piece : List ℕ) → length places ≡ length pieces
    → between ≡ option_map (sent_each places pieces) before → now ≡ sent_more (Some place) between piece
    → now ≡ option_map (sent_each (places ++ place ∷ []) (pieces ++ piece ∷ [])) before
sent-push None between now places pieces place piece same first second =
    second ∙ ap (λ lists. sent_more (Some place) lists piece) first
sent-push (Some before) between now places pieces place piece same first second =
    second ∙ ap (λ lists. sent_more (Some place) lists piece) first
    ∙ ap Some (sym (sent_each-push places pieces place piece before same))

-- the answer to one connection more
pub answering-next : (first second third : ℕ) (held_before held_now held_next : List ℕ)
    (before between now : Option (List (List ℕ))) (replies : List (Option Reply)) (served cut_before cut_now : ℕ)
    (current : Option ℕ) (reply : Option Reply) (ending : Exchange)
    → second ≤ third
    → Answering first second held_before held_now before between replies served cut_before cut_now
    → TakesHeld held_now held_next current
    → (ending ≡ Served → now ≡ sent_more current between (answer_bytes reply))
    → (ending ≡ Cut → SentPrefix current between now (answer_bytes reply)) → (ending ≡ Cut → Rose second third)
    → Answering first third held_before held_next before now (replies ++ reply ∷ [])
    (served + served_count (ending ∷ [])) cut_before (cut_now + cut_count (ending ∷ []))
answering-next first second third held_before held_now held_next before between now replies served cut_before cut_now
    current reply ending grows done takes whole part rose =
    let place = takes.0 in
    let sent = sent-of second third current between now (answer_bytes reply) ending grows whole part rose in
    let more : now ≡ sent_more (Some place) between sent.2 =
    sent.4 ∙ ap (λ at. sent_more at between sent.2) takes.2 in
    let answer : Answered = record { reply = reply; ending = ending; sent = sent.2; failures = sent.0 } in
    let now-sent : IsSent answer = sent.3 in
    let failed : failed_writes (done.answered ++ answer ∷ []) ≡ failed_writes done.answered + sent.0 =
    omega (arith, failed_writes-append done.answered (answer ∷ [])) in
    let pieces = map (λ (a : Answered). a.sent) done.answered in
    let same : length done.places ≡ length pieces =
    done.each ∙ sym (length-map done.answered (λ (a : Answered). a.sent)) in
    record {
      places = done.places ++ place ∷ [];
      answered = done.answered ++ answer ∷ [];
      held = done.held ∙ ap (λ rest. done.places ++ rest) takes.1 ∙ sym (append_assoc done.places (place ∷ []) held_next);
      each = omega (arith, done.each, length-append done.places (place ∷ []), length-append done.answered (answer ∷ []));
      replies_are = map-append (λ (a : Answered). a.reply) done.answered (answer ∷ [])
          ∙ ap (λ front. front ++ reply ∷ []) done.replies_are;
      answers = record {
        each = All-append IsSent done.answered (answer ∷ []) done.answers.each
            (All-cons IsSent answer [] now-sent (All-nil IsSent));
        failed = subst (λ count. RoseBy count first third) (sym failed)
            (rose-both (failed_writes done.answered) sent.0 first second third done.answers.failed sent.1);
        sent = sent-push before between now done.places pieces place sent.2 same done.answers.sent more
            ∙ ap (λ all. option_map (sent_each (done.places ++ place ∷ []) all) before)
            (sym (map-append (λ (a : Answered). a.sent) done.answered (answer ∷ [])));
      };
      served_is = ap (λ n. n + served_count (ending ∷ [])) done.served_is
          ∙ sym (served_count-append (map (λ (a : Answered). a.ending) done.answered) (ending ∷ []))
          ∙ ap served_count (sym (map-append (λ (a : Answered). a.ending) done.answered (answer ∷ [])));
      cut_is = omega (
        arith,
        done.cut_is,
        cut_count-append (map (λ (a : Answered). a.ending) done.answered) (ending ∷ []),
        ap cut_count (map-append (λ (a : Answered). a.ending) done.answered (answer ∷ [])),
      );
    }

-- each exchange is counted once
pub counts-each : (endings : List Exchange) → served_count endings + cut_count endings ≡ length endings
counts-each [] = refl
counts-each (Served ∷ endings) = let rest = counts-each endings in omega (arith, rest)
counts-each (Cut ∷ endings) = let rest = counts-each endings in omega (arith, rest)

pub answering-counts : (first last : ℕ) (held_before held_now : List ℕ) (before now : Option (List (List ℕ)))
    (replies : List (Option Reply)) (served cut_before cut_now : ℕ)
    → (done : Answering first last held_before held_now before now replies served cut_before cut_now)
    → (served + cut_now ≡ cut_before + length replies) × (length held_before ≡ length replies + length held_now)
answering-counts first last held_before held_now before now replies served cut_before cut_now done =
    let count : length done.answered ≡ length replies =
    sym (length-map done.answered (λ (a : Answered). a.reply)) ∙ ap length done.replies_are in
    let endings = map (λ (a : Answered). a.ending) done.answered in (
      omega (arith, done.served_is, done.cut_is, count, counts-each endings, length-map done.answered (λ (a : Answered). a.ending)),
      omega (arith, count, done.each, ap length done.held, length-append done.places held_now),
    )

module _ {H : Type 0} (step : H → List ℕ → List ℕ → List ℕ → Option Reply → H → Type 0) where
  -- one entry more was answered
  pub in-turn-push : (entries : List Entry) (replies : List (Option Reply)) (entry : Entry) (reply : Option Reply)
      (old between new : H) → InTurn step entries old replies between
      → IsReplied step entry.request entry.reply between reply new
      → InTurn step (entries ++ entry ∷ []) old (replies ++ reply ∷ []) new
  in-turn-push [] [] entry reply old between new first last =
      (new, subst (λ h. IsReplied step entry.request entry.reply h reply new) first last, refl)
  in-turn-push [] (other ∷ replies) entry reply old between new first last = absurd first
  in-turn-push (other ∷ entries) [] entry reply old between new first last = absurd first
  in-turn-push (e ∷ entries) (r ∷ replies) entry reply old between new first last =
      (first.0, first.1, in-turn-push entries replies entry reply first.0 between new first.2 last)

  -- one entry more was answered, in a row of which the others are as before
  pub in-turn-next : (first now : List Entry) (i : ℕ) (item new_item : Entry) (old between new : H)
      → i < length now → length now ≡ length first → item ≡ get_or now i item → drop i now ≡ drop i first
      → InTurn step (take i first) old (map (λ entry. entry.reply) (take i now)) between
      → IsReplied step item.request item.reply between new_item.reply new
      → InTurn step (take (i + 1) first) old (map (λ entry. entry.reply) (take (i + 1) (set now i new_item))) new
      × (drop (i + 1) (set now i new_item) ≡ drop (i + 1) first)
  in-turn-next first now i item new_item old between new below same is rest turn replied =
      let in-first : i < length first = omega (arith, below, same) in
      let parts : get_or now i item ∷ drop (suc i) now ≡ get_or first i item ∷ drop (suc i) first =
      sym (drop-cons now i item below) ∙ rest ∙ drop-cons first i item in-first in
      let head : get_or now i item ≡ get_or first i item = cc in
      let tail : drop (suc i) now ≡ drop (suc i) first = cc in
      let front : take (i + 1) first ≡ take i first ++ item ∷ [] =
      take_more first i item in-first ∙ ap (λ e. take i first ++ e ∷ []) (sym (is ∙ head)) in
      let replies : map (λ (e : Entry). e.reply) (take (i + 1) (set now i new_item))
      ≡ map (λ (e : Entry). e.reply) (take i now) ++ new_item.reply ∷ [] =
      ap (map (λ (e : Entry). e.reply)) (take_more_set now i new_item below)
      ∙ map-append (λ (e : Entry). e.reply) (take i now) (new_item ∷ []) in
      let all = in-turn-push (take i first) (map (λ (e : Entry). e.reply) (take i now)) item new_item.reply old between new turn replied in (
        subst (λ entries. InTurn step entries old (map (λ (e : Entry). e.reply) (take (i + 1) (set now i new_item))) new) (sym front)
            (subst (λ some. InTurn step (take i first ++ item ∷ []) old some new) (sym replies) all),
        drop-set-lt (i + 1) now i new_item (omega arith)
            ∙ ap (λ n. drop n now) (add-one i) ∙ tail ∙ ap (λ n. drop n first) (sym (add-one i)),
      )
