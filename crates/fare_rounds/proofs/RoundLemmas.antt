-- The connections that were taken and the answers that were sent make a round.
use Rattle.std.proofs.Common.{◌≡◌, ◌⊎◌, ◌≤◌, inl, inr, ℕ, ◌+◌, Bool, true, false, List, [], ◌∷◌, ◌++◌, length, map, Option, None, Some, refl, sym, ap, ◌∙◌, subst, arith, append_assoc, length-append}
use Rattle.std.specs.Prelude.{All, IfSome, MatchBool, option_map}
use Rattle.std.specs.List.{AllZip}
use Rattle.std.proofs.lemmas.List.{length-map}
use Rattle.std.proofs.lemmas.List.Elements.{All-head, All-tail, length_all_zip}
use Rattle.fare_ports.specs.Door.{with_more_at}
use Rattle.fare_http.specs.declared.reply.Reply.{Reply}
use Rattle.fare_http.specs.declared.request.Request.{Request}
use Rattle.fare_http.specs.declared.sending.Exchange.{Exchange}
use Rattle.fare_http.specs.declared.sending.Exchange.TheVariants.{Served, Cut}
use Rattle.fare_http.specs.Answers.{answer_bytes}
use Rattle.fare_http.specs.Serving.{BringsTooLittle, Exchanges, IsServed, whole, fixed, wanting, ended, unread, unsent}
use Rattle.fare_rounds.specs.declared.entry.Entry.{Entry}
use Rattle.fare_rounds.specs.Entries.{HasReply, IsBrought, IsViewed, Row, ViewsRound, connection_count, is_publication}
use Rattle.fare_rounds.specs.Finishing.{Answered, InTurn, IsReplied, IsSent, SentAs, failed_writes, sent_each, served_count, cut_count}
use Rattle.fare_rounds.proofs.AnswerLemmas.{counts-each}
use Rattle.fare_rounds.specs.Rounds.{Exchanged, IsRound, RoundStep, failures_of}
use Rattle.fare_rounds.specs.Taking.{Arrival, cut_off, held, connection_of, entries_of, cut_among, failed_reads, places_from, IsRead, with_lists}

-- each connection that was taken with its exchange: nothing was sent where it was cut off, and else its answer
pub merged : List Arrival → List Answered → List Exchanged
merged [] answered = []
merged (cut_off connection failures ∷ arrivals) answered =
    record { connection = connection; ending = Cut; sent = []; failures = failures } ∷ merged arrivals answered
merged (held connection entry ∷ arrivals) [] = []
merged (held connection entry ∷ arrivals) (answer ∷ answered) =
    record { connection = connection; ending = answer.ending; sent = answer.sent; failures = answer.failures }
    ∷ merged arrivals answered

-- they are the connections that were taken
pub merged-connections : (arrivals : List Arrival) (answered : List Answered)
    → length (entries_of arrivals) ≡ length answered
    → map (λ exchanged. exchanged.connection) (merged arrivals answered) ≡ map connection_of arrivals
unfolding merged
merged-connections [] answered same = refl
merged-connections (cut_off connection failures ∷ arrivals) answered same =
    ap (λ all. connection ∷ all) (merged-connections arrivals answered same)
merged-connections (held connection entry ∷ arrivals) [] same = absurd (omega (arith, same))
merged-connections (held connection entry ∷ arrivals) (answer ∷ answered) same =
    ap (λ all. connection ∷ all) (merged-connections arrivals answered (omega (arith, same)))

-- as many were served as answers
pub merged-served : (arrivals : List Arrival) (answered : List Answered)
    → length (entries_of arrivals) ≡ length answered
    → served_count (map (λ exchanged. exchanged.ending) (merged arrivals answered))
    ≡ served_count (map (λ answer. answer.ending) answered)
unfolding merged
merged-served [] [] same = refl
merged-served [] (answer ∷ answered) same = absurd (omega (arith, same))
merged-served (cut_off connection failures ∷ arrivals) answered same = merged-served arrivals answered same
merged-served (held connection entry ∷ arrivals) [] same = absurd (omega (arith, same))
merged-served (held connection entry ∷ arrivals) (answer ∷ answered) same =
    by-ending answer.ending _ _ (merged-served arrivals answered (omega (arith, same)))
  where
    by-ending : (ending : Exchange) (xs ys : List Exchange) → served_count xs ≡ served_count ys
        → served_count (ending ∷ xs) ≡ served_count (ending ∷ ys)
    by-ending Served xs ys same = ap (λ n. n + 1) same
    by-ending Cut xs ys same = same

-- those that were cut off before they were held count with the answers
pub merged-cut : (arrivals : List Arrival) (answered : List Answered)
    → length (entries_of arrivals) ≡ length answered
    → cut_count (map (λ exchanged. exchanged.ending) (merged arrivals answered))
    ≡ cut_among arrivals + cut_count (map (λ answer. answer.ending) answered)
unfolding merged
merged-cut [] [] same = refl
merged-cut [] (answer ∷ answered) same = absurd (omega (arith, same))
merged-cut (cut_off connection failures ∷ arrivals) answered same =
    let rest = merged-cut arrivals answered same in omega (arith, rest)
merged-cut (held connection entry ∷ arrivals) [] same = absurd (omega (arith, same))
merged-cut (held connection entry ∷ arrivals) (answer ∷ answered) same =
    by-ending answer.ending _ _ (cut_among arrivals) (merged-cut arrivals answered (omega (arith, same)))
  where
    by-ending : (ending : Exchange) (xs ys : List Exchange) (cut : ℕ) → cut_count xs ≡ cut + cut_count ys
        → cut_count (ending ∷ xs) ≡ cut + cut_count (ending ∷ ys)
    by-ending Served xs ys cut same = same
    by-ending Cut xs ys cut same = omega (arith, same)

-- and so do their failures
pub merged-failures : (arrivals : List Arrival) (answered : List Answered)
    → length (entries_of arrivals) ≡ length answered
    → failures_of (merged arrivals answered) ≡ failed_reads arrivals + failed_writes answered
unfolding merged
merged-failures [] [] same = refl
merged-failures [] (answer ∷ answered) same = absurd (omega (arith, same))
merged-failures (cut_off connection failures ∷ arrivals) answered same =
    let rest = merged-failures arrivals answered same in omega (arith, rest)
merged-failures (held connection entry ∷ arrivals) [] same = absurd (omega (arith, same))
merged-failures (held connection entry ∷ arrivals) (answer ∷ answered) same =
    let rest = merged-failures arrivals answered (omega (arith, same)) in omega (arith, rest)

-- what was sent on the connection behind others on which nothing more is sent
sent-behind : (before after : List (List ℕ)) (bytes : List ℕ)
    → with_more_at (Some (length before)) bytes (before ++ [] ∷ after) ≡ before ++ bytes ∷ after
sent-behind [] after bytes = refl
sent-behind (xs ∷ before) after bytes = ap (λ lists. xs ∷ lists) (sent-behind before after bytes)

-- each answer stands at its connection's place
sent-in-place : (before : List (List ℕ)) (place : ℕ) (arrivals : List Arrival) (answered : List Answered)
    → place ≡ length before → length (entries_of arrivals) ≡ length answered
    → sent_each (places_from place arrivals) (map (λ answer. answer.sent) answered) (before ++ map (λ _. []) arrivals)
    ≡ before ++ map (λ exchanged. exchanged.sent) (merged arrivals answered)
unfolding merged
sent-in-place before place [] answered is same = refl
sent-in-place before place (cut_off connection failures ∷ arrivals) answered is same =
    let next : place + 1 ≡ length (before ++ [] ∷ []) = omega (arith, is, length-append before ([] ∷ [])) in
    ap (sent_each (places_from (place + 1) arrivals) (map (λ (a : Answered). a.sent) answered))
    (sym (append_assoc before ([] ∷ []) (map (λ (a : Arrival). []) arrivals)))
    ∙ sent-in-place (before ++ [] ∷ []) (place + 1) arrivals answered next same
    ∙ append_assoc before ([] ∷ []) (map (λ (x : Exchanged). x.sent) (merged arrivals answered))
sent-in-place before place (held connection entry ∷ arrivals) [] is same = absurd (omega (arith, same))
sent-in-place before place (held connection entry ∷ arrivals) (answer ∷ answered) is same =
    let more = answer.sent ∷ [] in
    let next : place + 1 ≡ length (before ++ more) = omega (arith, is, length-append before more) in
    let unsent-after = map (λ (a : Arrival). []) arrivals in
    ap (sent_each (places_from (place + 1) arrivals) (map (λ (a : Answered). a.sent) answered))
    (ap (λ n. with_more_at (Some n) answer.sent (before ++ [] ∷ unsent-after)) is
    ∙ sent-behind before unsent-after answer.sent
    ∙ sym (append_assoc before more unsent-after))
    ∙ sent-in-place (before ++ more) (place + 1) arrivals answered next (omega (arith, same))
    ∙ append_assoc before more (map (λ (x : Exchanged). x.sent) (merged arrivals answered))

pub merged-sent : (old between new : Option (List (List ℕ))) (places : List ℕ) (arrivals : List Arrival)
    (answered : List Answered) → length (entries_of arrivals) ≡ length answered
    → between ≡ with_lists (map (λ _. []) arrivals) old
    → IfSome old (λ lists. places ≡ places_from (length lists) arrivals)
    → new ≡ option_map (sent_each places (map (λ answer. answer.sent) answered)) between
    → new ≡ with_lists (map (λ exchanged. exchanged.sent) (merged arrivals answered)) old
merged-sent None between new places arrivals answered same taken told sent =
    sent ∙ ap (option_map (sent_each places (map (λ (a : Answered). a.sent) answered))) taken
merged-sent (Some old) between new places arrivals answered same taken told sent =
    sent ∙ ap (option_map (sent_each places (map (λ (a : Answered). a.sent) answered))) taken
    ∙ ap (λ at. Some (sent_each at (map (λ (a : Answered). a.sent) answered) (old ++ map (λ (a : Arrival). []) arrivals))) told
    ∙ ap Some (sent-in-place old (length old) arrivals answered refl same)

module _ {H : Type 0} (step : H → List ℕ → List ℕ → List ℕ → Option Reply → H → Type 0)
    (replies : H → List ℕ → List ℕ → List ℕ → Reply → Type 0) where
  -- as many replies as entries
  pub in-turn-length : (entries : List Entry) (given : List (Option Reply)) (old new : H)
      → InTurn step entries old given new → length given ≡ length entries
  in-turn-length [] [] old new turn = refl
  in-turn-length [] (reply ∷ given) old new turn = absurd turn
  in-turn-length (entry ∷ entries) [] old new turn = absurd turn
  in-turn-length (entry ∷ entries) (reply ∷ given) old new turn =
      let rest = in-turn-length entries given turn.0 new turn.2 in omega (arith, rest)

  -- what is shown at a handler is a step that leaves it
  abbrev pub Shows : Type 0
  Shows = (handler : H) (method path body : List ℕ) (answer : Option Reply) → is_publication method path ≡ false
      → IfSome answer (replies handler method path body) → step handler method path body answer handler

  -- a request that was viewed, and then answered where it is a `POST /editions`, took one step of the round
  step-taken : (is : Bool) (own viewed reply : Option Reply) (Step Stays : Type 0) (Has : Reply → Type 0)
      (Shown : Option Reply → Type 0) → ((answer : Option Reply) → is ≡ false → IfSome answer Has → Shown answer)
      → MatchBool is (viewed ≡ own) (IfSome viewed Has) → MatchBool is Step ((reply ≡ viewed) × Stays)
      → MatchBool is Step (Shown reply × Stays)
  step-taken true own viewed reply Step Stays Has Shown shows has replied = replied
  step-taken false own viewed reply Step Stays Has Shown shows has replied =
      (shows reply refl (subst (λ r. IfSome r Has) (sym replied.0) has), replied.1)

  -- an entry is answered as serving its connection says
  entry-served : Shows → (start old new : H) (connection : Option (List ℕ)) (request : Option Request)
      (own viewed reply : Option Reply) → IsBrought connection request own
      → HasReply (replies start) request own viewed → IsReplied step request viewed old reply new
      → IsServed (RoundStep step start) connection old (answer_bytes reply) new
  entry-served shows start old new connection None None viewed reply brought has replied =
      wanting (ap answer_bytes (replied.0 ∙ has)) replied.1
  entry-served shows start old new connection None (Some own) viewed reply brought has replied =
      fixed own brought (ap answer_bytes (replied.0 ∙ has)) replied.1
  entry-served shows start old new connection (Some request) own viewed reply brought has replied =
      whole request reply brought.0
      (step-taken (is_publication request.method request.path) own viewed reply
      (step old request.method request.path request.body reply new) (new ≡ old)
      (replies start request.method request.path request.body)
      (λ answer. step start request.method request.path request.body answer start)
      (λ answer is shown. shows start request.method request.path request.body answer is shown) has replied)
      refl

  -- an answer that was sent ends the exchange
  exchange-ended : (failures : ℕ) (start old new : H) (connection : Option (List ℕ)) (ending : Exchange)
      (answer sent : List ℕ) → IsServed (RoundStep step start) connection old answer new
      → SentAs failures ending answer sent
      → Exchanges (RoundStep step start) ending connection old sent new (1 ≤ failures)
  exchange-ended failures start old new connection Served answer sent served is =
      subst (λ bytes. IsServed (RoundStep step start) connection old bytes new) (sym is) served
  exchange-ended failures start old new connection Cut answer sent served part = unsent answer part.0 served part.1

  -- the exchanges make a round
  pub round-served : Shows → (start old new : H) (arrivals : List Arrival) (viewed : List Entry)
      (answered : List Answered) → All IsRead arrivals
      → AllZip (IsViewed (replies start)) (entries_of arrivals) viewed
      → InTurn step viewed old (map (λ answer. answer.reply) answered) new → All IsSent answered
      → IsRound step start old (merged arrivals answered) new
  unfolding merged
  round-served shows start old new [] [] [] read views turn sent = turn
  round-served shows start old new [] [] (answer ∷ answered) read views turn sent = absurd turn
  round-served shows start old new [] (entry ∷ viewed) answered read views turn sent = absurd views
  round-served shows start old new (cut_off connection failures ∷ arrivals) viewed answered read views turn sent = (
    old,
    cut-short (All-head IsRead (cut_off connection failures) arrivals read),
    round-served shows start old new arrivals viewed answered
        (All-tail IsRead (cut_off connection failures) arrivals read) views turn sent,
  )
    where
      cut-short : BringsTooLittle connection ⊎ (1 ≤ failures)
          → Exchanges (RoundStep step start) Cut connection old [] old (1 ≤ failures)
      cut-short (inl short) = ended short refl refl
      cut-short (inr fails) = unread fails refl refl
  round-served shows start old new (held connection entry ∷ arrivals) [] answered read views turn sent = absurd views
  round-served shows start old new (held connection entry ∷ arrivals) (view ∷ viewed) [] read views turn sent =
      absurd turn
  round-served shows start old new (held connection entry ∷ arrivals) (view ∷ viewed) (answer ∷ answered) read views
      turn sent =
      let between = turn.0 in
      let brought = All-head IsRead (held connection entry) arrivals read in
      let replied = subst (λ request. IsReplied step request view.reply old answer.reply between) views.0.0 turn.1 in
      let served = entry-served shows start old between connection entry.request entry.reply view.reply answer.reply
      brought views.0.1 replied in (
        between,
        exchange-ended answer.failures start old between connection answer.ending (answer_bytes answer.reply) answer.sent served
            (All-head IsSent answer answered sent),
        round-served shows start between new arrivals viewed answered
            (All-tail IsRead (held connection entry) arrivals read) views.1 turn.2
            (All-tail IsSent answer answered sent),
      )

  -- each connection that was taken is counted once
  pub round-count : (start old new : H) (taken viewed : Row) (answered : List Answered) (served cut : ℕ)
      → ViewsRound (replies start) taken viewed
      → InTurn step viewed.entries old (map (λ answer. answer.reply) answered) new
      → served ≡ served_count (map (λ answer. answer.ending) answered)
      → cut ≡ viewed.cut + cut_count (map (λ answer. answer.ending) answered)
      → (served + cut ≡ connection_count taken) × (length answered ≡ length taken.entries)
  round-count start old new taken viewed answered served cut views turn is cut-is =
      let endings = map (λ (a : Answered). a.ending) answered in
      let replied = in-turn-length viewed.entries (map (λ (a : Answered). a.reply) answered) old new turn in
      let same = length_all_zip (IsViewed (replies start)) taken.entries viewed.entries views.0 in
      let count : length answered ≡ length taken.entries =
      sym (length-map answered (λ (a : Answered). a.reply)) ∙ replied ∙ sym same in
      (omega (arith, is, cut-is, views.1, count, counts-each endings, length-map answered (λ (a : Answered). a.ending)), count)
