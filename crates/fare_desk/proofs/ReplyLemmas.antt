-- The replies to the items of a batch.
use Rattle.std.proofs.Common.{◌≡◌, ◌⊎◌, inl, inr, ℕ, ◌+◌, ◌<◌, ◌≤◌, ◌++◌, ◌∷◌, suc, List, [], Option, Some, None, IfSome, length, map, take, drop, get_or, refl, ap, ◌∙◌, sym, arith, subst, false, ltb}
use Rattle.std.proofs.Math.ListN.{get_or-append}
use Rattle.std.proofs.Math.Seq.{get_or-append_seam}
use Rattle.std.proofs.lemmas.Bool.{le-ltb}
use Rattle.std.proofs.lemmas.List.{get_or_default, take-append-le, take_all}
use Rattle.serde_json.specs.Events.{items_len}
use Rattle.serde_json.specs.View.{items_view, view}
use Rattle.serde_json.specs.declared.value.Value.{Value}
use Rattle.serde_json.proofs.Views.{items_len-items_view}
use Rattle.fare_trip.specs.ItineraryText.{trip_of}
use Rattle.fare_tariff.specs.Tariff.{Tariff}
use Rattle.fare_http.specs.declared.reply.Form.{Form}
use Rattle.fare_http.specs.declared.reply.Reply.{Reply}
use Rattle.fare_http.specs.declared.reply.Status.TheVariants.{Okay}
use Rattle.fare_desk.specs.Batching.{AreItemReplies, AreReplied, IsItemsReply, IsMadeOf, batch_body}
use Rattle.fare_desk.specs.Quoting.{IsQuoteReply}
use Rattle.fare_desk.specs.Replies.{says}

-- the items of an array are as many as its values
pub counted : (values : List Value) → items_len (items_view values) ≡ length values
counted values = items_len-items_view values

-- what the item at a place is answered
abbrev pub IsRepliedAt : Form → List Tariff → List Value → List (Option Reply) → ℕ → Value → Option Reply → Type 0
IsRepliedAt form editions values replies i value reply =
    IfSome (get_or replies i reply) (IsQuoteReply form editions (trip_of (view (get_or values i value))))

-- replies that are all there are those of the items
pub of_replies : (form : Form) (editions : List Tariff) (values : List Value) (whole : List Reply)
    → AreReplied form editions values (map Some whole) → AreItemReplies form editions (items_view values) whole
of_replies form editions [] [] replied = tt
of_replies form editions [] (reply ∷ whole) replied = absurd (omega (arith, replied.count))
of_replies form editions (value ∷ values) [] replied = absurd (omega (arith, replied.count))
of_replies form editions (value ∷ values) (reply ∷ whole) replied =
    let others : AreReplied form editions values (map Some whole) = record {
      count = omega (arith, replied.count);
      each = λ i v r below. replied.each (suc i) v r (omega (arith, below));
    } in
    (replied.each 0 value None (omega arith), of_replies form editions values whole others)

-- what holds at each place holds of all replies, which were written over as many places
pub replied-all : (form : Form) (editions : List Tariff) (values : List Value) (old new : List (Option Reply)) (count : ℕ)
    → length new ≡ count → count ≡ length values
    → ((i : ℕ) (value : Value) (reply : Option Reply) → i < length values → IsRepliedAt form editions values new i value reply)
    → AreReplied form editions values (take count (new ++ drop (length new) old))
replied-all form editions values old new count same as_many each =
    let all : take count (new ++ drop (length new) old) ≡ new =
    take-append-le count new (drop (length new) old) (omega (arith, same)) ∙ take_all count new (omega (arith, same)) in
    let replied : AreReplied form editions values new = record { count = same ∙ as_many; each = each } in
    rw all replied

earlier-or-here : (i place : ℕ) → i < place + 1 → (i < place) ⊎ (i ≡ place)
earlier-or-here i place within = grind arith

-- the replies to the items before a place, with the reply to the item at that place
pub replied-more : (form : Form) (editions : List Tariff) (values : List Value) (replies : List (Option Reply)) (place : ℕ)
    (value : Value) (reply : Reply) → length replies ≡ place → place < length values → value ≡ get_or values place value
    → IsQuoteReply form editions (trip_of (view value)) reply
    → ((i : ℕ) (v : Value) (r : Option Reply) → i < place → IsRepliedAt form editions values replies i v r)
    → (i : ℕ) (v : Value) (r : Option Reply) → i < place + 1
    → IsRepliedAt form editions values (replies ++ Some reply ∷ []) i v r
replied-more form editions values replies place value reply count below is answered before i v r within =
    elim (earlier-or-here i place within) [
      | inl earlier ↦
          let there : i < length replies = omega (arith, earlier, count) in
          rw (get_or-append replies (Some reply ∷ []) r i there) (before i v r earlier)
      | inr here ↦
          let at_end : i ≡ length replies = omega (arith, here, count) in
          let seam : get_or (replies ++ Some reply ∷ []) i r ≡ Some reply =
          ap (λ n. get_or (replies ++ Some reply ∷ []) n r) at_end ∙ get_or-append_seam replies (Some reply) [] r in
          let item : get_or values i v ≡ value = ap (λ n. get_or values n v) here ∙ get_or_default values place v value below ∙ sym is in
          rw (seam, item) answered
    ]

-- the body that is made of the replies to all items, where there aren't too many, is what the batch is answered
pub items_answered : (form : Form) (editions : List Tariff) (values : List Value) (replies : List (Option Reply)) (body : List ℕ)
    → length values ≤ 256 → AreReplied form editions values replies → IsMadeOf (batch_body form) replies body
    → IsItemsReply form editions (items_view values) (says form Okay body)
items_answered form editions values replies body few replied (whole, same, made) =
    let all : AreReplied form editions values (map Some whole) =
    subst (λ (r : List (Option Reply)). AreReplied form editions values r) same replied in
    let within : ltb 256 (items_len (items_view values)) ≡ false = rw (counted values) (le-ltb 256 (length values) few) in
    rw within (whole, of_replies form editions values whole all, ap (λ text. says form Okay text) made)
