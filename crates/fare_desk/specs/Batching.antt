-- The reply to a batch of itineraries, plain or in JSON.
use Rattle.std.specs.Prelude.{◌≡◌, ◌<◌, ℕ, ◌+◌, List, [], ◌∷◌, ◌++◌, Option, Some, None, IfSome, length, map}
use Rattle.std.specs.Prelude.{slice_index_or, MatchBool, MatchOption, nat_lt, codes, decimal, ⊤}
use Rattle.serde_json.specs.Data.{Data, Items, item, no_items}
use Rattle.serde_json.specs.Events.{items_len}
use Rattle.serde_json.specs.Find.{as_array}
use Rattle.serde_json.specs.View.{view}
use Rattle.serde_json.specs.declared.value.Value.{Value}
use Rattle.fare_trip.specs.ItineraryText.{json_of, trip_of}
use Rattle.fare_trip.specs.declared.fault.TripFault.TheVariants.{NotJson}
use Rattle.fare_tariff.specs.Tariff.{Tariff}
use Rattle.fare_http.specs.Answers.{status_number}
use Rattle.fare_http.specs.declared.reply.Form.{Form}
use Rattle.fare_http.specs.declared.reply.Form.TheVariants.{Text, Json}
use Rattle.fare_http.specs.declared.reply.Reply.{Reply}
use Rattle.fare_http.specs.declared.reply.Status.TheVariants.{BadRequest, ContentTooLarge, Okay}
use Rattle.fare_json.specs.BatchData.{batch_begin, batch_end, item_json}
use Rattle.fare_sentences.specs.declared.fault.Fault.TheVariants.{BatchLimit, NoBatch}
use Rattle.fare_desk.specs.declared.batcher.TheConstants.{MOST_ITEMS}
use Rattle.fare_desk.specs.Quoting.{IsQuoteReply, fault_reply}
use Rattle.fare_desk.specs.Replies.{refused, says}

-- an item of a plain batch: its number, the status of its reply, and the reply's text
abbrev pub item_text : ℕ → Reply → List ℕ
item_text number reply =
    codes "ITEM " ++ decimal number ++ codes " " ++ decimal (status_number reply.status) ++ codes "\n" ++ reply.body

-- an item of a batch in a form
abbrev pub item_body : Form → ℕ → Reply → List ℕ
item_body Text number reply = item_text number reply
item_body Json number reply = item_json number reply.body (status_number reply.status)

-- the items from a number on
abbrev pub items_body : Form → ℕ → List Reply → List ℕ
items_body form number [] = []
items_body form number (reply ∷ replies) = item_body form number reply ++ items_body form (number + 1) replies

-- the body of the reply to a batch whose items have these replies
abbrev pub batch_body : Form → List Reply → List ℕ
batch_body Text replies = items_body Text 1 replies
batch_body Json replies = batch_begin ++ items_body Json 1 replies ++ batch_end

-- the replies to the items of a batch, in order, each of which the item has by itself: it selects its own edition
abbrev pub AreItemReplies : Form → List Tariff → Items → List Reply → Type 0
AreItemReplies form editions no_items [] = ⊤
AreItemReplies form editions no_items (reply ∷ replies) = ⊥
AreItemReplies form editions (item value items) [] = ⊥
AreItemReplies form editions (item value items) (reply ∷ replies) =
    IsQuoteReply form editions (trip_of value) reply × AreItemReplies form editions items replies

-- the reply to the items of a batch, which are counted before any of them is looked at
abbrev pub IsItemsReply : Form → List Tariff → Items → Reply → Type 0
IsItemsReply form editions items reply =
    MatchBool (nat_lt MOST_ITEMS (items_len items)) (reply ≡ refused form ContentTooLarge BatchLimit)
    ((replies : List Reply) × AreItemReplies form editions items replies
    × (reply ≡ says form Okay (batch_body form replies)))

-- the reply to a batch that is a JSON value, which has to be an array
abbrev pub IsArrayReply : Form → List Tariff → Data → Reply → Type 0
IsArrayReply form editions value reply =
    MatchOption (as_array value) (reply ≡ refused form BadRequest NoBatch)
    (λ items. IsItemsReply form editions items reply)

-- the reply to a batch, which has to be a JSON text
abbrev pub IsBatchReply : Form → List Tariff → List ℕ → Reply → Type 0
IsBatchReply form editions text reply =
    MatchOption (json_of text) (reply ≡ fault_reply form NotJson) (λ value. IsArrayReply form editions value reply)

-- there is a place for the reply to each item, and a reply that stands there is the one that the item has by itself;
-- where none stands, memory was wanting
pub record AreReplied (form : Form) (editions : List Tariff) (values : List Value) (replies : List (Option Reply))
    : Type 0 where
  pub count : length replies ≡ length values
  pub each : (i : ℕ) (value : Value) (reply : Option Reply) → i < length values →
      IfSome (slice_index_or replies i reply)
      (IsQuoteReply form editions (trip_of (view (slice_index_or values i value))))

-- the items from a number on, made of these replies; all of them are there
abbrev pub AreItemsOf : Form → ℕ → List (Option Reply) → List ℕ → Type 0
AreItemsOf form number [] text = text ≡ []
AreItemsOf form number (None ∷ replies) text = ⊥
AreItemsOf form number (Some reply ∷ replies) text =
    (rest : List ℕ) × AreItemsOf form (number + 1) replies rest × (text ≡ item_body form number reply ++ rest)

-- all replies are there, and this is made of them
abbrev pub IsMadeOf : (List Reply → List ℕ) → List (Option Reply) → List ℕ → Type 0
IsMadeOf body replies text = (whole : List Reply) × (replies ≡ map Some whole) × (text ≡ body whole)
