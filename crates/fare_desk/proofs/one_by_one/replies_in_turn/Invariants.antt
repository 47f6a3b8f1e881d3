use Rattle.std.proofs.Common.{◌≡◌, ◌<◌, ℕ, Option, length}
use Rattle.serde_json.specs.declared.value.Value.{Value}
use Rattle.fare_http.specs.declared.reply.Reply.{Reply}
use Rattle.fare_desk.proofs.ReplyLemmas.{IsRepliedAt}
use Rattle.fare_desk.proofs.one_by_one.replies_in_turn.Given as goal

-- the items before this one have their replies
abbrev pub invariant-loop-item : goal.invariant-loop-item
invariant-loop-item g l = record {
  count : length l.replies.items ≡ l.item-index;
  each : (i : ℕ) (value : Value) (reply : Option Reply) → i < l.item-index →
      IsRepliedAt l.clerk.form l.clerk.book.now.editions l.items l.replies.items i value reply;
}
