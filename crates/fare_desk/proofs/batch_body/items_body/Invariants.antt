use Rattle.std.proofs.Common.{◌≡◌, ◌≤◌, ◌+◌, length}
use Rattle.fare_desk.proofs.ItemLemmas.{ContinuesItems}
use Rattle.fare_desk.proofs.batch_body.items_body.Given as goal

-- the text holds the items before this one
abbrev pub invariant-loop-reply : goal.invariant-loop-reply
invariant-loop-reply l = record {
  number : l.number ≡ l.reply-index + 1;
  few : length l.replies ≤ 256;
  continues : ContinuesItems l.form l.replies l.reply-index l.number l.text.items;
}
