-- The reply that tells what changed between two editions of a book: the numbers first, then the first edition, then the
-- second.
use Rattle.std.specs.Prelude.{ℕ, Bool, List, Option, Some, None, ◌==◌}
use Rattle.std.specs.List.{after_first, before_first}
use Rattle.fare_tariff.specs.Tariff.{Tariff}
use Rattle.fare_book.specs.Book.{numbered}
use Rattle.fare_changes.specs.DiffText.{diff_text}
use Rattle.fare_http.specs.declared.reply.Form.TheVariants.{Text}
use Rattle.fare_http.specs.declared.reply.Reply.{Reply}
use Rattle.fare_http.specs.declared.reply.Status.TheVariants.{Okay}
use Rattle.fare_desk.specs.Replies.{no_route, says}
use Rattle.fare_desk.specs.Viewing.{edition_number, no_such_edition}

-- a byte is a slash
abbrev pub is_slash : ℕ → Bool
is_slash byte = byte == 47

-- what stands in a text before its first slash
abbrev pub before_slash : List ℕ → List ℕ
before_slash text = before_first is_slash text

-- what stands in a text behind its first slash
abbrev pub behind_slash : List ℕ → List ℕ
behind_slash text = after_first is_slash text

-- the first number in a path: what stands behind `/editions/` up to the next slash
abbrev pub from_text : List ℕ → List ℕ
from_text path = before_slash (behind_slash (behind_slash path))

-- the second one: what stands behind the two slashes that follow
abbrev pub to_text : List ℕ → List ℕ
to_text path = behind_slash (behind_slash (behind_slash (behind_slash path)))

-- two editions of a book that were looked for by their numbers, if they are there
abbrev pub found_diff : ℕ → Option Tariff → ℕ → Option Tariff → Reply
found_diff from None to new = no_such_edition from
found_diff from (Some old) to None = no_such_edition to
found_diff from (Some old) to (Some new) = says Text Okay (diff_text old new)

-- two editions of a book, by their numbers; what is no number of an edition has no route
abbrev pub numbers_diff : List Tariff → Option ℕ → Option ℕ → Reply
numbers_diff editions None to = no_route Text
numbers_diff editions (Some from) None = no_route Text
numbers_diff editions (Some from) (Some to) = found_diff from (numbered from editions) to (numbered to editions)

-- what changed from one edition to the other, by the path
abbrev pub diff_reply : List Tariff → List ℕ → Reply
diff_reply editions path = numbers_diff editions (edition_number (from_text path)) (edition_number (to_text path))
