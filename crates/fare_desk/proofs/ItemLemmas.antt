-- The items of a batch, made of their replies.
use Rattle.std.proofs.Common.{◌≡◌, ℕ, ◌+◌, ◌<◌, ◌≤◌, ◌++◌, ◌∷◌, List, [], Option, Some, None, Result, Ok, Err, IfOk, Vec, length, map, drop, get_or, refl, ap, ◌∙◌, append_assoc, append-nil, add-one, drop-cons}
use Rattle.std.proofs.lemmas.List.{drop_all}
use Rattle.fare_http.specs.declared.reply.Form.{Form}
use Rattle.fare_http.specs.declared.reply.Form.TheVariants.{Text, Json}
use Rattle.fare_http.specs.declared.reply.Reply.{Reply}
use Rattle.fare_json.specs.BatchData.{batch_begin, batch_end}
use Rattle.fare_desk.specs.Batching.{AreItemsOf, IsMadeOf, batch_body, item_body, items_body}

-- whatever follows from the replies behind a place follows, with the text so far in front, from all of them
abbrev pub ContinuesItems : Form → List (Option Reply) → ℕ → ℕ → List ℕ → Type 0
ContinuesItems form replies place number text =
    (more : List ℕ) → AreItemsOf form number (drop place replies) more → AreItemsOf form 1 replies (text ++ more)

-- no reply was looked at
pub items-first : (form : Form) (replies : List (Option Reply)) → ContinuesItems form replies 0 1 []
items-first form replies more rest = rest

-- one reply more was looked at
pub items-more : (form : Form) (replies : List (Option Reply)) (place number : ℕ) (text : List ℕ) (reply : Reply)
    → place < length replies → Some reply ≡ get_or replies place (Some reply) → ContinuesItems form replies place number text
    → ContinuesItems form replies (place + 1) (number + 1) (text ++ item_body form number reply)
items-more form replies place number text reply below is before more rest =
    let behind : drop place replies ≡ Some reply ∷ drop (place + 1) replies =
    drop-cons replies place (Some reply) below ∙ rw (add-one, ← is) refl in
    let step : AreItemsOf form number (drop place replies) (item_body form number reply ++ more) =
    rw behind (more, rest, refl) in
    rw append_assoc (before (item_body form number reply ++ more) step)

-- all replies were looked at
pub items-all : (form : Form) (replies : List (Option Reply)) (place number : ℕ) (text : List ℕ)
    → length replies ≤ place → ContinuesItems form replies place number text → AreItemsOf form 1 replies text
items-all form replies place number text all before =
    let none : drop place replies ≡ [] = drop_all place replies all in
    let last : AreItemsOf form number (drop place replies) [] = rw none refl in
    rw append-nil at (before [] last)

-- the replies of which items are made are all there
pub whole_items : (form : Form) (number : ℕ) (replies : List (Option Reply)) (text : List ℕ)
    → AreItemsOf form number replies text → IsMadeOf (items_body form number) replies text
whole_items form number [] text told = ([], refl, told)
whole_items form number (None ∷ replies) text told = absurd told
whole_items form number (Some reply ∷ replies) text (rest, told, joined) =
    let later = whole_items form (number + 1) replies rest told in
    (reply ∷ later.0, ap (λ others. Some reply ∷ others) later.1, joined ∙ ap (λ more. item_body form number reply ++ more) later.2)

-- the body of a plain batch
pub made_plain : (form : Form) (replies : List (Option Reply)) (text : List ℕ) → form ≡ Text
    → AreItemsOf form 1 replies text → IsMadeOf (batch_body form) replies text
made_plain Text replies text is told = whole_items Text 1 replies text told
made_plain Json replies text is told = absurd (cc)

-- the body of a batch in JSON
pub made_json : (form : Form) (replies : List (Option Reply)) (items text : List ℕ) → form ≡ Json
    → AreItemsOf form 1 replies items → text ≡ batch_begin ++ items ++ batch_end → IsMadeOf (batch_body form) replies text
made_json Text replies items text is told enclosed = absurd (cc)
made_json Json replies items text is told enclosed =
    let whole = whole_items Json 1 replies items told in
    (whole.0, whole.1, enclosed ∙ ap (λ body. batch_begin ++ body ++ batch_end) whole.2)

-- the same where there may be none, for want of memory
pub if_made_json : {A E : Type 0} (form : Form) (replies : List (Option Reply)) (items : List ℕ) (result : Result (Vec ℕ A) E)
    → form ≡ Json → AreItemsOf form 1 replies items → IfOk result (λ text. text.items ≡ batch_begin ++ items ++ batch_end)
    → IfOk result (λ text. IsMadeOf (batch_body form) replies text.items)
if_made_json form replies items (Ok text) is told enclosed = made_json form replies items text.items is told enclosed
if_made_json form replies items (Err fault) is told enclosed = tt
