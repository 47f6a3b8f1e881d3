-- The lines of items, one after another.
use Rattle.std.proofs.Common.{◌≡◌, ℕ, ◌+◌, ◌<◌, ◌≤◌, Result, Ok, Err, OnOk, List, ◌∷◌, ◌++◌, length, drop, get_or, refl, ap, sym, ◌∙◌, append_assoc, append-nil, add-one, drop-cons}
use Rattle.std.proofs.lemmas.List.{drop_all}
use Rattle.fare_changes.specs.declared.compared.Compared.{Compared}
use Rattle.fare_changes.specs.CompareText.{item_line, item_lines}

-- what is left of the text after one line more are the lines behind it
pub items_more : (all : List Compared) (place : ℕ) (one : Compared) (text whole : List ℕ)
    → place < length all → one ≡ get_or all place one
    → whole ≡ text ++ item_lines (place + 1) (drop place all)
    → whole ≡ (text ++ item_line (place + 1) one) ++ item_lines (place + 1 + 1) (drop (place + 1) all)
items_more all place one text whole below is so_far =
    let behind : drop place all ≡ one ∷ drop (place + 1) all = drop-cons all place one below ∙ rw (add-one, ← is) refl in
    so_far ∙ ap (λ l. text ++ item_lines (place + 1) l) behind
    ∙ sym (append_assoc text (item_line (place + 1) one) (item_lines (place + 1 + 1) (drop (place + 1) all)))

-- after all items nothing is left
pub items_done : (all : List Compared) (place : ℕ) (text whole : List ℕ)
    → length all ≤ place → whole ≡ text ++ item_lines (place + 1) (drop place all) → text ≡ whole
items_done all place text whole past so_far =
    sym (so_far ∙ ap (λ l. text ++ item_lines (place + 1) l) (drop_all place all past) ∙ append-nil text)

-- words, and what was put behind them
pub on_end : {A E : Type 0} (result : Result A E) (after before so_far words end whole : List ℕ)
    → OnOk result (after ≡ so_far ++ end) → so_far ≡ before ++ words → whole ≡ words ++ end → OnOk result (after ≡ before ++ whole)
on_end (Ok done) after before so_far words end whole ended started same =
    ended ∙ ap (λ l. l ++ end) started ∙ append_assoc before words end ∙ ap (λ l. before ++ l) (sym same)
on_end (Err fault) after before so_far words end whole ended started same = tt
