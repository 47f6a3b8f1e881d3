-- Parts one after the other: what their test says, and their text.
use Rattle.std.proofs.Common.{◌≡◌, ◌<◌, ◌≤◌, ◌+◌, ◌-◌, ◌∙◌, ℕ, Bool, true, ◌&&◌, List, [], ◌∷◌, ◌++◌, length, take, drop, get_or, nat_lt, nat_le, arith, refl, ap, sym, append_assoc}
use Rattle.std.proofs.lemmas.Bool.{ltb-true, leb-true}
use Rattle.std.proofs.lemmas.List.{drop_more, drop_all, length-drop}
use Rattle.fare_line.specs.declared.line.sector.LineSector.{LineSector}
use Rattle.fare_line.specs.declared.line.part.LinePart.{LinePart}
use Rattle.fare_line.specs.Line.{are_parts, flown_count, gap_count, is_priced, is_amount}
use Rattle.fare_line.specs.LineText.{part_text, parts_text}

-- each of five tests holds
pub all_five : (a b c d e : Bool) → (a && b && c && d && e) ≡ true → (a ≡ true) × (b ≡ true) × (c ≡ true) × (d ≡ true) × (e ≡ true)
all_five a b c d e h = grind arith

-- what the test of parts says of the first
pub record Leads (begun flown : ℕ) (part : LinePart) (parts : List LinePart) : Type 0 where
  pub priced : is_priced part ≡ true
  pub begins : begun + gap_count part.gap < part.end
  pub ends : part.end ≤ 16
  pub fits : flown_count begun part ≤ flown
  pub rest : are_parts part.end (flown - flown_count begun part) parts ≡ true

pub leads : (begun flown : ℕ) (part : LinePart) (parts : List LinePart) → are_parts begun flown (part ∷ parts) ≡ true → Leads begun flown part parts
unfolding are_parts
leads begun flown part parts h =
    let tests = all_five (is_priced part) (nat_lt (begun + gap_count part.gap) part.end) (nat_le part.end 16) (nat_le (flown_count begun part) flown) (are_parts part.end (flown - flown_count begun part) parts) h in
    record { priced = tests.0; begins = ltb-true _ _ tests.1; ends = leb-true _ _ tests.2; fits = leb-true _ _ tests.3; rest = tests.4 }

-- the part at an index, and those behind it
pub part_at : (parts : List LinePart) (i : ℕ) (part : LinePart) → i < length parts → part ≡ get_or parts i part → drop i parts ≡ part ∷ drop (i + 1) parts
part_at parts i part below is = drop_more parts i part below ∙ ap (λ (first : LinePart). first ∷ drop (i + 1) parts) (sym is)

-- what holds of the part at an index
pub leads_at : (begun flown : ℕ) (parts : List LinePart) (i : ℕ) (part : LinePart) → i < length parts → part ≡ get_or parts i part
    → are_parts begun flown (drop i parts) ≡ true → Leads begun flown part (drop (i + 1) parts)
leads_at begun flown parts i part below is shared =
    let split = part_at parts i part below is in
    let first : are_parts begun flown (part ∷ drop (i + 1) parts) ≡ true = rw split at shared in
    leads begun flown part (drop (i + 1) parts) first

-- a part's amount
pub priced_amount : (part : LinePart) → is_priced part ≡ true → is_amount part.amount ≡ true
priced_amount part h = grind arith

-- the text of the parts from an index on
pub text_at : (begun : ℕ) (sectors : List LineSector) (parts : List LinePart) (i : ℕ) (part : LinePart) → i < length parts → part ≡ get_or parts i part
    → parts_text begun sectors (drop i parts) ≡ part_text (take (flown_count begun part) sectors) part ++ parts_text part.end (drop (flown_count begun part) sectors) (drop (i + 1) parts)
unfolding parts_text
text_at begun sectors parts i part below is = rw (part_at parts i part below is) refl

-- no part is left
pub text_past : (begun : ℕ) (sectors : List LineSector) (parts : List LinePart) (i : ℕ) → length parts ≤ i → parts_text begun sectors (drop i parts) ≡ []
unfolding parts_text
text_past begun sectors parts i past = rw (drop_all i parts past) refl

-- one part more is written
pub text_step : (now new : List ℕ) (begun : ℕ) (sectors own others : List LineSector) (parts : List LinePart) (i : ℕ) (part : LinePart)
    → i < length parts → part ≡ get_or parts i part
    → own ≡ take (flown_count begun part) sectors → others ≡ drop (flown_count begun part) sectors → new ≡ now ++ part_text own part
    → new ++ parts_text part.end others (drop (i + 1) parts) ≡ now ++ parts_text begun sectors (drop i parts)
text_step now new begun sectors own others parts i part below is front back written =
    let whole = text_at begun sectors parts i part below is in
    let more : now ++ parts_text begun sectors (drop i parts) ≡ now ++ part_text own part ++ parts_text part.end others (drop (i + 1) parts) =
    rw (whole, front, back) (sym (append_assoc now (part_text (take (flown_count begun part) sectors) part) (parts_text part.end (drop (flown_count begun part) sectors) (drop (i + 1) parts)))) in
    rw written (sym more)

-- the parts behind it are those of the sectors that are left
pub rest_at : (begun : ℕ) (sectors others : List LineSector) (part : LinePart) (parts : List LinePart) → Leads begun (length sectors) part parts
    → others ≡ drop (flown_count begun part) sectors → are_parts part.end (length others) parts ≡ true
rest_at begun sectors others part parts lead back =
    let left : length others ≡ length sectors - flown_count begun part = ap length back ∙ length-drop (flown_count begun part) sectors in
    rw left lead.rest
