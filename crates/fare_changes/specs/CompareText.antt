-- The text that compares what trips cost in two editions: a line an item, and the line that sums them up.
use Rattle.std.specs.Prelude.{◌≡◌, ℕ, ◌+◌, ◌-◌, Bool, true, false, ◌==◌, nat_lt, List, [], ◌∷◌, ◌++◌, length}
use Rattle.std.specs.Prelude.{Option, Some, None, sum_by, count_by, codes, decimal, if◌then◌else◌}
use Rattle.serde_json.specs.Data.{Items}
use Rattle.fare_codes.specs.Numbers.{nuc_text}
use Rattle.fare_trip.specs.FaultText.{fault_text}
use Rattle.fare_tariff.specs.Tariff.{Tariff}
use Rattle.fare_changes.specs.declared.compared.Compared.{Compared}
use Rattle.fare_changes.specs.declared.compared.Compared.TheVariants.{Faulty, Unknown, Totals}
use Rattle.fare_changes.specs.declared.outcome.Outcome.{Outcome}
use Rattle.fare_changes.specs.declared.outcome.Outcome.TheVariants.{Same, Dearer, Cheaper, Opened, Closed, Neither}
use Rattle.fare_changes.specs.declared.outcome.Outcome.TheVariants.{Fault}
use Rattle.fare_changes.specs.Compared.{AreCompared}

-- a total, `-` where no construction is lawful
abbrev pub total_text : Option ℕ → List ℕ
total_text None = codes "-"
total_text (Some total) = nuc_text total

-- the change of an amount to another: the difference behind `+` or `-`, or `0.00`
unfoldable pub change_text : ℕ → ℕ → List ℕ
change_text old new =
    if old == new then codes "0.00"
    else (if nat_lt old new then codes "+" ++ nuc_text (new - old) else codes "-" ++ nuc_text (old - new))

-- the change of a total to another, `-` where one of them isn't there
abbrev pub total_change : Option ℕ → Option ℕ → List ℕ
total_change (Some old) (Some new) = change_text old new
total_change _ _ = codes "-"

-- what stands behind the number of an item: its fault, the point that is unknown, or its totals and their change
unfoldable pub words_of : Compared → List ℕ
words_of (Faulty fault) = codes "FAULT " ++ fault_text fault
words_of (Unknown city) = codes "FAULT UNKNOWN PLACE " ++ city
words_of (Totals old new) = total_text old ++ codes " " ++ total_text new ++ codes " " ++ total_change old new

-- the line of an item
unfoldable pub item_line : ℕ → Compared → List ℕ
item_line number one = codes "ITEM " ++ decimal number ++ codes " " ++ words_of one ++ codes "\n"

-- the lines of items, the first of which has this number
abbrev pub item_lines : ℕ → List Compared → List ℕ
item_lines number [] = []
item_lines number (one ∷ rest) = item_line number one ++ item_lines (number + 1) rest

-- what became of an item: its two totals are equal, or the new one is more, or less; it has one of the two alone, or
-- neither; or it has a fault, or an unknown point
abbrev pub outcome_of : Compared → Outcome
outcome_of (Totals (Some old) (Some new)) = if old == new then Same else (if nat_lt old new then Dearer else Cheaper)
outcome_of (Totals None (Some new)) = Opened
outcome_of (Totals (Some old) None) = Closed
outcome_of (Totals None None) = Neither
outcome_of _ = Fault

-- two outcomes are the same
abbrev pub same_outcome : Outcome → Outcome → Bool
same_outcome Same Same = true
same_outcome Dearer Dearer = true
same_outcome Cheaper Cheaper = true
same_outcome Opened Opened = true
same_outcome Closed Closed = true
same_outcome Neither Neither = true
same_outcome Fault Fault = true
same_outcome _ _ = false

-- how many items have an outcome
abbrev pub count_of : Outcome → List Compared → ℕ
count_of outcome compared = count_by (λ one. same_outcome outcome (outcome_of one)) compared

-- the old total of an item that has both
abbrev pub old_total : Compared → ℕ
old_total (Totals (Some old) (Some new)) = old
old_total _ = 0

-- the new total of an item that has both
abbrev pub new_total : Compared → ℕ
new_total (Totals (Some old) (Some new)) = new
new_total _ = 0

-- the seven counts, each behind its name; they add up to that of the items
unfoldable pub counts_text : List Compared → List ℕ
counts_text compared =
    codes " same " ++ decimal (count_of Same compared) ++ codes " dearer " ++ decimal (count_of Dearer compared)
    ++ codes " cheaper " ++ decimal (count_of Cheaper compared) ++ codes " opened " ++ decimal (count_of Opened compared)
    ++ codes " closed " ++ decimal (count_of Closed compared) ++ codes " none " ++ decimal (count_of Neither compared)
    ++ codes " faults " ++ decimal (count_of Fault compared)

-- the sums of the totals of the items that have both, and their change
unfoldable pub sums_text : List Compared → List ℕ
sums_text compared =
    codes " old " ++ nuc_text (sum_by old_total compared) ++ codes " new " ++ nuc_text (sum_by new_total compared)
    ++ codes " change " ++ change_text (sum_by old_total compared) (sum_by new_total compared)

-- the last line: the numbers of the editions, how many items there are, the counts and the sums
unfoldable pub sum_line : ℕ → ℕ → List Compared → List ℕ
sum_line old new compared =
    codes "COMPARE " ++ decimal old ++ codes " " ++ decimal new ++ codes " items " ++ decimal (length compared)
    ++ counts_text compared ++ sums_text compared ++ codes "\n"

-- the whole text
unfoldable pub compare_text : ℕ → ℕ → List Compared → List ℕ
compare_text old new compared = item_lines 1 compared ++ sum_line old new compared

-- over two editions: the text of the items as they are compared in these
abbrev pub IsCompareText : Tariff → Tariff → Items → List ℕ → Type 0
IsCompareText old new items text =
    (compared : List Compared) × AreCompared old new items compared
    × (text ≡ compare_text old.number new.number compared)
