-- Reports that were told lines.
use Rattle.std.proofs.Common.{◌≡◌, ◌<◌, ◌≤◌, ℕ, ◌+◌, ◌-◌, zero, suc, List, [], ◌∷◌, ◌++◌, length, take, refl, ap, sym, ◌∙◌, arith, append_assoc, length-append, subst, zero-add}
use Rattle.std.specs.Prelude.{Result, Ok, Err, OnOk}
use Rattle.std.proofs.lemmas.List.{append-nil}
use Rattle.std.specs.List.{concat}
use Rattle.fare_check.specs.declared.report.Report.{Report}
use Rattle.fare_check.specs.CheckText.{lines_text, more_line}
use Rattle.fare_check.specs.Reports.{ComesTo, WasTold, finished}

-- one after another
onward : {a b c : Report} (xs ys zs : List (List ℕ)) → ComesTo a xs b ys → ComesTo b ys c zs → ComesTo a xs c zs
onward xs ys zs first second = record { text = second.text ∙ first.text; count = second.count ∙ first.count }

-- no line
pub told_none : (report : Report) → WasTold report [] report
told_none report = λ others. record { text = refl; count = refl }

-- what is shown of lines, with one in front
shown_one : (k n : ℕ) (line : List ℕ) (lines : List (List ℕ)) → k ≡ suc n → concat (take k (line ∷ lines)) ≡ line ++ concat (take n lines)
shown_one k n line lines e = ap (λ m. concat (take m (line ∷ lines))) e

hidden_one : (k n : ℕ) (line : List ℕ) (lines : List (List ℕ)) → k ≡ 0 → n ≡ 0 → concat (take n lines) ≡ concat (take k (line ∷ lines))
hidden_one k n line lines e f = ap (λ m. concat (take m lines)) f ∙ sym (ap (λ m. concat (take m (line ∷ lines))) e)

same_count : (count after : ℕ) (line : List ℕ) (lines : List (List ℕ)) → after ≡ count + 1 → after + length lines ≡ count + length (line ∷ lines)
same_count count after line lines e = omega (arith, e)

-- a line that is shown
pub told_shown : (before after : Report) (line : List ℕ) → after.text.items ≡ before.text.items ++ line → after.count ≡ before.count + 1 → before.count < 100 → WasTold before (line ∷ []) after
unfolding finished
told_shown before after line text count few = λ others.
    let more : 100 - before.count ≡ suc (100 - after.count) = omega (arith, count, few) in
    let sum : after.count + length others ≡ before.count + length (line ∷ others) = same_count before.count after.count line others count in
    record {
      text =
          (λ i. text i ++ concat (take (100 - after.count) others) ++ more_line (sum i - 100))
          ∙ ap (λ t. t ++ more_line (before.count + length (line ∷ others) - 100))
          (append_assoc before.text.items line (concat (take (100 - after.count) others))
          ∙ ap (λ t. before.text.items ++ t) (sym (shown_one (100 - before.count) (100 - after.count) line others more)));
      count = sum;
    }

-- a line that is counted alone
pub told_hidden : (before after : Report) (line : List ℕ) → after.text.items ≡ before.text.items → after.count ≡ before.count + 1 → 100 ≤ before.count → WasTold before (line ∷ []) after
unfolding finished
told_hidden before after line text count many = λ others.
    let none : 100 - before.count ≡ 0 = omega (arith, many) in
    let none_after : 100 - after.count ≡ 0 = omega (arith, count, many) in
    let sum : after.count + length others ≡ before.count + length (line ∷ others) = same_count before.count after.count line others count in
    let shown : concat (take (100 - after.count) others) ≡ concat (take (100 - before.count) (line ∷ others)) = hidden_one (100 - before.count) (100 - after.count) line others none none_after in
    record {
      text = λ i. text i ++ shown i ++ more_line (sum i - 100);
      count = sum;
    }

-- lines that are counted alone
pub told_more : (before after : Report) (lines : List (List ℕ)) → after.text.items ≡ before.text.items → after.count ≡ before.count + length lines → 100 ≤ before.count → WasTold before lines after
unfolding finished
told_more before after lines text count many = λ others.
    let none : 100 - before.count ≡ 0 = omega (arith, many) in
    let none_after : 100 - after.count ≡ 0 = omega (arith, count, many) in
    let sum : after.count + length others ≡ before.count + length (lines ++ others) = omega (arith, count, length-append lines others) in
    record {
      text =
          (λ i. text i ++ concat (take (none_after i) others) ++ more_line (sum i - 100))
          ∙ (λ i. before.text.items ++ concat (take (sym none i) (lines ++ others)) ++ more_line (before.count + length (lines ++ others) - 100));
      count = sum;
    }

pub counts_more : {A E : Type 0} (r : Result A E) (before after : Report) (more : ℕ) (lines : List (List ℕ)) → 100 ≤ before.count → length lines ≡ more → OnOk r (after ≡ record before { count = before.count + more }) → OnOk r (WasTold before lines after)
counts_more (Ok value) before after more lines many all is =
    told_more before after lines (ap (λ (t : Report). t.text.items) is) (ap (λ (t : Report). t.count) is ∙ ap (λ n. before.count + n) (sym all)) many
counts_more (Err fault) before after more lines many all is = tt

-- a new report
pub told_nothing : (report : Report) (lines : List (List ℕ)) → report.text.items ≡ [] → report.count ≡ 0 → finished report lines ≡ lines_text lines
unfolding finished lines_text
told_nothing report lines text count =
    (λ i. text i ++ concat (take (100 - count i) lines) ++ more_line (count i + length lines - 100))
    ∙ ap (λ n. concat (take 100 lines) ++ more_line (n - 100)) (zero-add (length lines))

-- a report to which nothing is added
pub told_all : (report : Report) → finished report [] ≡ report.text.items ++ more_line (report.count - 100)
unfolding finished
told_all report =
    let count : report.count + length {A = List ℕ} [] ≡ report.count = omega arith in
    (λ i. report.text.items ++ concat (take (100 - report.count) []) ++ more_line (count i - 100)) ∙ ap (λ t. t ++ more_line (report.count - 100)) (none (100 - report.count))
  where
    none : (k : ℕ) → report.text.items ++ concat (take k []) ≡ report.text.items
    none zero = append-nil report.text.items
    none (suc k) = append-nil report.text.items

-- of all lines that a report is to be told some are left
abbrev pub StillToTell : Report → List (List ℕ) → Report → List (List ℕ) → Type 0
StillToTell before all after left = (others : List (List ℕ)) → ComesTo before (all ++ others) after (left ++ others)

pub all_left : (report : Report) (all : List (List ℕ)) → StillToTell report all report all
all_left report all = λ others. record { text = refl; count = refl }

pub fewer_left : {before now after : Report} (all left lines more : List (List ℕ)) → StillToTell before all now left → left ≡ lines ++ more → WasTold now lines after → StillToTell before all after more
fewer_left {before} {now} {after} all left lines more so_far split told = λ others.
    let whole : left ++ others ≡ lines ++ (more ++ others) = ap (λ t. t ++ others) split ∙ append_assoc lines more others in
    let first : ComesTo before (all ++ others) now (lines ++ (more ++ others)) = subst (λ t. ComesTo before (all ++ others) now t) whole (so_far others) in
    onward (all ++ others) (lines ++ (more ++ others)) (more ++ others) first (told (more ++ others))

pub none_left : {before now after : Report} (all left : List (List ℕ)) → StillToTell before all now left → WasTold now left after → WasTold before all after
none_left all left so_far told = λ others. onward (all ++ others) (left ++ others) others (so_far others) (told others)

pub nothing_left : {before now : Report} (all left : List (List ℕ)) → StillToTell before all now left → left ≡ [] → WasTold before all now
nothing_left {before} {now} all left so_far none = λ others. subst (λ t. ComesTo before (all ++ others) now (t ++ others)) none (so_far others)

-- the same lines
pub same_told : {A E : Type 0} (r : Result A E) (before after : Report) (lines others : List (List ℕ)) → lines ≡ others → OnOk r (WasTold before lines after) → OnOk r (WasTold before others after)
same_told (Ok value) before after lines others same told = subst (λ l. WasTold before l after) same told
same_told (Err fault) before after lines others same told = tt

-- what is left is told at last
pub ends_told : {A E : Type 0} (r : Result A E) (before now after : Report) (all left lines : List (List ℕ)) → StillToTell before all now left → left ≡ lines → OnOk r (WasTold now lines after) → OnOk r (WasTold before all after)
ends_told (Ok value) before now after all left lines so_far same told = none_left {before = before} {now = now} {after = after} all left so_far (subst (λ l. WasTold now l after) (sym same) told)
ends_told (Err fault) before now after all left lines so_far same told = tt

-- a line that is counted alone, and one that is shown, where the count is raised
pub counts_line : {A E : Type 0} (r : Result A E) (before after : Report) (line : List ℕ) → 100 ≤ before.count → OnOk r (after ≡ record before { count = before.count + 1 }) → OnOk r (WasTold before (line ∷ []) after)
counts_line (Ok value) before after line many is = told_hidden before after line (ap (λ (t : Report). t.text.items) is) (ap (λ (t : Report). t.count) is) many
counts_line (Err fault) before after line many is = tt

pub shows_line : {A E : Type 0} (r : Result A E) (before now after : Report) (line : List ℕ) → before.count < 100 → now.text.items ≡ before.text.items ++ line → now.count ≡ before.count → OnOk r (after ≡ record now { count = now.count + 1 }) → OnOk r (WasTold before (line ∷ []) after)
shows_line (Ok value) before now after line few text count is = told_shown before after line (ap (λ (t : Report). t.text.items) is ∙ text) (ap (λ (t : Report). t.count) is ∙ ap (λ n. n + 1) count) few
shows_line (Err fault) before now after line few text count is = tt
