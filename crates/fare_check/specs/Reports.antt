-- A report that is being written.
use Rattle.std.specs.Prelude.{ℕ, ◌≡◌, ◌+◌, ◌-◌, List, ◌++◌, length, take}
use Rattle.std.specs.List.{concat}
use Rattle.fare_check.specs.declared.report.Report.{Report}
use Rattle.fare_check.specs.declared.report.TheConstants.{MOST_LINES}
use Rattle.fare_check.specs.CheckText.{more_line}

-- the text of a report once these lines have been told too
unfoldable pub finished : Report → List (List ℕ) → List ℕ
finished report lines =
    report.text.items ++ concat (take (MOST_LINES - report.count) lines)
    ++ more_line (report.count + length lines - MOST_LINES)

-- after some lines were told and with others still to be told, a report comes to what it came to before with both
pub record ComesTo (before : Report) (both : List (List ℕ)) (after : Report) (others : List (List ℕ)) : Type 0 where
  pub text : finished after others ≡ finished before both
  pub count : after.count + length others ≡ before.count + length both

-- a report was told these lines
abbrev pub WasTold : Report → List (List ℕ) → Report → Type 0
WasTold before lines after = (others : List (List ℕ)) → ComesTo before (lines ++ others) after others
