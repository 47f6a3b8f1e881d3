-- What the text of a line is read as.
use Rattle.std.proofs.Common.{◌≡◌, ℕ, true, List, Result, Ok, Err}
use Rattle.std.specs.Prelude.{IfErr, IfOk}
use Rattle.fare_line.specs.declared.reading.BadLine.{BadLine}
use Rattle.fare_line.specs.Line.{CalculationLine, is_line}
use Rattle.fare_line.specs.LineText.{line_text}
use Rattle.fare_line.specs.LongestFront.{IsLongestFront}
use Rattle.fare_audit.specs.AuditText.{IsLineReading}

-- the reader's answer is what a text is read as
pub line_reading : (text : List ℕ) (answer : Result CalculationLine BadLine)
    → IfOk answer (λ line. (is_line line ≡ true) × (line_text line ≡ text))
    → ((line : CalculationLine) → is_line line ≡ true → line_text line ≡ text → answer ≡ Ok line)
    → IfErr answer (λ bad. IsLongestFront text bad.0) → IsLineReading text answer
line_reading text (Ok line) found only bad = found
line_reading text (Err fault) found only bad = (λ line is. cc (only line is.0 is.1), bad)
