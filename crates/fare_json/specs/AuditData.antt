-- The JSON answer of an audit.
use Rattle.std.specs.Prelude.{ℕ, List, length, codes}
use Rattle.serde_json.specs.Data.{Data, string, object, no_members, member}
use Rattle.fare_tariff.specs.Tariff.{Tariff}
use Rattle.fare_line.specs.Line.{CalculationLine}
use Rattle.fare_audit.specs.declared.verdict.Verdict.{Verdict}
use Rattle.fare_audit.specs.declared.verdict.Verdict.TheVariants.{OtherTrip, NoRecord, Broken, Figures, Lawful}
use Rattle.fare_sentences.specs.VerdictWords.{verdict_words}
use Rattle.fare_json.specs.QuotationData.{count, edition_data, money}

-- a verdict is its name, its numbers and its sentence
abbrev pub named_data : Verdict → List ℕ → Data
named_data (OtherTrip sector) words =
    object (member (codes "name") (string (codes "OTHER TRIP"))
    (member (codes "sector") (count sector)
    (member (codes "words") (string words) no_members)))
named_data (NoRecord place) words =
    object (member (codes "name") (string (codes "NO RECORD"))
    (member (codes "part") (count place)
    (member (codes "words") (string words) no_members)))
named_data (Broken broken) words =
    object (member (codes "name") (string (codes "BROKEN"))
    (member (codes "place") (count broken.place)
    (member (codes "rule") (count broken.rule)
    (member (codes "words") (string words) no_members))))
named_data (Figures place) words =
    object (member (codes "name") (string (codes "FIGURES"))
    (member (codes "part") (count place)
    (member (codes "words") (string words) no_members)))
named_data (Lawful price over) words =
    object (member (codes "name") (string (codes "LAWFUL"))
    (member (codes "over") (money over)
    (member (codes "price") (money price)
    (member (codes "words") (string words) no_members))))

-- the verdict on a line
unfoldable pub verdict_data : CalculationLine → Verdict → Data
verdict_data line verdict = named_data verdict (verdict_words (length line.parts) verdict)

-- the verdict on a line in an edition
unfoldable pub audit_data : Tariff → CalculationLine → Verdict → Data
audit_data tariff line verdict =
    object (member (codes "edition") (edition_data tariff)
    (member (codes "verdict") (verdict_data line verdict) no_members))
