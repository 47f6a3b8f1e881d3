-- How what would make a trip cheaper is spelled, piece by piece, as it is written.
use Rattle.std.specs.Prelude.{ℕ, List, ◌++◌, Option, Some, None, codes, decimal}
use Rattle.fare_tariff.specs.Tariff.{Tariff}
use Rattle.fare_rules.specs.declared.broken.Broken.{Broken}
use Rattle.fare_relaxed.specs.Terms.{term_name}
use Rattle.fare_why.specs.Explanation.{Alternative, Explanation}
use Rattle.fare_sentences.specs.BrokenWords.{broken_words}
use Rattle.fare_json.specs.Spelled.{array_json, edition_json, money_json, string_json}

-- an amount, where there is one
abbrev pub money_if_json : Option ℕ → List ℕ
money_if_json None = codes "null"
money_if_json (Some hundredths) = money_json hundredths

-- a broken rule
unfoldable pub broken_json : Broken → List ℕ
broken_json broken =
    codes "{\"place\":" ++ decimal broken.place ++ codes ",\"rule\":" ++ decimal broken.rule
    ++ codes ",\"words\":" ++ string_json (broken_words broken.rule broken.place) ++ codes "}"

-- a reason
unfoldable pub reason_json : Alternative → List ℕ
reason_json shown =
    codes "{\"broken\":" ++ broken_json shown.broken ++ codes ",\"kind\":" ++ string_json (term_name shown.term)
    ++ codes ",\"line\":" ++ string_json shown.line ++ codes ",\"saves\":" ++ money_if_json shown.saves
    ++ codes ",\"total\":" ++ money_json shown.total ++ codes "}"

-- the answer, with the LF that ends its line
unfoldable pub why_json : Tariff → Explanation → List ℕ
why_json tariff why =
    codes "{\"edition\":" ++ edition_json tariff ++ codes ",\"total\":" ++ money_if_json why.total
    ++ codes ",\"without\":" ++ array_json reason_json why.reasons ++ codes "}\n"
