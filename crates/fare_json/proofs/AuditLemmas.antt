-- What an audit spells is the compact text of its value.
use Rattle.std.proofs.Common.{◌≡◌, ℕ, List, length, ◌++◌, refl, ap, ◌∙◌}
use Rattle.std.specs.Prelude.{codes, decimal}
use Rattle.std.proofs.lemmas.List.{append_assoc}
use Rattle.json.specs.Print.{escape_byte}
use Rattle.serde_json.specs.Data.{Data, object, no_members, member}
use Rattle.serde_json.specs.Written.{compact_text}
use Rattle.fare_tariff.specs.Tariff.{Tariff}
use Rattle.fare_line.specs.Line.{CalculationLine}
use Rattle.fare_audit.specs.declared.verdict.Verdict.{Verdict}
use Rattle.fare_audit.specs.declared.verdict.Verdict.TheVariants.{OtherTrip, NoRecord, Broken, Figures, Lawful}
use Rattle.fare_json.specs.JsonText.{json_line}
use Rattle.fare_json.specs.AuditData.{audit_data, named_data, verdict_data}
use Rattle.fare_json.specs.QuotationData.{edition_data}
use Rattle.fare_json.specs.Spelled.{audit_json, broken_json, edition_json, money_json, named_json, priced_json, string_json, verdict_json}
use Rattle.fare_sentences.specs.VerdictWords.{verdict_words}
use Rattle.fare_json.proofs.QuotationLemmas.{edition_text}
use Rattle.fare_json.proofs.TextLemmas.{five_right, seven_right}

named_text : (verdict : Verdict) (words : List ℕ) → verdict_json verdict words ≡ compact_text (named_data verdict words)
unfolding named_json broken_json priced_json string_json escape_byte
named_text (OtherTrip sector) words = five_right (codes "{\"name\":\"OTHER TRIP\",\"sector\":") (decimal sector) (codes ",\"words\":") (string_json words) (codes "}")
named_text (NoRecord place) words = five_right (codes "{\"name\":\"NO RECORD\",\"part\":") (decimal place) (codes ",\"words\":") (string_json words) (codes "}")
named_text (Broken broken) words =
    let first : List ℕ = codes "{\"name\":\"BROKEN\",\"place\":" in
    append_assoc first (decimal broken.place) (named_json (codes ",\"rule\":") broken.rule words)
    ∙ ap (λ (t : List ℕ). first ++ (decimal broken.place ++ t)) (five_right (codes ",\"rule\":") (decimal broken.rule) (codes ",\"words\":") (string_json words) (codes "}"))
named_text (Figures place) words = five_right (codes "{\"name\":\"FIGURES\",\"part\":") (decimal place) (codes ",\"words\":") (string_json words) (codes "}")
named_text (Lawful price over) words =
    seven_right (codes "{\"name\":\"LAWFUL\",\"over\":") (money_json over) (codes ",\"price\":") (money_json price) (codes ",\"words\":") (string_json words) (codes "}")

-- an object with the edition and the verdict, and LF
whole : List ℕ → List ℕ → List ℕ
whole edition verdict = codes "{\"edition\":" ++ edition ++ codes ",\"verdict\":" ++ verdict ++ codes "}\n"

whole_text : (edition verdict : Data) → whole (compact_text edition) (compact_text verdict) ≡ json_line (object (member (codes "edition") edition (member (codes "verdict") verdict no_members)))
unfolding whole escape_byte
whole_text edition verdict = simp append_assoc refl

pub audit_text : (tariff : Tariff) (line : CalculationLine) (verdict : Verdict) (words : List ℕ) → words ≡ verdict_words (length line.parts) verdict → audit_json tariff verdict words ≡ json_line (audit_data tariff line verdict)
unfolding audit_json audit_data verdict_data whole
audit_text tariff line verdict words are =
    let said = verdict_words (length line.parts) verdict in
    ap (λ (w : List ℕ). whole (edition_json tariff) (verdict_json verdict w)) are
    ∙ ap (λ (t : List ℕ). whole t (verdict_json verdict said)) (edition_text tariff)
    ∙ ap (λ (t : List ℕ). whole (compact_text (edition_data tariff)) t) (named_text verdict said)
    ∙ whole_text (edition_data tariff) (named_data verdict said)
