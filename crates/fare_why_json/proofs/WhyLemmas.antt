-- What the reasons spell is the compact text of their value.
use Rattle.std.proofs.Common.{◌≡◌, ℕ, List, ◌++◌, map, Option, Some, None, refl, ap, ◌∙◌}
use Rattle.std.specs.Prelude.{codes}
use Rattle.std.proofs.lemmas.List.{append_assoc}
use Rattle.json.specs.Print.{escape_byte}
use Rattle.serde_json.specs.Data.{Data, array, object, string, no_members, member}
use Rattle.serde_json.specs.View.{items_of}
use Rattle.serde_json.specs.Written.{compact_text}
use Rattle.fare_tariff.specs.Tariff.{Tariff}
use Rattle.fare_rules.specs.declared.broken.Broken.{Broken}
use Rattle.fare_relaxed.specs.Terms.{term_name}
use Rattle.fare_why.specs.Explanation.{Alternative, Explanation}
use Rattle.fare_sentences.specs.BrokenWords.{broken_words}
use Rattle.fare_json.specs.JsonText.{json_line}
use Rattle.fare_json.specs.QuotationData.{count, edition_data, money}
use Rattle.fare_json.specs.Spelled.{array_json, edition_json, money_json, string_json}
use Rattle.fare_json.proofs.QuotationLemmas.{edition_text}
use Rattle.fare_json.proofs.TextLemmas.{array_text}
use Rattle.fare_why_json.specs.Spelled.{broken_json, money_if_json, reason_json, why_json}
use Rattle.fare_why_json.specs.WhyData.{broken_data, money_if, reason_data, why_data}

money_if_text : (amount : Option ℕ) → money_if_json amount ≡ compact_text (money_if amount)
unfolding string_json
money_if_text None = refl
money_if_text (Some hundredths) = refl

-- an object with what a broken rule has
broken_pieces : List ℕ → List ℕ → List ℕ → List ℕ
broken_pieces place rule words = codes "{\"place\":" ++ place ++ codes ",\"rule\":" ++ rule ++ codes ",\"words\":" ++ words ++ codes "}"

broken_pieces_text : (place rule words : Data) → broken_pieces (compact_text place) (compact_text rule) (compact_text words)
    ≡ compact_text (object (member (codes "place") place (member (codes "rule") rule (member (codes "words") words no_members))))
unfolding broken_pieces escape_byte
broken_pieces_text place rule words = simp append_assoc refl

broken_text : (broken : Broken) → broken_json broken ≡ compact_text (broken_data broken)
unfolding broken_json broken_data broken_pieces string_json
broken_text broken = broken_pieces_text (count broken.place) (count broken.rule) (string (broken_words broken.rule broken.place))

-- an object with what a reason has
reason_pieces : List ℕ → List ℕ → List ℕ → List ℕ → List ℕ → List ℕ
reason_pieces broken kind line saves total =
    codes "{\"broken\":" ++ broken ++ codes ",\"kind\":" ++ kind ++ codes ",\"line\":" ++ line ++ codes ",\"saves\":" ++ saves ++ codes ",\"total\":" ++ total ++ codes "}"

reason_pieces_text : (broken kind line saves total : Data) → reason_pieces (compact_text broken) (compact_text kind) (compact_text line) (compact_text saves) (compact_text total)
    ≡ compact_text (object (member (codes "broken") broken (member (codes "kind") kind (member (codes "line") line (member (codes "saves") saves (member (codes "total") total no_members))))))
unfolding reason_pieces escape_byte
reason_pieces_text broken kind line saves total = simp append_assoc refl

reason_text : (shown : Alternative) → reason_json shown ≡ compact_text (reason_data shown)
unfolding reason_json reason_data reason_pieces string_json
reason_text shown =
    ap (λ (t : List ℕ). reason_pieces t (string_json (term_name shown.term)) (string_json shown.line) (money_if_json shown.saves) (money_json shown.total)) (broken_text shown.broken)
    ∙ ap (λ (t : List ℕ). reason_pieces (compact_text (broken_data shown.broken)) (string_json (term_name shown.term)) (string_json shown.line) t (money_json shown.total)) (money_if_text shown.saves)
    ∙ reason_pieces_text (broken_data shown.broken) (string (term_name shown.term)) (string shown.line) (money_if shown.saves) (money shown.total)

-- an object with the edition, the price and the reasons, and LF
whole : List ℕ → List ℕ → List ℕ → List ℕ
whole edition total reasons = codes "{\"edition\":" ++ edition ++ codes ",\"total\":" ++ total ++ codes ",\"without\":" ++ reasons ++ codes "}\n"

whole_text : (edition total reasons : Data) → whole (compact_text edition) (compact_text total) (compact_text reasons) ≡ json_line (object (member (codes "edition") edition (member (codes "total") total (member (codes "without") reasons no_members))))
unfolding whole escape_byte
whole_text edition total reasons = simp append_assoc refl

pub why_text : (tariff : Tariff) (why : Explanation) → why_json tariff why ≡ json_line (why_data tariff why)
unfolding why_json why_data whole
why_text tariff why =
    let reasons : Data = array (items_of (map reason_data why.reasons)) in
    ap (λ (t : List ℕ). whole t (money_if_json why.total) (array_json reason_json why.reasons)) (edition_text tariff)
    ∙ ap (λ (t : List ℕ). whole (compact_text (edition_data tariff)) t (array_json reason_json why.reasons)) (money_if_text why.total)
    ∙ ap (λ (t : List ℕ). whole (compact_text (edition_data tariff)) (compact_text (money_if why.total)) t) (array_text reason_json reason_data reason_text why.reasons)
    ∙ whole_text (edition_data tariff) (money_if why.total) reasons

beside : (a b c d e mark list shut end : List ℕ) → a ++ b ++ c ++ d ++ (e ++ mark) ++ list ++ (shut ++ end) ≡ a ++ b ++ c ++ d ++ e ++ (mark ++ list ++ shut) ++ end
beside a b c d e mark list shut end = simp append_assoc refl

-- a list's marks may be written with what stands beside them
pub marks_beside : (edition total reasons : List ℕ) → codes "{\"edition\":" ++ edition ++ codes ",\"total\":" ++ total ++ codes ",\"without\":[" ++ reasons ++ codes "]}\n"
    ≡ codes "{\"edition\":" ++ edition ++ codes ",\"total\":" ++ total ++ codes ",\"without\":" ++ (codes "[" ++ reasons ++ codes "]") ++ codes "}\n"
marks_beside edition total reasons = beside (codes "{\"edition\":") edition (codes ",\"total\":") total (codes ",\"without\":") (codes "[") reasons (codes "]") (codes "}\n")
