-- What the members of the JSON answer make is the plain text.
use Rattle.std.proofs.Common.{◌≡◌, ℕ, List, [], ◌∷◌, ◌++◌, map, Option, Some, None, refl, ap, ◌∙◌}
use Rattle.std.specs.Prelude.{codes, flat_map}
use Rattle.fare_tariff.specs.Tariff.{Tariff}
use Rattle.fare_why.specs.Explanation.{Alternative, Explanation}
use Rattle.fare_why.specs.WhyText.{best_line, reason_text, reasons_text, saved_text, why_text}
use Rattle.fare_json.proofs.PlainLemmas.{edition_is_plain, values_back}
use Rattle.fare_why_json.specs.Plain.{plain_reason, plain_saved, plain_total, plain_why}
use Rattle.fare_why_json.specs.WhyData.{broken_data, money_if, reason_data, why_data}

total_is_plain : (total : Option ℕ) → plain_total (money_if total) ≡ best_line total
total_is_plain None = refl
total_is_plain (Some total) = refl

saved_is_plain : (saves : Option ℕ) → plain_saved (money_if saves) ≡ saved_text saves
saved_is_plain None = refl
saved_is_plain (Some saved) = refl

reason_is_plain : (shown : Alternative) → plain_reason (reason_data shown) ≡ reason_text shown
unfolding plain_reason reason_data broken_data reason_text
reason_is_plain shown = rw (saved_is_plain shown.saves) refl

reasons_are_plain : (reasons : List Alternative) → flat_map plain_reason (map reason_data reasons) ≡ reasons_text reasons
reasons_are_plain [] = refl
reasons_are_plain (shown ∷ rest) =
    ap (λ (t : List ℕ). t ++ flat_map plain_reason (map reason_data rest)) (reason_is_plain shown)
    ∙ ap (λ (t : List ℕ). reason_text shown ++ t) (reasons_are_plain rest)

pub why_is_plain : (tariff : Tariff) (why : Explanation) → plain_why (why_data tariff why) ≡ why_text tariff why
unfolding plain_why why_data why_text
why_is_plain tariff why =
    rw (values_back (map reason_data why.reasons), edition_is_plain tariff, total_is_plain why.total, reasons_are_plain why.reasons) refl
