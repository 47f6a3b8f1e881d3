-- The text of what would make a trip cheaper.
use Rattle.std.specs.Prelude.{◌≡◌, ℕ, List, ◌++◌, Option, Some, None, codes, decimal}
use Rattle.std.specs.List.{flat_map}
use Rattle.fare_codes.specs.Numbers.{nuc_text}
use Rattle.fare_trip.specs.Itinerary.{Itinerary}
use Rattle.fare_tariff.specs.Tariff.{Tariff}
use Rattle.fare_rules.specs.declared.broken.Broken.{Broken}
use Rattle.fare_calc.specs.Answer.{edition_line, no_fare_line}
use Rattle.fare_answers.specs.Quotation.{Quotation, TellsFor}
use Rattle.fare_relaxed.specs.Terms.{term_name}
use Rattle.fare_why.specs.Explanation.{Alternative, Explanation}
use Rattle.fare_why.specs.Reasons.{Explains}

-- the line of the best price, or that there is no fare
abbrev pub best_line : Option ℕ → List ℕ
best_line None = no_fare_line
best_line (Some total) = codes "BEST " ++ nuc_text total ++ codes "\n"

-- the amount that is saved, or a dash where there is no fare to save from
abbrev pub saved_text : Option ℕ → List ℕ
saved_text None = codes "-"
saved_text (Some saved) = nuc_text saved

-- the kind with the price without it, and what that saves
abbrev pub without_line : Alternative → List ℕ
without_line shown =
    codes "WITHOUT " ++ term_name shown.term ++ codes " " ++ nuc_text shown.total
    ++ codes " SAVES " ++ saved_text shown.saves ++ codes "\n"

-- the broken rule with its place
abbrev pub broken_line : Broken → List ℕ
broken_line broken = codes "BROKEN " ++ decimal broken.rule ++ codes " " ++ decimal broken.place ++ codes "\n"

-- a reason: the kind with its price, the line, and the broken rule
unfoldable pub reason_text : Alternative → List ℕ
reason_text shown = without_line shown ++ shown.line ++ codes "\n" ++ broken_line shown.broken

-- the reasons, one after the other
abbrev pub reasons_text : List Alternative → List ℕ
reasons_text reasons = flat_map reason_text reasons

-- the line that names the edition, the line of the best price, and the reasons
unfoldable pub why_text : Tariff → Explanation → List ℕ
why_text tariff why = edition_line tariff ++ best_line why.total ++ reasons_text why.reasons

-- in an edition that knows all points of the trip: the text of what would make it cheaper
abbrev pub WhyPlaced : Itinerary → Tariff → List ℕ → Type 0
WhyPlaced trip tariff text = (why : Explanation) × Explains tariff trip why × (text ≡ why_text tariff why)

-- over the editions of a book: in the edition for the trip
unfoldable pub WhyOver : List Tariff → Itinerary → Quotation → Type 0
WhyOver editions trip quotation = TellsFor (WhyPlaced trip) editions trip quotation
