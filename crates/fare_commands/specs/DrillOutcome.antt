-- What `drill` answers.
use Rattle.std.specs.Prelude.{◌≡◌, ℕ, List, length, Option, Ok}
use Rattle.fare_rules.specs.Best.{IsBestAnswer}
use Rattle.fare_rules.specs.declared.part.Part.{Part}
use Rattle.fare_drill.specs.Drill.{drill_tariff, drill_trip}
use Rattle.fare_drill.specs.Summary.{drill_text}
use Rattle.fare_commands.specs.Answer.{Answer, done}

-- the answer to a drill: the text that sums it up, with the best construction of its trip in its edition
abbrev pub Drills : ℕ → ℕ → ℕ → Answer → Type 0
Drills seed sectors extra answer =
    (best : Option (List Part × ℕ)) × IsBestAnswer (drill_tariff seed sectors extra) (drill_trip sectors) best
    × (answer ≡ Ok (done (drill_text seed sectors (length (drill_tariff seed sectors extra).records) best)))
