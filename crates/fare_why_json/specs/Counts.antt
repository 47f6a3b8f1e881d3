-- The counts of a reason that a reader takes as numbers.
use Rattle.fare_why.specs.Explanation.{Alternative}
use Rattle.fare_json.specs.Counts.{IsCount}

-- the number of the broken rule, and its place
abbrev pub AreReasonCounts : Alternative → Type 0
AreReasonCounts shown = IsCount shown.broken.place × IsCount shown.broken.rule
