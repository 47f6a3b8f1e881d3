-- The sentence of each verdict of an audit.
use Rattle.std.specs.Prelude.{ℕ, List, ◌++◌, codes, ◌==◌, nat_le, if◌then◌else◌}
use Rattle.fare_codes.specs.Numbers.{nuc_text}
use Rattle.fare_audit.specs.declared.verdict.Verdict.{Verdict}
use Rattle.fare_audit.specs.declared.verdict.Verdict.TheVariants.{OtherTrip, NoRecord, Broken, Figures, Lawful}
use Rattle.fare_sentences.specs.BrokenWords.{broken_words}
use Rattle.fare_sentences.specs.Sentence.{around}

-- the sentence of a sector at which a line and a trip differ
abbrev pub other_trip_words : ℕ → List ℕ
other_trip_words sector =
    if sector == 0 then codes "the line begins in another city than the trip"
    else around (codes "the line and the trip differ at sector ") sector (codes "")

-- the sentence of a part with other figures, or of the number of parts plus 1
abbrev pub figures_words : ℕ → ℕ → List ℕ
figures_words parts place =
    if nat_le place parts then around (codes "the letter, the pair or the amount of part ") place (codes " is wrong")
    else codes "the figures of the parts are right, and something else of the line is wrong"

-- the sentence of a lawful line whose price is so much over the least one
unfoldable pub dearer_words : ℕ → List ℕ
dearer_words over = codes "the line is lawful, and a lawful one costs " ++ nuc_text over ++ codes " less"

-- the sentence of a lawful line, by what its price is over the least one
abbrev pub lawful_words : ℕ → List ℕ
lawful_words over = if over == 0 then codes "the line is lawful, and no lawful one costs less" else dearer_words over

-- the sentence of the verdict on a line of so many parts
abbrev pub verdict_words : ℕ → Verdict → List ℕ
verdict_words parts (OtherTrip sector) = other_trip_words sector
verdict_words parts (NoRecord place) = around (codes "no record files the fare of part ") place (codes "")
verdict_words parts (Broken broken) = broken_words broken.rule broken.place
verdict_words parts (Figures place) = figures_words parts place
verdict_words parts (Lawful price over) = lawful_words over
