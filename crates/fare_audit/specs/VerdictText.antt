-- The text of a verdict: one line.
use Rattle.std.specs.Prelude.{ℕ, List, ◌++◌, codes, decimal}
use Rattle.fare_codes.specs.Numbers.{nuc_text}
use Rattle.fare_audit.specs.declared.verdict.Verdict.{Verdict}
use Rattle.fare_audit.specs.declared.verdict.Verdict.TheVariants.{OtherTrip, NoRecord, Broken, Figures, Lawful}

-- the words of a verdict and its numbers: a sector, a part, a rule and its place, a part, or two amounts
abbrev pub verdict_words : Verdict → List ℕ
verdict_words (OtherTrip number) = codes "OTHER TRIP " ++ decimal number
verdict_words (NoRecord place) = codes "NO RECORD " ++ decimal place
verdict_words (Broken broken) = codes "BROKEN " ++ decimal broken.rule ++ codes " " ++ decimal broken.place
verdict_words (Figures place) = codes "FIGURES " ++ decimal place
verdict_words (Lawful price over) = codes "LAWFUL " ++ nuc_text price ++ codes " OVER " ++ nuc_text over

-- the line of a verdict, with the LF that ends it
abbrev pub verdict_text : Verdict → List ℕ
verdict_text verdict = verdict_words verdict ++ codes "\n"
