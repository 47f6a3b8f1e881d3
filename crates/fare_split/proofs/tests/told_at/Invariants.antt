-- the name of the word is its own
use Rattle.fare_split.proofs.tests.told_at.Given as goal

abbrev pub ghosts-told : goal.ghosts-told
ghosts-told a = record { id = a.word.now.shared.table_id }
