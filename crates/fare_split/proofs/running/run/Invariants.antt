-- the name of the word is its own
use Rattle.fare_split.proofs.running.run.Given as goal

abbrev pub ghosts-search_at : goal.ghosts-search_at
ghosts-search_at g a = record { id = a.word.now.shared.table_id }
