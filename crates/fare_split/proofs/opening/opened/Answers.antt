use Rattle.fare_split.specs.PriceWord.{floor_of}
use Rattle.fare_split.proofs.WordLemmas.{opens}
use Rattle.fare_split.proofs.opening.opened.Goals as goal

pub of_words-requires : goal.of_words-requires
of_words-requires c = opens (floor_of c.args.table.now) c.requires.low
