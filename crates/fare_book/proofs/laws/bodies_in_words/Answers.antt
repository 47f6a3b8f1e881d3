use Rattle.fare_book.proofs.WordsOfBodies.{damage_in_words, editions_in_words, words_of_damage, words_of_editions}
use Rattle.fare_book.proofs.laws.bodies_in_words.Goals as goal

pub returns : goal.returns
returns c = record {
  editions = λ bodies editions. (editions_in_words bodies editions, words_of_editions bodies editions);
  damage = λ bodies found. (damage_in_words bodies found, words_of_damage bodies found);
}
