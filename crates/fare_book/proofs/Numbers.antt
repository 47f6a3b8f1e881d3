-- The numbers of editions.
use Rattle.std.proofs.Common.{◌≡◌, ◌≢◌, ℕ, ◌<◌, suc, zero, List, [], ◌∷◌, ◌++◌, length, get_or, Option, Some, None, true, false, Bool, cond, arith, eq-eqb, length-append}
use Rattle.std.proofs.lemmas.List.Quantifiers.{all_pairs_push}
use Rattle.fare_tariff.specs.Tariff.{Tariff}
use Rattle.fare_book.specs.Book.{IsBook, HaveOtherNumbers, numbered, has_number}

-- nothing is found at the first edition, nor behind it
found_none : (test : Bool) (one : Tariff) (others : Option Tariff) → cond test (Some one) others ≡ None → (test ≡ false) × (others ≡ None)
found_none true one others e = cc
found_none false one others e = (cc, e)

-- where nothing is found, no edition has the number
pub none_has : (number : ℕ) (editions : List Tariff) → numbered number editions ≡ None → (k : ℕ) (d : Tariff) → k < length editions → (get_or editions k d).number ≢ number
none_has number [] e k d h = absurd (omega arith)
none_has number (one ∷ editions) e zero d h =
    λ same. let yes = eq-eqb one.number number same in let no = (found_none (has_number number one) one (numbered number editions) e).0 in cc
none_has number (one ∷ editions) e (suc k) d h =
    none_has number editions (found_none (has_number number one) one (numbered number editions) e).1 k d (omega arith)

-- an edition of a new number stands behind others
pub book-push : (editions : List Tariff) (edition : Tariff) → IsBook editions → length editions < 32 → numbered edition.number editions ≡ None → IsBook (editions ++ edition ∷ [])
book-push editions edition book room new = record {
  at_most_32 = omega (arith, length-append editions (edition ∷ []));
  distinct = all_pairs_push HaveOtherNumbers editions edition book.distinct (none_has edition.number editions new);
}

-- no edition is a book
pub book-nil : IsBook []
book-nil = record {
  at_most_32 = omega arith;
  distinct = λ i j d before within. absurd (omega arith);
}
