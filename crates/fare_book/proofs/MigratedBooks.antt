-- A book and its bodies after a migration.
use Rattle.std.proofs.Common.{◌≡◌, ◌∙◌, ◌≤◌, ℕ, inl, inr, List, [], length, map, Option, Some, None, Result, Ok, Err, true, Bool, IfSome, IfOk, IfErr, OnOk, refl, sym, ap, arith}
use Rattle.std.specs.Prelude.{count_by}
use Rattle.std.specs.Option.{ForSome}
use Rattle.fare_ports.specs.Keeper.{ToldAfter, BodiesStay}
use Rattle.fare_tariff.specs.Tariff.{Tariff}
use Rattle.fare_csv.specs.TariffText.{edition_of}
use Rattle.fare_book.specs.declared.restore_fault.RestoreFault.{RestoreFault}
use Rattle.fare_book.specs.declared.restore_fault.RestoreFault.TheVariants.{Memory, KeeperFault, Damaged}
use Rattle.fare_book.specs.BodiesInWords.{AreEditionsOf}
use Rattle.fare_book.specs.Book.{BookState}
use Rattle.fare_book.specs.Editions.{DamageAt, editions_of}
use Rattle.fare_book.specs.Migration.{IsCutOff, IsMigrated, LeavesBook, Migrates, ReadAs, SameEditions, StopsShort, canonical_body, is_old}
use Rattle.fare_book.specs.Reopens.{Stay, Told}
use Rattle.fare_book.specs.Restored.{Gives}
use Rattle.fare_book.proofs.Migrations.{as_many, none_old}
use Rattle.fare_book.proofs.WordsOfBodies.{editions_in_words, words_of_editions}

-- a restoring's answer is that of the bodies, where they are told
abbrev pub Restores : Told → Result BookState RestoreFault → Type 0
Restores told answer = IfSome told (λ bodies. Gives (λ (book : BookState). book.editions) answer (editions_of bodies))

-- a restoring that is refused changes nothing
pub not_restored : (before after : Told) (book : BookState) (fault : RestoreFault) → Stay before after → Restores after (Err fault) → ToldAfter before after (Migrates book book (Err fault))
not_restored before None book fault stay gives = tt
not_restored None (Some new) book fault stay gives = absurd stay
not_restored (Some old) (Some new) book Memory stay gives = inl (refl, stay)
not_restored (Some old) (Some new) book KeeperFault stay gives = inl (refl, stay)
not_restored (Some old) (Some new) book (Damaged place damage) stay gives =
    let found : editions_of old ≡ Err (record { place = place; damage = damage }) = rw stay at gives in (found, refl, stay)

pub book_left : (book : BookState) (fault : RestoreFault) → LeavesBook book book (Err fault)
book_left book Memory = inl refl
book_left book KeeperFault = inl refl
book_left book (Damaged place damage) = refl

pub book_settled : (old new : BookState) (answer : Result ℕ RestoreFault) → new.settled ≡ true → IfErr answer IsCutOff → LeavesBook old new answer
book_settled old new (Ok count) settled cut = settled
book_settled old new (Err Memory) settled cut = inr settled
book_settled old new (Err KeeperFault) settled cut = inr settled
book_settled old new (Err (Damaged place damage)) settled cut = absurd cut

-- the bodies of a restored book are read as its editions
pub read_each : (told : Told) (book : BookState) → Restores told (Ok book) → ForSome told (ReadAs book.editions)
read_each None book gives = λ bodies e. absurd cc
read_each (Some bodies) book gives =
    λ other e.
    let same : bodies ≡ other = cc in
    rw (← same) ((editions_in_words bodies book.editions gives).each)

-- what a migration of a restored book answers
pub answered : (before middle after : Told) (old new : BookState) (answer : Result ℕ RestoreFault) → Stay before middle → Restores middle (Ok new) → new.settled ≡ true → IfOk answer (λ count. ToldAfter middle after (IsMigrated count)) → IfErr answer (λ _. ToldAfter middle after StopsShort) → IfErr answer IsCutOff → ToldAfter before after (Migrates old new answer)
answered before middle None old new answer stay gives settled ok err cut = tt
answered before None (Some last) old new (Ok count) stay gives settled ok err cut = absurd ok
answered before None (Some last) old new (Err fault) stay gives settled ok err cut = absurd err
answered None (Some middle) (Some last) old new answer stay gives settled ok err cut = absurd stay
answered (Some first) (Some middle) (Some last) old new (Ok count) stay gives settled ok err cut =
    let whole : editions_of first ≡ Ok new.editions = rw stay at gives in
    let bodies : last ≡ map canonical_body first = rw stay at ok.0 in
    let told : count ≡ count_by is_old first = rw stay at ok.1 in
    ((settled, whole), told, bodies)
answered (Some first) (Some middle) (Some last) old new (Err Memory) stay gives settled ok err cut =
    let whole : editions_of first ≡ Ok new.editions = rw stay at gives in
    inr ((settled, whole), rw stay at err.0)
answered (Some first) (Some middle) (Some last) old new (Err KeeperFault) stay gives settled ok err cut =
    let whole : editions_of first ≡ Ok new.editions = rw stay at gives in
    inr ((settled, whole), rw stay at err.0)
answered (Some first) (Some middle) (Some last) old new (Err (Damaged place damage)) stay gives settled ok err cut = absurd cut

-- bodies that are read alike stand for the same editions
read_alike : (before after : List (List ℕ)) (editions : List Tariff) → editions_of before ≡ Ok editions → map edition_of after ≡ map edition_of before → editions_of after ≡ editions_of before
read_alike before after editions e same =
    let words = editions_in_words before editions e in
    let size = as_many after before same in
    let limit = words.in_limit in
    let are : AreEditionsOf after editions = record {
      in_limit = omega arith;
      each = same ∙ words.each;
      distinct = words.distinct;
    } in
    words_of_editions after editions are ∙ sym e

pub editions_stay : (before after : Told) → Stay before after → ToldAfter before after SameEditions
editions_stay before None stay = tt
editions_stay None (Some new) stay = absurd stay
editions_stay (Some old) (Some new) stay = ap editions_of stay

pub same_editions : (before middle after : Told) (book : BookState) (answer : Result ℕ RestoreFault) → Stay before middle → Restores middle (Ok book) → IfOk answer (λ count. ToldAfter middle after (IsMigrated count)) → IfErr answer (λ _. ToldAfter middle after StopsShort) → ToldAfter before after SameEditions
same_editions before middle None book answer stay gives ok err = tt
same_editions before None (Some last) book (Ok count) stay gives ok err = absurd ok
same_editions before None (Some last) book (Err fault) stay gives ok err = absurd err
same_editions None (Some middle) (Some last) book answer stay gives ok err = absurd stay
same_editions (Some first) (Some middle) (Some last) book (Ok count) stay gives ok err =
    read_alike middle last book.editions gives ok.2 ∙ ap editions_of stay
same_editions (Some first) (Some middle) (Some last) book (Err fault) stay gives ok err =
    read_alike middle last book.editions gives err.1 ∙ ap editions_of stay

-- after a migration no body is in another spelling
pub all_canonical : (middle after : Told) (answer : Result ℕ RestoreFault) → IfOk answer (λ count. ToldAfter middle after (IsMigrated count)) → OnOk answer (IfSome after (λ bodies. count_by is_old bodies ≡ 0))
all_canonical middle None (Ok count) ok = tt
all_canonical None (Some last) (Ok count) ok = absurd ok
all_canonical (Some middle) (Some last) (Ok count) ok =
    let read : map edition_of (map canonical_body middle) ≡ map edition_of middle = rw ok.0 at ok.2 in
    rw ok.0 (none_old middle read)
all_canonical middle after (Err fault) ok = tt
