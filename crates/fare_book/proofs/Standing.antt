-- Bodies that stand for a book still do after a publication.
use Rattle.std.proofs.Common.{◌≡◌, ◌∙◌, ℕ, inl, inr, List, Some, None, Ok, Err, true, false, Bool, refl, sym, ap}
use Rattle.fare_ports.specs.Keeper.{WhereTold, MayAppend}
use Rattle.fare_tariff.specs.Tariff.{Tariff}
use Rattle.fare_csv.specs.TariffText.{edition_of}
use Rattle.fare_csv.specs.CanonicalText.{canonical_text}
use Rattle.fare_book.specs.declared.published.Published.TheVariants.{New, Already}
use Rattle.fare_book.specs.declared.publish_fault.PublishFault.TheVariants.{Memory, Malformed, Differs, Full, KeeperFault, Damaged}
use Rattle.fare_book.specs.Book.{BookState, settled, unsettled}
use Rattle.fare_book.specs.Editions.{DamageAt, editions_of}
use Rattle.fare_book.specs.Publish.{Answer, IsNewTo, IsOffered, MayOpen, Offers, OffersOpened, Publishes, PublishesEdition}
use Rattle.fare_book.specs.Reopens.{OpensAs, Told}
use Rattle.fare_book.specs.Stands.{IsUndamaged, KeepsStanding, Stands}
use Rattle.fare_book.proofs.EditionLists.{Found, editions_of-push}

-- a settled book is that of its editions
pub settled_is : (book : BookState) → book.settled ≡ true → book ≡ settled book.editions
settled_is book e i = record { editions = book.editions; settled = e i }

-- a book that stands opens as what its bodies stand for
pub opened_is : (book : BookState) (before after : List (List ℕ)) (opening : Found) (flag : Bool) → book.settled ≡ flag → OpensAs book (Some before) (Some after) opening → Stands book before → editions_of before ≡ opening
opened_is book before after opening true flag opens (inl e) =
    let own : opening ≡ Ok book.editions = rw flag at opens in e ∙ sym own
opened_is book before after opening true flag opens (inr w) = let off = w.0 in absurd cc
opened_is book before after opening false flag opens stands =
    let here : opening ≡ editions_of before = rw flag at opens in sym here

-- the bodies of a book that stands aren't damaged
pub no_damage : (book : BookState) (before : List (List ℕ)) (found : DamageAt) → Stands book before → editions_of before ≡ Err found → ⊥
no_damage book before found (inl e) damaged = absurd cc
no_damage book before found (inr w) damaged = let e = w.1.1 in absurd cc

-- editions and bodies that are left stand together
left_stands : (before after : List (List ℕ)) (editions : List Tariff) (new : BookState) → editions_of before ≡ Ok editions → after ≡ before → new ≡ settled editions → Stands new after
left_stands before after editions new e same is = inl (rw (same, is) e)

-- a failed append leaves a book that stands, whatever it kept
failed_stands : (before after : List (List ℕ)) (editions : List Tariff) (edition : Tariff) (new : BookState) → editions_of before ≡ Ok editions → IsNewTo editions edition → new ≡ unsettled editions → edition_of (canonical_text edition) ≡ Ok edition → MayAppend (canonical_text edition) before after → Stands new after
failed_stands before after editions edition new e fresh is read (inl same) = inl (rw (same, is) e)
failed_stands before after editions edition new e fresh is read (inr more) =
    let pushed = editions_of-push before editions edition (canonical_text edition) e fresh read in
    inr (rw is refl, (edition, rw (more, is) pushed))

-- each answer to an edition that is offered leaves a book that stands, and tells of no damage
offer_stands : (before after : List (List ℕ)) (editions : List Tariff) (edition : Tariff) (answer : Answer) (new : BookState) → editions_of before ≡ Ok editions → Offers editions edition answer new (Some before) (Some after) → Stands new after × IsUndamaged answer
offer_stands before after editions edition (Ok (New number)) new e offers =
    let pushed = editions_of-push before editions edition (canonical_text edition) e offers.1 offers.3.0 in
    (inl (rw (offers.3.1, offers.2) pushed), tt)
offer_stands before after editions edition (Ok (Already number)) new e offers = (left_stands before after editions new e offers.3 offers.2, tt)
offer_stands before after editions edition (Err (Differs number)) new e offers = (left_stands before after editions new e offers.3 offers.2, tt)
offer_stands before after editions edition (Err Full) new e offers = (left_stands before after editions new e offers.2 offers.1, tt)
offer_stands before after editions edition (Err KeeperFault) new e offers = (failed_stands before after editions edition new e offers.0 offers.1 offers.2.0 offers.2.1, tt)
offer_stands before after editions edition (Err Memory) new e offers = (left_stands before after editions new e offers.1 offers.0, tt)
offer_stands before after editions edition (Err (Malformed fault)) new e offers = absurd offers
offer_stands before after editions edition (Err (Damaged place damage)) new e offers = absurd offers

offered_stands : (old new : BookState) (edition : Tariff) (answer : Answer) (before after : List (List ℕ)) → OffersOpened old new edition answer (Some before) (Some after) → Stands old before → Stands new after × IsUndamaged answer
offered_stands old new edition answer before after made stands =
    let opened = opened_is old before after (Ok made.editions) old.settled refl made.opened stands in
    offer_stands before after made.editions edition answer new opened made.offers

memory_stands : (old new : BookState) (before after : List (List ℕ)) → MayOpen old new (Some before) (Some after) → after ≡ before → Stands old before → Stands new after
memory_stands old new before after (inl same) stay stands = rw (same, stay) stands
memory_stands old new before after (inr opens) stay stands =
    inl (rw stay (opened_is old before after (Ok new.editions) old.settled refl opens.1 stands))

keeper_stands : (old new : BookState) (edition : Tariff) (before after : List (List ℕ)) → PublishesEdition old new edition (Err KeeperFault) (Some before) (Some after) → Stands old before → Stands new after
keeper_stands old new edition before after (inl fails) stands = rw (fails.book, fails.bodies) stands
keeper_stands old new edition before after (inr made) stands =
    (offered_stands old new edition (Err KeeperFault) before after made stands).0

-- the publication of an edition in a book that stands leaves one that stands, and tells of no damage
pub edition_stands : (old new : BookState) (edition : Tariff) (answer : Answer) (before after : List (List ℕ)) → PublishesEdition old new edition answer (Some before) (Some after) → Stands old before → Stands new after × IsUndamaged answer
edition_stands old new edition (Err Memory) before after made stands = (memory_stands old new before after made.0 made.1 stands, tt)
edition_stands old new edition (Err (Malformed fault)) before after made stands = absurd made
edition_stands old new edition (Err KeeperFault) before after made stands = (keeper_stands old new edition before after made stands, tt)
edition_stands old new edition (Err (Damaged place damage)) before after made stands =
    let found : DamageAt = record { place = place; damage = damage } in
    absurd (no_damage old before found stands (opened_is old before after (Err found) old.settled refl made.0 stands))
edition_stands old new edition answer before after made stands = offered_stands old new edition answer before after made stands

-- a text's edition is offered to the open book
of_text : (old new : BookState) (bytes : List ℕ) (answer : Answer) (before after : List (List ℕ)) → IsOffered old new bytes answer (Some before) (Some after) → Stands old before → Stands new after × IsUndamaged answer
of_text old new bytes answer before after made stands =
    offered_stands old new made.edition answer before after (record { editions = made.editions; opened = made.opened; offers = made.offers }) stands

-- so does the publication of a text
pub publishes_stands : (old new : BookState) (bytes : List ℕ) (answer : Answer) (before after : List (List ℕ)) → Publishes old new bytes answer (Some before) (Some after) → Stands old before → Stands new after × IsUndamaged answer
publishes_stands old new bytes (Err Memory) before after made stands = (memory_stands old new before after made.0 made.1 stands, tt)
publishes_stands old new bytes (Err (Malformed fault)) before after made stands = (rw (made.1, made.2) stands, tt)
publishes_stands old new bytes (Err KeeperFault) before after (inl fails) stands = (rw (fails.book, fails.bodies) stands, tt)
publishes_stands old new bytes (Err KeeperFault) before after (inr made) stands = of_text old new bytes (Err KeeperFault) before after made stands
publishes_stands old new bytes (Err (Damaged place damage)) before after made stands =
    let found : DamageAt = record { place = place; damage = damage } in
    absurd (no_damage old before found stands (opened_is old before after (Err found) old.settled refl made.1 stands))
publishes_stands old new bytes answer before after made stands = of_text old new bytes answer before after made stands

pub told_stands : (before after : Told) (old new : BookState) (edition : Tariff) (answer : Answer) → PublishesEdition old new edition answer before after → WhereTold before after (KeepsStanding old new answer)
told_stands None after old new edition answer made = tt
told_stands (Some before) None old new edition answer made = tt
told_stands (Some before) (Some after) old new edition answer made = edition_stands old new edition answer before after made

-- a settled book is open as it is
own_editions : (before after : Told) (old new : BookState) (edition : Tariff) (answer : Answer) → old.settled ≡ true → OffersOpened old new edition answer before after → Offers old.editions edition answer new before after
own_editions before after old new edition answer e made =
    let opened : Ok made.editions ≡ Ok old.editions = rw e at made.opened in
    let same : made.editions ≡ old.editions = cc in
    rw same at made.offers

-- want of memory leaves a settled book
memory_settled : (before after : Told) (old new : BookState) → old.settled ≡ true → MayOpen old new before after → new ≡ settled old.editions
memory_settled before after old new e (inl same) = same ∙ settled_is old e
memory_settled before after old new e (inr opens) =
    let opened : Ok new.editions ≡ Ok old.editions = rw e at opens.1 in
    let same : new.editions ≡ old.editions = cc in
    settled_is new opens.0 ∙ ap settled same

-- each answer to an edition in a settled book
pub in_settled : (before after : Told) (old new : BookState) (edition : Tariff) (answer : Answer) → old.settled ≡ true → PublishesEdition old new edition answer before after → Offers old.editions edition answer new before after
in_settled before after old new edition (Err (Malformed fault)) e made = made
in_settled before after old new edition (Err (Damaged place damage)) e made =
    let found : DamageAt = record { place = place; damage = damage } in
    let opened : Err found ≡ Ok old.editions = rw e at made.0 in absurd cc
in_settled before after old new edition (Err KeeperFault) e (inl fails) = let off = fails.unsettled in absurd cc
in_settled before after old new edition (Err KeeperFault) e (inr made) = own_editions before after old new edition (Err KeeperFault) e made
in_settled before after old new edition (Err Memory) e made = (memory_settled before after old new e made.0, made.1)
in_settled before after old new edition answer e made = own_editions before after old new edition answer e made
