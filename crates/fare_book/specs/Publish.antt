-- What a call answers that publishes a text, and the book and the bodies that it leaves.
use Rattle.std.specs.Prelude.{◌≡◌, ◌≢◌, ◌⊎◌, ◌≤◌, ◌<◌, ℕ, true, false, List, [], ◌∷◌, ◌++◌, length, Some, None, Result}
use Rattle.std.specs.Prelude.{Ok, Err}
use Rattle.fare_ports.specs.Keeper.{ToldAfter, BodyAppended, MayAppend}
use Rattle.fare_tariff.specs.Tariff.{Tariff}
use Rattle.fare_csv.specs.TariffText.{edition_of}
use Rattle.fare_csv.specs.CanonicalText.{canonical_text}
use Rattle.fare_book.specs.declared.published.Published.{Published}
use Rattle.fare_book.specs.declared.published.Published.TheVariants.{New, Already}
use Rattle.fare_book.specs.declared.publish_fault.PublishFault.{PublishFault}
use Rattle.fare_book.specs.declared.publish_fault.PublishFault.TheVariants.{Memory, Malformed, Differs, Full}
use Rattle.fare_book.specs.declared.publish_fault.PublishFault.TheVariants.{KeeperFault, Damaged}
use Rattle.fare_book.specs.declared.book.TheConstants.{MOST_EDITIONS}
use Rattle.fare_book.specs.Book.{BookState, numbered, settled, unsettled}
use Rattle.fare_book.specs.Reopens.{OpensAs, Stay, Told}

-- the answer to a publication
abbrev pub Answer : Type 0
Answer = Result Published PublishFault

-- no edition among these has this one's number, and there is room for one more
pub record IsNewTo (editions : List Tariff) (edition : Tariff) : Type 0 where
  pub new : numbered edition.number editions ≡ None
  pub room : length editions < MOST_EDITIONS

-- another edition of this one's number stands among these: another effective day, or other records
abbrev pub HasOther : List Tariff → Tariff → Type 0
HasOther editions edition = (kept : Tariff) × (numbered edition.number editions ≡ Some kept) × (kept ≢ edition)

-- no edition among these has this one's number, and they are as many as a book holds
pub record HasNoRoom (editions : List Tariff) (edition : Tariff) : Type 0 where
  pub new : numbered edition.number editions ≡ None
  pub full : MOST_EDITIONS ≤ length editions

-- the edition's canonical text is read back as the edition, and was put behind the bodies
abbrev pub Stores : Tariff → Told → Told → Type 0
Stores edition before after =
    (edition_of (canonical_text edition) ≡ Ok edition) × ToldAfter before after (BodyAppended (canonical_text edition))

-- the edition's canonical text is read back as the edition, and was put behind the bodies or not
abbrev pub MayStore : Tariff → Told → Told → Type 0
MayStore edition before after =
    (edition_of (canonical_text edition) ≡ Ok edition) × ToldAfter before after (MayAppend (canonical_text edition))

-- the answer to an edition that is offered to an open book of these editions, and what it leaves: a new edition becomes
-- the last; every other answer leaves the editions, and only a failed append leaves the book unsettled
abbrev pub Offers : List Tariff → Tariff → Answer → BookState → Told → Told → Type 0
Offers editions edition (Ok (New number)) new before after =
    (number ≡ edition.number) × IsNewTo editions edition × (new ≡ settled (editions ++ edition ∷ []))
    × Stores edition before after
Offers editions edition (Ok (Already number)) new before after =
    (number ≡ edition.number) × (numbered edition.number editions ≡ Some edition) × (new ≡ settled editions)
    × Stay before after
Offers editions edition (Err (Differs number)) new before after =
    (number ≡ edition.number) × HasOther editions edition × (new ≡ settled editions) × Stay before after
Offers editions edition (Err Full) new before after =
    HasNoRoom editions edition × (new ≡ settled editions) × Stay before after
Offers editions edition (Err KeeperFault) new before after =
    IsNewTo editions edition × (new ≡ unsettled editions) × MayStore edition before after
Offers editions edition (Err Memory) new before after = (new ≡ settled editions) × Stay before after
Offers editions edition (Err (Malformed fault)) new before after = ⊥
Offers editions edition (Err (Damaged place damage)) new before after = ⊥

-- a text is read, the book is opened, and the text's edition is offered to it
pub record IsOffered (old new : BookState) (bytes : List ℕ) (answer : Answer) (before after : Told) : Type 0 where
  pub edition : Tariff
  pub editions : List Tariff
  pub readable : edition_of bytes ≡ Ok edition
  pub opened : OpensAs old before after (Ok editions)
  pub offers : Offers editions edition answer new before after

-- the book is opened, and the edition is offered to it
pub record OffersOpened (old new : BookState) (edition : Tariff) (answer : Answer) (before after : Told) : Type 0 where
  pub editions : List Tariff
  pub opened : OpensAs old before after (Ok editions)
  pub offers : Offers editions edition answer new before after

-- a book is as it was, or opened and settled
abbrev pub MayOpen : BookState → BookState → Told → Told → Type 0
MayOpen old new before after =
    (new ≡ old) ⊎ ((new.settled ≡ true) × OpensAs old before after (Ok new.editions))

-- the keeper failed while a book that isn't settled was opened, and nothing changed
pub record CannotOpen (old new : BookState) (before after : Told) : Type 0 where
  pub unsettled : old.settled ≡ false
  pub book : new ≡ old
  pub bodies : Stay before after

-- what each answer to an edition says: what is wrong with the bodies of a book that isn't settled, and then nothing
-- changed; a failure of the keeper, while the book was opened or at the append; want of memory, in a book that is
-- opened or not; and every other answer is that to the edition in the open book
abbrev pub PublishesEdition : BookState → BookState → Tariff → Answer → Told → Told → Type 0
PublishesEdition old new edition (Err (Malformed fault)) before after = ⊥
PublishesEdition old new edition (Err (Damaged place damage)) before after =
    OpensAs old before after (Err (record { place = place; damage = damage })) × (new ≡ old) × Stay before after
PublishesEdition old new edition (Err KeeperFault) before after =
    CannotOpen old new before after ⊎ OffersOpened old new edition (Err KeeperFault) before after
PublishesEdition old new edition (Err Memory) before after = MayOpen old new before after × Stay before after
PublishesEdition old new edition answer before after = OffersOpened old new edition answer before after

-- a text stands for an edition
abbrev pub IsReadable : List ℕ → Type 0
IsReadable bytes = (edition : Tariff) × (edition_of bytes ≡ Ok edition)

-- the keeper failed while a book that isn't settled was opened for a readable text, and nothing changed
pub record OpeningFails (old new : BookState) (bytes : List ℕ) (before after : Told) : Type 0 where
  pub readable : IsReadable bytes
  pub unsettled : old.settled ≡ false
  pub book : new ≡ old
  pub bodies : Stay before after

-- what each answer to a text says: its first fault, or what is wrong with the bodies of a book that isn't settled, and
-- then nothing changed; a failure of the keeper, while the book was opened or at the append; want of memory, in a book
-- that is opened or not; and every other answer is that to the text's edition in the open book
abbrev pub Publishes : BookState → BookState → List ℕ → Answer → Told → Told → Type 0
Publishes old new bytes (Err (Malformed fault)) before after =
    (edition_of bytes ≡ Err fault) × (new ≡ old) × Stay before after
Publishes old new bytes (Err (Damaged place damage)) before after =
    IsReadable bytes × OpensAs old before after (Err (record { place = place; damage = damage })) × (new ≡ old)
    × Stay before after
Publishes old new bytes (Err KeeperFault) before after =
    OpeningFails old new bytes before after ⊎ IsOffered old new bytes (Err KeeperFault) before after
Publishes old new bytes (Err Memory) before after = MayOpen old new before after × Stay before after
Publishes old new bytes answer before after = IsOffered old new bytes answer before after
