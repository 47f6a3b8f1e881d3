-- How the steps of a publication make one.
use Rattle.std.proofs.Common.{◌≡◌, ◌≢◌, inl, inr, ℕ, List, Some, None, Result, Ok, Err, true, false, Bool, MatchBool, refl}
use Rattle.fare_ports.specs.Keeper.{ToldAfter, WhereTold, BodiesStay, BodyAppended, MayAppend}
use Rattle.fare_tariff.specs.Tariff.{Tariff}
use Rattle.fare_csv.specs.declared.text_fault.TextFault.{TextFault}
use Rattle.fare_csv.specs.declared.text_fault.TextFault.TheVariants as tariff
use Rattle.fare_csv.specs.TariffText.{edition_of}
use Rattle.fare_csv.specs.CanonicalText.{canonical_text}
use Rattle.fare_book.specs.declared.restore_fault.RestoreFault.{RestoreFault}
use Rattle.fare_book.specs.declared.restore_fault.RestoreFault.TheVariants as restoring
use Rattle.fare_book.specs.declared.published.Published.TheVariants.{New, Already}
use Rattle.fare_book.specs.declared.publish_fault.PublishFault.TheVariants.{Memory, Malformed, Differs, Full, KeeperFault, Damaged}
use Rattle.fare_book.specs.Book.{BookState}
use Rattle.fare_book.specs.Editions.{DamageAt, editions_of}
use Rattle.fare_book.specs.Faults.{reopening_fault, text_fault}
use Rattle.fare_book.specs.Publish.{Answer, Offers, Publishes, PublishesEdition}
use Rattle.fare_book.specs.Reopens.{Opens, OpensAs, Stay, Told}

-- the bodies of a keeper, and what a call makes of them
abbrev pub Change : Type 1
Change = List (List ℕ) → List (List ℕ) → Type 0

-- bodies that stay over a call stay as they are
pub stay_same : (told : Told) → Stay told told
stay_same None = tt
stay_same (Some bodies) = refl

-- a reading's fault changes nothing
pub malformed : (told : Told) (book : BookState) (bytes : List ℕ) (fault : TextFault) → (fault ≢ tariff.Memory → edition_of bytes ≡ Err fault) → Publishes book book bytes (Err (text_fault fault)) told told
malformed told book bytes tariff.Memory gives = (inl refl, stay_same told)
malformed told book bytes fault gives = (gives (λ e. cc), refl, stay_same told)

-- an opening's fault changes nothing
pub stopped : (before after : Told) (book new : BookState) (edition : Tariff) (found : RestoreFault) → Opens {A = Unit {0}} book new (Err found) before after → Stay before after → PublishesEdition book new edition (Err (reopening_fault found)) before after
stopped before after book new edition restoring.Memory opens stay = (inl opens, stay)
stopped before after book new edition restoring.KeeperFault opens stay =
    inl (record { unsettled = opens.0; book = opens.1; bodies = stay })
stopped before after book new edition (restoring.Damaged place damage) opens stay = (opens.0, opens.1, stay)

-- what changes bodies that stayed before changes the bodies as they were
pub told_from : (change : Change) (before between after : Told) → Stay before between → ToldAfter between after change → ToldAfter before after change
told_from change before between None stay made = tt
told_from change before None (Some new) stay made = absurd made
told_from change None (Some middle) (Some new) stay made = absurd stay
told_from change (Some old) (Some middle) (Some new) stay made = rw stay at made

-- an offer after bodies that stayed is one from the bodies as they were
offers_from : (before between after : Told) (editions : List Tariff) (edition : Tariff) (answer : Answer) (new : BookState) → Stay before between → Offers editions edition answer new between after → Offers editions edition answer new before after
offers_from before between after editions edition (Ok (New number)) new stay offers =
    (offers.0, offers.1, offers.2, (offers.3.0, told_from (BodyAppended (canonical_text edition)) before between after stay offers.3.1))
offers_from before between after editions edition (Ok (Already number)) new stay offers =
    (offers.0, offers.1, offers.2, told_from BodiesStay before between after stay offers.3)
offers_from before between after editions edition (Err (Differs number)) new stay offers =
    (offers.0, offers.1, offers.2, told_from BodiesStay before between after stay offers.3)
offers_from before between after editions edition (Err Full) new stay offers =
    (offers.0, offers.1, told_from BodiesStay before between after stay offers.2)
offers_from before between after editions edition (Err KeeperFault) new stay offers =
    (offers.0, offers.1, (offers.2.0, told_from (MayAppend (canonical_text edition)) before between after stay offers.2.1))
offers_from before between after editions edition (Err Memory) new stay offers =
    (offers.0, told_from BodiesStay before between after stay offers.1)
offers_from before between after editions edition (Err (Malformed fault)) new stay offers = absurd offers
offers_from before between after editions edition (Err (Damaged place damage)) new stay offers = absurd offers

-- an offer tells nothing of bodies that weren't told
offers_untold : (editions : List Tariff) (edition : Tariff) (answer : Answer) (new : BookState) (after : List (List ℕ)) → Offers editions edition answer new None (Some after) → ⊥
offers_untold editions edition (Ok (New number)) new after offers = offers.3.1
offers_untold editions edition (Ok (Already number)) new after offers = offers.3
offers_untold editions edition (Err (Differs number)) new after offers = offers.3
offers_untold editions edition (Err Full) new after offers = offers.2
offers_untold editions edition (Err KeeperFault) new after offers = offers.2.1
offers_untold editions edition (Err Memory) new after offers = offers.1
offers_untold editions edition (Err (Malformed fault)) new after offers = offers
offers_untold editions edition (Err (Damaged place damage)) new after offers = offers

-- what a book opens as is known as long as the bodies are told
opens_from : (flag : Bool) (own opening : Result (List Tariff) DamageAt) (before between after : Told) → MatchBool flag (opening ≡ own) (WhereTold before between (λ bodies _. opening ≡ editions_of bodies)) → ((new : List (List ℕ)) → between ≡ None → after ≡ Some new → ⊥) → MatchBool flag (opening ≡ own) (WhereTold before after (λ bodies _. opening ≡ editions_of bodies))
opens_from true own opening before between after opens never = opens
opens_from false own opening None between after opens never = tt
opens_from false own opening (Some old) between None opens never = tt
opens_from false own opening (Some old) None (Some new) opens never = absurd (never new refl refl)
opens_from false own opening (Some old) (Some middle) (Some new) opens never = opens

-- each answer to an edition that is offered to the editions of an open book
answers : (before after : Told) (old new : BookState) (edition : Tariff) (editions : List Tariff) (answer : Answer) → OpensAs old before after (Ok editions) → Offers editions edition answer new before after → PublishesEdition old new edition answer before after
answers before after old new edition editions (Err Memory) opened offers = (inr (rw offers.0 (refl, opened)), offers.1)
answers before after old new edition editions (Err (Malformed fault)) opened offers = offers
answers before after old new edition editions (Err (Damaged place damage)) opened offers = absurd offers
answers before after old new edition editions (Err KeeperFault) opened offers =
    inr (record { editions = editions; opened = opened; offers = offers })
answers before after old new edition editions answer opened offers =
    record { editions = editions; opened = opened; offers = offers }

-- an edition that is offered to a book that was opened is published
pub offered : (before between after : Told) (old middle new : BookState) (edition : Tariff) (answer : Answer) → OpensAs old before between (Ok middle.editions) → Stay before between → Offers middle.editions edition answer new between after → PublishesEdition old new edition answer before after
offered before between after old middle new edition answer opens stay offers =
    let never : (told : List (List ℕ)) → between ≡ None → after ≡ Some told → ⊥ =
    λ told silent speaks. let speaks_up : Offers middle.editions edition answer new None (Some told) = rw (silent, speaks) at offers in offers_untold middle.editions edition answer new told speaks_up in
    let opened : OpensAs old before after (Ok middle.editions) = opens_from old.settled (Ok old.editions) (Ok middle.editions) before between after opens never in
    let from = offers_from before between after middle.editions edition answer new stay offers in
    answers before after old new edition middle.editions answer opened from

-- a text is published as its edition is
pub text_published : (before after : Told) (old new : BookState) (bytes : List ℕ) (edition : Tariff) (answer : Answer) → edition_of bytes ≡ Ok edition → PublishesEdition old new edition answer before after → Publishes old new bytes answer before after
text_published before after old new bytes edition (Err (Malformed fault)) e made = absurd made
text_published before after old new bytes edition (Err (Damaged place damage)) e made = ((edition, e), made.0, made.1, made.2)
text_published before after old new bytes edition (Err KeeperFault) e (inl fails) =
    inl (record { readable = (edition, e); unsettled = fails.unsettled; book = fails.book; bodies = fails.bodies })
text_published before after old new bytes edition (Err KeeperFault) e (inr made) =
    inr (record { edition = edition; editions = made.editions; readable = e; opened = made.opened; offers = made.offers })
text_published before after old new bytes edition (Err Memory) e made = made
text_published before after old new bytes edition answer e made =
    record { edition = edition; editions = made.editions; readable = e; opened = made.opened; offers = made.offers }
