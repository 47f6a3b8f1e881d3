-- What a publication answers and leaves, from the opening of its store on.
use Rattle.std.proofs.Common.{◌≡◌, ◌∙◌, ℕ, inl, inr, List, Some, None, Ok, Err, IfErr, sym, refl}
use Rattle.fare_ports.specs.Keeper.{BodiesStay, ToldAfter, WhereTold}
use Rattle.fare_tariff.specs.Tariff.{Tariff}
use Rattle.fare_csv.specs.TariffText.{edition_of}
use Rattle.fare_book.specs.Reopens.{Stay}
use Rattle.fare_commands.specs.declared.exit.Exit.{Exit}
use Rattle.fare_commands.specs.declared.exit.Exit.TheVariants as ended
use Rattle.fare_commands.specs.Answer.{Answer}
use Rattle.fare_commands.specs.Publication.{MayPublish, PublishesNothing}
use Rattle.fare_commands.specs.Steps.{Answers, IsRefusal}
use Rattle.fare_commands.specs.StoreOutcome.{AnswersTariffOver, Bodies, OverStore, RefusalLeaves, Told}
use Rattle.fare_commands.specs.StoreSteps.{AnswersOffer, AreStored, MayAdd}

-- the answer to a tariff text and the bodies that are left, for the bodies with which a store was opened
abbrev AnswersText : List ℕ → Answer → Bodies → Bodies → Type 0
AnswersText text answer bodies left = AnswersTariffOver text bodies left answer × RefusalLeaves answer bodies left

-- nothing is published on a refusal
published_nothing : (exit : Exit) → IsRefusal exit → PublishesNothing exit
published_nothing ended.Done refusal = refusal
published_nothing ended.WriteFault refusal = refusal
published_nothing ended.KeeperFault refusal = refusal
published_nothing ended.DoorFault refusal = refusal
published_nothing exit refusal = tt

-- the answer to an edition that is offered to an opened book is that to its text
over_store : (before between after : Told) (text : List ℕ) (edition : Tariff) (editions : List Tariff) (answer : Answer)
    → edition_of text ≡ Ok edition → WhereTold before between BodiesStay → AreStored between editions
    → ToldAfter between after (MayAdd editions edition)
    → ((old new : Bodies) → between ≡ Some old → after ≡ Some new → RefusalLeaves answer old new)
    → AnswersOffer editions edition between after answer → OverStore before after (AnswersText text answer)
over_store before between None text edition editions answer e stay stored told leaves offer = tt
over_store before None (Some left) text edition editions answer e stay stored told leaves offer = absurd told
over_store None (Some middle) (Some left) text edition editions answer e stay stored told leaves offer =
    (middle, tt, (rw e (rw stored offer), leaves middle left refl refl))
over_store (Some old) (Some middle) (Some left) text edition editions answer e stay stored told leaves offer =
    (middle, sym stay, (rw e (rw stored offer), leaves middle left refl refl))

-- bodies that stay are left
left_as_told : (between after : Told) (old new : Bodies) → Stay between after → between ≡ Some old → after ≡ Some new
    → new ≡ old
left_as_told between after old new stay is was = let same : Stay (Some old) (Some new) = rw (is, was) at stay in same

-- and so is the answer of a function that offers it
pub publishes : (before between after : Told) (text : List ℕ) (edition : Tariff) (editions : List Tariff)
    (result : Answer)
    → edition_of text ≡ Ok edition → WhereTold before between BodiesStay → AreStored between editions
    → ToldAfter between after (MayAdd editions edition)
    → IfErr result (λ exit. PublishesNothing exit → Stay between after)
    → Answers (AnswersOffer editions edition between after) result
    → Answers (λ answer. OverStore before after (AnswersText text answer)) result
publishes before between after text edition editions (Ok ending) e stay stored told leaves answer =
    over_store before between after text edition editions (Ok ending) e stay stored told (λ old new is was. tt) answer
publishes before between after text edition editions (Err exit) e stay stored told leaves (inl cut) = inl cut
publishes before between after text edition editions (Err exit) e stay stored told leaves (inr refused) =
    let stays : Stay between after = leaves (published_nothing exit refused.0) in
    let left : (old new : Bodies) → between ≡ Some old → after ≡ Some new → new ≡ old =
    λ old new is was. left_as_told between after old new stays is was in
    inr (
      refused.0,
      over_store before between after text edition editions (Err exit) e stay stored told left refused.1,
    )

-- what is added to an opened store is the text of the edition, which is new to those that its bodies stand for
pub may_publish : (before between after : Told) (text : List ℕ) (edition : Tariff) (editions : List Tariff)
    → edition_of text ≡ Ok edition → WhereTold before between BodiesStay → AreStored between editions
    → ToldAfter between after (MayAdd editions edition) → WhereTold before after (MayPublish text)
may_publish None between after text edition editions e stay stored added = tt
may_publish (Some old) between None text edition editions e stay stored added = tt
may_publish (Some old) None (Some new) text edition editions e stay stored added = absurd added
may_publish (Some old) (Some middle) (Some new) text edition editions e stay stored (inl same) = inl (same ∙ stay)
may_publish (Some old) (Some middle) (Some new) text edition editions e stay stored (inr more) =
    inr (record {
      edition = edition;
      editions = editions;
      readable = e;
      stored = rw stay at stored;
      is_new = more.0;
      appended = rw stay at more.1;
    })
