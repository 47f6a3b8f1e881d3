-- What a migration answers and leaves, from the opening of its store on.
use Rattle.std.proofs.Common.{◌≡◌, ◌≢◌, ◌⊎◌, ◌∙◌, ℕ, inl, inr, length, map, Some, None, Result, Ok, Err, IfErr, sym}
use Rattle.std.proofs.Common.{refl}
use Rattle.std.proofs.Math.Seq.{take-length, drop-length}
use Rattle.std.proofs.lemmas.List.{append-nil}
use Rattle.fare_ports.specs.Keeper.{BodiesStay, ToldAfter, WhereTold}
use Rattle.fare_book.specs.declared.restore_fault.RestoreFault.{RestoreFault}
use Rattle.fare_book.specs.declared.restore_fault.RestoreFault.TheVariants.{Memory, KeeperFault, Damaged}
use Rattle.fare_book.specs.Book.{BookState}
use Rattle.fare_book.specs.Migration.{Migrates, MigratesInPart, SameEditions, canonical_body, migrated}
use Rattle.fare_book.specs.Reopens.{Stay}
use Rattle.fare_commands.specs.declared.exit.Exit.TheVariants as ended
use Rattle.fare_commands.specs.Answer.{Answer, migrated_text, migration_answer, restore_end, ExitAndText, done}
use Rattle.fare_commands.specs.Publication.{PublishesNothing}
use Rattle.fare_commands.specs.Steps.{Answers, IsCutOff, IsRefusal}
use Rattle.fare_commands.specs.StoreOutcome.{AnswersMigrate, Bodies, MayMigrate, OverStore, RefusalLeaves, Told}
use Rattle.fare_commands.specs.StoreSteps.{AnswersMigration}

-- the answer to a migration and the bodies that are left, for the bodies with which a store was opened
abbrev AnswersBodies : Answer → Bodies → Bodies → Type 0
AnswersBodies answer bodies left = AnswersMigrate bodies left answer × RefusalLeaves answer bodies left

-- where all bodies are in canonical spelling, those at their first places are
all_in_part : (bodies left : Bodies) → left ≡ map canonical_body bodies → left ≡ migrated (length bodies) bodies
all_in_part bodies left spelled =
    rw (take-length bodies, drop-length bodies) (spelled ∙ sym (append-nil (map canonical_body bodies)))

-- whatever a migration answers, some first bodies are in canonical spelling, and the others are left
in_part : (old new : BookState) (migration : Result ℕ RestoreFault) (bodies left : Bodies)
    → Migrates old new migration bodies left → MigratesInPart bodies left
in_part old new (Ok count) bodies left migrates = (length bodies, all_in_part bodies left migrates.2)
in_part old new (Err (Damaged place damage)) bodies left migrates = (0, migrates.2)
in_part old new (Err Memory) bodies left (inl same) = (0, same.1)
in_part old new (Err Memory) bodies left (inr part) = part.1
in_part old new (Err KeeperFault) bodies left (inl same) = (0, same.1)
in_part old new (Err KeeperFault) bodies left (inr part) = part.1

-- and so in the store
pub may_migrate : (before after : Told) (old new : BookState) (migration : Result ℕ RestoreFault)
    → ToldAfter before after (Migrates old new migration) → ToldAfter before after SameEditions
    → ToldAfter before after MayMigrate
may_migrate before None old new migration told same = tt
may_migrate None (Some left) old new migration told same = absurd told
may_migrate (Some bodies) (Some left) old new migration told same =
    (in_part old new migration bodies left told, same)

-- a migration of an opened store is one of the store
pub migrates_store : (before between after : Told) → WhereTold before between BodiesStay
    → ToldAfter between after MayMigrate → WhereTold before after MayMigrate
migrates_store None between after stay told = tt
migrates_store (Some old) between None stay told = tt
migrates_store (Some old) None (Some left) stay told = absurd told
migrates_store (Some old) (Some middle) (Some left) stay told = rw stay at told

-- a refusal for damage leaves the bodies
pub refused_stays : (before after : Told) (old new : BookState) (fault : RestoreFault)
    → ToldAfter before after (Migrates old new (Err fault)) → PublishesNothing (restore_end fault)
    → restore_end fault ≢ ended.Memory → Stay before after
refused_stays before after old new Memory told silent uncut = absurd (uncut refl)
refused_stays before after old new KeeperFault told silent uncut = absurd silent
refused_stays before None old new (Damaged place damage) told silent uncut = tt
refused_stays None (Some left) old new (Damaged place damage) told silent uncut = absurd told
refused_stays (Some bodies) (Some left) old new (Damaged place damage) told silent uncut = told.2

-- and so in the store
pub store_stays : (before between after : Told) → WhereTold before between BodiesStay → Stay between after
    → WhereTold before after BodiesStay
store_stays None between after stay stays = tt
store_stays (Some old) between None stay stays = tt
store_stays (Some old) None (Some left) stay stays = absurd stays
store_stays (Some old) (Some middle) (Some left) stay stays = stays ∙ stay

-- what a migration answers to the bodies of an opened store
opened : (old new : BookState) (migration : Result ℕ RestoreFault) (answer : Answer) (bodies left : Bodies)
    → Migrates old new migration bodies left → answer ≡ migration_answer migration → IfErr answer IsRefusal
    → AnswersBodies answer bodies left
opened old new (Ok count) answer bodies left migrates e refusal =
    rw (e, migrates.0.1, sym migrates.1) ((migrates.2, refl), tt)
opened old new (Err (Damaged place damage)) answer bodies left migrates e refusal =
    rw (e, migrates.0) (refl, migrates.2)
opened old new (Err Memory) answer bodies left migrates e refusal = absurd (rw e at refusal)
opened old new (Err KeeperFault) answer bodies left migrates e refusal = absurd (rw e at refusal)

-- and so to those of the store
over_store : (before between after : Told) (old new : BookState) (migration : Result ℕ RestoreFault) (answer : Answer)
    → WhereTold before between BodiesStay → ToldAfter between after (Migrates old new migration)
    → answer ≡ migration_answer migration → IfErr answer IsRefusal → OverStore before after (AnswersBodies answer)
over_store before between None old new migration answer stay told e refusal = tt
over_store before None (Some left) old new migration answer stay told e refusal = absurd told
over_store None (Some middle) (Some left) old new migration answer stay told e refusal =
    (middle, tt, opened old new migration answer middle left told e refusal)
over_store (Some bodies) (Some middle) (Some left) old new migration answer stay told e refusal =
    (middle, sym stay, opened old new migration answer middle left told e refusal)

-- and so is the answer of a function that migrates it
pub migrates : (before between after : Told) (result : Answer) → WhereTold before between BodiesStay
    → Answers (AnswersMigration between after) result
    → Answers (λ answer. OverStore before after (AnswersBodies answer)) result
migrates before between after (Ok ending) stay (old, new, migration, told, e) =
    over_store before between after old new migration (Ok ending) stay told e tt
migrates before between after (Err exit) stay (inl cut) = inl cut
migrates before between after (Err exit) stay (inr (refusal, (old, new, migration, told, e))) =
    inr (refusal, over_store before between after old new migration (Err exit) stay told e refusal)

-- a migration of an open store that was refused or cut off is answered so
pub answers_fault : (before after : Told) (old new : BookState) (fault : RestoreFault)
    → ToldAfter before after (Migrates old new (Err fault))
    → IsCutOff (restore_end fault) ⊎
    (IsRefusal (restore_end fault) × AnswersMigration before after (Err (restore_end fault)))
answers_fault before after old new Memory told = inl tt
answers_fault before after old new KeeperFault told = inl tt
answers_fault before after old new (Damaged place damage) told =
    inr (tt, (old, new, Err (Damaged place damage), told, refl))

-- a migration of an open store that was made is answered by its count
pub answers_count : (before after : Told) (old new : BookState) (count : ℕ) (ending : ExitAndText)
    → ToldAfter before after (Migrates old new (Ok count)) → ending ≡ done (migrated_text count)
    → AnswersMigration before after (Ok ending)
answers_count before after old new count ending told same = rw same (old, new, Ok count, told, refl)
