-- What a run writes of what its command comes to.
use Rattle.std.proofs.Common.{◌≡◌, inl, inr, sym, subst, refl, Option, Some, None, List, [], ℕ, IfSome, append-nil}
use Rattle.std.specs.Io.KnownBytes.{Appends}
use Rattle.fare_words.specs.declared.command.Command.{Command}
use Rattle.fare_commands.specs.declared.exit.Exit.{Exit}
use Rattle.fare_commands.specs.declared.exit.Exit.TheVariants as ended
use Rattle.fare_commands.specs.Answer.{ExitAndText}
use Rattle.fare_commands.specs.StoreOutcome.{Told}
use Rattle.fare_run.specs.Outcome.{AnswersCommand}
use Rattle.fare_run.specs.Refusal.{no_memory}
use Rattle.fare_run.specs.Run.{ComesTo, EndsIn, Writes}

-- nothing is appended
pub appends_nothing : (old : Option (List ℕ)) → Appends old old []
appends_nothing None = tt
appends_nothing (Some bytes) = sym (append-nil bytes)

-- a run that found memory wanting, over a source that is told
pub memory_in : (left : Option (List ℕ)) (asked : Option Command) (failed : Exit → Type 0) (before after : Told)
    (old : Option (List ℕ))
    → IfSome left
    (λ source. EndsIn (ComesTo asked failed (AnswersCommand asked source before after)) ended.Memory old old)
memory_in None asked failed before after old = tt
memory_in (Some source) asked failed before after old = (no_memory, inr (inr refl), inl (refl, appends_nothing old))

-- a run that wrote what its command comes to, over a source that is told
pub ends_in : (left : Option (List ℕ)) (asked wanted : Option Command) (failed : Exit → Type 0) (before after : Told)
    (ending : ExitAndText) (exit : Exit) (old new : Option (List ℕ))
    → asked ≡ wanted → IfSome left (λ source. ComesTo asked failed (AnswersCommand asked source before after) ending)
    → Writes ending exit old new
    → IfSome left (λ source. EndsIn (ComesTo wanted failed (AnswersCommand wanted source before after)) exit old new)
ends_in None asked wanted failed before after ending exit old new same comes writes = tt
ends_in (Some source) asked wanted failed before after ending exit old new same comes writes =
    let C : Option Command → Type 0 = λ one. ComesTo one failed (AnswersCommand one source before after) ending in
    (ending, subst C same comes, writes)
