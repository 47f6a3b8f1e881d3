-- By which name a run opened its store, from what its command came to.
use Rattle.std.proofs.Common.{◌≡◌, ◌≤◌, inl, inr, ℕ, Bool, true, false, List, [], Option, Some, refl, ap, subst, length}
use Rattle.std.proofs.Common.{suc, arith}
use Rattle.std.specs.Prelude.{IfSome}
use Rattle.fare_words.specs.declared.command.Command.{Command}
use Rattle.fare_words.specs.declared.command.Command.TheVariants as command
use Rattle.fare_ports.specs.Sink.{AppendsPrefix}
use Rattle.fare_commands.specs.declared.exit.Exit.{Exit}
use Rattle.fare_commands.specs.declared.exit.Exit.TheVariants as ended
use Rattle.fare_commands.specs.Answer.{ExitAndText}
use Rattle.fare_commands.specs.Opened.{IsNamed, MayComeBefore}
use Rattle.fare_run.specs.Opened.{IsNamedAt, OpensNamed, store_of}
use Rattle.fare_run.specs.Refusal.{IsSilent, TellsTariff, wants_json}
use Rattle.fare_run.specs.Run.{Writes}

-- a name of a store, where it is told
abbrev Name : Type 0
Name = Option (List ℕ)

-- an end that may come before the store is opened has no text, where none is wanted in JSON
silent_before : (asked : Option Command) (exit : Exit) → (TellsTariff asked → ⊥) → wants_json asked ≡ false
    → MayComeBefore exit → IsSilent asked exit
silent_before asked ended.Done none plain before = absurd before
silent_before asked ended.WriteFault none plain before = absurd before
silent_before asked ended.Memory none plain before = tt
silent_before asked (ended.BadTariff fault) none plain before = none
silent_before asked exit none plain before = plain

-- an end before its text was written
at_end : (json : Bool) (name : List ℕ) (old new : Name) (exit : Exit) → IsNamed name old new exit
    → IsNamedAt json name old new exit
at_end json name old new ended.WriteFault (inl opened) = inl opened.0
at_end json name old new ended.WriteFault (inr shut) = absurd shut.1
at_end json name old new exit is = is

-- nothing of an empty text is written in part
never_part : (text : List ℕ) (count : ℕ) → text ≡ [] → suc count ≤ length text → ⊥
never_part text count none less = absurd (omega (arith, less, ap length none))

-- a write may have failed
behind_write : (json : Bool) (name : List ℕ) (old new : Name) (ending : ExitAndText) (before after : Option (List ℕ))
    → IsNamed name old new ending.exit → (json ≡ false → MayComeBefore ending.exit → ending.text ≡ [])
    → AppendsPrefix before after ending.text → IsNamedAt json name old new ended.WriteFault
behind_write json name old new ending before after (inl opened) silent part = inl opened.0
behind_write true name old new ending before after (inr shut) silent part = inr (shut.0, refl)
behind_write false name old new ending before after (inr shut) silent part =
    absurd (never_part ending.text part.0 (silent refl shut.1) part.1)

written_named : (json : Bool) (name : List ℕ) (old new : Name) (ending : ExitAndText) (exit : Exit)
    (before after : Option (List ℕ)) → IsNamed name old new ending.exit
    → (json ≡ false → MayComeBefore ending.exit → ending.text ≡ []) → Writes ending exit before after
    → IsNamedAt json name old new exit
written_named json name old new ending exit before after is silent (inl whole) =
    rw (whole.0) (at_end json name old new ending.exit is)
written_named json name old new ending exit before after is silent (inr part) =
    rw (part.0) (behind_write json name old new ending before after is silent part.1)

-- a run that wrote what its command comes to tells whether its store was opened
pub run_named : (asked : Option Command) (ending : ExitAndText) (exit : Exit) (old new : Name)
    (before after : Option (List ℕ)) → IfSome (store_of asked) (λ name. IsNamed name old new ending.exit)
    → (IsSilent asked ending.exit → ending.text ≡ []) → Writes ending exit before after → OpensNamed asked old new exit
run_named (Some (command.Publish store)) ending exit old new before after is silent writes =
    written_named false store old new ending exit before after is
    (λ plain early. silent (silent_before (Some (command.Publish store)) ending.exit (λ none. none) plain early)) writes
run_named (Some (command.List store json)) ending exit old new before after is silent writes =
    written_named json store old new ending exit before after is
    (λ plain early. silent (silent_before (Some (command.List store json)) ending.exit (λ none. none) plain early))
    writes
run_named (Some (command.Export store edition)) ending exit old new before after is silent writes =
    written_named false store old new ending exit before after is
    (λ plain early. silent (silent_before (Some (command.Export store edition)) ending.exit (λ none. none) plain early))
    writes
run_named (Some (command.Quote store workers what json)) ending exit old new before after is silent writes =
    written_named json store old new ending exit before after is
    (λ plain early. silent
    (silent_before (Some (command.Quote store workers what json)) ending.exit (λ none. none) plain early)) writes
run_named (Some (command.Serve store port count workers round)) ending exit old new before after is silent writes =
    written_named false store old new ending exit before after is
    (λ plain early. silent
    (silent_before (Some (command.Serve store port count workers round)) ending.exit (λ none. none) plain early)) writes
run_named (Some (command.Migrate store)) ending exit old new before after is silent writes =
    written_named false store old new ending exit before after is
    (λ plain early. silent (silent_before (Some (command.Migrate store)) ending.exit (λ none. none) plain early)) writes
run_named (Some (command.Diff store from to)) ending exit old new before after is silent writes =
    written_named false store old new ending exit before after is
    (λ plain early. silent (silent_before (Some (command.Diff store from to)) ending.exit (λ none. none) plain early))
    writes
run_named (Some (command.Compare store from to workers)) ending exit old new before after is silent writes =
    written_named false store old new ending exit before after is
    (λ plain early. silent
    (silent_before (Some (command.Compare store from to workers)) ending.exit (λ none. none) plain early)) writes
run_named other ending exit old new before after is silent writes = tt

-- the same for the words that gave the command
pub run_named_as : (asked wanted : Option Command) (ending : ExitAndText) (exit : Exit) (old new : Name)
    (before after : Option (List ℕ)) → asked ≡ wanted → IfSome (store_of asked)
    (λ name. IsNamed name old new ending.exit)
    → (IsSilent asked ending.exit → ending.text ≡ []) → Writes ending exit before after → OpensNamed wanted old new exit
run_named_as asked wanted ending exit old new before after same is silent writes =
    subst (λ one. OpensNamed one old new exit) same (run_named asked ending exit old new before after is silent writes)
