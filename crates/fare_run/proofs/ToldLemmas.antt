-- What an answer tells of what its command comes to.
use Rattle.std.proofs.Common.{Bool, false}
use Rattle.std.proofs.Common.{◌≡◌, ◌≢◌, inl, inr, ◌∙◌, sym, ap, subst, refl, Option, Some, None, true}
use Rattle.std.proofs.Common.{List, [], ℕ, Ok, Err, IfOk, IfErr, IfSome, IsErrOf, OnOk}
use Rattle.fare_words.specs.declared.command.Command.{Command}
use Rattle.fare_words.specs.declared.command.Command.TheVariants as command
use Rattle.fare_ports.specs.Keeper.{BodiesStay, WhereTold}
use Rattle.fare_book.specs.declared.damage.Damage.{Damage}
use Rattle.fare_serve.specs.Desk.{World}
use Rattle.fare_sentences.specs.declared.fault.Fault.{Fault}
use Rattle.fare_commands.specs.declared.exit.Exit.{Exit}
use Rattle.fare_commands.specs.declared.exit.Exit.TheVariants as ended
use Rattle.fare_commands.specs.Answer.{Answer, ExitAndText}
use Rattle.fare_commands.specs.Steps.{Answers, IsCutOff}
use Rattle.fare_commands.specs.StoreOutcome.{Told}
use Rattle.fare_run.specs.Ends.{IsEndBefore, IsRefusalOf}
use Rattle.fare_run.specs.Refusal.{HasOwnText, IsSilent, IsTold, refusal, refusal_text, wants_json}
use Rattle.fare_run.specs.JsonFault.{fault_of, told_fault}
use Rattle.fare_run.specs.Limits.{limit_of}
use Rattle.fare_run.specs.Run.{ComesTo, HasFailed, LeavesBodies, LeavesBodiesAt, ServesNobodyAt}
use Rattle.fare_run.specs.Serve.{ComesServe, ComesServing, ServesCommand, ServesStore}
use Rattle.fare_run.specs.Uses.{HasText, LeavesDoor}

-- a refusal as an answer
abbrev refused_by : Exit → Answer
refused_by exit = Err exit

-- equal ends refuse alike
refused_alike : (one other : Exit) → one ≡ other → refused_by one ≡ refused_by other
refused_alike one other same = ap refused_by same

-- a command that was cut off comes to that refusal, for a call that failed, or to want of memory
cut_off : (asked : Option Command) (read kept served : Type 0) (exit : Exit) → IsCutOff exit
    → (exit ≡ ended.ReadFault → read) → (exit ≡ ended.KeeperFault → kept) → (exit ≡ ended.DoorFault → served)
    → (P : Answer → Type 0) → ComesTo asked (HasFailed read kept served) P (refusal asked exit)
cut_off asked read kept served ended.ReadFault cut r k s P = inr (inl (r refl, refl))
cut_off asked read kept served ended.KeeperFault cut r k s P = inr (inl (k refl, refl))
cut_off asked read kept served ended.DoorFault cut r k s P = inr (inl (s refl, refl))
cut_off asked read kept served ended.Memory cut r k s P = inr (inr refl)
cut_off asked read kept served exit cut r k s P = absurd cut

-- what it comes to by its answer
pub comes : (asked : Option Command) (read kept served : Type 0) (answer : Answer) (told : ExitAndText)
    (P : Answer → Type 0)
    → Answers P answer → (IsErrOf answer ended.ReadFault → read) → (IsErrOf answer ended.KeeperFault → kept)
    → (IsErrOf answer ended.DoorFault → served) → IsTold asked answer told
    → ComesTo asked (HasFailed read kept served) P told
comes asked read kept served (Ok ending) told P p r k s is = inl (Ok ending, p, is)
comes asked read kept served (Err exit) told P p r k s (inr none) = inr (inr none.1)
comes asked read kept served (Err exit) told P (inr p) r k s (inl is) = inl (Err exit, p.1, is)
comes asked read kept served (Err exit) told P (inl cut) r k s (inl is) =
    let C : ExitAndText → Type 0 = ComesTo asked (HasFailed read kept served) P in
    subst C (sym is)
    (cut_off asked read kept served exit cut (λ e. r (refused_alike exit ended.ReadFault e))
    (λ e. k (refused_alike exit ended.KeeperFault e)) (λ e. s (refused_alike exit ended.DoorFault e)) P)

-- and so by the answer to a source that is told
pub comes_of : (left : Option (List ℕ)) (asked : Option Command) (read kept served : Type 0) (answer : Answer)
    (told : ExitAndText) (P : List ℕ → Answer → Type 0)
    → IfSome left (λ source. Answers (P source) answer) → (IsErrOf answer ended.ReadFault → read)
    → (IsErrOf answer ended.KeeperFault → kept) → (IsErrOf answer ended.DoorFault → served) → IsTold asked answer told
    → IfSome left (λ source. ComesTo asked (HasFailed read kept served) (P source) told)
comes_of None asked read kept served answer told P p r k s is = tt
comes_of (Some source) asked read kept served answer told P p r k s is =
    comes asked read kept served answer told (P source) p r k s is

-- no such end is want of memory
pub limit_apart : ended.Limit ≢ ended.Memory
limit_apart e = cc

-- nor is this
pub read_fault_apart : ended.ReadFault ≢ ended.Memory
read_fault_apart e = cc

-- nor is this
pub keeper_fault_apart : ended.KeeperFault ≢ ended.Memory
keeper_fault_apart e = cc

-- nor is this
pub door_fault_apart : ended.DoorFault ≢ ended.Memory
door_fault_apart e = cc

-- what a refusal by an exit tells, where no text of the command's own and no want of memory has that exit
pub at_exit : {F : Type 0} → (asked : Option Command) (exit : Exit) (answer : Answer) (told : ExitAndText)
    → (HasOwnText asked exit → ⊥) → exit ≢ ended.Memory → IfOk answer (λ ending. HasOwnText asked ending.exit)
    → (IsErrOf answer exit → F) → IsTold asked answer told → told.exit ≡ exit → F
at_exit asked exit (Ok ending) told never memory own f is same =
    let P : Exit → Type 0 = HasOwnText asked in
    absurd (never (subst P (sym (ap (λ (e : ExitAndText). e.exit) is) ∙ same) own))
at_exit asked exit (Err refused) told never memory own f (inl is) same =
    f (refused_alike refused exit (sym (ap (λ (e : ExitAndText). e.exit) is) ∙ same))
at_exit asked exit (Err refused) told never memory own f (inr none) same =
    absurd (memory (sym same ∙ ap (λ (e : ExitAndText). e.exit) none.1))

-- a command that has its answer in JSON leaves the bodies
json_stays : (asked : Option Command) (source : Option (List ℕ)) (before after : Told) → wants_json asked ≡ true
    → WhereTold before after (LeavesBodies asked source) → WhereTold before after BodiesStay
json_stays (Some (command.Price workers what json)) source before after wanted stay = stay
json_stays (Some (command.Quote store workers what json)) source before after wanted stay = stay
json_stays (Some (command.List store json)) source before after wanted stay = stay
json_stays other source before after wanted stay = cc

-- and so does one whose text tells the faults of a tariff
own_stays : (asked : Option Command) (exit : Exit) (source : Option (List ℕ)) (before after : Told)
    → HasOwnText asked exit → LeavesBodiesAt asked exit → WhereTold before after (LeavesBodies asked source)
    → WhereTold before after BodiesStay
own_stays asked ended.Done source before after own silent stay = absurd silent.0
own_stays (Some (command.Price workers what json)) (ended.BadTariff fault) source before after own silent stay = stay
own_stays (Some command.Check) (ended.BadTariff fault) source before after own silent stay = stay
own_stays asked exit source before after own silent stay = absurd own

-- the bodies stay at the ends that say so
pub stays : (asked : Option Command) (answer : Answer) (told : ExitAndText) (source : Option (List ℕ))
    (before after : Told)
    → IfOk answer (λ ending. HasOwnText asked ending.exit)
    → IfErr answer (λ exit. LeavesBodiesAt asked exit → WhereTold before after BodiesStay)
    → WhereTold before after (LeavesBodies asked source) → IsTold asked answer told → LeavesBodiesAt asked told.exit
    → WhereTold before after BodiesStay
stays asked (Ok ending) told source before after own refused stay is silent =
    own_stays asked ending.exit source before after own (rw is at silent) stay
stays asked (Err exit) told source before after own refused stay (inl is) silent = refused (rw is at silent)
stays asked (Err exit) told source before after own refused stay (inr none) silent =
    json_stays asked source before after none.0 stay

-- a command that has its answer in JSON leaves the door
json_leaves : {F : Type 0} → (asked : Option Command) → wants_json asked ≡ true → (LeavesDoor asked → F) → F
json_leaves (Some (command.Price workers what json)) wanted door = door tt
json_leaves (Some (command.Quote store workers what json)) wanted door = door tt
json_leaves (Some (command.List store json)) wanted door = door tt
json_leaves other wanted door = cc

-- and so does one whose text tells the faults of a tariff
own_leaves : {F : Type 0} → (asked : Option Command) (exit : Exit) → HasOwnText asked exit → ServesNobodyAt exit
    → (LeavesDoor asked → F) → F
own_leaves asked ended.Done own nobody door = absurd nobody
own_leaves (Some (command.Price workers what json)) (ended.BadTariff fault) own nobody door = door tt
own_leaves (Some command.Check) (ended.BadTariff fault) own nobody door = door tt
own_leaves asked exit own nobody door = absurd own

-- nobody is served at the ends that say so
pub leaves : {F : Type 0} → (asked : Option Command) (answer : Answer) (told : ExitAndText)
    → IfOk answer (λ ending. HasOwnText asked ending.exit) → IfErr answer (λ exit. ServesNobodyAt exit → F)
    → (LeavesDoor asked → F) → IsTold asked answer told → ServesNobodyAt told.exit → F
leaves asked (Ok ending) told own refused door is nobody = own_leaves asked ending.exit own (rw is at nobody) door
leaves asked (Err exit) told own refused door (inl is) nobody = refused (rw is at nobody)
leaves asked (Err exit) told own refused door (inr none) nobody = json_leaves asked none.0 door

-- a text of a command's own is not silent
own_speaks : (asked : Option Command) (exit : Exit) → HasOwnText asked exit → IsSilent asked exit → ⊥
own_speaks asked ended.Done own silent = silent
own_speaks asked (ended.BadTariff fault) own silent = silent own
own_speaks asked exit own silent = own

-- a fault that isn't wanted in JSON has no text
silent_fault : (one : Option Fault) (json : Bool) → json ≡ false → told_fault one json ≡ []
silent_fault None json plain = refl
silent_fault (Some one) false plain = refl
silent_fault (Some one) true plain = cc

-- the refusals on which nothing is written have no text
silent_refusal : (asked : Option Command) (exit : Exit) → IsSilent asked exit → refusal_text asked exit ≡ []
silent_refusal asked ended.Done silent = absurd silent
silent_refusal asked ended.WriteFault silent = absurd silent
silent_refusal asked ended.Memory silent = refl
silent_refusal asked (ended.BadTariff fault) silent = refl
silent_refusal asked exit silent = silent_fault (fault_of (limit_of asked) exit) (wants_json asked) silent

-- the ends on which nothing is written have no text
pub silences : (asked : Option Command) (answer : Answer) (told : ExitAndText)
    → IfOk answer (λ ending. HasOwnText asked ending.exit) → IsTold asked answer told → IsSilent asked told.exit
    → told.text ≡ []
silences asked (Ok ending) told own is silent = absurd (own_speaks asked ending.exit own (rw is at silent))
silences asked (Err exit) told own (inl is) silent =
    ap (λ (e : ExitAndText). e.text) is ∙ silent_refusal asked exit (rw is at silent)
silences asked (Err exit) told own (inr none) silent = ap (λ (e : ExitAndText). e.text) none.1

-- a command with a text of its own ends in `Done`, or in a refusal
own_ends : (asked : Option Command) (exit : Exit) → HasOwnText asked exit → HasText asked → IsEndBefore asked exit
own_ends asked ended.Done own text = text
own_ends (Some (command.Price workers what json)) (ended.BadTariff fault) own text = tt
own_ends (Some command.Check) (ended.BadTariff fault) own text = tt
own_ends asked exit own text = absurd own

-- each command may want memory
wants_memory : (asked : Option Command) → wants_json asked ≡ true → IsRefusalOf asked ended.Memory
wants_memory (Some (command.Price workers what json)) wanted = tt
wants_memory (Some (command.Quote store workers what json)) wanted = tt
wants_memory (Some (command.List store json)) wanted = tt
wants_memory other wanted = cc

-- no refusal is `Done`
refusal_before : (asked : Option Command) (exit : Exit) → IsRefusalOf asked exit → IsEndBefore asked exit
refusal_before (Some (command.Price workers what json)) ended.Done refused = tt
refusal_before (Some (command.Publish store)) ended.Done refused = tt
refusal_before (Some (command.List store json)) ended.Done refused = tt
refusal_before (Some (command.Export store edition)) ended.Done refused = tt
refusal_before (Some (command.Quote store workers what json)) ended.Done refused = tt
refusal_before (Some (command.Drill seed sectors extra workers)) ended.Done refused = tt
refusal_before (Some (command.Serve store port count workers round)) ended.Done refused = tt
refusal_before (Some (command.Migrate store)) ended.Done refused = tt
refusal_before (Some command.Check) ended.Done refused = tt
refusal_before (Some (command.Diff store from to)) ended.Done refused = tt
refusal_before (Some (command.Compare store from to workers)) ended.Done refused = tt
refusal_before None ended.Done refused = refused
refusal_before asked exit refused = refused

-- the ends of a command are those of its answer
pub ends : (asked : Option Command) (answer : Answer) (told : ExitAndText)
    → IfOk answer (λ ending. HasOwnText asked ending.exit) → OnOk answer (HasText asked)
    → IfErr answer (IsRefusalOf asked) → IsTold asked answer told → IsEndBefore asked told.exit
ends asked (Ok ending) told own text refused is = rw is (own_ends asked ending.exit own text)
ends asked (Err exit) told own text refused (inl is) = rw is (refusal_before asked exit refused)
ends asked (Err exit) told own text refused (inr none) = rw none.1 (wants_memory asked none.0)

-- what is done is no damage
undamaged : (place : ℕ) (damage : Damage) → ended.Done ≡ ended.Damaged place damage → ⊥
undamaged place damage e = cc

-- a refusal of `serve`
serves_at : (count most port : ℕ) (old new : World) (exit : Exit) (text : List ℕ)
    → ServesStore count most port old new (Err exit) → ComesServe count most port old new exit text
serves_at count most port old new ended.DoorFault text served = served
serves_at count most port old new ended.Done text served = absurd (undamaged served.1.0 served.1.1 served.1.2)
serves_at count most port old new exit text served = served

-- what `serve` makes of its store and its door is told
pub serves : (asked : Option Command) (old new : World) (answer : Answer) (told : ExitAndText)
    → ServesCommand asked old new answer → IsTold asked answer told → ComesServing asked old new told
serves (Some (command.Serve store port count workers round)) old new (Ok ending) told served is =
    rw (is, served.0) served.1
serves (Some (command.Serve store port count workers round)) old new (Err exit) told served (inl is) =
    rw is (serves_at count round port old new exit _ served)
serves (Some (command.Serve store port count workers round)) old new (Err exit) told served (inr none) = cc
serves other old new answer told served is = tt
