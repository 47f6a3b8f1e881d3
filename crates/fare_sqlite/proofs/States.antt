-- What a statement leaves of a connection.
use Rattle.std.proofs.Common.{◌≡◌, ◌⊎◌, ◌∙◌, inl, inr, ℕ, List, [], Bool, true, false, not, ◌&&◌, cond, arith, Option, Some, None, Result, Ok, Err, MatchBool, IfOk, OnOk, OnErr, IsTrue, refl, sym, ap, subst}
use Rattle.sqlite_value.specs.Order.{Row}
use Rattle.sqlite_trees.specs.Tree.{Trees}
use Rattle.sqlite_trees.proofs.Doubt.{no_doubt}
use Rattle.sqlite_schema.specs.declared.command.Returning.{Returning}
use Rattle.sqlite_resolve.specs.declared.compiled.Compiled.{Compiled}
use Rattle.sqlite_resolve.specs.declared.error.CompileError.{CompileError}
use Rattle.sqlite.specs.declared.error.Error.{Error}
use Rattle.sqlite.specs.Effect.{Database}
use Rattle.sqlite.specs.Listing.{understood}
use Rattle.sqlite.specs.State.{Executes, ExecutesIn, FailsToQuery, FailsToShow, HasCleanDisk, IsNotRun, IsRolledBack, IsUnchanged, QueriesRow, RunsCommand, Shown, ShowsRows, State, Survives, CommitsShowing, shows_rows}
use Rattle.sqlite.proofs.Callers.{IsPlain, never_commits}
use Rattle.fare_sqlite.specs.Bodies.{bodies_in}
use Rattle.fare_ports.specs.Keeper.{BodiesStay, MayAppend, ToldAfter, WhereTold}
use Rattle.fare_sqlite.specs.Kept.{HasBodies, HasTable, IsSettled, LeavesAsBefore, Speaks, Stays, bodies_of, kept}
use Rattle.fare_sqlite.specs.Ours.{is_blank, is_ours}
use Rattle.fare_sqlite.proofs.Schemas.{edition_is_ours, ours_is}

-- the bodies of a keeper, where they are told
abbrev pub Told : Type 0
Told = Option (List (List ℕ))

-- an open connection is clean
pub open_is_clean : (s : State) → (s.is_clean ≡ false → s.is_open ≡ false) → IsTrue s.is_open → HasCleanDisk s
open_is_clean s shut up = clean_at s.is_clean refl
  where
    clean_at : (b : Bool) → s.is_clean ≡ b → HasCleanDisk s
    clean_at true e = no_doubt s.is_clean e
    clean_at false e = let down = shut e in absurd cc

-- what a connection that keeps bodies is
pub record Tells (s : State) (bodies : List (List ℕ)) : Type 0 where
  pub is_open : IsTrue s.is_open
  pub outside : s.in_transaction ≡ false
  pub are : bodies_of s.now ≡ Some bodies

tells_at : (up within : Bool) (all : Told) (bodies : List (List ℕ)) → cond (up && not within) all None ≡ Some bodies → (up ≡ true) × (within ≡ false) × (all ≡ Some bodies)
tells_at true false all bodies e = (refl, refl, e)
tells_at true true all bodies e = absurd cc
tells_at false within all bodies e = absurd cc

pub tells : (s : State) (bodies : List (List ℕ)) → kept s ≡ Some bodies → Tells s bodies
unfolding kept
tells s bodies e =
    let parts = tells_at s.is_open s.in_transaction (bodies_of s.now) bodies e in
    record { is_open = parts.0; outside = parts.1; are = parts.2 }

pub told : (s : State) (bodies : List (List ℕ)) → Tells s bodies → kept s ≡ Some bodies
unfolding kept
told s bodies it = rw (it.is_open, it.outside) it.are

-- what is told of a table of editions
pub table_bodies : (db : Database) → is_ours db.schema ≡ true → bodies_of db ≡ bodies_in (db.trees 0)
table_bodies db ours =
    let schema = ours_is db.schema ours in
    let blank : is_blank db.schema ≡ false = ap is_blank schema ∙ edition_is_ours.1 in
    rw (blank, ours) refl

-- a connection with bodies in its table tells them
pub tells_bodies : (s : State) → IsTrue s.is_open → (it : HasBodies s) → kept s ≡ Some it.bodies
tells_bodies s up it = told s it.bodies (record { is_open = up; outside = it.table.settled.outside; are = table_bodies s.now it.table.ours ∙ it.are })

-- where what is told after a call was told before it
pub told_stays : (before after : Told) → ((bodies : List (List ℕ)) → after ≡ Some bodies → before ≡ Some bodies) → ToldAfter before after BodiesStay
told_stays before None back = tt
told_stays None (Some new) back = let e = back new refl in absurd cc
told_stays (Some old) (Some new) back = let e = back new refl in cc

pub where_told : (before after : Told) → ToldAfter before after BodiesStay → WhereTold before after BodiesStay
where_told None after stay = tt
where_told (Some old) None stay = tt
where_told (Some old) (Some new) stay = stay

-- a connection that stays keeps what it kept
pub told_stays_back : (old new : State) → Stays old new → (IsTrue old.is_open → IsSettled old) → (bodies : List (List ℕ)) → kept new ≡ Some bodies → kept old ≡ Some bodies
told_stays_back old new stays before bodies e =
    let it = tells new bodies e in
    let was = stays.was_open it.is_open in
    let same = stays.same it.is_open in
    told old bodies (record { is_open = was; outside = (before was).outside; are = sym (ap bodies_of same) ∙ it.are })

pub kept_stays : (old new : State) → Stays old new → (IsTrue old.is_open → IsSettled old) → ToldAfter (kept old) (kept new) BodiesStay
kept_stays old new stays before = told_stays (kept old) (kept new) (told_stays_back old new stays before)

-- and tells it while it is open
pub told_onwards : (old new : State) → Stays old new → IsTrue new.is_open → (bodies : List (List ℕ)) → kept old ≡ Some bodies → kept new ≡ Some bodies
told_onwards old new stays up bodies e =
    let it = tells old bodies e in
    told new bodies (record { is_open = up; outside = (stays.settled up).outside; are = ap bodies_of (stays.same up) ∙ it.are })

pub still_table : (old new : State) → Stays old new → (IsTrue old.is_open → HasTable old) → IsTrue new.is_open → HasTable new
still_table old new stays table up =
    let was = stays.was_open up in
    let same = stays.same up in
    record { settled = stays.settled up; ours = ap (λ (db : Database). is_ours db.schema) same ∙ (table was).ours }

pub still_speaks : (old new : State) → Stays old new → Speaks old → Speaks new
still_speaks old new stays speaks = λ up.
    let was = stays.was_open up in
    let same = stays.same up in
    let before = speaks was in
    record {
      table = still_table old new stays (λ w. (speaks w).table) up;
      bodies = before.bodies;
      are = ap (λ (db : Database). bodies_in (db.trees 0)) same ∙ before.are;
    }

-- a statement that was refused, or failed
abbrev pub IsQuiet : State → State → Type 0
IsQuiet old new = IsUnchanged old new ⊎ IsRolledBack old new

alone_quiet : (shows : Bool) (old new : State) (sql : List ℕ) (c : Compiled) (params : Row) (e : Error) (Shows : Type 0) → MatchBool shows (Shows × IsUnchanged old new) (RunsCommand old new sql c params (Err e)) → IsQuiet old new
alone_quiet true old new sql c params e Shows h = inl h.1
alone_quiet false old new sql c params e Shows (inl h) = inl h.1
alone_quiet false old new sql c params e Shows (inr h) = inr h.3

pub not_run_quiet : (old new : State) (sql : List ℕ) (params : Row) (e : Error) → IsNotRun old new sql params e → IsQuiet old new
unfolding IsNotRun
not_run_quiet old new sql params e (inl h) = inl h.1
not_run_quiet old new sql params e (inr h) = inr h.3

pub refused_quiet : (sql : List ℕ) (params : Row) (old new : State) (e : Error) → Executes sql params old new (Err e) → IsQuiet old new
unfolding ExecutesIn
refused_quiet sql params old new e (inl h) = not_run_quiet old new sql params e h
refused_quiet sql params old new e (inr h) = alone_quiet (shows_rows false h.0) old new sql h.0 _ e _ h.2

plain_none : (made : Result Compiled CompileError) (c : Compiled) → made ≡ Ok c → IsPlain made → c.returning ≡ None
plain_none made c e plain = (subst IsPlain e plain).0

shown_quiet : (old new : State) (sql : List ℕ) (c : Compiled) (params : Row) (rows : List Row) (returning : Option Returning) → (IsTrue old.is_open → returning ≡ None) → ShowsRows old new sql c params rows returning → IsQuiet old new
shown_quiet old new sql c params rows None none h = inl h.3
shown_quiet old new sql c params rows (Some what) none h = let e = none h.1.shown.was_open in absurd cc

unshown_quiet : (old new : State) (sql : List ℕ) (c : Compiled) (params : Row) (e : Error) (returning : Option Returning) → FailsToShow old new sql c params e returning → IsQuiet old new
unshown_quiet old new sql c params e None h = inl h.3
unshown_quiet old new sql c params e (Some what) (inl h) = inl h.1
unshown_quiet old new sql c params e (Some what) (inr h) = inr h.3

pub query_quiet : (sql : List ℕ) (params : Row) (old new : State) (result : Result Row Error) → (IsTrue old.is_open → IsPlain (understood old.now.schema sql)) → QueriesRow sql params old new result → IsQuiet old new
unfolding QueriesRow Shown FailsToQuery
query_quiet sql params old new (Ok row) plain (inl h) = inl h.1
query_quiet sql params old new (Ok row) plain (inr h) =
    shown_quiet old new sql h.1.0 _ h.0 h.1.0.returning (λ up. plain_none _ h.1.0 h.1.1.is (plain up)) h.1.2
query_quiet sql params old new (Err e) plain (inl (inl h)) = not_run_quiet old new sql params e h
query_quiet sql params old new (Err e) plain (inl (inr h)) = unshown_quiet old new sql h.0 _ e h.0.returning h.2
query_quiet sql params old new (Err e) plain (inr h) =
    shown_quiet old new sql h.1.0 _ [] h.1.0.returning (λ up. plain_none _ h.1.0 h.1.1.is (plain up)) h.1.2

-- a quiet call over a settled connection
quiet_open : (old new : State) → IsQuiet old new → IsTrue new.is_open → IsTrue old.is_open
quiet_open old new (inl h) up = h.0.was_open
quiet_open old new (inr h) up = h.was_open up

quiet_same : (old new : State) → IsQuiet old new → (IsTrue old.is_open → IsSettled old) → IsTrue new.is_open → new.now ≡ old.now
quiet_same old new (inl h) settled up = h.0.now_is
quiet_same old new (inr h) settled up = (h.undone up).0 ∙ sym (settled (h.was_open up)).settled

quiet_settled : (old new : State) → IsQuiet old new → (IsTrue old.is_open → IsSettled old) → IsTrue new.is_open → IsSettled new
quiet_settled old new (inl h) settled up =
    let before = settled h.0.was_open in
    record { outside = h.0.mode ∙ before.outside; settled = h.0.now_is ∙ before.settled ∙ sym h.0.committed_is }
quiet_settled old new (inr h) settled up =
    record { outside = h.autocommit; settled = (h.undone up).0 ∙ sym (h.undone up).1 }

-- a call that was quiet, where the connection is still clean, leaves it as it was
pub stays_quiet : (old new : State) → (new.is_clean ≡ false → new.is_open ≡ false) → (IsTrue old.is_open → IsSettled old) → (HasCleanDisk new → IsQuiet old new) → Stays old new
stays_quiet old new shut settled quiet = record {
  was_open = λ up. quiet_open old new (quiet (open_is_clean new shut up)) up;
  same = λ up. quiet_same old new (quiet (open_is_clean new shut up)) settled up;
  settled = λ up. quiet_settled old new (quiet (open_is_clean new shut up)) settled up;
}

-- a connection stays as it is, and after two calls that leave it
pub stays_so : (s : State) → (IsTrue s.is_open → IsSettled s) → Stays s s
stays_so s settled = record { was_open = λ up. up; same = λ up. refl; settled = settled }

pub stays_twice : (old middle new : State) → Stays old middle → Stays middle new → Stays old new
stays_twice old middle new first second = record {
  was_open = λ up. first.was_open (second.was_open up);
  same = λ up. second.same up ∙ first.same (second.was_open up);
  settled = λ up. second.settled up;
}

-- a connection is open behind rows that were shown
shown_open : (old new : State) (sql : List ℕ) (c : Compiled) (params : Row) (rows : List Row) (returning : Option Returning) → ShowsRows old new sql c params rows returning → IsTrue new.is_open
shown_open old new sql c params rows None h = h.3.0.is_open
shown_open old new sql c params rows (Some what) h = h.1.shown.is_open

pub row_open : (sql : List ℕ) (params : Row) (old new : State) (row : Row) → QueriesRow sql params old new (Ok row) → IsTrue new.is_open
unfolding QueriesRow Shown
row_open sql params old new row (inl h) = h.1.0.is_open
row_open sql params old new row (inr h) = shown_open old new sql h.1.0 _ h.0 h.1.0.returning h.1.2

-- a plain query leaves a connection as it was
pub query_stays : (sql : List ℕ) (params : Row) (old new : State) (result : Result Row Error) → (new.is_clean ≡ false → new.is_open ≡ false) → (IsTrue old.is_open → IsSettled old) → (IsTrue old.is_open → IsPlain (understood old.now.schema sql))
    → (HasCleanDisk new → QueriesRow sql params old new result) → Stays old new
query_stays sql params old new result shut settled plain row = stays_quiet old new shut settled (λ clean. query_quiet sql params old new result plain (row clean))

pub was_clean : (old new : State) (Commits : Trees → Type 0) → Survives old new Commits → HasCleanDisk new → HasCleanDisk old
was_clean old new Commits survives whole = let clean = survives.clean in omega arith

pub query_leaves : (sql : List ℕ) (params : Row) (old new : State) → (IsTrue old.is_open → IsPlain (understood old.now.schema sql)) → Survives old new (CommitsShowing sql params old) → LeavesAsBefore old new
query_leaves sql params old new plain survives = record {
  was_clean = was_clean old new (CommitsShowing sql params old) survives;
  crash = λ clean up db left. elim (survives.crash clean db left) [ inl was ↦ was | inr wrote ↦ absurd (never_commits sql params old db (plain up) wrote) ];
}

-- ---- small steps of the clauses

-- what follows of the value of an answer
pub ok_then : {T E : Type 0} (answer : Result T E) {P Q : T → Type 0} → IfOk answer P → ((value : T) → P value → Q value) → IfOk answer Q
ok_then (Ok value) holds step = step value holds
ok_then (Err e) holds step = tt

pub on_ok : {T E : Type 0} (answer : Result T E) {P : Type 0} → P → OnOk answer P
on_ok (Ok value) holds = holds
on_ok (Err e) holds = tt

pub told_same : (told : Told) → ToldAfter told told BodiesStay
told_same None = tt
told_same (Some bodies) = refl

-- what is told only while a connection is open
pub told_open : (before : Told) (s : State) → (IsTrue s.is_open → ToldAfter before (kept s) BodiesStay) → ToldAfter before (kept s) BodiesStay
told_open before s told = up_to (kept s) refl told
  where
    up_to : (after : Told) → kept s ≡ after → (IsTrue s.is_open → ToldAfter before after BodiesStay) → ToldAfter before after BodiesStay
    up_to None e told = tt
    up_to (Some new) e told = told (tells s new e).is_open

pub where_then : (first before after : Told) → WhereTold first before BodiesStay → ToldAfter before after BodiesStay → WhereTold first after BodiesStay
where_then None before after made stay = tt
where_then (Some old) before None made stay = tt
where_then (Some old) None (Some new) made stay = absurd stay
where_then (Some old) (Some middle) (Some new) made stay = stay ∙ made

pub told_then : (first before after : Told) (change : List (List ℕ) → List (List ℕ) → Type 0) → ToldAfter first before BodiesStay → ToldAfter before after change → ToldAfter first after change
told_then first before None change stay made = tt
told_then first None (Some new) change stay made = absurd made
told_then None (Some middle) (Some new) change stay made = absurd stay
told_then (Some old) (Some middle) (Some new) change stay made = rw stay at made

-- a connection outside a transaction is settled
pub outside_settled : (s : State) (is_outside : Bool) → is_outside ≡ not s.in_transaction → (IsTrue is_outside → IsTrue s.is_open → s.now ≡ s.committed) → is_outside ≡ true → IsTrue s.is_open → IsSettled s
outside_settled s true is settled e up = record { outside = not_so s.in_transaction (sym is); settled = settled e up }
  where
    not_so : (b : Bool) → not b ≡ true → b ≡ false
    not_so true k = absurd cc
    not_so false k = refl
outside_settled s false is settled e up = absurd cc

pub on_err : {T E : Type 0} (answer : Result T E) {P : Type 0} → P → OnErr answer P
on_err (Ok value) holds = tt
on_err (Err e) holds = holds

pub ok_then_told : {T E : Type 0} (answer : Result T E) (first before after : Told) (change : List (List ℕ) → List (List ℕ) → Type 0) → ToldAfter first before BodiesStay → OnOk answer (ToldAfter before after change) → OnOk answer (ToldAfter first after change)
ok_then_told (Ok value) first before after change stay made = told_then first before after change stay made
ok_then_told (Err e) first before after change stay made = tt

pub err_then_told : {T E : Type 0} (answer : Result T E) (first before after : Told) (change : List (List ℕ) → List (List ℕ) → Type 0) → ToldAfter first before BodiesStay → OnErr answer (ToldAfter before after change) → OnErr answer (ToldAfter first after change)
err_then_told (Ok value) first before after change stay made = tt
err_then_told (Err e) first before after change stay made = told_then first before after change stay made

-- bodies that stay may have been appended to
pub may_append : (before after : Told) (body : List ℕ) → ToldAfter before after BodiesStay → ToldAfter before after (MayAppend body)
may_append before None body stay = tt
may_append None (Some new) body stay = absurd stay
may_append (Some old) (Some new) body stay = inl stay

pub err_may_append : {T E : Type 0} (answer : Result T E) (before after : Told) (body : List ℕ) → OnErr answer (ToldAfter before after BodiesStay) → OnErr answer (ToldAfter before after (MayAppend body))
err_may_append (Ok value) before after body stay = tt
err_may_append (Err e) before after body stay = may_append before after body stay
