use Rattle.std.proofs.Common.{◌≡◌, ℕ, ◌+◌, ◌-◌, ◌*◌, ◌<◌, ◌++◌, ◌∷◌, [], List, Option, length, take, get_or, refl, ap, sym, subst, ◌∙◌, arith}
use Rattle.std.proofs.Math.Seq.{take-length}
use Rattle.fare_trip.specs.Itinerary.{count}
use Rattle.fare_rules.specs.declared.part.Part.{Part}
use Rattle.fare_rules.specs.Construction.{end_of}
use Rattle.fare_units.specs.Walk.{Completes, GoesOn, IsPart, HasFare, next_start}
use Rattle.fare_units.proofs.FrontLemmas.{front_falls}
use Rattle.fare_component.specs.declared.table.entry.Entry.{Entry}
use Rattle.fare_component.specs.Table.{entries_of}
use Rattle.fare_floors.specs.Floors.{HasNoCompletion, IsFloor, IsFloorAnswer}
use Rattle.fare_floors.proofs.AheadLemmas.{floor_of_entry}
use Rattle.fare_branch.specs.Sought.{AllBehindPassed, IsWalk}
use Rattle.fare_branch.proofs.SoughtLemmas.{walk_after}
use Rattle.fare_branch.proofs.StepLemmas.{EndsFrom, HasEntry, walk_whole, walk_further, ends_none, ends_more, ends_all, entries_more, entries_all, units_none, units_more, units_all, part_none, part_dear, part_behind, part_walked}
use Rattle.fare_branch.proofs.walking.+walk.Goals as goal

pub enter-returns-in_default-clause-walk : goal.enter-returns-in_default-clause-walk
enter-returns-in_default-clause-walk g t c =
    part_none c.args.stage.now.table.now.edition c.args.stage.now.table.now.trip c.args.stage.now.front.now c.args.part (g.S.Seeker.passed c.args.seeker.now c.args.known.now) (g.S.Seeker.has c.args.seeker.now c.args.known.now) c.in_default.ensures

pub enter-returns-then-is_barred-clause-walk : goal.enter-returns-then-is_barred-clause-walk
enter-returns-then-is_barred-clause-walk g t c =
    part_none c.args.stage.now.table.now.edition c.args.stage.now.table.now.trip c.args.stage.now.front.now c.args.part (g.S.Seeker.passed c.args.seeker.now c.args.known.now) (g.S.Seeker.has c.args.seeker.now c.args.known.now)
    (subst (HasNoCompletion c.args.stage.now.table.now.edition c.args.stage.now.table.now.trip) c.in-Some.ensures.0 (c.is_barred.ensures c.if-is_barred.true))

pub enter-returns-in_default-floor-clause-walk : goal.enter-returns-in_default-floor-clause-walk
enter-returns-in_default-floor-clause-walk g t c =
    let P : Option ℕ → Type 0 = λ floor. IsFloorAnswer c.args.stage.now.table.now.edition c.args.stage.now.table.now.trip c.in-Some.longer floor in
    part_none c.args.stage.now.table.now.edition c.args.stage.now.table.now.trip c.args.stage.now.front.now c.args.part (g.S.Seeker.passed c.args.seeker.now c.args.known.now) (g.S.Seeker.has c.args.seeker.now c.args.known.now)
    (subst (HasNoCompletion c.args.stage.now.table.now.edition c.args.stage.now.table.now.trip) c.in-Some.ensures.0 (subst P c.in_default-floor.is c.stack_after-stack.ensures.floor))

pub enter-returns-then-is_dear-clause-walk : goal.enter-returns-then-is_dear-clause-walk
enter-returns-then-is_dear-clause-walk g t c =
    let P : List Part → Type 0 = λ xs. IsFloor c.args.stage.now.table.now.edition c.args.stage.now.table.now.trip xs c.in-Some-floor.floor in
    part_dear c.args.stage.now.table.now.edition c.args.stage.now.table.now.trip c.args.stage.now.front.now c.args.part c.in-Some-floor.floor (g.S.Seeker.passed c.args.seeker.now c.args.known.now) (g.S.Seeker.passed c.args.seeker.now c.is_dear.new.known) (g.S.Seeker.has c.args.seeker.now c.args.known.now) (g.S.Seeker.has c.args.seeker.now c.is_dear.new.known)
    c.is_dear.ensures.still (c.is_dear.ensures.dear c.if-is_dear.true c.args.stage.now.table.now.edition c.args.stage.now.table.now.trip c.requires.holds) (subst P c.in-Some.ensures.0 (subst (IsFloorAnswer c.args.stage.now.table.now.edition c.args.stage.now.table.now.trip c.in-Some.longer) c.in-Some-floor.is c.stack_after-stack.ensures.floor))

pub enter-returns-then-is_behind-clause-walk : goal.enter-returns-then-is_behind-clause-walk
enter-returns-then-is_behind-clause-walk g t c =
    let P : List Part → Type 0 = λ xs. IsFloor c.args.stage.now.table.now.edition c.args.stage.now.table.now.trip xs c.in-Some-floor.floor in
    let Q : List Part → Type 0 = λ xs. AllBehindPassed xs c.in-Some-floor.floor (g.S.Seeker.passed c.args.seeker.now c.is_dear.new.known) in
    part_behind c.args.stage.now.table.now.edition c.args.stage.now.table.now.trip c.args.stage.now.front.now c.args.part c.in-Some-floor.floor (g.S.Seeker.passed c.args.seeker.now c.args.known.now) (g.S.Seeker.passed c.args.seeker.now c.is_dear.new.known) (g.S.Seeker.has c.args.seeker.now c.args.known.now) (g.S.Seeker.has c.args.seeker.now c.is_dear.new.known)
    c.is_dear.ensures.still (subst Q c.in-Some.ensures.0 (c.is_behind.ensures c.if-is_behind.true c.args.stage.now.table.now.edition c.args.stage.now.table.now.trip (c.is_dear.ensures.holds c.args.stage.now.table.now.edition c.args.stage.now.table.now.trip c.requires.holds))) (subst P c.in-Some.ensures.0 (subst (IsFloorAnswer c.args.stage.now.table.now.edition c.args.stage.now.table.now.trip c.in-Some.longer) c.in-Some-floor.is c.stack_after-stack.ensures.floor))

pub enter-returns-then-is_crowded-clause-walk : goal.enter-returns-then-is_crowded-clause-walk
enter-returns-then-is_crowded-clause-walk g t c =
    walk_after c.args.stage.now.table.now.edition c.args.stage.now.table.now.trip (GoesOn c.args.stage.now.front.now (IsPart c.args.part)) (g.S.Seeker.passed c.args.seeker.now c.args.known.now) (g.S.Seeker.passed c.args.seeker.now c.is_dear.new.known) (g.S.Seeker.passed c.args.seeker.now c.is_dear.new.known) (g.S.Seeker.has c.args.seeker.now c.args.known.now) (g.S.Seeker.has c.args.seeker.now c.is_dear.new.known) (g.S.Seeker.has c.args.seeker.now c.is_dear.new.known) c.is_dear.ensures.still
    (part_none c.args.stage.now.table.now.edition c.args.stage.now.table.now.trip c.args.stage.now.front.now c.args.part (g.S.Seeker.passed c.args.seeker.now c.is_dear.new.known) (g.S.Seeker.has c.args.seeker.now c.is_dear.new.known)
    (subst (HasNoCompletion c.args.stage.now.table.now.edition c.args.stage.now.table.now.trip) c.in-Some.ensures.0 (c.is_crowded.ensures c.if-is_crowded.true)))

pub enter-walk-requires : goal.enter-walk-requires
enter-walk-requires g t c κs within =
    let fewer : 5 * (count c.args.stage.now.table.now.trip - end_of (c.args.stage.now.front.now ++ c.args.part ∷ []) (length (c.args.stage.now.front.now ++ c.args.part ∷ []))) + 4 < 5 * (count c.args.stage.now.table.now.trip - end_of c.args.stage.now.front.now (length c.args.stage.now.front.now)) =
    front_falls c.args.stage.now.table.now.trip c.args.stage.now.front.now c.args.part c.requires.rises c.requires.within in
    let Q : List Part → Type 0 = λ xs. 6 * (count c.args.stage.now.table.now.trip - end_of xs (length xs)) + 5 < 6 * (count c.args.stage.now.table.now.trip - end_of c.args.stage.now.front.now (length c.args.stage.now.front.now)) in
    let falls : 6 * (count c.args.stage.now.table.now.trip - end_of c.in-Some.longer (length c.in-Some.longer)) + 5 < 6 * (count c.args.stage.now.table.now.trip - end_of c.args.stage.now.front.now (length c.args.stage.now.front.now)) =
    subst Q (sym c.in-Some.ensures.0) (omega arith) in
    (omega arith, (within.0, (within.1, (record { homings = c.requires.stage.homings; made = c.in-Some.ensures.1; next = c.ahead_of-ahead.ensures }, c.is_dear.ensures.holds c.args.stage.now.table.now.edition c.args.stage.now.table.now.trip c.requires.holds))))

pub enter-returns-clause-walk : goal.enter-returns-clause-walk
enter-returns-clause-walk g t c =
    let P : List Part → Type 0 = λ xs. IsWalk c.args.stage.now.table.now.edition c.args.stage.now.table.now.trip (Completes xs) (g.S.Seeker.passed c.args.seeker.now c.is_dear.new.known) (g.S.Seeker.has c.args.seeker.now c.is_dear.new.known) (g.S.Seeker.passed c.walk.new.seeker c.walk.new.known) (g.S.Seeker.has c.walk.new.seeker c.walk.new.known) in
    walk_after c.args.stage.now.table.now.edition c.args.stage.now.table.now.trip (GoesOn c.args.stage.now.front.now (IsPart c.args.part)) (g.S.Seeker.passed c.args.seeker.now c.args.known.now) (g.S.Seeker.passed c.args.seeker.now c.is_dear.new.known) (g.S.Seeker.passed c.walk.new.seeker c.walk.new.known) (g.S.Seeker.has c.args.seeker.now c.args.known.now) (g.S.Seeker.has c.args.seeker.now c.is_dear.new.known) (g.S.Seeker.has c.walk.new.seeker c.walk.new.known) c.is_dear.ensures.still
    (part_walked c.args.stage.now.table.now.edition c.args.stage.now.table.now.trip c.args.stage.now.front.now c.args.part (g.S.Seeker.passed c.args.seeker.now c.is_dear.new.known) (g.S.Seeker.passed c.walk.new.seeker c.walk.new.known) (g.S.Seeker.has c.args.seeker.now c.is_dear.new.known) (g.S.Seeker.has c.walk.new.seeker c.walk.new.known) (subst P c.in-Some.ensures.0 c.walk.ensures.walk))

pub walk-returns-then-end-count-clause-walk : goal.walk-returns-then-end-count-clause-walk
walk-returns-then-end-count-clause-walk g t c =
    let n : c.count.result ≡ count c.args.stage.now.table.now.trip = c.count.ensures.value ∙ ap count c.trip.ensures in
    walk_whole c.args.stage.now.table.now.edition c.args.stage.now.table.now.trip c.args.stage.now.front.now (g.S.Seeker.passed c.args.seeker.now c.args.known.now) (g.S.Seeker.passed c.offer.new.seeker c.offer.new.known) (g.S.Seeker.has c.args.seeker.now c.args.known.now) (g.S.Seeker.has c.offer.new.seeker c.offer.new.known) (omega arith) c.offer.ensures.walk

pub walk-returns-clause-walk : goal.walk-returns-clause-walk
walk-returns-clause-walk g t c =
    let n : c.count.result ≡ count c.args.stage.now.table.now.trip = c.count.ensures.value ∙ ap count c.trip.ensures in
    walk_further c.args.stage.now.table.now.edition c.args.stage.now.table.now.trip c.args.stage.now.front.now (g.S.Seeker.passed c.args.seeker.now c.args.known.now) (g.S.Seeker.passed c.walk_ends.new.seeker c.walk_ends.new.known) (g.S.Seeker.has c.args.seeker.now c.args.known.now) (g.S.Seeker.has c.walk_ends.new.seeker c.walk_ends.new.known) (λ e. omega arith) c.walk_ends.ensures.walk

pub walk_ends-loop-end-init : goal.walk_ends-loop-end-init
walk_ends-loop-end-init g t c =
    let n : c.count-end.result ≡ count c.args.stage.now.table.now.trip = c.count-end.ensures.value ∙ ap count c.trip-trip.ensures in
    record {
      fixed = refl;
      holds = c.requires.holds;
      walk = ends_none c.args.stage.now.table.now.edition c.args.stage.now.table.now.trip c.args.stage.now.front.now (c.count-end.result + 1) (g.S.Seeker.passed c.args.seeker.now c.args.known.now) (g.S.Seeker.has c.args.seeker.now c.args.known.now) (omega arith);
    }

pub walk_ends-loop-end-preserved : goal.walk_ends-loop-end-preserved
walk_ends-loop-end-preserved g t c =
    let e : c.loop-end.end ≡ c.loop-end.end - 1 + 1 = omega arith in
    let P : ℕ → Type 0 = λ n. IsWalk c.args.stage.now.table.now.edition c.args.stage.now.table.now.trip (GoesOn c.args.stage.now.front.now (EndsFrom n)) (g.S.Seeker.passed c.args.seeker.now c.args.known.now) (g.S.Seeker.has c.args.seeker.now c.args.known.now) (g.S.Seeker.passed c.loop-end.seeker c.loop-end.known) (g.S.Seeker.has c.loop-end.seeker c.loop-end.known) in
    record {
      fixed = c.walk_entries.ensures.fixed ∙ c.loop-end.invariant.fixed;
      holds = c.walk_entries.ensures.holds;
      walk = ends_more c.args.stage.now.table.now.edition c.args.stage.now.table.now.trip c.args.stage.now.front.now (c.loop-end.end - 1) (g.S.Seeker.passed c.args.seeker.now c.args.known.now) (g.S.Seeker.passed c.loop-end.seeker c.loop-end.known) (g.S.Seeker.passed c.walk_entries.new.seeker c.walk_entries.new.known) (g.S.Seeker.has c.args.seeker.now c.args.known.now) (g.S.Seeker.has c.loop-end.seeker c.loop-end.known) (g.S.Seeker.has c.walk_entries.new.seeker c.walk_entries.new.known)
          (subst P e c.loop-end.invariant.walk) c.walk_entries.ensures.walk;
    }

pub walk_ends-returns-clause-walk : goal.walk_ends-returns-clause-walk
walk_ends-returns-clause-walk g t c =
    ends_all c.args.stage.now.table.now.edition c.args.stage.now.table.now.trip c.args.stage.now.front.now c.loop-end.end (g.S.Seeker.passed c.args.seeker.now c.args.known.now) (g.S.Seeker.passed c.loop-end.seeker c.loop-end.known) (g.S.Seeker.has c.args.seeker.now c.args.known.now) (g.S.Seeker.has c.loop-end.seeker c.loop-end.known)
    (let start : c.next_start-end-start.result ≡ next_start c.args.stage.now.table.now.trip c.args.stage.now.front.now = cc in omega arith)
    c.loop-end.invariant.walk

pub walk_entries-loop-entry-preserved : goal.walk_entries-loop-entry-preserved
walk_entries-loop-entry-preserved g t c =
    let same : c.entry-item.result ≡ get_or c.entries-entry-items.result.now c.loop-entry.entry-index c.entry-item.result = c.entry-item.is in
    let P : Entry → Type 0 = λ one. IsWalk c.args.stage.now.table.now.edition c.args.stage.now.table.now.trip (GoesOn c.args.stage.now.front.now (HasFare c.args.end one.fare)) (g.S.Seeker.passed c.loop-entry.seeker c.loop-entry.known) (g.S.Seeker.has c.loop-entry.seeker c.loop-entry.known) (g.S.Seeker.passed c.walk_units.new.seeker c.walk_units.new.known) (g.S.Seeker.has c.walk_units.new.seeker c.walk_units.new.known) in
    record {
      fixed = c.walk_units.ensures.fixed ∙ c.loop-entry.invariant.fixed;
      holds = c.walk_units.ensures.holds;
      walk = entries_more c.args.stage.now.table.now.edition c.args.stage.now.table.now.trip c.args.stage.now.front.now c.args.end c.loop-entry.entry-index c.entries-entry-items.result.now c.entry-item.result (g.S.Seeker.passed c.args.seeker.now c.args.known.now) (g.S.Seeker.passed c.loop-entry.seeker c.loop-entry.known) (g.S.Seeker.passed c.walk_units.new.seeker c.walk_units.new.known) (g.S.Seeker.has c.args.seeker.now c.args.known.now) (g.S.Seeker.has c.loop-entry.seeker c.loop-entry.known) (g.S.Seeker.has c.walk_units.new.seeker c.walk_units.new.known)
          (omega arith) c.loop-entry.invariant.walk (subst P same c.walk_units.ensures.walk);
    }

pub walk_entries-returns-clause-walk : goal.walk_entries-returns-clause-walk
walk_entries-returns-clause-walk g t c =
    let start : c.next_start-start.result ≡ next_start c.args.stage.now.table.now.trip c.args.stage.now.front.now = cc in
    let entries : c.entries-entry-items.result.now ≡ entries_of c.args.stage.now.table.now.edition c.args.stage.now.table.now.trip (next_start c.args.stage.now.table.now.trip c.args.stage.now.front.now) c.args.end =
    c.entries-entry-items.ensures.entries ∙ ap (λ n. entries_of c.args.stage.now.table.now.edition c.args.stage.now.table.now.trip n c.args.end) start in
    let last : c.loop-entry.entry-index ≡ length c.entries-entry-items.result.now = omega arith in
    let P : List Entry → Type 0 = λ es. IsWalk c.args.stage.now.table.now.edition c.args.stage.now.table.now.trip (GoesOn c.args.stage.now.front.now (HasEntry c.args.end es)) (g.S.Seeker.passed c.args.seeker.now c.args.known.now) (g.S.Seeker.has c.args.seeker.now c.args.known.now) (g.S.Seeker.passed c.loop-entry.seeker c.loop-entry.known) (g.S.Seeker.has c.loop-entry.seeker c.loop-entry.known) in
    entries_all c.args.stage.now.table.now.edition c.args.stage.now.table.now.trip c.args.stage.now.front.now c.args.end c.entries-entry-items.result.now (g.S.Seeker.passed c.args.seeker.now c.args.known.now) (g.S.Seeker.passed c.loop-entry.seeker c.loop-entry.known) (g.S.Seeker.has c.args.seeker.now c.args.known.now) (g.S.Seeker.has c.loop-entry.seeker c.loop-entry.known)
    entries
    (subst P (ap (λ n. take n c.entries-entry-items.result.now) last ∙ take-length c.entries-entry-items.result.now) c.loop-entry.invariant.walk)

pub walk_units-loop-unit-init : goal.walk_units-loop-unit-init
walk_units-loop-unit-init g t c = record {
  fixed = refl;
  holds = c.requires.holds;
  walk = units_none c.args.stage.now.table.now.edition c.args.stage.now.table.now.trip c.args.stage.now.front.now c.args.end c.args.entry.now.fare (g.S.Seeker.passed c.args.seeker.now c.args.known.now) (g.S.Seeker.has c.args.seeker.now c.args.known.now);
}

pub walk_units-loop-unit-preserved : goal.walk_units-loop-unit-preserved
walk_units-loop-unit-preserved g t c = record {
  fixed = c.follow.ensures.fixed ∙ c.loop-unit.invariant.fixed;
  holds = c.follow.ensures.holds;
  walk = units_more c.args.stage.now.table.now.edition c.args.stage.now.table.now.trip c.args.stage.now.front.now (record { end = c.args.end; unit = c.loop-unit.unit; fare = c.args.entry.now.fare }) (g.S.Seeker.passed c.args.seeker.now c.args.known.now) (g.S.Seeker.passed c.loop-unit.seeker c.loop-unit.known) (g.S.Seeker.passed c.follow.new.seeker c.follow.new.known) (g.S.Seeker.has c.args.seeker.now c.args.known.now) (g.S.Seeker.has c.loop-unit.seeker c.loop-unit.known) (g.S.Seeker.has c.follow.new.seeker c.follow.new.known)
      c.loop-unit.invariant.walk c.follow.ensures.walk;
}

pub walk_units-returns-clause-walk : goal.walk_units-returns-clause-walk
walk_units-returns-clause-walk g t c =
    units_all c.args.stage.now.table.now.edition c.args.stage.now.table.now.trip c.args.stage.now.front.now c.args.end c.args.entry.now.fare c.loop-unit.unit (g.S.Seeker.passed c.args.seeker.now c.args.known.now) (g.S.Seeker.passed c.loop-unit.seeker c.loop-unit.known) (g.S.Seeker.has c.args.seeker.now c.args.known.now) (g.S.Seeker.has c.loop-unit.seeker c.loop-unit.known)
    (omega arith) c.loop-unit.invariant.walk

pub follow-returns-in_default-clause-walk : goal.follow-returns-in_default-clause-walk
follow-returns-in_default-clause-walk g t c =
    part_none c.args.stage.now.table.now.edition c.args.stage.now.table.now.trip c.args.stage.now.front.now c.args.part (g.S.Seeker.passed c.args.seeker.now c.args.known.now) (g.S.Seeker.has c.args.seeker.now c.args.known.now) (subst (IsFloorAnswer c.args.stage.now.table.now.edition c.args.stage.now.table.now.trip (c.args.stage.now.front.now ++ c.args.part ∷ [])) c.in_default.is c.requires.floor)

pub follow-returns-then-is_dear-clause-walk : goal.follow-returns-then-is_dear-clause-walk
follow-returns-then-is_dear-clause-walk g t c =
    part_dear c.args.stage.now.table.now.edition c.args.stage.now.table.now.trip c.args.stage.now.front.now c.args.part c.in-Some.least (g.S.Seeker.passed c.args.seeker.now c.args.known.now) (g.S.Seeker.passed c.args.seeker.now c.is_dear.new.known) (g.S.Seeker.has c.args.seeker.now c.args.known.now) (g.S.Seeker.has c.args.seeker.now c.is_dear.new.known)
    c.is_dear.ensures.still (c.is_dear.ensures.dear c.if-is_dear.true c.args.stage.now.table.now.edition c.args.stage.now.table.now.trip c.requires.holds) (subst (IsFloorAnswer c.args.stage.now.table.now.edition c.args.stage.now.table.now.trip (c.args.stage.now.front.now ++ c.args.part ∷ [])) c.in-Some.is c.requires.floor)

pub follow-returns-clause-walk : goal.follow-returns-clause-walk
follow-returns-clause-walk g t c =
    walk_after c.args.stage.now.table.now.edition c.args.stage.now.table.now.trip (GoesOn c.args.stage.now.front.now (IsPart c.args.part)) (g.S.Seeker.passed c.args.seeker.now c.args.known.now) (g.S.Seeker.passed c.args.seeker.now c.is_dear.new.known) (g.S.Seeker.passed c.enter.new.seeker c.enter.new.known) (g.S.Seeker.has c.args.seeker.now c.args.known.now) (g.S.Seeker.has c.args.seeker.now c.is_dear.new.known) (g.S.Seeker.has c.enter.new.seeker c.enter.new.known) c.is_dear.ensures.still c.enter.ensures.walk

pub walk_units-follow-requires : goal.walk_units-follow-requires
walk_units-follow-requires g t c κs within = (
  omega arith,
  (
    within.0,
    (
      within.1,
      (
        c.requires.stage,
        (
          c.requires.rises,
          (
            c.requires.within,
            (
              floor_of_entry c.args.stage.now.table.now c.args.stage.now.front.now c.args.stage.now.ahead.now c.requires.stage.next (record { end = c.args.end; unit = c.loop-unit.unit; fare = c.args.entry.now.fare }) c.args.entry.now c.requires.there refl c.floor_with-floor.result c.floor_with-floor.ensures.up c.floor_with-floor.ensures.above,
              c.loop-unit.invariant.holds,
            ),
          ),
        ),
      ),
    ),
  ),
)

pub enter-stack_after-stack-requires-clause-before : goal.enter-stack_after-stack-requires-clause-before
enter-stack_after-stack-requires-clause-before g t c = record { front = c.args.stage.now.front.now; last = c.args.part; whole = c.in-Some.ensures.0; known = c.requires.stage.next.floors }
