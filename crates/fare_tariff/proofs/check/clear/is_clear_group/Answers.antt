-- one step from a record of the group to the next
use Rattle.std.proofs.Common.{◌≡◌, ◌<◌, Some, get_or, refl, ap, subst, ◌∙◌, arith}
use Rattle.fare_records.specs.Keyed.{own_key}
use Rattle.fare_tariff.specs.Seen.{noted}
use Rattle.fare_tariff.proofs.Grouped.{IsWalked, left_from, next_of_keys, walk_at, walk_first, walk_next, walk_over, walk_within}
use Rattle.fare_tariff.proofs.check.clear.is_clear_group.Goals as goal

pub loop-place-init : goal.loop-place-init
loop-place-init c =
    let walked = walk_first c.args.filed.now c.args.groups.now (own_key c.args.one.now) c.new-seen.result c.args.first c.new-seen.ensures c.requires.first in
    record { within = walk_within _ _ _ _ _ walked; walked = walked }

pub returns-in_default : goal.returns-in_default
returns-in_default c = λ clear.
    let all = c.args.filed.now in
    let g = c.args.groups.now in
    let key = own_key c.args.one.now in
    let place = c.loop-place.place in
    let other = c.index-records-place.result in
    let read : c.index-records-place.result ≡ get_or c.args.filed.now c.loop-place.place c.index-records-place.result = c.index-records-place.is ∙ ap (λ l. get_or l c.loop-place.place c.index-records-place.result) c.records.ensures.records in
    let here = walk_at all g key c.loop-place.seen (Some place) place refl c.loop-place.invariant.walked in
    let found = c.behind.ensures (own_key other) ∙ next_of_keys all g key place other c.requires.grouped (here.of_group other) in
    let on = walk_next all g key c.loop-place.seen (noted c.loop-place.seen other) (Some place) c.behind.result place other refl read (omega (arith, c.if-place-ge-MOST_RECORDS.false)) c.if-is_suspect.ensures refl found c.loop-place.invariant.walked in
    walk_over all g key (noted c.loop-place.seen other) c.behind.result c.in_default.is on.0

pub loop-place-smaller : goal.loop-place-smaller
loop-place-smaller c =
    let all = c.args.filed.now in
    let g = c.args.groups.now in
    let key = own_key c.args.one.now in
    let place = c.loop-place.place in
    let other = c.index-records-place.result in
    let read : c.index-records-place.result ≡ get_or c.args.filed.now c.loop-place.place c.index-records-place.result = c.index-records-place.is ∙ ap (λ l. get_or l c.loop-place.place c.index-records-place.result) c.records.ensures.records in
    let here = walk_at all g key c.loop-place.seen (Some place) place refl c.loop-place.invariant.walked in
    let found = c.behind.ensures (own_key other) ∙ next_of_keys all g key place other c.requires.grouped (here.of_group other) in
    let on = walk_next all g key c.loop-place.seen c.note.new.self (Some place) c.behind.result place other refl read (omega (arith, c.if-place-ge-MOST_RECORDS.false)) c.if-is_suspect.ensures c.note.ensures found c.loop-place.invariant.walked in
    subst (λ o. left_from c.args.filed.now c.args.groups.now (own_key c.args.one.now) o < left_from c.args.filed.now c.args.groups.now (own_key c.args.one.now) (Some c.loop-place.place)) c.in-Some.is on.1

pub loop-place-preserved : goal.loop-place-preserved
loop-place-preserved c =
    let all = c.args.filed.now in
    let g = c.args.groups.now in
    let key = own_key c.args.one.now in
    let place = c.loop-place.place in
    let other = c.index-records-place.result in
    let read : c.index-records-place.result ≡ get_or c.args.filed.now c.loop-place.place c.index-records-place.result = c.index-records-place.is ∙ ap (λ l. get_or l c.loop-place.place c.index-records-place.result) c.records.ensures.records in
    let here = walk_at all g key c.loop-place.seen (Some place) place refl c.loop-place.invariant.walked in
    let found = c.behind.ensures (own_key other) ∙ next_of_keys all g key place other c.requires.grouped (here.of_group other) in
    let on = walk_next all g key c.loop-place.seen c.note.new.self (Some place) c.behind.result place other refl read (omega (arith, c.if-place-ge-MOST_RECORDS.false)) c.if-is_suspect.ensures c.note.ensures found c.loop-place.invariant.walked in
    let walked = subst (IsWalked c.args.filed.now c.args.groups.now (own_key c.args.one.now) c.note.new.self) c.in-Some.is on.0 in
    record { within = walk_within _ _ _ _ _ walked; walked = walked }
