-- a group begins where a place leads
use Rattle.std.proofs.Common.{◌≡◌, get_or, ap, sym, ◌∙◌}
use Rattle.std.specs.List.{position_from}
use Rattle.fare_records.specs.Keyed.{own_key}
use Rattle.fare_tariff.specs.Faulty.{is_of}
use Rattle.fare_tariff.proofs.Grouped.{first_of_keys, not_both}
use Rattle.fare_tariff.proofs.check.clear.is_clear_at.Goals as goal

pub is_clear_group-requires-clause-first : goal.is_clear_group-requires-clause-first
is_clear_group-requires-clause-first c =
    let one = c.index-records-place.result in
    let all = c.args.filed.now in
    let read : c.index-records-place.result ≡ get_or c.args.filed.now c.args.place c.index-records-place.result = c.index-records-place.is ∙ ap (λ l. get_or l c.args.place c.index-records-place.result) c.records.ensures.records in
    ap (λ o. position_from (is_of c.args.groups.now (own_key o)) 0 c.args.filed.now) read
    ∙ sym (first_of_keys all c.args.groups.now c.args.place one c.requires.grouped)
    ∙ (c.leads.ensures (own_key one)).0 c.if-not-leads.false

pub returns-then-not-leads : goal.returns-then-not-leads
returns-then-not-leads c = λ led d first.
    not_both c.leads.result led ((c.leads.ensures (own_key d)).1 (first_of_keys c.args.filed.now c.args.groups.now c.args.place d c.requires.grouped ∙ first))
