use Rattle.std.proofs.Common.{◌≡◌, length, sym, ◌∙◌, ap, subst, List}
use Rattle.std.specs.List.{AllZip, refill}
use Rattle.fare_rounds.specs.declared.entry.Entry.{Entry}
use Rattle.fare_rounds.specs.Entries.{IsViewed, Row}
use Rattle.fare_rounds.proofs.ViewLemmas.{all-zip-from, refilled}
use Rattle.fare_rounds.proofs.round.Round.view_all.Goals as goal

pub returns : goal.returns
returns g c =
    let viewed = IsViewed (g.F.Front.reply c.args.front.now) in
    let old : List Entry = c.self.inside.entries.items in
    let new : List Entry = c.view_each.new.entries in
    let lent : c.as_mut_slice.result.now ≡ old = c.as_mut_slice.ensures.value in
    let same : length new ≡ length old = c.view_each.auto.entries ∙ ap length lent in
    let each = rw lent at c.view_each.ensures in
    let seen : old ≡ c.args.self.now.entries = ap (λ (row : Row). row.entries) c.self.view_is in
    let all = all-zip-from viewed old new same each in (
      subst (λ entries. AllZip viewed entries (refill (length old) old new)) seen
          (subst (λ entries. AllZip viewed old entries) (sym (refilled old new same)) all),
      ap (λ (row : Row). row.cut) c.self.view_is,
    )
