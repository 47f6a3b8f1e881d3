use Rattle.std.proofs.Common.{◌+◌, arith, sym, ◌∙◌, length-drop}
use Rattle.std.proofs.lemmas.List.{drop_all}
use Rattle.fare_ports.proofs.Pieces.{slice-end, drop-piece}
use Rattle.fare_outside.proofs.plain_source.PlainSourceSource.read.Goals as goal

pub returns-clause-bytes : goal.returns-clause-bytes
returns-clause-bytes c =
    let xs = c.self.inside.bytes.items in
    let at = c.self.inside.at in
    let count = c.copy_front-count.result in
    let copied = rw (slice-end c.deref.result.now at, c.deref.ensures.value) at c.copy_front-count.ensures.copied in
    let size = rw (slice-end c.deref.result.now at, c.deref.ensures.value) at c.copy_front-count.ensures.count in
    let split = rw (← copied) at (drop-piece xs at count) in (
      sym c.self.view_is ∙ split,
      λ none room. drop_all (at + count) xs (omega (arith, size, length-drop at xs)),
    )
