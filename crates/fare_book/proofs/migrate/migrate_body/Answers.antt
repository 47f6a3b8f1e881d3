use Rattle.std.proofs.Common.{◌≡◌, ◌∙◌, Err, true, false, rules, sym}
use Rattle.std.specs.Prelude.{bytes_eq}
use Rattle.fare_ports.specs.Keeper.{ToldAfter, BodyReplaced}
use Rattle.fare_book.specs.Restored.{kept_fault}
use Rattle.fare_book.proofs.Respellings.{refused, replaced, still_there, unchanged}
use Rattle.fare_book.proofs.migrate.migrate_body.Goals as goal

pub load-requires-clause-place : goal.load-requires-clause-place
load-requires-clause-place g c = λ bodies e. (c.requires.stands bodies e).0

pub returns-then-eq-clause-ok : goal.returns-then-eq-clause-ok
returns-then-eq-clause-ok g c =
    let same : bytes_eq c.in_ok-body.body.items c.in_ok-text.text.items ≡ true = rw (c.as_slice.ensures.value, c.as_slice-2.ensures.value) at (sym c.eq.ensures ∙ c.if-eq.true) in
    unchanged _ _ c.args.place c.args.edition.now c.in_ok-body.body.items c.in_ok-text.text.items c.requires.stands c.in_ok-body.ensures.bodies c.in_ok-body.ensures.body c.in_ok-text.ensures.text same

pub replace-requires-clause-place : goal.replace-requires-clause-place
replace-requires-clause-place g c = still_there _ _ c.args.place c.args.edition.now c.requires.stands c.in_ok-body.ensures.bodies

pub returns-in_err-replace-clause-err : goal.returns-in_err-replace-clause-err
returns-in_err-replace-clause-err g c =
    let out : c.from_residual-in_err-replace.result ≡ Err (kept_fault c.in_err-replace.field-0.0) = search rules in
    let text = c.as_slice-3.ensures.value in
    let made = rw text at c.in_err-replace.ensures.failed in
    rw out (refused _ _ _ c.args.place c.args.edition.now c.in_ok-body.body.items c.in_ok-text.text.items c.in_err-replace.field-0.0 c.requires.stands c.in_ok-body.ensures.bodies c.in_ok-body.ensures.body
    c.in_ok-text.ensures.text c.in_ok-text.ensures.read_back (λ e. c.in_err-replace.ensures.memory (search rules)) (λ e. made (search rules)))

pub returns-clause-ok : goal.returns-clause-ok
returns-clause-ok g c =
    let differs : bytes_eq c.in_ok-body.body.items c.in_ok-text.text.items ≡ false = rw (c.as_slice.ensures.value, c.as_slice-2.ensures.value) at (sym c.eq.ensures ∙ c.if-eq.false) in
    let made = rw c.as_slice-3.ensures.value at c.in_ok-replace.ensures.ok in
    replaced _ _ _ c.args.place c.args.edition.now c.in_ok-body.body.items c.in_ok-text.text.items c.requires.stands c.in_ok-body.ensures.bodies c.in_ok-body.ensures.body c.in_ok-text.ensures.text c.in_ok-text.ensures.read_back differs made
