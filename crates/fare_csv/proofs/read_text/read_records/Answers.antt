use Rattle.std.proofs.Common.{◌≡◌, ◌∙◌, Err, refl, rules, sym}
use Rattle.fare_csv.proofs.RecordsLemmas.{behind-end, behind-ended, behind-followed, behind-none, behind-nothing, behind-record, fault-ended, fault-followed}
use Rattle.fare_csv.proofs.read_text.read_records.Goals as goal

pub loop-row-init : goal.loop-row-init
loop-row-init c = rw c.new-records.ensures.items (behind-none _)

pub returns-in_err-read_end : goal.returns-in_err-read_end
returns-in_err-read_end c =
    let whole = behind-end c.loop-row.records.items c.args.version c.loop-row.number c.in_ok-read_row.field-0 c.read_row.new.row c.read_row.new.self c.loop-row.rows _ c.in_ok-read_row.ensures.taken c.if-branch.true (sym c.is_end.ensures ∙ c.if-is_end.true) c.loop-row.invariant in
    let out : c.from_residual-in_err-read_end.result ≡ Err c.in_err-read_end.field-0.0 = search rules in
    rw (← whole, out) (λ other. fault-ended c.loop-row.records.items c.in_err-read_end.field-0.0 _ (c.in_err-read_end.ensures other))

pub returns-then-is_end : goal.returns-then-is_end
returns-then-is_end c =
    let whole = behind-end c.loop-row.records.items c.args.version c.loop-row.number c.in_ok-read_row.field-0 c.read_row.new.row c.read_row.new.self c.loop-row.rows _ c.in_ok-read_row.ensures.taken c.if-branch.true (sym c.is_end.ensures ∙ c.if-is_end.true) c.loop-row.invariant in
    let done = c.in_ok-read_end.ensures in
    rw (← whole, done) (behind-ended c.loop-row.records.items)

pub returns-in_err-read_record : goal.returns-in_err-read_record
returns-in_err-read_record c =
    let whole = behind-record c.loop-row.records.items c.args.version c.loop-row.number c.in_ok-read_row.field-0 c.read_row.new.row c.read_row.new.self c.loop-row.rows _ c.in_ok-read_row.ensures.taken c.if-branch.true (sym c.is_end.ensures ∙ c.if-is_end.false) c.loop-row.invariant in
    let out : c.from_residual-in_err-read_record.result ≡ Err c.in_err-read_record.field-0.0 = search rules in
    rw (← whole, out) (λ other. fault-followed c.loop-row.records.items c.in_err-read_record.field-0.0 _ _ (c.in_err-read_record.ensures other))

pub loop-row-preserved : goal.loop-row-preserved
loop-row-preserved c =
    let whole = behind-record c.loop-row.records.items c.args.version c.loop-row.number c.in_ok-read_row.field-0 c.read_row.new.row c.read_row.new.self c.loop-row.rows _ c.in_ok-read_row.ensures.taken c.if-branch.true (sym c.is_end.ensures ∙ c.if-is_end.false) c.loop-row.invariant in
    let one = c.in_ok-read_record.ensures in
    let items = c.in_ok-push.ensures.items in
    rw (items, c.saturating_add-number.ensures, ← behind-followed, ← whole, one) refl

pub returns : goal.returns
returns c = λ other. behind-nothing c.loop-row.records.items c.args.version c.loop-row.number c.in_ok-read_row.field-0 c.read_row.new.row c.read_row.new.self c.loop-row.rows _ c.in_ok-read_row.ensures.taken c.if-branch.false c.loop-row.invariant
