-- an edition, or the faults of records beside one another
use Rattle.std.proofs.Common.{◌≡◌, Ok, List, ap, sym, ◌∙◌}
use Rattle.fare_records.specs.declared.record.Record.{Record}
use Rattle.fare_tariff.specs.Tariff.{Tariff}
use Rattle.fare_csv.specs.Rows.{rows_of}
use Rattle.fare_csv.specs.TariffText.{tariff_of}
use Rattle.fare_check.specs.Faults.{fault_in}
use Rattle.fare_check.proofs.Texts.{made_broken, made_whole, text_of_broken, text_of_edition}
use Rattle.fare_check.proofs.checked.check_spelled.Goals as goal

pub returns-in-None-clause-text : goal.returns-in-None-clause-text
returns-in-None-clause-text g c =
    let with : List Record → Tariff = λ records. record { number = c.args.spelled.number; effective = c.args.spelled.effective; records = records } in
    let read : tariff_of (rows_of c.args.bytes.now) ≡ Ok (with c.in_ok-filed.filed) = c.requires ∙ ap (λ records. Ok (with records)) (sym c.in_ok-filed.ensures) in
    c.in_ok-checked_line-in-None.ensures ∙ text_of_edition c.args.bytes.now (with c.in_ok-filed.filed) (made_whole c.args.bytes.now (with c.in_ok-filed.filed) read c.in-None.ensures)

pub returns-in-None-clause-fault : goal.returns-in-None-clause-fault
returns-in-None-clause-fault g c =
    let with : List Record → Tariff = λ records. record { number = c.args.spelled.number; effective = c.args.spelled.effective; records = records } in
    let read : tariff_of (rows_of c.args.bytes.now) ≡ Ok (with c.in_ok-filed.filed) = c.requires ∙ ap (λ records. Ok (with records)) (sym c.in_ok-filed.ensures) in
    sym (ap fault_in (made_whole c.args.bytes.now (with c.in_ok-filed.filed) read c.in-None.ensures))

pub returns-clause-text : goal.returns-clause-text
returns-clause-text g c =
    let with : List Record → Tariff = λ records. record { number = c.args.spelled.number; effective = c.args.spelled.effective; records = records } in
    let read : tariff_of (rows_of c.args.bytes.now) ≡ Ok (with c.in_ok-filed.filed) = c.requires ∙ ap (λ records. Ok (with records)) (sym c.in_ok-filed.ensures) in
    c.in_ok-beside_lines-in-Some.ensures ∙ text_of_broken c.args.bytes.now c.in-Some.fault (made_broken c.args.bytes.now (with c.in_ok-filed.filed) c.in-Some.fault read c.in-Some.ensures)

pub returns-clause-fault : goal.returns-clause-fault
returns-clause-fault g c =
    let with : List Record → Tariff = λ records. record { number = c.args.spelled.number; effective = c.args.spelled.effective; records = records } in
    let read : tariff_of (rows_of c.args.bytes.now) ≡ Ok (with c.in_ok-filed.filed) = c.requires ∙ ap (λ records. Ok (with records)) (sym c.in_ok-filed.ensures) in
    sym (ap fault_in (made_broken c.args.bytes.now (with c.in_ok-filed.filed) c.in-Some.fault read c.in-Some.ensures))
