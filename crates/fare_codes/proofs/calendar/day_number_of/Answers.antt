use Rattle.std.proofs.Common.{◌≡◌, ◌∙◌, ap, refl, pos, unsigned_abs, arith, to_z, FitsSigned, w8, w16, w32}
use Rattle.std.proofs.lemmas.Int.{ints, to_z_pos, to_z-of_z}
use Rattle.fare_codes.proofs.DayLemmas.{day_found, day_in_range}
use Rattle.fare_codes.proofs.calendar.day_number_of.Goals as goal

pub returns-in-Ok-clause-value : goal.returns-in-Ok-clause-value
returns-in-Ok-clause-value c =
    let year : to_z w16 c.args.year ≡ pos c.args.year = to_z_pos w16 c.args.year (omega arith) in
    let month : to_z w8 c.args.month ≡ pos c.args.month = to_z_pos w8 c.args.month (omega arith) in
    let day : to_z w8 c.args.day ≡ pos c.args.day = to_z_pos w8 c.args.day (omega arith) in
    let civil = rw (year, month, day) at c.in-Ok.ensures.succeeds.0 refl in
    let value = rw (year, month, day) at c.in-Ok.ensures.value in
    let fits : FitsSigned w32 c.to_unix_epoch_day.result = omega (arith, ints) in
    let absolute = c.unsigned_abs.ensures.value in
    let number = c.to_unix_epoch_day.ensures.value in
    day_found _ _ _ c.in-Ok.date.year c.in-Ok.date.month c.in-Ok.date.day c.unsigned_abs.result (omega arith) civil value.0 value.1 value.2 (absolute ∙ ap unsigned_abs (to_z-of_z w32 _ fits ∙ number))

pub returns-in-Ok-clause-bound : goal.returns-in-Ok-clause-bound
returns-in-Ok-clause-bound c =
    let year : to_z w16 c.args.year ≡ pos c.args.year = to_z_pos w16 c.args.year (omega arith) in
    let month : to_z w8 c.args.month ≡ pos c.args.month = to_z_pos w8 c.args.month (omega arith) in
    let day : to_z w8 c.args.day ≡ pos c.args.day = to_z_pos w8 c.args.day (omega arith) in
    let civil = rw (year, month, day) at c.in-Ok.ensures.succeeds.0 refl in
    let value = rw (year, month, day) at c.in-Ok.ensures.value in
    let fits : FitsSigned w32 c.to_unix_epoch_day.result = omega (arith, ints) in
    let absolute = c.unsigned_abs.ensures.value in
    let number = c.to_unix_epoch_day.ensures.value in
    let last = rw number at c.to_unix_epoch_day.ensures.bound.1 in
    day_in_range _ _ _ c.in-Ok.date.year c.in-Ok.date.month c.in-Ok.date.day c.unsigned_abs.result (omega arith) civil value.0 value.1 value.2 (absolute ∙ ap unsigned_abs (to_z-of_z w32 _ fits ∙ number)) last
