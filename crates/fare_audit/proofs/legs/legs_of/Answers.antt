use Rattle.std.proofs.Common.{◌≡◌, rules}
use Rattle.fare_audit.proofs.AdvanceLemmas.{shares}
use Rattle.fare_audit.proofs.legs.legs_of.Goals as goal

pub legs_from-requires : goal.legs_from-requires
legs_from-requires c =
    let flown : c.as_slice.result.now ≡ c.args.line.now.sectors = search rules in
    let parts : c.as_slice-2.result.now ≡ c.args.line.now.parts = search rules in
    rw (flown, parts) (shares c.args.line.now c.law.ensures)
