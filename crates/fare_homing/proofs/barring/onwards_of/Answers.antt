use Rattle.std.proofs.Common.{sym, subst}
use Rattle.fare_tariff.specs.Tariff.{Tariff}
use Rattle.fare_homing.specs.Onward.{AreOnwards}
use Rattle.fare_homing.specs.Rows.{begun_from, jaw_from}
use Rattle.fare_homing.proofs.LinkLemmas.{unlinked_onwards}
use Rattle.fare_homing.proofs.barring.onwards_of.Goals as goal

pub returns : goal.returns
returns c =
    let tariff = c.args.table.now.edition in
    let trip = c.args.table.now.trip in
    let begun = begun_from c.args.homing.now in
    let jaw = jaw_from c.args.homing.now in
    let T : Tariff → Type 0 = λ of. AreOnwards of trip begun jaw c.link_all.new.onwards in
    let F : Tariff → Type 0 = λ of. AreOnwards of trip begun jaw (record { rules = c.rule_sets-sets.result.rules; sets = c.unlinked.result }) in
    subst T c.edition.ensures (c.link_all.ensures trip begun jaw (subst F (sym c.edition.ensures) (unlinked_onwards tariff trip begun jaw (record { rules = c.rule_sets-sets.result.rules; sets = c.unlinked.result }) c.unlinked.ensures)))
