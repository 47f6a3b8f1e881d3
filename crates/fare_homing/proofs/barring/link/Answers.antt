use Rattle.std.proofs.Common.{sym, ◌∙◌, ap, subst}
use Rattle.std.specs.Prelude.{option_copied}
use Rattle.fare_tariff.specs.Record.{FareRecord}
use Rattle.fare_legs.specs.Barred.{IsStep}
use Rattle.fare_homing.specs.Onward.{onward_at}
use Rattle.fare_homing.proofs.LinkLemmas.{linked_onwards}
use Rattle.fare_homing.proofs.barring.link.Goals as goal

pub returns-then-leads : goal.returns-then-leads
returns-then-leads c trip begun jaw are =
    let Step : FareRecord → Type 0 = λ fare. IsStep c.args.edition.now (onward_at c.args.onwards.now c.args.set).barred fare.rule (onward_at c.args.onwards.now c.args.behind).barred in
    linked_onwards c.args.edition.now trip begun jaw c.args.onwards.now c.args.set c.args.place c.args.behind _ c.index-onwards-set.result c.in-Some.fare.now c.requires.behind
    (sym c.fare_at.ensures.fare ∙ ap option_copied c.in-Some.is) (subst Step c.fare.view_is (c.leads.ensures c.if-leads.true)) are
