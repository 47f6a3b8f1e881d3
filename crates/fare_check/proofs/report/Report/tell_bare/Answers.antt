use Rattle.std.proofs.Common.{refl, sym, ◌∙◌}
use borrow.Author.Tests.{leb-false, leb-true}
use Rattle.fare_check.specs.declared.report.TheConstants.{MOST_LINES}
use Rattle.fare_check.proofs.Told.{counts_line, shows_line}
use Rattle.fare_check.proofs.report.Report.tell_bare.Goals as goal

pub returns-then-is_full : goal.returns-then-is_full
returns-then-is_full c = counts_line c.add.result c.args.self.now c.add.new.self _ (leb-true MOST_LINES c.args.self.now.count (sym c.is_full.ensures ∙ c.if-is_full.true)) c.add.ensures

pub returns : goal.returns
returns c = shows_line c.add-2.result c.args.self.now (record c.args.self.now { text = c.push_bare_line.new.text }) c.add-2.new.self _ (leb-false MOST_LINES c.args.self.now.count (sym c.is_full.ensures ∙ c.if-is_full.false)) c.in_ok-push_bare_line.ensures refl c.add-2.ensures
