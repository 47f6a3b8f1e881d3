-- nothing more is told, and what isn't shown is counted
use Rattle.std.proofs.Common.{◌++◌, sym, ap, ◌∙◌}
use Rattle.fare_check.specs.CheckText.{more_line}
use Rattle.fare_check.proofs.Told.{told_all}
use Rattle.fare_check.proofs.report.Report.into_text.Goals as goal

pub returns : goal.returns
returns c =
    c.in_ok-push_more.ensures ∙ ap (λ n. c.args.self.text.items ++ more_line n) c.saturating_sub.ensures ∙ sym (told_all c.args.self)
