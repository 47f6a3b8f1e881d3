use Rattle.std.proofs.Common.{sym, ◌∙◌}
use Rattle.fare_http.proofs.LengthLemmas.{with-one-more}
use Rattle.fare_http.proofs.lengths.with_field.Goals as goal

pub returns-in_default : goal.returns-in_default
returns-in_default c =
    record {
      values = λ values are. with-one-more c.args.name.now c.args.taken.now c.args.found values _ (sym c.is_named.ensures ∙ c.if-not-is_named.false) c.in_default.not-Absent are;
      within = tt;
    }
