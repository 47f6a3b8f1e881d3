use Rattle.std.proofs.Common.{◌≡◌, ◌≢◌, ◌∙◌, ◌++◌, ap, false, map, List, ℕ, sym, true}
use Rattle.std.specs.Result.{is_err}
use Rattle.csv.proofs.ReadFacts.{on-ok}
use Rattle.csv.specs.declared.writer.QuoteStyle.TheVariants as style
use Rattle.fare_csv.specs.Written.{written}
use Rattle.fare_csv.proofs.PlainLines.{row_text-plain}
use Rattle.fare_csv.proofs.lines.Lines.write.Goals as goal

pub returns : goal.returns
returns c =
    let is = c.self.invariant c.if-self.false in
    let ok : is_err c.write_fields.result ≡ false = sym c.is_err.ensures.value ∙ c.if-is_err.false in
    let plain : c.self.inside.writer.cfg.style ≢ style.NonNumeric = rw is.setup (λ e. cc e) in
    let bytes = on-ok c.write_fields.result ok c.write_fields.ensures.bytes is.fields is.wrote plain in
    let line = rw is.setup at bytes in
    rw (← c.self.view_is) (line ∙ ap (λ (t : List ℕ). written c.self.inside.writer ++ t) (row_text-plain true (map (λ f. f.now) c.args.fields.now) c.requires))
