use Rattle.std.proofs.Common.{map, ap, sym, ◌∙◌}
use Rattle.fare_split.specs.Rows.{Preparation, piece_of}
use Rattle.fare_split.proofs.AnswerLemmas.{pieces_of_rows}
use Rattle.fare_split.proofs.prepared.Prepared.pieces.Goals as goal

pub returns-clause-pieces : goal.returns-clause-pieces
returns-clause-pieces c =
    c.as_slice.ensures.value
    ∙ sym (pieces_of_rows c.self.inside.pieces.items c.self.inside.least c.self.inside.results.items c.self.invariant.full)
    ∙ ap (λ (p : Preparation). map piece_of p.rows) c.self.view_is
