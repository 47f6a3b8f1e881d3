use Rattle.std.proofs.Common.{◌≡◌, ap, ◌∙◌, subst}
use Rattle.std.specs.Prelude.{IfOk}
use Rattle.std.specs.List.{AllZip}
use Rattle.rayon.proofs.ListFacts.{IfOk-then}
use Rattle.rayon.proofs.ToStd.{slice-AllZip}
use Rattle.fare_csv.specs.Pieces.{IsRead}
use Rattle.fare_csv.proofs.read_pieces.read_pieces.Goals as goal

pub returns : goal.returns
returns g c =
    let slice = ap (λ it. it.base.slice.now) c.map.ensures.base ∙ ap (λ it. it.slice.now) c.with_min_len.ensures.base ∙ c.par_iter.ensures in
    let version : c.map.result.f.1.now ≡ c.args.version = ap (λ f. f.1.now) c.map.ensures.f in
    IfOk-then c.collect.result _ _ c.collect.ensures (λ v h.
    let chain = h.1 in
    let each = slice-AllZip chain.0 c.args.pieces.now (chain.1 ∙ slice) (λ piece found. IfOk found (λ records. IsRead c.map.result.f.1.now piece.now records.items)) h.0 chain.2 in
    rw h.2 (subst (λ version. AllZip (λ piece found. IfOk found (λ records. IsRead version piece.now records.items)) c.args.pieces.now h.0) version each))
