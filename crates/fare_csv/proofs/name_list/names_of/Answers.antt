use Rattle.std.proofs.Common.{◌∙◌, arith, refl, sym}
use Rattle.fare_csv.specs.NameList.{names_of}
use Rattle.fare_csv.proofs.NameLemmas.{names_of-step, names_of-stop}
use Rattle.fare_csv.proofs.name_list.names_of.Goals as goal

pub loop-piece-init : goal.loop-piece-init
unfolding names_of
loop-piece-init c = rw c.new-list.ensures refl

pub returns-in_default : goal.returns-in_default
returns-in_default c = sym (names_of-stop c.args.pieces.now c.loop-piece.piece-index _ (omega arith) (sym c.read_name.ensures ∙ c.in_default.is))

pub loop-piece-preserved : goal.loop-piece-preserved
loop-piece-preserved c =
    rw c.in_ok-push.ensures.ok (names_of-step c.args.pieces.now c.loop-piece.piece-index _ c.loop-piece.list c.in-Some.name (omega arith) c.loop-piece.invariant (sym c.read_name.ensures ∙ c.in-Some.is))
