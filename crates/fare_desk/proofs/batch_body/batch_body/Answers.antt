use Rattle.std.proofs.Common.{ℕ, List, subst, sym}
use Rattle.fare_desk.specs.Batching.{AreItemsOf}
use Rattle.fare_desk.proofs.ItemLemmas.{if_made_json}
use Rattle.fare_desk.proofs.batch_body.batch_body.Goals as goal

pub returns-in-Json : goal.returns-in-Json
returns-in-Json c =
    let form = c.args.form in
    let replies = c.args.replies.now in
    let items = subst (λ (text : List ℕ). AreItemsOf form 1 replies text) (sym c.as_slice.ensures.value) c.in_ok-items.ensures in
    if_made_json form replies c.as_slice.result.now c.enclosed.result c.in-Json.is items c.enclosed.ensures
