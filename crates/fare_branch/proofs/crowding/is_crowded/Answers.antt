use Rattle.std.proofs.Common.{◌≡◌, ℕ, ◌<◌, subst}
use Rattle.std.specs.Prelude.{slice_index}
use Rattle.std.proofs.lemmas.Bool.{ltb-true}
use Rattle.fare_branch.specs.Crowding.{AreNeeds, left_count}
use Rattle.fare_branch.proofs.CrowdingLemmas.{crowded_is_none}
use Rattle.fare_branch.proofs.crowding.is_crowded.Goals as goal

pub returns : goal.returns
returns c = λ yes.
    let tariff = c.args.table.now.edition in
    let trip = c.args.table.now.trip in
    let lonely = c.args.homing.now.lonely in
    let front = c.args.front.now in
    let needs = c.needs_behind-needs.result in
    let less : c.left_count-left.result < slice_index needs c.end-end.result = ltb-true c.left_count-left.result (slice_index needs c.end-end.result) yes in
    let left : c.left_count-left.result ≡ left_count tariff front lonely = cc in
    let P : ℕ → Type 0 = λ count. count < slice_index needs c.end-end.result in
    let Q : ℕ → Type 0 = λ i. left_count tariff front lonely < slice_index needs i in
    let R : ℕ → Type 0 = λ from. AreNeeds tariff trip lonely front from needs in
    crowded_is_none tariff trip lonely c.requires.homing.lonely front needs (subst R c.end-end.ensures.value c.needs_behind-needs.ensures) (subst Q c.end-end.ensures.value (subst P left less))
