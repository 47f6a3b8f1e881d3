use Rattle.std.proofs.Common.{◌≡◌, ℕ, suc, ◌+◌, ◌-◌, ◌<◌, sym, subst, ◌∙◌, ap, arith}
use Rattle.fare_tariff.specs.Tariff.{Tariff}
use Rattle.fare_rules.specs.declared.part.Part.{Part}
use Rattle.fare_rules.specs.Construction.{fare_of, part_at}
use Rattle.fare_legs.specs.declared.limits.TheConstants.{MOST_SETS}
use Rattle.fare_homing.specs.Onward.{next_set}
use Rattle.fare_homing.specs.Rows.{begun_from, jaw_from}
use Rattle.fare_floors.specs.Barring.{set_after}
use Rattle.fare_floors.proofs.BarringLemmas.{next_within}
use Rattle.fare_floors.proofs.barring.left_of.Goals as goal

pub loop-k-preserved : goal.loop-k-preserved
loop-k-preserved c =
    let tariff = c.args.table.now.edition in
    let homing = c.args.homing.now in
    let parts = c.args.parts.now in
    let k : ℕ = c.loop-k.k in
    let known = c.loop-k.invariant in
    let N : Tariff → Type 0 = λ of. c.next_set-set.result ≡ next_set of homing.onwards c.loop-k.set (part_at parts k).fare in
    let is : c.next_set-set.result ≡ next_set tariff homing.onwards c.loop-k.set (part_at parts k).fare =
    subst N c.edition-edition.ensures (c.next_set-set.ensures ∙ ap (λ (part : Part). next_set c.edition-edition.result.now homing.onwards c.loop-k.set part.fare) c.part_at.ensures) in
    let L : ℕ → Type 0 = λ n. n < MOST_SETS in
    let next : k ≡ suc (k - 1) = omega arith in
    let same : k + 1 - 1 ≡ suc (k - 1) = omega arith in
    let S : ℕ → Type 0 = λ set. c.next_set-set.result ≡ next_set tariff homing.onwards set (part_at parts k).fare in
    let P : ℕ → Type 0 = λ n. c.next_set-set.result ≡ next_set tariff homing.onwards (set_after tariff homing.onwards parts (k - 1)) (part_at parts n).fare in
    let A : ℕ → Type 0 = λ n. c.next_set-set.result ≡ set_after tariff homing.onwards parts n in
    record {
      within = subst L (sym is) (next_within tariff c.args.table.now.trip (begun_from homing) (jaw_from homing) homing.onwards c.requires.homing.onwards parts c.loop-k.set (fare_of tariff parts k) known.within);
      known = subst A (sym same) (subst P next (subst S known.known is));
    }
