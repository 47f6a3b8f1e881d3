use Rattle.std.proofs.Common.{◌≡◌, ℕ, ◌+◌, ◌<◌, [], ◌∷◌, ◌++◌, List, length, set, sym, subst, ◌∙◌, ap, inl, inr, arith}
use Rattle.std.specs.Prelude.{slice_index}
use Rattle.std.proofs.Math.ListN.{length-append}
use Rattle.std.proofs.lemmas.Bool.{cases_eq}
use Rattle.std.proofs.lemmas.List.{get_or-set_same, get_or-set_other}
use Rattle.fare_rules.specs.declared.part.Part.{Part}
use Rattle.fare_rules.specs.Construction.{part_at}
use Rattle.fare_units.proofs.NextLemmas.{next_part}
use Rattle.fare_floors.specs.Costs.{unit_floor}
use Rattle.fare_floors.proofs.AddedLemmas.{floor_same}
use Rattle.fare_floors.proofs.costs.floors_after.Goals as goal

pub returns : goal.returns
returns c unit low less =
    let tariff = c.args.table.now.edition in
    let trip = c.args.table.now.trip in
    let parts = c.args.parts.now in
    let before = c.args.before.now in
    let known = c.requires.before in
    let here = c.min-unit.result in
    let number = c.unit_floor.result in
    let long : here < length before = omega arith in
    elim (cases_eq unit here) [
      | inl same ↦
          let P : ℕ → Type 0 = λ u. slice_index (set before here number) u ≡ unit_floor tariff trip parts u in
          subst P (sym same) (get_or-set_same before here number 0 long ∙ c.unit_floor.ensures.value)
      | inr other ↦
          let n : length (known.front ++ known.last ∷ []) ≡ length known.front + 1 = length-append known.front (known.last ∷ []) in
          let L : List Part → Type 0 = λ xs. part_at xs (length known.front + 1) ≡ known.last in
          let last : part_at parts (length known.front + 1) ≡ known.last = subst L (sym known.whole) (next_part known.front known.last []) in
          let many : length parts ≡ length known.front + 1 = ap length known.whole ∙ n in
          let M : ℕ → Type 0 = λ k. part_at parts k ≡ known.last in
          let mine : (part_at parts (length parts)).unit ≡ known.last.unit = ap (λ (p : Part). p.unit) (subst M (sym many) last) in
          let there : c.part_at-last.result ≡ part_at parts (length parts) = cc in
          let F : List Part → Type 0 = λ xs. unit_floor tariff trip xs unit ≡ unit_floor tariff trip known.front unit in
          let same : unit_floor tariff trip parts unit ≡ unit_floor tariff trip known.front unit =
          subst F (sym known.whole) (floor_same tariff trip known.front known.last unit (λ e. other (let u : c.part_at-last.result.unit ≡ unit = ap (λ (p : Part). p.unit) there ∙ mine ∙ e in omega (arith, less, c.min-unit.ensures)))) in
          get_or-set_other before here unit number 0 other ∙ known.known unit low less ∙ sym same
    ]
