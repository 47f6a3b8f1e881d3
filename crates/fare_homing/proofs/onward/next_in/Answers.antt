use Rattle.std.proofs.Common.{◌∙◌, ap, sym, arith}
use Rattle.std.specs.Prelude.{slice_index_or}
use Rattle.std.proofs.lemmas.List.{get_or_default}
use Rattle.fare_homing.specs.declared.onward.Onward.{Onward}
use Rattle.fare_homing.specs.Onward.{no_onward}
use Rattle.fare_homing.proofs.onward.next_in.Goals as goal

pub returns : goal.returns
returns c = c.step_at.ensures ∙ ap (λ (o : Onward). slice_index_or o.next c.args.place c.args.set) (sym (get_or_default c.args.sets.now c.args.set no_onward c.index-sets-set.result (omega (arith, c.type_inv.sets, c.requires))))
