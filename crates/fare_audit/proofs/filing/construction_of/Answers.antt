use Rattle.std.proofs.Common.{◌≡◌, ◌∙◌, ◌<◌, ◌+◌, ◌++◌, ◌∷◌, [], List, length, map, ap, arith, sym}
use Rattle.std.proofs.lemmas.List.{length-append}
use Rattle.fare_rules.specs.declared.part.Part.{Part}
use Rattle.fare_rules.specs.Numbers.{numbers}
use Rattle.fare_audit.specs.Filing.{recorded_part}
use Rattle.fare_audit.proofs.FilingLemmas.{on_ok, recorded_more}
use Rattle.fare_audit.proofs.filing.construction_of.Goals as goal

pub loop-i-preserved : goal.loop-i-preserved
loop-i-preserved c =
    let part_of = recorded_part c.args.edition.now c.args.trip.now c.args.line.now in
    let held : length c.loop-i.parts ≡ c.loop-i.i = c.loop-i.invariant.count in
    let room : length c.loop-i.parts < 16 = omega (arith, held, c.loop-i-test.true, c.len-i-end.ensures.fits) in
    let pushed : c.try_push-fits.new.self ≡ c.loop-i.parts ++ c.recorded_part.result ∷ [] =
    on_ok c.try_push-fits.result _ (c.try_push-fits.ensures.room.1 room) c.try_push-fits.ensures.pushed in
    let longer = ap length pushed ∙ length-append c.loop-i.parts (c.recorded_part.result ∷ []) in
    record {
      count = omega (arith, longer, held);
      made = pushed ∙ ap (λ (parts : List Part). parts ++ c.recorded_part.result ∷ []) c.loop-i.invariant.made
          ∙ ap (λ (part : Part). map part_of (numbers 1 (c.loop-i.i + 1)) ++ part ∷ []) c.recorded_part.ensures ∙ sym (recorded_more part_of c.loop-i.i);
    }
