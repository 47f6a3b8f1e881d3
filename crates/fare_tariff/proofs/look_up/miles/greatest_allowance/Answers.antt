-- one city more
use Rattle.std.proofs.Common.{◌≡◌, ◌+◌, ◌++◌, ◌∷◌, [], take, max, ap, sym, ◌∙◌, arith}
use Rattle.std.proofs.lemmas.List.{take_more}
use Rattle.fare_tariff.specs.Lookup.{greatest, allowance_in}
use Rattle.fare_records.specs.Keyed.{extra_miles}
use Rattle.fare_tariff.proofs.Looks.{greatest_no_cities, greatest_one_more}
use Rattle.fare_tariff.proofs.look_up.miles.greatest_allowance.Goals as goal

pub loop-city-init : goal.loop-city-init
loop-city-init c = record {
  in_range = c.greatest_extra-most.ensures.in_range;
  same = c.greatest_extra-most.ensures.miles ∙ ap (λ k. greatest (extra_miles k) c.args.filed.now) c.extra.ensures ∙ greatest_no_cities c.args.a c.args.b c.args.ind c.args.filed.now;
}

pub loop-city-preserved : goal.loop-city-preserved
loop-city-preserved c =
    let front : take (c.loop-city.city-index + 1) c.args.cities.now ≡ take c.loop-city.city-index c.args.cities.now ++ c.city-item.result ∷ [] = take_more c.args.cities.now c.loop-city.city-index c.city-item.result c.loop-city-test.true ∙ ap (λ x. take c.loop-city.city-index c.args.cities.now ++ x ∷ []) (sym c.city-item.is) in
    record {
      in_range = omega (arith, c.max-most.ensures, c.loop-city.invariant.in_range, c.greatest_extra.ensures.in_range);
      same = c.max-most.ensures
          ∙ ap (λ n. max n c.greatest_extra.result) c.loop-city.invariant.same
          ∙ ap (max (greatest (allowance_in c.args.a c.args.b c.args.ind (take c.loop-city.city-index c.args.cities.now)) c.args.filed.now)) (c.greatest_extra.ensures.miles ∙ ap (λ k. greatest (extra_miles k) c.args.filed.now) c.extra-in-loop-city.ensures)
          ∙ sym (greatest_one_more c.args.a c.args.b c.args.ind (take c.loop-city.city-index c.args.cities.now) c.city-item.result c.args.filed.now)
          ∙ ap (λ l. greatest (allowance_in c.args.a c.args.b c.args.ind l) c.args.filed.now) (sym front);
    }
