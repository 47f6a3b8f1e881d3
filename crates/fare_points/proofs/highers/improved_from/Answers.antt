use Rattle.std.proofs.Common.{◌≡◌, ◌<◌, ◌+◌, ℕ, ap, sym, subst, ◌∙◌, inl, inr, arith, IfSome, Option, filter_map}
use Rattle.std.specs.Option.{option_to_list}
use Rattle.fare_rules.specs.Numbers.{numbers}
use Rattle.fare_rules.specs.Base.{Compared, compared_pair}
use Rattle.fare_points.specs.Improved.{IsPairOf, improved}
use Rattle.fare_points.proofs.Highest.{improved_next}
use Rattle.fare_points.proofs.highers.improved_from.Goals as goal

pub loop-j-preserved : goal.loop-j-preserved
loop-j-preserved c =
    let fare_amount : ℕ = c.args.component.now.fare.now.amount in
    let pair : ℕ → Option Compared = compared_pair c.args.component.now.edition.now c.args.component.now.trip.now c.args.component.now.a c.args.component.now.b c.args.component.now.fare.now c.args.component.now.back c.args.i in
    let filed : c.fare.inside.amount ≡ fare_amount = cc in
    let same : c.nuc.result ≡ fare_amount = c.nuc.ensures.value ∙ filed in
    let below : c.loop-j.j + 1 < c.args.component.now.b + 1 = omega arith in
    let step : c.improved-best.result ≡ improved fare_amount c.loop-j.best (option_to_list (pair (c.loop-j.j + 1))) =
    c.improved-best.ensures.value
    ∙ ap (λ amount. improved amount c.loop-j.best (option_to_list c.compared_pair-found.result)) same
    ∙ ap (λ found. improved fare_amount c.loop-j.best (option_to_list found)) c.compared_pair-found.ensures.value in
    record {
      whole =
          ap (λ best. improved fare_amount best (filter_map pair (numbers (c.loop-j.j + 1 + 1) (c.args.component.now.b + 1)))) step
          ∙ sym (improved_next fare_amount c.loop-j.best pair (c.loop-j.j + 1) (c.args.component.now.b + 1) below)
          ∙ c.loop-j.invariant.whole;
      bound =
          elim c.improved-best.ensures.either [
            | inl e ↦ subst (λ (o : Option Compared). IfSome o (IsPairOf c.args.component.now.a c.args.component.now.b)) (sym e) c.loop-j.invariant.bound
            | inr e ↦ subst (λ (o : Option Compared). IfSome o (IsPairOf c.args.component.now.a c.args.component.now.b)) (sym e) c.compared_pair-found.ensures.bound
          ];
    }
