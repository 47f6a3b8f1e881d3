use Rattle.std.proofs.Common.{◌≡◌, subst, inl, inr, arith}
use Rattle.fare_best.specs.declared.walking.Wanted.{Wanted}
use Rattle.fare_best.specs.Walked.{IsPassed, IsRanked}
use Rattle.fare_best.proofs.walking.walk.Goals as goal

pub returns : goal.returns
returns c =
    let same : c.walk.new.seeker ≡ c.args.wanted = c.walk.ensures.fixed in
    let P : Wanted → Type 0 = λ wanted. IsRanked c.args.stage.now.table.now.edition c.args.stage.now.table.now.trip wanted.count c.walk.new.known in
    record {
      ranked = subst P same c.walk.ensures.holds.2;
      walked = λ parts price l low d.
          let Q : Wanted → Type 0 = λ wanted. IsPassed wanted.count wanted.limit c.walk.new.known parts price in
          elim (subst Q same (c.walk.ensures.walk.walked parts price l d)) [ inl more ↦ absurd (omega arith) | inr placed ↦ placed ];
    }
