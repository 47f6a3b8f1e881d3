use Rattle.std.proofs.Common.{◌≡◌, ℕ, false}
use Rattle.std.specs.Prelude.{IfSome}
use Rattle.std.proofs.lemmas.List.Elements.{All-replicate}
use Rattle.fare_legs.specs.Lonely.{rule_at, suits_itself}
use Rattle.fare_legs.proofs.lonely.lonely_fares.Goals as goal

pub loop-a-init : goal.loop-a-init
loop-a-init c =
    let P : ℕ → Type 0 = λ number. IfSome (rule_at c.args.table.now.edition number) (λ id. suits_itself c.args.table.now.edition id ≡ false) in
    All-replicate P 32 0 tt
