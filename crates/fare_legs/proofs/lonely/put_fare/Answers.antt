use Rattle.std.proofs.Common.{◌≡◌, ℕ, false, sym, subst, ◌∙◌}
use Rattle.std.specs.Prelude.{Option, IfSome}
use Rattle.std.proofs.lemmas.List.Elements.{All-set}
use Rattle.fare_codes.specs.declared.rule_id.RuleId.{RuleId}
use Rattle.fare_legs.specs.Lonely.{rule_at, suits_itself}
use Rattle.fare_legs.proofs.lonely.put_fare.Goals as goal

pub returns-in-Some-position : goal.returns-in-Some-position
returns-in-Some-position c =
    let tariff = c.args.edition.now in
    let P : ℕ → Type 0 = λ number. IfSome (rule_at tariff number) (λ id. suits_itself tariff id ≡ false) in
    let Q : Option RuleId → Type 0 = λ rule. IfSome rule (λ id. suits_itself tariff id ≡ false) in
    let lonely : suits_itself tariff c.in-Some.id ≡ false = sym c.suits_itself.ensures ∙ c.if-suits_itself.false in
    All-set P c.args.fares.now c.in-Some-position.place c.args.number (subst Q c.in-Some.ensures lonely) c.requires
