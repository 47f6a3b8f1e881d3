use Rattle.std.proofs.Common.{◌≡◌, ap, sym, ◌∙◌}
use Rattle.std.specs.Option.{option_or}
use Rattle.fare_codes.specs.declared.carrier.Carrier.{Carrier}
use Rattle.fare_records.specs.declared.fare_key.FareKey.{FareKey}
use Rattle.fare_rules.specs.Reference.{every_carrier, key_by, amount_on, reference}
use Rattle.fare_points.proofs.references.reference_of.Goals as goal

pub returns-in-Some-clause-value : goal.returns-in-Some-clause-value
unfolding reference
returns-in-Some-clause-value c =
    let k : c.fare.inside.carrier ≡ c.args.likes.now.fare.now.carrier = cc in
    ap (λ o. option_or o (amount_on c.args.edition.now (key_by c.args.from c.args.to c.args.ind c.args.likes.now.fare.now every_carrier) c.args.on))
    (sym c.in-Some.is ∙ c.amount_on.ensures.value
    ∙ ap (λ (key : FareKey). amount_on c.args.edition.now key c.args.on) c.key_by.ensures
    ∙ ap (λ (carrier : Carrier). amount_on c.args.edition.now (key_by c.args.from c.args.to c.args.ind c.args.likes.now.fare.now carrier) c.args.on) k)

pub returns-in-None-clause-value : goal.returns-in-None-clause-value
unfolding reference
returns-in-None-clause-value c =
    let k : c.fare.inside.carrier ≡ c.args.likes.now.fare.now.carrier = cc in
    c.amount_on-in-None.ensures.value
    ∙ ap (λ (key : FareKey). amount_on c.args.edition.now key c.args.on) c.key_by-in-None.ensures
    ∙ ap (λ (carrier : Carrier). amount_on c.args.edition.now (key_by c.args.from c.args.to c.args.ind c.args.likes.now.fare.now carrier) c.args.on) c.every_carrier.ensures
    ∙ ap (λ o. option_or o (amount_on c.args.edition.now (key_by c.args.from c.args.to c.args.ind c.args.likes.now.fare.now every_carrier) c.args.on))
    (sym c.in-None.is ∙ c.amount_on.ensures.value
    ∙ ap (λ (key : FareKey). amount_on c.args.edition.now key c.args.on) c.key_by.ensures
    ∙ ap (λ (carrier : Carrier). amount_on c.args.edition.now (key_by c.args.from c.args.to c.args.ind c.args.likes.now.fare.now carrier) c.args.on) k)
