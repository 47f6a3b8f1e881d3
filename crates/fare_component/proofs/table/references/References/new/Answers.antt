use Rattle.std.proofs.Common.{◌≡◌, ap, get_or, replicate, subst, sym}
use Rattle.std.specs.Prelude.{None}
use Rattle.fare_component.specs.declared.table.known.Known.{Known}
use Rattle.fare_component.specs.References.{found_of, nothing}
use Rattle.fare_component.proofs.ReferenceLemmas.{same_at}
use Rattle.fare_component.proofs.table.references.References.new.Goals as goal

pub returns-clause-none : goal.returns-clause-none
returns-clause-none c = λ place.
    subst (λ (known : Known). found_of (get_or (replicate 289 known) place nothing) ≡ None) (sym c.nothing.ensures)
    (ap found_of (same_at nothing 289 place))

pub returns-clause-columns : goal.returns-clause-columns
returns-clause-columns c = λ j. same_at None 17 j

pub returns-clause-reach : goal.returns-clause-reach
returns-clause-reach c = λ tariff trip. c.at.ensures.right tariff trip _
