-- The kinds of condition that a rule can ask.
use Rattle.std.specs.Prelude.{ℕ, List, [], ◌∷◌, codes}
use Rattle.fare_rules.specs.declared.rule.Rule.TheVariants as rule
use Rattle.fare_rules.specs.Rule.{number_of}
use Rattle.fare_relaxed.specs.declared.term.Term.{Term}
use Rattle.fare_relaxed.specs.declared.term.Term.TheVariants.{Advance, Stay, Stopovers, Transfers, Surcharge, Units}
use Rattle.fare_relaxed.specs.declared.term.Term.TheVariants.{Ends}

-- the seven kinds, in their order
abbrev pub all_terms : List Term
all_terms = Advance ∷ Stay ∷ Stopovers ∷ Transfers ∷ Surcharge ∷ Units ∷ Ends ∷ []

-- the word for a kind
abbrev pub term_name : Term → List ℕ
term_name Advance = codes "ADVANCE"
term_name Stay = codes "STAY"
term_name Stopovers = codes "STOPOVERS"
term_name Transfers = codes "TRANSFERS"
term_name Surcharge = codes "SURCHARGE"
term_name Units = codes "UNIT"
term_name Ends = codes "ENDS"

-- the number of the rule that conditions of a kind bar constructions by
abbrev pub rule_number : Term → ℕ
rule_number Advance = number_of rule.Advance
rule_number Stay = number_of rule.Stay
rule_number Stopovers = number_of rule.Stops
rule_number Transfers = number_of rule.Transfers
rule_number Surcharge = number_of rule.Excess
rule_number Units = number_of rule.Combine
rule_number Ends = number_of rule.End
