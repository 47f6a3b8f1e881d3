-- The number of each rule of a lawful construction.
use Rattle.std.specs.Prelude.{ℕ, ◌==◌, List, [], ◌∷◌, Option, find}
use Rattle.fare_rules.specs.declared.rule.Rule.{Rule}
use Rattle.fare_rules.specs.declared.rule.Rule.TheVariants as rule

-- the number of a rule: the least one is told where several are broken
abbrev pub number_of : Rule → ℕ
number_of rule.Cover = 1
number_of rule.Numbering = 2
number_of rule.Record = 3
number_of rule.Crossing = 4
number_of rule.Alone = 5
number_of rule.Chain = 6
number_of rule.Close = 7
number_of rule.Distinct = 8
number_of rule.Pair = 9
number_of rule.Indicator = 10
number_of rule.Cabin = 11
number_of rule.Carrier = 12
number_of rule.Stops = 13
number_of rule.Transfers = 14
number_of rule.Advance = 15
number_of rule.Mileage = 16
number_of rule.Excess = 17
number_of rule.Stay = 18
number_of rule.Combine = 19
number_of rule.End = 20
number_of rule.Surface = 21
number_of rule.Season = 22

-- the rules in the order of their numbers
abbrev pub all_rules : List Rule
all_rules =
    rule.Cover ∷ rule.Numbering ∷ rule.Record ∷ rule.Crossing ∷ rule.Alone ∷ rule.Chain ∷ rule.Close
    ∷ rule.Distinct ∷ rule.Pair ∷ rule.Indicator ∷ rule.Cabin ∷ rule.Carrier ∷ rule.Stops ∷ rule.Transfers
    ∷ rule.Advance ∷ rule.Mileage ∷ rule.Excess ∷ rule.Stay ∷ rule.Combine ∷ rule.End ∷ rule.Surface ∷ rule.Season ∷ []

-- the rule of a number, if there is one
unfoldable pub rule_of : ℕ → Option Rule
rule_of number = find (λ one. number_of one == number) all_rules
