-- The sentence of each broken rule. A place is a part or a unit, as the rule says.
use Rattle.std.specs.Prelude.{ℕ, List, [], codes}
use Rattle.std.specs.Option.{option_map_or}
use Rattle.fare_rules.specs.declared.rule.Rule.{Rule}
use Rattle.fare_rules.specs.declared.rule.Rule.TheVariants as rule
use Rattle.fare_rules.specs.Rule.{rule_of}
use Rattle.fare_sentences.specs.Sentence.{around}

-- the sentence of a rule that is broken at a place
abbrev pub rule_words : Rule → ℕ → List ℕ
rule_words rule.Cover place = around (codes "the parts don't cover the trip, first at part ") place (codes "")
rule_words rule.Numbering place =
    around (codes "the units aren't numbered in the order of their first parts, first at part ") place (codes "")
rule_words rule.Record place = around (codes "part ") place (codes " has no fare of the tariff")
rule_words rule.Crossing place = around (codes "the units cross, first at part ") place (codes "")
rule_words rule.Alone place = around (codes "unit ") place (codes " has a one way fare and more than one part")
rule_words rule.Chain place =
    around (codes "unit ") place (codes " has a part that doesn't begin where the part before it ends")
rule_words rule.Close place =
    around (codes "unit ") place (codes " doesn't come back to its origin, or does so before its last part")
rule_words rule.Distinct place = around (codes "part ") place (codes " comes to one city twice")
rule_words rule.Pair place =
    around (codes "the fare of part ") place (codes " doesn't run between the ends of the part in its direction")
rule_words rule.Indicator place =
    around (codes "the fare of part ") place (codes " has another global indicator than the part")
rule_words rule.Cabin place =
    around (codes "the class of the fare of part ") place (codes " is below a cabin of the part")
rule_words rule.Carrier place =
    around (codes "the fare of part ") place (codes " is of a carrier that doesn't fly each sector of the part")
rule_words rule.Stops place = around (codes "part ") place (codes " has more stopovers than its rule allows")
rule_words rule.Transfers place = around (codes "part ") place (codes " has more transfers than its rule allows")
rule_words rule.Advance place =
    around (codes "the rule of part ") place (codes " asks for more days between sale and departure")
rule_words rule.Mileage place = around (codes "part ") place (codes " can't be built by its mileage")
rule_words rule.Excess place =
    around (codes "part ") place (codes " has a mileage surcharge, which its rule doesn't allow")
rule_words rule.Stay place =
    around (codes "the stay of unit ") place (codes " is shorter or longer than a rule of its parts allows")
rule_words rule.Combine place = around (codes "unit ") place (codes " has two fares that aren't combinable in a unit")
rule_words rule.End place =
    around (codes "the fare of part ") place (codes " isn't combinable end on end with an earlier one")
rule_words rule.Surface place = around (codes "part ") place (codes " holds a surface sector")
rule_words rule.Season place =
    around (codes "the season of the fare of part ") place (codes " doesn't hold the day on which the part begins")

-- the sentence of the rule of a number, 1 to 22, that is broken at a place
abbrev pub broken_words : ℕ → ℕ → List ℕ
broken_words number place = option_map_or (λ one. rule_words one place) (rule_of number) []
