-- Relax: an edition in which the rules ask for nothing by one kind of condition.
use Rattle.std.specs.Prelude.{ℕ, Bool, true, false, not, ◌||◌, ◌==◌, List, map}
use Rattle.std.specs.List.{list_any}
use Rattle.fare_records.specs.declared.limits.TheConstants.{MOST_DAYS, MOST_STOPS, MOST_TRANSFERS}
use Rattle.fare_records.specs.declared.names.Names.{Names}
use Rattle.fare_records.specs.declared.names.Names.TheVariants.{All, Of}
use Rattle.fare_records.specs.declared.record.Record.{Record}
use Rattle.fare_records.specs.declared.record.Record.TheVariants as filed
use Rattle.fare_records.specs.Record.{RuleRecord}
use Rattle.fare_tariff.specs.Tariff.{Tariff}
use Rattle.fare_relaxed.specs.declared.term.Term.{Term}
use Rattle.fare_relaxed.specs.declared.term.Term.TheVariants.{Advance, Stay, Stopovers, Transfers, Surcharge, Units}
use Rattle.fare_relaxed.specs.declared.term.Term.TheVariants.{Ends}

-- a rule that asks for as little by a kind of condition as a record can: no days of advance, any stay of up to 999
-- days, 16 stopovers, 16 transfers, every surcharge, or every rule in a unit or end on end
abbrev pub relaxed_rule : Term → RuleRecord → RuleRecord
relaxed_rule Advance r = record r { advance = 0 }
relaxed_rule Stay r = record r { min_stay = 0; max_stay = MOST_DAYS }
relaxed_rule Stopovers r = record r { stops = MOST_STOPS }
relaxed_rule Transfers r = record r { transfers = MOST_TRANSFERS }
relaxed_rule Surcharge r = record r { excess = true }
relaxed_rule Units r = record r { units = All }
relaxed_rule Ends r = record r { ends = All }

-- a record, in which only a rule has conditions
abbrev pub relaxed_record : Term → Record → Record
relaxed_record term (filed.Rule r) = filed.Rule (relaxed_rule term r)
relaxed_record term (filed.City r) = filed.City r
relaxed_record term (filed.Cur r) = filed.Cur r
relaxed_record term (filed.Fare r) = filed.Fare r
relaxed_record term (filed.Mpm r) = filed.Mpm r
relaxed_record term (filed.Tpm r) = filed.Tpm r
relaxed_record term (filed.Ema r) = filed.Ema r

-- the records, each in its place
abbrev pub relaxed_records : Term → List Record → List Record
relaxed_records term records = map (relaxed_record term) records

-- the edition of the same number and effective day in which each rule is relaxed by a kind of condition
unfoldable pub relax : Term → Tariff → Tariff
relax term tariff =
    record {
      number = tariff.number;
      effective = tariff.effective;
      records = relaxed_records term tariff.records;
    }

-- a list of rules asks for one of its own, where it isn't every rule
abbrev pub names_ask : Names → Bool
names_ask All = false
names_ask (Of list) = true

-- a rule asks for something by a kind of condition: relaxed, it would ask for less
abbrev pub rule_asks : Term → RuleRecord → Bool
rule_asks Advance r = not (r.advance == 0)
rule_asks Stay r = not (r.min_stay == 0) || not (r.max_stay == MOST_DAYS)
rule_asks Stopovers r = not (r.stops == MOST_STOPS)
rule_asks Transfers r = not (r.transfers == MOST_TRANSFERS)
rule_asks Surcharge r = not r.excess
rule_asks Units r = names_ask r.units
rule_asks Ends r = names_ask r.ends

-- a record asks for something by a kind of condition, where it is a rule that does
abbrev pub record_asks : Term → Record → Bool
record_asks term (filed.Rule r) = rule_asks term r
record_asks term one = false

-- some rule of an edition asks for something by a kind of condition
abbrev pub asks : Term → Tariff → Bool
asks term tariff = list_any (record_asks term) tariff.records
