-- What changed between two editions: the records that one of them alone has.
use Rattle.std.specs.Prelude.{ℕ, Bool, not, List, ◌++◌, filter, count_by}
use Rattle.std.specs.List.{list_any}
use Rattle.fare_records.specs.declared.record.Record.{Record}
use Rattle.fare_tariff.specs.Tariff.{Tariff}
use Rattle.fare_changes.specs.SameRecord.{same_record}

-- a record is in a list that holds an equal one
abbrev pub is_in : List Record → Record → Bool
is_in records one = list_any (same_record one) records

-- a record isn't in a list
abbrev pub is_missing : List Record → Record → Bool
is_missing records one = not (is_in records one)

-- the records of a list that aren't in another, in their order
abbrev pub only_in : List Record → List Record → List Record
only_in records others = filter (is_missing others) records

-- the records of the one edition that aren't in the other, in the order of the one
abbrev pub removed : Tariff → Tariff → List Record
removed old new = only_in old.records new.records

-- the records of the other edition that aren't in the one, in the order of the other
abbrev pub added : Tariff → Tariff → List Record
added old new = only_in new.records old.records

-- how many records of the one edition are in the other
abbrev pub same_count : Tariff → Tariff → ℕ
same_count old new = count_by (is_in new.records) old.records

-- what records become by the lines of a diff: the removed ones are taken out, and the added ones put behind the others
abbrev pub changed : List Record → List Record → List Record → List Record
changed records gone more = only_in records gone ++ more
