-- The first fault of a list, one record on.
use Rattle.std.proofs.Common.{◌≡◌, ℕ, ◌+◌, ◌<◌, ◌≤◌, List, length, get_or, take, drop, Some, None, refl}
use Rattle.std.specs.Option.{option_or}
use Rattle.std.proofs.lemmas.List.{at_drop_more, at_drop_all}
use Rattle.fare_records.specs.declared.record.Record.{Record}
use Rattle.fare_tariff.specs.declared.check.check_fault.CheckFault.TheVariants.{At}
use Rattle.fare_tariff.specs.declared.check.check_kind.CheckKind.{CheckKind}
use Rattle.fare_tariff.specs.Check.{first_fault_from, fault_at, kind_of}

-- the first fault of what is left of a list is that of its first record, or of what is left after it
pub first_fault_more : (all : List Record) (i : ℕ) (d : Record) → i < length all → first_fault_from all i (drop i all) ≡ option_or (fault_at all i (get_or all i d)) (first_fault_from all (i + 1) (drop (i + 1) all))
unfolding first_fault_from
first_fault_more all i d h = at_drop_more (first_fault_from all i) all i d h

-- nothing is left past the end
pub first_fault_all : (all : List Record) (i : ℕ) → length all ≤ i → first_fault_from all i (drop i all) ≡ None
unfolding first_fault_from
first_fault_all all i h = at_drop_all (first_fault_from all i) all i h

-- where the first record of what is left has a kind, that is the fault of what is left
pub fault_here : (all : List Record) (i : ℕ) (one : Record) (kind : CheckKind) → i < length all → one ≡ get_or all i one → Some kind ≡ kind_of all (take i all) one → Some (At (i + 2) kind) ≡ first_fault_from all i (drop i all)
fault_here all i one kind h at there = rw (first_fault_more all i one h, ← at, ← there) refl

-- where it has none, the fault of what is left is that of what is left after it
pub fault_later : (all : List Record) (i : ℕ) (one : Record) → i < length all → one ≡ get_or all i one → None ≡ kind_of all (take i all) one → first_fault_from all (i + 1) (drop (i + 1) all) ≡ first_fault_from all i (drop i all)
fault_later all i one h at none = rw (first_fault_more all i one h, ← at, ← none) refl
