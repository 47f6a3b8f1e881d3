-- Rows that spell records without a fault do so whatever the number of their first record.
use Rattle.std.proofs.Common.{◌≡◌, ℕ, List, [], ◌∷◌, length, Bool, true, false, refl}
use Rattle.std.specs.Prelude.{Result, Ok, Err, Option, Some, None, ◌==◌, codes}
use Rattle.std.specs.Str.{bytes_eq}
use Rattle.fare_records.specs.declared.record.Record.{Record}
use Rattle.fare_records.specs.declared.record.Record.TheVariants as filed
use Rattle.fare_csv.specs.declared.head.Version.{Version}
use Rattle.fare_csv.specs.declared.head.Version.TheVariants as version
use Rattle.fare_csv.specs.declared.record_kind.RecordKind.{RecordKind}
use Rattle.fare_csv.specs.declared.record_kind.RecordKind.TheVariants as kind
use Rattle.fare_csv.specs.declared.text_fault.TextFault.{TextFault}
use Rattle.fare_ports.specs.Memory.{◌>>=◌}
use Rattle.fare_csv.specs.Fields.{counted, field, in_form}
use Rattle.fare_csv.specs.RecordText.{allowance_of, city_of, currency_of, fare_key_of, fare_of, fare_one_of, fare_two_of, mileage_of, pair_of, rule_of}
use Rattle.fare_csv.specs.Rows.{Fields}
use Rattle.fare_csv.specs.TariffText.{end_of, ended_by, followed_by, nothing_after, number_after, record_of, record_of_kind, records_of}

-- where a reading gives something, another gives the same
record GivesSame {A : Type 0} (one other : Result A TextFault) : Type 0 where
  same : (a : A) → one ≡ Ok a → other ≡ Ok a

no-value : {A : Type 0} (fault : TextFault) (other : Result A TextFault) → GivesSame (Err fault) other
no-value fault other = record { same = λ a e. absurd (cc e) }

itself : {A : Type 0} (one : Result A TextFault) → GivesSame one one
itself one = record { same = λ a e. e }

-- in two steps
stepwise : {A B : Type 0} (one other : Result A TextFault) (f g : A → Result B TextFault) → GivesSame one other
    → ((a : A) → GivesSame (f a) (g a)) → GivesSame (one >>= f) (other >>= g)
stepwise (Ok a) other f g h k = record { same = λ b e. rw (h.same a refl) ((k a).same b e) }
stepwise (Err fault) other f g h k = no-value fault (other >>= g)

-- a count of fields, and then what needs it
counted-then : {B : Type 0} (n m count : ℕ) (row : Fields) (f g : Unit {0} → Result B TextFault) → GivesSame (f tt) (g tt)
    → GivesSame (counted n count row >>= f) (counted m count row >>= g)
unfolding counted
counted-then n m count row f g h = by (length row == count) refl
  where
    by : (b : Bool) → (length row == count) ≡ b → GivesSame (counted n count row >>= f) (counted m count row >>= g)
    by true e = rw e h
    by false e = rw e (no-value _ _)

-- a field, and then what needs it
form-then : {A B : Type 0} (n m place : ℕ) (found : Option A) (f g : A → Result B TextFault) → ((a : A) → GivesSame (f a) (g a))
    → GivesSame (in_form n place found >>= f) (in_form m place found >>= g)
form-then n m place (Some a) f g h = h a
form-then n m place None f g h = no-value _ _

city-same : (n m : ℕ) (row : Fields) → GivesSame (city_of n row) (city_of m row)
unfolding city_of
city-same n m row = search (counted-then, form-then, itself) depth 16

currency-same : (n m : ℕ) (row : Fields) → GivesSame (currency_of n row) (currency_of m row)
unfolding currency_of
currency-same n m row = search (counted-then, form-then, itself) depth 16

mileage-same : (n m : ℕ) (row : Fields) → GivesSame (mileage_of n row) (mileage_of m row)
unfolding mileage_of
mileage-same n m row = search (counted-then, form-then, itself) depth 16

pair-same : (n m : ℕ) (row : Fields) → GivesSame (pair_of n row) (pair_of m row)
unfolding pair_of
pair-same n m row = search (counted-then, form-then, itself) depth 16

allowance-same : (n m : ℕ) (row : Fields) → GivesSame (allowance_of n row) (allowance_of m row)
unfolding allowance_of
allowance-same n m row = search (counted-then, form-then, itself) depth 16

rule-same : (n m : ℕ) (row : Fields) → GivesSame (rule_of n row) (rule_of m row)
unfolding rule_of
rule-same n m row = search (counted-then, form-then, itself) depth 16

fare_key-same : (n m : ℕ) (row : Fields) → GivesSame (fare_key_of n row) (fare_key_of m row)
unfolding fare_key_of
fare_key-same n m row = search (counted-then, form-then, itself) depth 16

fare_one-same : (n m : ℕ) (row : Fields) → GivesSame (fare_one_of n row) (fare_one_of m row)
unfolding fare_one_of
fare_one-same n m row = search (counted-then, form-then, stepwise, fare_key-same, itself) depth 16

fare_two-same : (n m : ℕ) (row : Fields) → GivesSame (fare_two_of n row) (fare_two_of m row)
unfolding fare_two_of
fare_two-same n m row = search (counted-then, form-then, stepwise, fare_key-same, itself) depth 16

fare-same : (version : Version) (n m : ℕ) (row : Fields) → GivesSame (fare_of version n row) (fare_of version m row)
unfolding fare_of
fare-same version.One n m row = fare_one-same n m row
fare-same version.Two n m row = fare_two-same n m row

kind-same : (version : Version) (n m : ℕ) (row : Fields) (named : Option RecordKind)
    → GivesSame (record_of_kind version n row named) (record_of_kind version m row named)
unfolding record_of_kind
kind-same version n m row None = no-value _ _
kind-same version n m row (Some kind.City) = stepwise _ _ _ _ (city-same n m row) (λ one. itself (Ok (filed.City one)))
kind-same version n m row (Some kind.Cur) = stepwise _ _ _ _ (currency-same n m row) (λ one. itself (Ok (filed.Cur one)))
kind-same version n m row (Some kind.Rule) = stepwise _ _ _ _ (rule-same n m row) (λ one. itself (Ok (filed.Rule one)))
kind-same version n m row (Some kind.Fare) = stepwise _ _ _ _ (fare-same version n m row) (λ one. itself (Ok (filed.Fare one)))
kind-same version n m row (Some kind.Mpm) = stepwise _ _ _ _ (mileage-same n m row) (λ one. itself (Ok (filed.Mpm one)))
kind-same version n m row (Some kind.Tpm) = stepwise _ _ _ _ (pair-same n m row) (λ one. itself (Ok (filed.Tpm one)))
kind-same version n m row (Some kind.Ema) = stepwise _ _ _ _ (allowance-same n m row) (λ one. itself (Ok (filed.Ema one)))

record-same : (version : Version) (n m : ℕ) (row : Fields) → GivesSame (record_of version n row) (record_of version m row)
unfolding record_of
record-same version n m row = kind-same version n m row _

end-same : (n m : ℕ) (row : Fields) (rows : List Fields) → GivesSame (ended_by (end_of n row rows)) (ended_by (end_of m row rows))
unfolding ended_by end_of nothing_after
end-same n m row [] = stepwise _ _ _ _ (counted-then n m 1 row _ _ (itself (Ok tt))) (λ _. itself (Ok []))
end-same n m row (other ∷ rows) = stepwise _ _ _ _ (counted-then n m 1 row _ _ (no-value _ _)) (λ _. itself (Ok []))

followed-same : (one other : Result Record TextFault) (rest more : Result (List Record) TextFault) → GivesSame one other → GivesSame rest more
    → GivesSame (followed_by one rest) (followed_by other more)
unfolding followed_by
followed-same one other rest more h k = stepwise _ _ _ _ h (λ a. stepwise _ _ _ _ k (λ b. itself (Ok (a ∷ b))))

records-same : (version : Version) (rows : List Fields) (n m : ℕ) → GivesSame (records_of version n rows) (records_of version m rows)
unfolding records_of
records-same version [] n m = no-value _ _
records-same version (row ∷ rows) n m = by (bytes_eq (field row 0) (codes "END")) refl (records-same version rows (number_after n) (number_after m))
  where
    by : (b : Bool) → bytes_eq (field row 0) (codes "END") ≡ b
        → GivesSame (records_of version (number_after n) rows) (records_of version (number_after m) rows)
        → GivesSame (records_of version n (row ∷ rows)) (records_of version m (row ∷ rows))
    by true e more = rw e (end-same n m row rows)
    by false e more = rw e (followed-same _ _ _ _ (record-same version n m row) more)

-- a record has the number that it is given only in its fault
pub record-renumbered : (version : Version) (n m : ℕ) (row : Fields) (one : Record) → record_of version n row ≡ Ok one → record_of version m row ≡ Ok one
record-renumbered version n m row one h = (record-same version n m row).same one h

-- and so have records up to END
pub records-renumbered : (version : Version) (n m : ℕ) (rows : List Fields) (records : List Record)
    → records_of version n rows ≡ Ok records → records_of version m rows ≡ Ok records
records-renumbered version n m rows records h = (records-same version rows n m).same records h
