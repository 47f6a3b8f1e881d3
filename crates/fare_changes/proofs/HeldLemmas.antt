-- Whether a record is in a list, from the first place of its key to the next.
use Rattle.std.proofs.Common.{◌≡◌, ℕ, zero, suc, Bool, true, false, ◌||◌, List, [], ◌∷◌, length, get_or, ◌<◌, ap, refl, sym, ◌∙◌, arith}
use Rattle.fare_index.specs.Key.{same_key}
use Rattle.fare_index.specs.SameKeys.{same_key-refl}
use Rattle.fare_records.specs.declared.record.Record.{Record}
use Rattle.fare_records.specs.Keyed.{own_key, has_own_key}
use Rattle.fare_records.proofs.Chain.{LooksAt}
use Rattle.fare_changes.specs.SameRecord.{same_record}
use Rattle.fare_changes.specs.Diff.{is_in}
use Rattle.fare_changes.proofs.SameRecords.{record_true}

or_true : (t : Bool) → (t || true) ≡ true
or_true true = refl
or_true false = refl

-- whether a record is in a list, whose first place doesn't matter
abbrev pub in_rest : Record → ℕ → List Record → Bool
in_rest one place records = is_in records one

-- a record without the key of another isn't the same
key_apart : (one other : Record) → has_own_key (own_key one) other ≡ false → same_record one other ≡ false
key_apart one other h = go (same_record one other) refl
  where
    go : (t : Bool) → same_record one other ≡ t → t ≡ false
    go true same =
        let e : one ≡ other = record_true one other same in
        sym (same_key-refl (own_key one)) ∙ ap (λ r. same_key (own_key one) (own_key r)) e ∙ h
    go false apart = refl

-- a record is looked for among those with its key alone
pub in_looks : (one : Record) → LooksAt (in_rest one) false (own_key one)
in_looks one = record {
  at_end = λ k. refl;
  passes_by = λ k x xs h. ap (λ t. t || is_in xs one) (key_apart one x h);
}

-- a record that equals one at a place is in the list
pub is_in_at : (records : List Record) (place : ℕ) (one other : Record) → place < length records → other ≡ get_or records place other → same_record one other ≡ true → is_in records one ≡ true
is_in_at [] place one other below found same = absurd (omega arith)
is_in_at (x ∷ xs) zero one other below found same =
    ap (λ r. same_record one r || is_in xs one) (sym found) ∙ ap (λ t. t || is_in xs one) same
is_in_at (x ∷ xs) (suc place) one other below found same =
    ap (λ t. same_record one x || t) (is_in_at xs place one other (omega arith) found same) ∙ or_true (same_record one x)
