-- Names, one further.
use Rattle.std.proofs.Common.{◌≡◌, ◌<◌, ◌+◌, ℕ, List, [], ◌∷◌, ◌++◌, length, take, get_or, Option, Some, None, refl, sym, ◌∙◌, map, arith, Bool, true, false, if◌then◌else◌}
use Rattle.std.specs.Prelude.{◌==◌, ◌≤◌, count_by, nat_le, Result, Ok, Err, IfOk, IfSome}
use Rattle.std.specs.Borrow.{Bor}
use Rattle.std.proofs.lemmas.Bool.Decides.{nat_tests}
use Rattle.std.proofs.lemmas.List.{take-append-drop, take_more, map-append}
use Rattle.std.proofs.Math.Seq.{drop-cons}
use Rattle.std.proofs.lemmas.List.Splits.{length-slice_split}
use Rattle.fare_codes.specs.declared.rule_id.RuleId.{RuleId}
use Rattle.fare_csv.specs.NameList.{name_and, names_of, pieces_of, read_list, read_name}

-- a name and others, and then one more
more-and : (first : Option (Option RuleId)) (others more : Option (List (Option RuleId))) (names : List (Option RuleId)) (name : Option RuleId) → name_and first others ≡ Some names
    → ((xs : List (Option RuleId)) → others ≡ Some xs → more ≡ Some (xs ++ (name ∷ [])))
    → name_and first more ≡ Some (names ++ (name ∷ []))
more-and None others more names name h r = cc h
more-and (Some x) None more names name h r = cc h
more-and (Some x) (Some xs) more names name h r =
    let all : names ≡ x ∷ xs = cc h in
    rw (all, r xs refl) refl

-- the names of pieces, and then one more
pub names_of-more : (pieces : List (List ℕ)) (piece : List ℕ) (names : List (Option RuleId)) (name : Option RuleId)
    → names_of pieces ≡ Some names → read_name piece ≡ Some name → names_of (pieces ++ (piece ∷ [])) ≡ Some (names ++ (name ∷ []))
unfolding names_of
names_of-more [] piece names name h k =
    let none : names ≡ [] = cc h in
    rw (k, none) refl
names_of-more (first ∷ pieces) piece names name h k =
    more-and (read_name first) (names_of pieces) (names_of (pieces ++ (piece ∷ []))) names name h (λ xs e. names_of-more pieces piece xs name e k)

-- pieces of which some first ones are no names
pub names_of-none : (pieces : List (List ℕ)) (piece : List ℕ) (others : List (List ℕ)) → read_name piece ≡ None → names_of (pieces ++ (piece ∷ others)) ≡ None
unfolding names_of
names_of-none [] piece others e = rw e refl
names_of-none (first ∷ pieces) piece others e = rw (names_of-none pieces piece others e) (none-and (read_name first))
  where
    none-and : (o : Option (Option RuleId)) → name_and o None ≡ None
    none-and None = refl
    none-and (Some name) = refl

-- the names of some first references, and then of the next
pub names_of-step : (pieces : List (Bor (List ℕ))) (i : ℕ) (d : Bor (List ℕ)) (names : List (Option RuleId)) (name : Option RuleId) → i < length pieces
    → names_of (map (λ piece. piece.now) (take i pieces)) ≡ Some names → read_name (get_or pieces i d).now ≡ Some name
    → names_of (map (λ piece. piece.now) (take (i + 1) pieces)) ≡ Some (names ++ (name ∷ []))
names_of-step pieces i d names name h known is =
    rw (take_more pieces i d h, map-append) (names_of-more (map (λ piece. piece.now) (take i pieces)) (get_or pieces i d).now names name known is)

-- some reference is to no name
pub names_of-stop : (pieces : List (Bor (List ℕ))) (i : ℕ) (d : Bor (List ℕ)) → i < length pieces → read_name (get_or pieces i d).now ≡ None
    → names_of (map (λ piece. piece.now) pieces) ≡ None
names_of-stop pieces i d h other =
    rw (← take-append-drop i pieces, map-append, drop-cons pieces i d h) (names_of-none (map (λ piece. piece.now) (take i pieces)) (get_or pieces i d).now _ other)

-- a list of fewer than 64 spaces
pub read_list_few : (bytes : List ℕ) → count_by (λ byte. byte == 32) bytes < 64 → read_list bytes ≡ names_of (pieces_of bytes)
unfolding read_list
read_list_few bytes h =
    let size = length-slice_split (λ byte. byte == 32) bytes in
    let within : nat_le (length (pieces_of bytes)) 64 ≡ true = grind (arith, nat_tests, size) in
    rw within refl

-- and one of more
pub read_list_many : (bytes : List ℕ) → 64 ≤ count_by (λ byte. byte == 32) bytes → read_list bytes ≡ None
unfolding read_list
read_list_many bytes h =
    let size = length-slice_split (λ byte. byte == 32) bytes in
    let over : nat_le (length (pieces_of bytes)) 64 ≡ false = grind (arith, nat_tests, size) in
    rw over refl

-- as many names as pieces
names_of-length : (pieces : List (List ℕ)) (names : List (Option RuleId)) → names_of pieces ≡ Some names → length names ≡ length pieces
unfolding names_of
names_of-length [] names h =
    let none : names ≡ [] = cc h in
    rw none refl
names_of-length (piece ∷ pieces) names h = by (read_name piece) (names_of pieces) h (λ others e. names_of-length pieces others e)
  where
    by : (first : Option (Option RuleId)) (others : Option (List (Option RuleId))) → name_and first others ≡ Some names
        → ((xs : List (Option RuleId)) → others ≡ Some xs → length xs ≡ length pieces) → length names ≡ length (piece ∷ pieces)
    by None others e r = cc e
    by (Some x) None e r = cc e
    by (Some x) (Some xs) e r =
        let all : names ≡ x ∷ xs = cc e in
        rw (all, r xs refl) refl

-- a list has at most 64 names
pub read_list_short : (bytes : List ℕ) (names : List (Option RuleId)) → read_list bytes ≡ Some names → length names ≤ 64
unfolding read_list
read_list_short bytes names h = by (nat_le (length (pieces_of bytes)) 64) refl h
  where
    by : (b : Bool) → nat_le (length (pieces_of bytes)) 64 ≡ b → (if b then names_of (pieces_of bytes) else None) ≡ Some names → length names ≤ 64
    by true t e =
        let size = names_of-length (pieces_of bytes) names e in
        grind (arith, nat_tests, size)
    by false t e = cc e

-- the names of a list of fewer than 64 spaces, where there are any
pub few-short : {E : Type 0} (r : Result (Option (List (Option RuleId))) E) (bytes : List ℕ) → count_by (λ byte. byte == 32) bytes < 64
    → IfOk r (λ list. list ≡ names_of (pieces_of bytes)) → IfOk r (λ list. IfSome list (λ names. length names ≤ 64))
few-short (Err e) bytes few h = tt
few-short (Ok None) bytes few h = tt
few-short (Ok (Some names)) bytes few h = read_list_short bytes names (read_list_few bytes few ∙ sym h)
