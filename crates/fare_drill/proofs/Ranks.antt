-- Ranks of records, which are the same for the same key.
use Rattle.std.proofs.Common.{◌≡◌, ◌≢◌, ℕ, ◌+◌, ◌*◌, ◌^◌, ◌<◌, ◌≤◌, Bool, true, false, cond, List, Option, Some, None, bytes_eq, slice_index, codes, min, max, is_some, refl, ap, arith, ◌&&◌, inl, inr}
use Rattle.std.proofs.lemmas.Bool.{and_parts, or_cases, cases_Bool}
use Rattle.std.proofs.lemmas.Slice.Eq.{bytes_eq-Decides}
use Rattle.fare_codes.specs.declared.kind.Kind.{Kind}
use Rattle.fare_codes.specs.declared.kind.Kind.TheVariants.{OW, HR}
use Rattle.fare_codes.specs.declared.indicator.Indicator.{Indicator}
use Rattle.fare_codes.specs.Same.{same_kind, same_indicator, same_cabin, same_season}
use Rattle.fare_records.specs.declared.record.Record.{Record}
use Rattle.fare_records.specs.declared.record.Record.TheVariants as filed
use Rattle.fare_records.specs.Record.{FareRecord}
use Rattle.fare_records.specs.Fields.{same_pair, same_rule}
use Rattle.fare_tariff.specs.Lookup.{has_key, is_fare_between}
use Rattle.fare_tariff.specs.Check.{has_key_of, is_fare_over, key_of}
use Rattle.fare_records.specs.Seasons.{seasons_overlap}

-- the number that the first three characters of a code write
unfoldable pub value : List ℕ → ℕ
value text = 65_536 * slice_index text 0 + 256 * slice_index text 1 + slice_index text 2

-- the number of an unordered pair of codes
unfoldable pub pair_value : List ℕ → List ℕ → ℕ
pair_value a b = 2 ^ 24 * min (value a) (value b) + max (value a) (value b)

-- the number of a kind
unfoldable pub kind_value : Kind → ℕ
kind_value OW = 0
kind_value HR = 4

-- the number of a carrier, and of a rule field
unfoldable pub carrier_value : List ℕ → ℕ
carrier_value carrier = cond (bytes_eq carrier (codes "YY")) 0 2

unfoldable pub rule_value : Option (List ℕ) → ℕ
rule_value None = 0
rule_value (Some id) = 1

-- the number of a fare among those of its two cities
unfoldable pub option_value : FareRecord → ℕ
option_value r = kind_value r.kind + carrier_value r.carrier + rule_value r.rule

-- the rank of a record: cities and miles whose codes begin with a later letter rank behind all others
unfoldable pub rank : Record → ℕ
rank (filed.Cur r) = value r.country
rank (filed.City r) = 2 ^ 56 * slice_index r.code 0 + 2 ^ 52 + value r.code
rank (filed.Rule r) = 2 ^ 56 * 67 + 2 * 2 ^ 52
rank (filed.Fare r) = 2 ^ 56 * 67 + 3 * 2 ^ 52 + 8 * (2 ^ 24 * value r.from + value r.to) + option_value r
rank (filed.Mpm r) = 2 ^ 56 * 67 + 4 * 2 ^ 52 + pair_value r.from r.to
rank (filed.Tpm r) = 2 ^ 56 * min (slice_index r.from 0) (slice_index r.to 0) + 5 * 2 ^ 52 + pair_value r.from r.to
rank (filed.Ema r) = 0

-- equal by the test is equal
same_text : (a b : List ℕ) → bytes_eq a b ≡ true → a ≡ b
same_text a b h = (bytes_eq-Decides a b).0 h

-- codes of different numbers are different by the test
pub different_text : (a b : List ℕ) → value a ≢ value b → bytes_eq a b ≡ false
different_text a b differ = elim (cases_Bool (bytes_eq a b)) [
  | inl same ↦ absurd (differ (ap value (same_text a b same)))
  | inr different ↦ different
]

-- where a test admits something, it passes
admitted : {A : Type 0} (test : Bool) (x : A) → is_some (cond test (Some x) None) ≡ true → test ≡ true
admitted true x h = refl
admitted false x h = cc

-- the same pair has the same number
same_pair-value : (a b c d : List ℕ) → same_pair a b c d ≡ true → (pair_value a b ≡ pair_value c d) × (min (slice_index a 0) (slice_index b 0) ≡ min (slice_index c 0) (slice_index d 0))
unfolding pair_value
same_pair-value a b c d h = elim (or_cases (bytes_eq a c && bytes_eq b d) (bytes_eq a d && bytes_eq b c) h) [
  | inl straight ↦
      let parts = and_parts (bytes_eq a c) (bytes_eq b d) straight in
      let first = same_text a c parts.0 in let second = same_text b d parts.1 in
      (rw (first, second) refl, rw (first, second) refl)
  | inr crossed ↦
      let parts = and_parts (bytes_eq a d) (bytes_eq b c) crossed in
      let first = same_text a d parts.0 in let second = same_text b c parts.1 in
      (rw (first, second) (omega arith), rw (first, second) (omega arith))
]

-- the same kind has the same number, and so has the same rule
same_kind-value : (a b : Kind) → same_kind a b ≡ true → kind_value a ≡ kind_value b
same_kind-value OW OW h = refl
same_kind-value HR HR h = refl
same_kind-value OW HR h = cc
same_kind-value HR OW h = cc

same_rule-value : (a b : Option (List ℕ)) → same_rule a b ≡ true → rule_value a ≡ rule_value b
unfolding rule_value
same_rule-value None None h = refl
same_rule-value (Some a) (Some b) h = refl
same_rule-value None (Some b) h = cc
same_rule-value (Some a) None h = cc

-- fares of one key have the same rank
same_fare : (one other : FareRecord) → has_key (key_of one) other ≡ true → rank (filed.Fare one) ≡ rank (filed.Fare other)
unfolding rank option_value
same_fare one other h =
    let a = and_parts _ (same_rule other.rule one.rule) h in
    let b = and_parts _ (same_kind other.kind one.kind) a.0 in
    let c = and_parts _ (same_cabin other.class one.class) b.0 in
    let d = and_parts _ (bytes_eq other.carrier one.carrier) c.0 in
    let e = and_parts _ (same_indicator other.ind one.ind) d.0 in
    let f = and_parts (bytes_eq other.from one.from) (bytes_eq other.to one.to) e.0 in
    let from = same_text other.from one.from f.0 in
    let to = same_text other.to one.to f.1 in
    let carrier = same_text other.carrier one.carrier d.1 in
    let kind = same_kind-value other.kind one.kind b.1 in
    let rule = same_rule-value other.rule one.rule a.1 in
    rw (from, to, carrier, kind, rule) refl

-- records of one kind with one key have the same rank
pub same_key : (one other : Record) → has_key_of one other ≡ true → rank one ≡ rank other
unfolding rank
same_key (filed.City a) (filed.City b) h = rw (same_text b.code a.code (admitted (bytes_eq b.code a.code) b h)) refl
same_key (filed.Cur a) (filed.Cur b) h = rw (same_text b.country a.country (admitted (bytes_eq b.country a.country) b h)) refl
same_key (filed.Rule a) (filed.Rule b) h = refl
same_key (filed.Fare a) (filed.Fare b) h =
    same_fare a b (and_parts (has_key (key_of a) b) (same_season b.season a.season) h).0
same_key (filed.Mpm a) (filed.Mpm b) h =
    let both = admitted (same_pair b.from b.to a.from a.to && same_indicator b.ind a.ind) b.miles h in
    let same = same_pair-value b.from b.to a.from a.to (and_parts (same_pair b.from b.to a.from a.to) (same_indicator b.ind a.ind) both).0 in
    rw (same.0) refl
same_key (filed.Tpm a) (filed.Tpm b) h =
    let same = same_pair-value b.from b.to a.from a.to (admitted (same_pair b.from b.to a.from a.to) b.miles h) in
    rw (same.0, same.1) refl
same_key (filed.Ema a) (filed.Ema b) h = refl
same_key _ _ h = cc

-- so have fares of one key, whatever their seasons
pub same_fare_over : (one : FareRecord) (other : Record) → is_fare_over (key_of one) one.season other ≡ true → rank (filed.Fare one) ≡ rank other
same_fare_over one (filed.Fare b) h =
    same_fare one b (and_parts (has_key (key_of one) b) (seasons_overlap b.season one.season) h).0
same_fare_over one _ h = cc

-- the least rank that a fare from a city to another may have
unfoldable pub fare_rank : List ℕ → List ℕ → ℕ
fare_rank from to = 2 ^ 56 * 67 + 3 * 2 ^ 52 + 8 * (2 ^ 24 * value from + value to)

-- the number of a fare among those of its two cities is below 8
kind_small : (kind : Kind) → kind_value kind ≤ 4
unfolding kind_value
kind_small OW = omega arith
kind_small HR = omega arith

rule_small : (rule : Option (List ℕ)) → rule_value rule ≤ 1
unfolding rule_value
rule_small None = omega arith
rule_small (Some id) = omega arith

two_at_most : (test : Bool) → cond test 0 2 ≤ 2
two_at_most true = omega arith
two_at_most false = omega arith

option_small : (r : FareRecord) → option_value r < 8
unfolding option_value carrier_value
option_small r = omega (arith, kind_small r.kind, rule_small r.rule, two_at_most (bytes_eq r.carrier (codes "YY")))

-- the fares from a city to another have eight ranks
pub eight_ranks : (from to : List ℕ) (ind : Indicator) (other : Record) → is_fare_between from to ind other ≡ true → (fare_rank from to ≤ rank other) × (rank other < fare_rank from to + 8)
unfolding rank fare_rank
eight_ranks from to ind (filed.Fare b) h =
    let a = and_parts (bytes_eq b.from from && bytes_eq b.to to) (same_indicator b.ind ind) h in
    let c = and_parts (bytes_eq b.from from) (bytes_eq b.to to) a.0 in
    let first = ap value (same_text b.from from c.0) in
    let second = ap value (same_text b.to to c.1) in
    let small = option_small b in
    (omega (arith, first, second, small), omega (arith, first, second, small))
eight_ranks from to ind _ h = cc
