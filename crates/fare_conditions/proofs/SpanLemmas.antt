-- The greatest rank of the cabins of a span, and the carrier of all its sectors.
use Rattle.std.proofs.Common.{◌≡◌, refl, ℕ, ◌+◌, ◌<◌, ◌≤◌, Bool, true, false, ◌&&◌, max, ap, sym, ◌∙◌, arith, inl, inr}
use Rattle.std.specs.Prelude.{Some, None, nat_le, bytes_eq}
use Rattle.std.specs.List.{list_all}
use Rattle.std.proofs.lemmas.Bool.{cases_Bool, cases_lt, le-leb, lt-leb}
use Rattle.std.proofs.lemmas.Slice.Eq.{bytes_eq-Decides}
use Rattle.fare_codes.specs.declared.cabin.Cabin.{Cabin}
use Rattle.fare_codes.specs.declared.carrier.Carrier.{Carrier}
use Rattle.fare_trip.specs.Itinerary.{Itinerary, sector}
use Rattle.fare_rules.specs.Numbers.{numbers}
use Rattle.fare_rules.specs.Span.{sectors}
use Rattle.fare_rules.specs.ComponentAmount.{covers_cabin, is_carried_by, rank}
use Rattle.fare_rules.proofs.NumberLemmas.{all_next, all_done}
use Rattle.fare_conditions.specs.Spans.{IsOneCarrier}

-- the greater of two numbers is at most a third where both are
at_most_max : (x y most : ℕ) → nat_le (max x y) most ≡ (nat_le x most && nat_le y most)
at_most_max x y most =
    elim (cases_lt most x) [
      | inl over ↦ lt-leb (max x y) most (omega arith) ∙ sym (ap (λ t. t && nat_le y most) (lt-leb x most over))
      | inr within ↦ elim (cases_lt most y) [
        | inl over ↦
            lt-leb (max x y) most (omega arith)
            ∙ sym (ap (λ t. t && nat_le y most) (le-leb x most within) ∙ lt-leb y most over)
        | inr both ↦
            le-leb (max x y) most (omega arith)
            ∙ sym (ap (λ t. t && nat_le y most) (le-leb x most within) ∙ le-leb y most both)
      ]
    ]

and_grouped : (x y z : Bool) → ((x && y) && z) ≡ (x && (y && z))
and_grouped true y z = refl
and_grouped false y z = refl

and_true : (x : Bool) → (x && true) ≡ x
and_true true = refl
and_true false = refl

module _ (trip : Itinerary) (class : Cabin) where
  -- no cabin is above the rank 0
  pub rank_first : (i b : ℕ)
      → (nat_le 0 (rank class) && list_all (covers_cabin trip class) (numbers (i + 1) (b + 1)))
      ≡ list_all (covers_cabin trip class) (numbers (i + 1) (b + 1))
  rank_first i b =
      ap (λ t. t && list_all (covers_cabin trip class) (numbers (i + 1) (b + 1))) (le-leb 0 (rank class) (omega arith))

  -- a class covers a cabin and those that are left where it has the rank of the one and covers the others
  pub rank_next : (greatest i b : ℕ) → i < b
      → (nat_le (max greatest (rank (sector trip (i + 1)).cabin)) (rank class) && list_all (covers_cabin trip class) (numbers (i + 1 + 1) (b + 1)))
      ≡ (nat_le greatest (rank class) && list_all (covers_cabin trip class) (numbers (i + 1) (b + 1)))
  rank_next greatest i b h =
      let rest = list_all (covers_cabin trip class) (numbers (i + 1 + 1) (b + 1)) in
      ap (λ t. t && rest) (at_most_max greatest (rank (sector trip (i + 1)).cabin) (rank class))
      ∙ and_grouped (nat_le greatest (rank class)) (covers_cabin trip class (i + 1)) rest
      ∙ ap (λ t. nat_le greatest (rank class) && t) (sym (all_next (covers_cabin trip class) (i + 1) (b + 1) (omega arith)))

  pub rank_last : (greatest i b : ℕ) → b ≤ i
      → (nat_le greatest (rank class) && list_all (covers_cabin trip class) (numbers (i + 1) (b + 1)))
      ≡ nat_le greatest (rank class)
  rank_last greatest i b h =
      ap (λ t. nat_le greatest (rank class) && t) (all_done (covers_cabin trip class) (i + 1) (b + 1) (omega arith))
      ∙ and_true (nat_le greatest (rank class))

module _ (trip : Itinerary) (a b : ℕ) (rises : a < b) where
  -- not all sectors are by a carrier that the first isn't by
  not_first : (carrier : Carrier) → bytes_eq (sector trip (a + 1)).carrier carrier ≡ false
      → list_all (is_carried_by trip carrier) (sectors a b) ≡ false
  not_first carrier e =
      all_next (is_carried_by trip carrier) (a + 1) (b + 1) (omega arith)
      ∙ ap (λ t. t && list_all (is_carried_by trip carrier) (numbers (a + 1 + 1) (b + 1))) e

  module _ (first : Carrier) (is : first ≡ (sector trip (a + 1)).carrier) where
    other_first : (carrier : Carrier) → bytes_eq first carrier ≡ false
        → list_all (is_carried_by trip carrier) (sectors a b) ≡ false
    other_first carrier other =
        not_first carrier (ap (λ (k : Carrier). bytes_eq k carrier) (sym is) ∙ other)

    -- where all are by that of the first, all are by a carrier where that is it
    pub by_one : list_all (is_carried_by trip first) (sectors a b) ≡ true → IsOneCarrier trip a b (Some first)
    by_one all =
        λ carrier. elim (cases_Bool (bytes_eq first carrier)) [
          | inl same ↦
              let e : first ≡ carrier = (bytes_eq-Decides first carrier).0 same in
              ap (λ (k : Carrier). list_all (is_carried_by trip k) (sectors a b)) (sym e) ∙ all ∙ sym same
          | inr other ↦ other_first carrier other ∙ sym other
        ]

    -- and else all are by none
    pub by_many : list_all (is_carried_by trip first) (sectors a b) ≡ false → IsOneCarrier trip a b None
    by_many none =
        λ carrier. elim (cases_Bool (bytes_eq first carrier)) [
          | inl same ↦
              let e : first ≡ carrier = (bytes_eq-Decides first carrier).0 same in
              ap (λ (k : Carrier). list_all (is_carried_by trip k) (sectors a b)) (sym e) ∙ none
          | inr other ↦ other_first carrier other
        ]
