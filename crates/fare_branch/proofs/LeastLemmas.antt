-- The least price of a lawful construction is one.
use Rattle.std.proofs.Common.{ℕ, ◌<◌, ◌≤◌, List, Option, Some, None, refl, inl, inr, arith}
use Rattle.fare_trip.specs.Itinerary.{Itinerary, count}
use Rattle.fare_tariff.specs.Tariff.{Tariff}
use Rattle.fare_rules.specs.declared.part.Part.{Part}
use Rattle.fare_rules.specs.Best.{IsBestAnswer}
use Rattle.fare_rules.specs.Valid.{HasFaresInForm}
use Rattle.fare_rules.proofs.ExistenceLemmas.{best_answer}
use Rattle.fare_rules.proofs.TotalLemmas.{lawful_price_up_to}
use Rattle.fare_branch.specs.Search.{IsLeastPrice}
use Rattle.fare_branch.specs.LeastPrice.{least_price, price_of}
use Rattle.fare_branch.proofs.PieceLemmas.{cheaper}

module _ (tariff : Tariff) (trip : Itinerary) where
  of_best : (best : Option (List Part × ℕ)) → IsBestAnswer tariff trip best → IsLeastPrice tariff trip (price_of best)
  of_best None h = record { under = λ parts price l. absurd (h parts price l); reached = inr (h, refl) }
  of_best (Some best) h = record {
    under = λ parts price l. cheaper parts best.0 price best.1 (h.first parts price l);
    reached = inl (best.0, h.lawful);
  }

  low_of_best : HasFaresInForm tariff → count trip ≤ 16 → (best : Option (List Part × ℕ)) → IsBestAnswer tariff trip best → price_of best ≤ 18446744073709551615
  low_of_best form short None h = omega arith
  low_of_best form short (Some best) h =
      let low : best.1 < 40_000_000_000 = lawful_price_up_to tariff trip best.0 best.1 form short h.lawful in
      omega arith

  -- two least prices are one
  pub least_no_more : (a b : ℕ) → IsLeastPrice tariff trip a → IsLeastPrice tariff trip b → a ≤ b
  least_no_more a b one other =
      elim other.reached [
        | inl (parts, lawful) ↦ one.under parts b lawful
        | inr (none, far) ↦ elim one.reached [
          | inl (parts, lawful) ↦ absurd (none parts a lawful)
          | inr (still, same) ↦ omega arith
        ]
      ]

  pub least_price_is : IsLeastPrice tariff trip (least_price tariff trip)
  unfolding least_price
  least_price_is = of_best (best_answer tariff trip).0 (best_answer tariff trip).1

  pub least_price_low : HasFaresInForm tariff → count trip ≤ 16 → least_price tariff trip ≤ 18446744073709551615
  unfolding least_price
  least_price_low form short = low_of_best form short (best_answer tariff trip).0 (best_answer tariff trip).1
