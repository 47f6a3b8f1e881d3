-- A search by halves: what is known of the part of a list that is left.
use Rattle.std.proofs.Common.{ltb, ◌≡◌, ℕ, ◌+◌, ◌-◌, ◌/◌, ◌<◌, ◌≤◌, cond, List, length, get_or, refl, ap, sym, ◌∙◌, arith, zero, suc}
use Rattle.std.proofs.lemmas.Bool.{lt-ltb, le-ltb}
use Rattle.std.proofs.lemmas.List.{get_or_default}
use Rattle.fare_index.specs.Rank.{halved, rank}

-- the search has come to a place and another, and ends where it would from there
pub record IsHalved (hashes : List ℕ) (sought : ℕ) (low high : ℕ) : Type 0 where
  pub forward : low ≤ high
  pub within : high ≤ length hashes
  pub steps : ℕ
  pub enough : high ≤ low + steps
  pub rest : rank hashes sought ≡ halved steps hashes sought low high

-- one step, where the places differ
stepped : (steps : ℕ) (hashes : List ℕ) (sought : ℕ) (low high : ℕ) → low < high → halved (suc steps) hashes sought low high ≡ cond (ltb (get_or hashes (low + (high - low) / 2) sought) sought) (halved steps hashes sought (low + (high - low) / 2 + 1) high) (halved steps hashes sought low (low + (high - low) / 2))
unfolding halved
stepped steps hashes sought low high less =
    ap (λ t. cond t (cond (ltb (get_or hashes (low + (high - low) / 2) sought) sought) (halved steps hashes sought (low + (high - low) / 2 + 1) high) (halved steps hashes sought low (low + (high - low) / 2))) low) (lt-ltb low high less)

-- no step, where they don't
ended : (steps : ℕ) (hashes : List ℕ) (sought : ℕ) (low high : ℕ) → high ≤ low → halved steps hashes sought low high ≡ low
unfolding halved
ended zero hashes sought low high over = refl
ended (suc steps) hashes sought low high over =
    ap (λ t. cond t (cond (ltb (get_or hashes (low + (high - low) / 2) sought) sought) (halved steps hashes sought (low + (high - low) / 2 + 1) high) (halved steps hashes sought low (low + (high - low) / 2))) low) (le-ltb low high over)

-- before the search
pub halved_none : (hashes : List ℕ) (sought : ℕ) (high : ℕ) → high ≡ length hashes → IsHalved hashes sought 0 high
unfolding rank
halved_none hashes sought high all = record {
  forward = omega arith;
  within = omega (arith, all);
  steps = length hashes;
  enough = omega (arith, all);
  rest = ap (halved (length hashes) hashes sought 0) (sym all);
}

-- the hash in the middle is less than the one that is sought
pub halved_up : (hashes : List ℕ) (sought : ℕ) (low high middle : ℕ) → low < high → middle ≡ low + (high - low) / 2 → get_or hashes middle 0 < sought → IsHalved hashes sought low high → IsHalved hashes sought (middle + 1) high
halved_up hashes sought low high middle less at before so_far = go so_far.steps so_far.enough so_far.rest
  where
    go : (steps : ℕ) → high ≤ low + steps → rank hashes sought ≡ halved steps hashes sought low high → IsHalved hashes sought (middle + 1) high
    go zero enough rest = absurd (omega (arith, less, enough))
    go (suc steps) enough rest = record {
      forward = omega (arith, less, at);
      within = so_far.within;
      steps = steps;
      enough = omega (arith, less, at, enough);
      rest = rest
          ∙ stepped steps hashes sought low high less
          ∙ ap (λ m. cond (ltb (get_or hashes m sought) sought) (halved steps hashes sought (m + 1) high) (halved steps hashes sought low m)) (sym at)
          ∙ ap (λ k. cond (ltb k sought) (halved steps hashes sought (middle + 1) high) (halved steps hashes sought low middle)) (get_or_default hashes middle sought 0 (omega (arith, less, at, so_far.within)))
          ∙ ap (λ t. cond t (halved steps hashes sought (middle + 1) high) (halved steps hashes sought low middle)) (lt-ltb (get_or hashes middle 0) sought before);
    }

-- the hash in the middle isn't less
pub halved_down : (hashes : List ℕ) (sought : ℕ) (low high middle : ℕ) → low < high → middle ≡ low + (high - low) / 2 → sought ≤ get_or hashes middle 0 → IsHalved hashes sought low high → IsHalved hashes sought low middle
halved_down hashes sought low high middle less at behind so_far = go so_far.steps so_far.enough so_far.rest
  where
    go : (steps : ℕ) → high ≤ low + steps → rank hashes sought ≡ halved steps hashes sought low high → IsHalved hashes sought low middle
    go zero enough rest = absurd (omega (arith, less, enough))
    go (suc steps) enough rest = record {
      forward = omega (arith, at);
      within = omega (arith, less, at, so_far.within);
      steps = steps;
      enough = omega (arith, less, at, enough);
      rest = rest
          ∙ stepped steps hashes sought low high less
          ∙ ap (λ m. cond (ltb (get_or hashes m sought) sought) (halved steps hashes sought (m + 1) high) (halved steps hashes sought low m)) (sym at)
          ∙ ap (λ k. cond (ltb k sought) (halved steps hashes sought (middle + 1) high) (halved steps hashes sought low middle)) (get_or_default hashes middle sought 0 (omega (arith, less, at, so_far.within)))
          ∙ ap (λ t. cond t (halved steps hashes sought (middle + 1) high) (halved steps hashes sought low middle)) (le-ltb (get_or hashes middle 0) sought behind);
    }

-- after the search
pub halved_all : (hashes : List ℕ) (sought : ℕ) (low high : ℕ) → high ≤ low → IsHalved hashes sought low high → low ≡ rank hashes sought
halved_all hashes sought low high over so_far = sym (so_far.rest ∙ ended so_far.steps hashes sought low high over)
