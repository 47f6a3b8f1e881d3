-- Rounds that follow each other.
use Rattle.std.proofs.Common.{◌≡◌, ◌≢◌, ◌⊎◌, inl, inr, ℕ, ◌+◌, ◌-◌, List, [], ◌∷◌, ◌++◌, length, Option, None, Some, refl, sym, subst, min, arith}
use Rattle.std.specs.Prelude.{IfSome}
use Rattle.fare_http.specs.declared.reply.Reply.{Reply}
use Rattle.fare_rounds.specs.declared.door_end.DoorEnd.{DoorEnd}
use Rattle.fare_rounds.specs.declared.door_end.DoorEnd.TheVariants.{Open, NoMore, Failed}
use Rattle.fare_rounds.specs.Rounds.{Exchanged}
use Rattle.fare_serve.specs.Service.{AreRounds, IsNextRound, Standing, DoorState, door_state}

module _ {H : Type 0} (step : H → List ℕ → List ℕ → List ℕ → Option Reply → H → Type 0) (count most : ℕ) where
  -- one round more behind others
  pub rounds-later : (old between new : Standing H) (rounds : List (List Exchanged)) (round : List Exchanged)
      → AreRounds step count most old rounds between → IsNextRound step count most between new round
      → AreRounds step count most old (rounds ++ round ∷ []) new
  rounds-later old between new [] round same next =
      (new, subst (λ (state : Standing H). IsNextRound step count most state new round) same next, refl)
  rounds-later old between new (first ∷ rounds) round are next =
      (are.0, are.1, rounds-later are.0 between new rounds round are.2 next)

-- a round is as full as may be, unless the door failed in it
pub full-unless : (end : DoorEnd) (Fails Full : Type 0) → (end ≡ Failed → Fails) → (end ≢ Failed → Full) → Fails ⊎ Full
full-unless Open Fails Full fails full = inr (full (λ e. cc))
full-unless NoMore Fails Full fails full = inr (full (λ e. cc))
full-unless Failed Fails Full fails full = inl (fails refl)

-- the count with what a full round took
pub full-count : (waiting : Option (List (List ℕ))) (before took after room : ℕ) → after ≡ before + took
    → IfSome waiting (λ lists. took ≡ min room (length lists)) → IfSome waiting (λ lists. after ≡ before + min room (length lists))
full-count None before took after room sum full = tt
full-count (Some lists) before took after room sum full = omega (arith, sum, full)

-- a door that was asked to listen, and nothing else
pub door-asked : (waiting waiting' sent sent' : Option (List (List ℕ))) (port : Option ℕ) (faults cuts cuts' : ℕ)
    → waiting' ≡ waiting → sent' ≡ sent → cuts' ≡ cuts
    → door_state waiting' sent' port faults cuts' ≡ door_state waiting sent port faults cuts
door-asked waiting waiting' sent sent' port faults cuts cuts' same_waiting same_sent same_cuts =
    rw (same_waiting, same_sent, same_cuts) refl
