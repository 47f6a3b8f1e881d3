-- Rounds of connections that follow each other, over any handler.
use Rattle.std.specs.Prelude.{◌≡◌, ◌⊎◌, ◌≤◌, ◌+◌, ◌-◌, ℕ, List, [], ◌∷◌, ◌++◌, Option, Some, IfSome, length, map, min}
use Rattle.std.specs.Prelude.{Result, Vec, Ok, Err, codes, decimal}
use Rattle.fare_http.specs.declared.reply.Reply.{Reply}
use Rattle.fare_ports.specs.declared.failed.Failed.{Failed}
use Rattle.fare_ports.specs.Cause.{Rose}
use Rattle.fare_ports.specs.Door.{NoneWaits}
use Rattle.fare_rounds.specs.Finishing.{cut_count, served_count}
use Rattle.fare_rounds.specs.Rounds.{Exchanged, IsRound, failures_of}
use Rattle.fare_rounds.specs.Taking.{RoseBy, TakesEach, with_lists}

-- what a door tells: what the connections to come will bring, what was sent on those taken, the port at which it
-- listens, and how many calls have failed, of those that let connections in, and of those that read and write
pub record DoorState : Type 0 where
  pub waiting : Option (List (List ℕ))
  pub sent : Option (List (List ℕ))
  pub port : Option ℕ
  pub faults : ℕ
  pub cuts : ℕ

-- the same by its parts
abbrev pub door_state : Option (List (List ℕ)) → Option (List (List ℕ)) → Option ℕ → ℕ → ℕ → DoorState
door_state waiting sent port faults cuts =
    record { waiting = waiting; sent = sent; port = port; faults = faults; cuts = cuts }

-- what stands between two rounds: the handler, the door, and how many exchanges were served and cut off
pub record Standing (H : Type 0) : Type 0 where
  pub handler : H
  pub door : DoorState
  pub served : ℕ
  pub cut : ℕ

-- the same by its parts
abbrev pub standing : {H : Type 0} → H → DoorState → ℕ → ℕ → Standing H
standing handler door served cut = record { handler = handler; door = door; served = served; cut = cut }

-- how many connections were taken: each one was served or cut off
abbrev pub taken : {H : Type 0} → Standing H → ℕ
taken state = state.served + state.cut

-- how many connections the next round may take, of so many in all and so many a round
abbrev pub room_of : {H : Type 0} → ℕ → ℕ → Standing H → ℕ
room_of count most state = min most (count - taken state)

module _ {H : Type 0} (step : H → List ℕ → List ℕ → List ℕ → Option Reply → H → Type 0) (count most : ℕ) where
  -- one round more: the first connections to come were taken, in order, what was sent has grown by the bytes of each,
  -- and each one's end is counted, as is each read and write that failed. The door listens where it did. The round has
  -- no more connections than it may, and, where the door tells what waits and doesn't fail, as many as it may and
  -- as wait
  pub record IsNextRound (old new : Standing H) (round : List Exchanged) : Type 0 where
    pub exchanges : IsRound step old.handler old.handler round new.handler
    pub failed : RoseBy (failures_of round) old.door.cuts new.door.cuts
    pub port : new.door.port ≡ old.door.port
    pub waiting : TakesEach old.door.waiting new.door.waiting (map (λ exchanged. exchanged.connection) round)
    pub sent : new.door.sent ≡ with_lists (map (λ exchanged. exchanged.sent) round) old.door.sent
    pub served : new.served ≡ old.served + served_count (map (λ exchanged. exchanged.ending) round)
    pub cut : new.cut ≡ old.cut + cut_count (map (λ exchanged. exchanged.ending) round)
    pub few : taken new ≤ taken old + room_of count most old
    pub full : Rose old.door.faults new.door.faults
        ⊎ IfSome old.door.waiting (λ lists. taken new ≡ taken old + min (room_of count most old) (length lists))

  -- rounds that follow each other: each begins with what the one before it left
  abbrev pub AreRounds : Standing H → List (List Exchanged) → Standing H → Type 0
  AreRounds old [] new = new ≡ old
  AreRounds old (round ∷ rounds) new =
      (between : Standing H) × IsNextRound old between round × AreRounds between rounds new

  -- a service of at most so many connections at a port: the door was asked to listen there, which left it this port and
  -- these failures, and then rounds followed each other. There is none unless the door listens there
  pub record IsService (port : ℕ) (first last : H) (before after : DoorState) (served cut : ℕ) : Type 0 where
    pub heard : Option ℕ
    pub listened : ℕ
    pub asked : before.faults ≤ listened
    pub rounds : List (List Exchanged)
    pub each :
        AreRounds (standing first (record before { port = heard; faults = listened }) 0 0) rounds
        (standing last after served cut)
    pub let_in : (heard ≡ Some port) ⊎ (rounds ≡ [])
    pub within : served + cut ≤ count

-- the text of `serve`: how many exchanges were served, and how many cut off
abbrev pub summary : ℕ → ℕ → List ℕ
summary served cut = codes "SERVED " ++ decimal served ++ codes " CUT " ++ decimal cut ++ codes "\n"

module _ {H : Type 0} (step : H → List ℕ → List ℕ → List ℕ → Option Reply → H → Type 0) (count most port : ℕ)
    (first last : H) (before after : DoorState) where
  -- all connections that were asked for were taken at this port, or none waits, and this is the summary of how
  -- they ended
  pub record ServesAll (text : List ℕ) : Type 0 where
    pub served : ℕ
    pub cut : ℕ
    pub service : IsService step count most port first last before after served cut
    pub heard : after.port ≡ Some port
    pub all : (served + cut ≡ count) ⊎ NoneWaits after.waiting
    pub said : text ≡ summary served cut

  -- some connections were served at this port, or none
  pub record ServesSome : Type 0 where
    pub served : ℕ
    pub cut : ℕ
    pub service : IsService step count most port first last before after served cut

  -- what is made of a port, by the answer: some connections are served where the door fails
  abbrev pub ServesPort : {A : Type 0} → Result (Vec ℕ A) Failed → Type 0
  ServesPort (Ok text) = ServesAll text.items
  ServesPort (Err failed) = ServesSome
