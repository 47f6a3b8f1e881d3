-- How the connections of a round are taken from a door.
use Rattle.std.specs.Prelude.{◌≡◌, ◌⊎◌, ◌≤◌, ℕ, ◌+◌, ◌-◌, ◌^◌, List, [], ◌∷◌, ◌++◌, Option, None, Some, All, IfSome}
use Rattle.std.specs.Prelude.{length, map, min}
use Rattle.std.specs.Prelude.{option_map, option_to_list, ⊤}
use Rattle.fare_http.specs.Serving.{BringsTooLittle}
use Rattle.fare_rounds.specs.declared.entry.Entry.{Entry}
use Rattle.fare_rounds.specs.Entries.{IsBrought, Row}

-- the count rose by so much, or stands at the last value of a u64
abbrev pub RoseBy : ℕ → ℕ → ℕ → Type 0
RoseBy failures before now = min (before + failures) (2 ^ 64 - 1) ≤ now

-- a connection that was taken, by what it would bring: it was cut off, after so many failed reads, or is held with its
-- entry
pub data Arrival : Type 0 where
  cut_off : Option (List ℕ) → ℕ → Arrival
  held : Option (List ℕ) → Entry → Arrival

-- what a connection would bring
abbrev pub connection_of : Arrival → Option (List ℕ)
connection_of (cut_off connection failures) = connection
connection_of (held connection entry) = connection

-- the entries of those that are held
abbrev pub entries_of : List Arrival → List Entry
entries_of [] = []
entries_of (cut_off connection failures ∷ arrivals) = entries_of arrivals
entries_of (held connection entry ∷ arrivals) = entry ∷ entries_of arrivals

-- how many were cut off
abbrev pub cut_among : List Arrival → ℕ
cut_among [] = 0
cut_among (cut_off connection failures ∷ arrivals) = cut_among arrivals + 1
cut_among (held connection entry ∷ arrivals) = cut_among arrivals

-- how many reads failed
abbrev pub failed_reads : List Arrival → ℕ
failed_reads [] = 0
failed_reads (cut_off connection failures ∷ arrivals) = failures + failed_reads arrivals
failed_reads (held connection entry ∷ arrivals) = failed_reads arrivals

-- the places of those that are held, where the first one taken has this place
abbrev pub places_from : ℕ → List Arrival → List ℕ
places_from place [] = []
places_from place (cut_off connection failures ∷ arrivals) = places_from (place + 1) arrivals
places_from place (held connection entry ∷ arrivals) = place ∷ places_from (place + 1) arrivals

-- the place of the current connection, where it is held
abbrev pub held_places : Option ℕ → Arrival → List ℕ
held_places current (cut_off connection failures) = []
held_places current (held connection entry) = option_to_list current

-- a connection was cut off since it ended too early or a read failed, or its entry is what it brought
abbrev pub IsRead : Arrival → Type 0
IsRead (cut_off connection failures) = BringsTooLittle connection ⊎ (1 ≤ failures)
IsRead (held connection entry) = IsBrought connection entry.request entry.reply

-- these connections were the first ones to come, and the others are still to come
abbrev pub TakesEach : Option (List (List ℕ)) → Option (List (List ℕ)) → List (Option (List ℕ)) → Type 0
TakesEach None new connections = ⊤
TakesEach (Some old) None connections = ⊥
TakesEach (Some old) (Some new) connections =
    (taken : List (List ℕ)) × (old ≡ taken ++ new) × (connections ≡ map Some taken)

-- what was sent, with these lists more at its end
abbrev pub with_lists : List (List ℕ) → Option (List (List ℕ)) → Option (List (List ℕ))
with_lists lists sent = option_map (λ before. before ++ lists) sent

-- what a door tells of its connections, and how many of its reads and writes have failed; and the round that is taken
-- from it
pub record Gathering : Type 0 where
  pub waiting : Option (List (List ℕ))
  pub sent : Option (List (List ℕ))
  pub held : List ℕ
  pub cuts : ℕ
  pub row : Row

-- the same by its parts
abbrev pub gathering : Option (List (List ℕ)) → Option (List (List ℕ)) → List ℕ → ℕ → Row → Gathering
gathering waiting sent aside cuts row =
    record { waiting = waiting; sent = sent; held = aside; cuts = cuts; row = row }

-- what a door tells before the first connection of a round, where it holds none
abbrev pub none_taken : Option (List (List ℕ)) → Option (List (List ℕ)) → ℕ → Gathering
none_taken waiting sent cuts = gathering waiting sent [] cuts (record { entries = []; cut = 0 })

-- no connection was taken
abbrev pub TakesNone : Gathering → Gathering → Type 0
TakesNone old new = new ≡ old

-- these connections were taken, and nothing was sent on them: those that weren't cut off are held behind the others,
-- each at its place, and their entries stand in the same order. Each failed read was counted
pub record Gathers (old new : Gathering) (arrivals : List Arrival) : Type 0 where
  pub waiting : TakesEach old.waiting new.waiting (map connection_of arrivals)
  pub sent : new.sent ≡ with_lists (map (λ _. []) arrivals) old.sent
  pub places : List ℕ
  pub held : new.held ≡ old.held ++ places
  pub each : length places ≡ length (entries_of arrivals)
  pub told : IfSome old.sent (λ lists. places ≡ places_from (length lists) arrivals)
  pub read : All IsRead arrivals
  pub failed : RoseBy (failed_reads arrivals) old.cuts new.cuts
  pub entries : new.row.entries ≡ old.row.entries ++ entries_of arrivals
  pub cut : new.row.cut ≡ old.row.cut + cut_among arrivals

-- one connection was read: it is held, being the current one, or was cut off; a failed read was counted
pub record TakesOne (left : Option (List ℕ)) (current : Option ℕ) (old_held new_held : List ℕ) (old_cuts new_cuts : ℕ)
    (old new : Row) : Type 0 where
  pub arrival : Arrival
  pub connection : connection_of arrival ≡ left
  pub held : new_held ≡ old_held ++ held_places current arrival
  pub read : IsRead arrival
  pub failed : RoseBy (failed_reads (arrival ∷ [])) old_cuts new_cuts
  pub entries : new.entries ≡ old.entries ++ entries_of (arrival ∷ [])
  pub cut : new.cut ≡ old.cut + cut_among (arrival ∷ [])
