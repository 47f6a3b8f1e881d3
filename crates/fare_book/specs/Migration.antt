-- What a migration makes of a book and of the stored bodies.
use Rattle.std.specs.Prelude.{◌≡◌, ◌⊎◌, ℕ, ◌-◌, Bool, true, List, [], ◌++◌, map, take, drop, slice_set}
use Rattle.std.specs.Prelude.{slice_index_or, ⊤, Result, Ok, Err, not, bytes_eq, count_by}
use Rattle.fare_ports.specs.Keeper.{HasPlace}
use Rattle.fare_tariff.specs.Tariff.{Tariff}
use Rattle.fare_csv.specs.declared.text_fault.TextFault.{TextFault}
use Rattle.fare_csv.specs.TariffText.{edition_of}
use Rattle.fare_csv.specs.CanonicalText.{canonical_text}
use Rattle.fare_book.specs.declared.restore_fault.RestoreFault.{RestoreFault}
use Rattle.fare_book.specs.declared.restore_fault.RestoreFault.TheVariants.{Memory, KeeperFault, Damaged}
use Rattle.fare_book.specs.Book.{BookState}
use Rattle.fare_book.specs.Editions.{editions_of}

-- the canonical text of the edition that a body was read as; a body that is no edition's text stays as it is
abbrev pub spelled_anew : List ℕ → Result Tariff TextFault → List ℕ
spelled_anew body (Ok edition) = canonical_text edition
spelled_anew body (Err fault) = body

-- a body in the canonical spelling of its edition
unfoldable pub canonical_body : List ℕ → List ℕ
canonical_body body = spelled_anew body (edition_of body)

-- a body isn't the canonical text of its edition
unfoldable pub is_old : List ℕ → Bool
is_old body = not (bytes_eq body (canonical_body body))

-- bodies of which those at so many first places are in canonical spelling, and the others as they were
abbrev pub migrated : ℕ → List (List ℕ) → List (List ℕ)
migrated count bodies = map canonical_body (take count bodies) ++ drop count bodies

-- the bodies at some first places are in canonical spelling, and the others as they were
abbrev pub MigratesInPart : List (List ℕ) → List (List ℕ) → Type 0
MigratesInPart before after = (count : ℕ) × (after ≡ migrated count before)

-- a book is settled, and has the editions that bodies stand for
abbrev pub IsRestored : BookState → List (List ℕ) → Type 0
IsRestored book bodies = (book.settled ≡ true) × (editions_of bodies ≡ Ok book.editions)

-- nothing changed, or the book was restored and the bodies at some first places are in canonical spelling
abbrev pub MayMigrate : BookState → BookState → List (List ℕ) → List (List ℕ) → Type 0
MayMigrate old new before after =
    ((new ≡ old) × (after ≡ before)) ⊎ (IsRestored new before × MigratesInPart before after)

-- what each answer of a migration says: how many bodies weren't in canonical spelling, in which all are now, in a
-- restored book; what is wrong with the bodies, and then nothing changed; or that it was cut off
abbrev pub Migrates : BookState → BookState → Result ℕ RestoreFault → List (List ℕ) → List (List ℕ) → Type 0
Migrates old new (Ok count) before after =
    IsRestored new before × (count ≡ count_by is_old before) × (after ≡ map canonical_body before)
Migrates old new (Err (Damaged place damage)) before after =
    (editions_of before ≡ Err (record { place = place; damage = damage })) × (new ≡ old) × (after ≡ before)
Migrates old new (Err Memory) before after = MayMigrate old new before after
Migrates old new (Err KeeperFault) before after = MayMigrate old new before after

-- a book is settled where a migration was made, as it was where the bodies are damaged, and else one of the two
abbrev pub LeavesBook : BookState → BookState → Result ℕ RestoreFault → Type 0
LeavesBook old new (Ok count) = new.settled ≡ true
LeavesBook old new (Err (Damaged place damage)) = new ≡ old
LeavesBook old new (Err fault) = (new ≡ old) ⊎ (new.settled ≡ true)

-- bodies stand for the same editions, or have the same damage, as before
abbrev pub SameEditions : List (List ℕ) → List (List ℕ) → Type 0
SameEditions before after = editions_of after ≡ editions_of before

-- a fault is no damage of the bodies
abbrev pub IsCutOff : RestoreFault → Type 0
IsCutOff Memory = ⊤
IsCutOff KeeperFault = ⊤
IsCutOff (Damaged place damage) = ⊥

-- the body at a place, counted from 1; no bytes where none stands there
abbrev pub stored_at : ℕ → List (List ℕ) → List ℕ
stored_at place bodies = slice_index_or bodies (place - 1) []

-- the body at a place stands for this edition
abbrev pub StandsAt : ℕ → Tariff → List (List ℕ) → Type 0
StandsAt place edition bodies = HasPlace place bodies × (edition_of (stored_at place bodies) ≡ Ok edition)

-- the body at a place, which is brought into canonical spelling, is still read as it was, and the others are as before
abbrev pub IsRespelled : ℕ → List (List ℕ) → List (List ℕ) → Type 0
IsRespelled place old new =
    (new ≡ slice_set old (place - 1) (canonical_body (stored_at place old)))
    × (edition_of (canonical_body (stored_at place old)) ≡ edition_of (stored_at place old))

-- the body at a place is brought into canonical spelling, and it is said whether it wasn't in it
abbrev pub Respells : ℕ → Bool → List (List ℕ) → List (List ℕ) → Type 0
Respells place is_replaced old new = IsRespelled place old new × (is_replaced ≡ is_old (stored_at place old))

-- the bodies are as before, or that at a place is brought into canonical spelling
abbrev pub MayRespell : ℕ → List (List ℕ) → List (List ℕ) → Type 0
MayRespell place old new = (new ≡ old) ⊎ IsRespelled place old new

-- the bodies are read as these editions, one by one
abbrev pub ReadAs : List Tariff → List (List ℕ) → Type 0
ReadAs editions bodies = map edition_of bodies ≡ map Ok editions

-- the bodies at some first places are in canonical spelling, the others as they were, and each is read as it was
abbrev pub StopsShort : List (List ℕ) → List (List ℕ) → Type 0
StopsShort before after = MigratesInPart before after × (map edition_of after ≡ map edition_of before)

-- all bodies are in canonical spelling, each is read as it was, and so many weren't in that spelling
abbrev pub IsMigrated : ℕ → List (List ℕ) → List (List ℕ) → Type 0
IsMigrated count before after =
    (after ≡ map canonical_body before) × (count ≡ count_by is_old before)
    × (map edition_of after ≡ map edition_of before)
