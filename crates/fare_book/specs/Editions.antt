-- The editions that stored bodies stand for.
use Rattle.std.specs.Prelude.{ℕ, ◌+◌, List, [], ◌∷◌, ◌++◌, length, position, Option, Some, None, option_map, Result, Ok}
use Rattle.std.specs.Prelude.{Err, nat_lt, if◌then◌else◌}
use Rattle.fare_tariff.specs.Tariff.{Tariff}
use Rattle.fare_csv.specs.declared.text_fault.TextFault.{TextFault}
use Rattle.fare_csv.specs.TariffText.{edition_of}
use Rattle.fare_book.specs.declared.damage.Damage.{Damage}
use Rattle.fare_book.specs.declared.damage.Damage.TheVariants.{Text, Repeat, TooMany}
use Rattle.fare_book.specs.declared.book.TheConstants.{MOST_EDITIONS}
use Rattle.fare_book.specs.Book.{has_number}

-- what is wrong with stored bodies, and at which place, counted from 1
pub record DamageAt : Type 0 where
  pub place : ℕ
  pub damage : Damage

-- the place of the edition with a number, counted from 1
abbrev pub place_of : ℕ → List Tariff → Option ℕ
place_of number editions = option_map (λ index. index + 1) (position (has_number number) editions)

-- an edition whose number stands at an earlier place repeats it
abbrev pub unrepeated : Tariff → Option ℕ → Result Tariff Damage
unrepeated edition None = Ok edition
unrepeated edition (Some place) = Err (Repeat place)

-- the edition that a text stands for behind others, whose numbers it doesn't repeat
abbrev pub edition_behind : List Tariff → Result Tariff TextFault → Result Tariff Damage
edition_behind earlier (Err fault) = Err (Text fault)
edition_behind earlier (Ok edition) = unrepeated edition (place_of edition.number earlier)

-- a reading at a place, or what is wrong there
abbrev pub at_place : ℕ → Result Tariff Damage → Result Tariff DamageAt
at_place place (Ok edition) = Ok edition
at_place place (Err damage) = Err (record { place = place; damage = damage })

-- the edition that a body stands for behind others
unfoldable pub read_behind : List Tariff → List ℕ → Result Tariff DamageAt
read_behind earlier body = at_place (length earlier + 1) (edition_behind earlier (edition_of body))

-- editions with one more at the end
abbrev pub with_edition : List Tariff → Result Tariff DamageAt → Result (List Tariff) DamageAt
with_edition earlier (Ok edition) = Ok (earlier ++ edition ∷ [])
with_edition earlier (Err found) = Err found

-- editions with that of one more body at the end
abbrev pub with_body : List Tariff → List ℕ → Result (List Tariff) DamageAt
with_body earlier body = with_edition earlier (read_behind earlier body)

-- a list of editions, and then one that goes on from it: the first damage counts
infixl 10 ◌>>=◌
abbrev pub ◌>>=◌ : Result (List Tariff) DamageAt
    → (List Tariff → Result (List Tariff) DamageAt) → Result (List Tariff) DamageAt
(Ok editions) >>= next = next editions
(Err found) >>= next = Err found

-- editions with those of further bodies at the end
unfoldable pub with_bodies : List Tariff → List (List ℕ) → Result (List Tariff) DamageAt
with_bodies earlier [] = Ok earlier
with_bodies earlier (body ∷ bodies) = with_body earlier body >>= (λ editions. with_bodies editions bodies)

-- the editions that bodies stand for; more than 32 bodies are too many
unfoldable pub editions_of : List (List ℕ) → Result (List Tariff) DamageAt
editions_of bodies =
    if nat_lt MOST_EDITIONS (length bodies) then Err (record { place = MOST_EDITIONS + 1; damage = TooMany })
    else with_bodies [] bodies
