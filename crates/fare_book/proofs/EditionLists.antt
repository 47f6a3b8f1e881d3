-- The editions of bodies one after the other.
use Rattle.std.proofs.Common.{◌≡◌, ◌≢◌, ◌<◌, ◌+◌, ◌==◌, ℕ, suc, zero, inl, inr, List, [], ◌∷◌, ◌++◌, length, get_or, Option, Some, None, option_map, Result, Ok, Err, true, false, Bool, cond, nat_lt, arith, refl, sym, ap, eq-eqb, length-append}
use Rattle.std.specs.List.{AllPairs, Contains, position, position_or_len}
use Rattle.std.proofs.lemmas.Option.{slice_get_cases}
use Rattle.std.proofs.lemmas.List.Folds.{find_at}
use Rattle.std.proofs.lemmas.List.Quantifiers.{all_pairs_push}
use Rattle.std.proofs.lemmas.Bool.Decides.{nat_tests}
use Rattle.fare_tariff.specs.Tariff.{Tariff}
use Rattle.fare_csv.specs.declared.text_fault.TextFault.{TextFault}
use Rattle.fare_csv.specs.TariffText.{edition_of}
use Rattle.fare_book.specs.declared.damage.Damage.{Damage}
use Rattle.fare_book.specs.declared.damage.Damage.TheVariants.{TooMany}
use Rattle.fare_book.specs.declared.book.TheConstants.{MOST_EDITIONS}
use Rattle.fare_book.specs.Book.{HaveOtherNumbers, has_number, numbered}
use Rattle.fare_book.specs.Editions.{DamageAt, ◌>>=◌, at_place, edition_behind, editions_of, place_of, read_behind, unrepeated, with_body, with_bodies, with_edition}
use Rattle.fare_book.specs.Publish.{IsNewTo}
use Rattle.fare_book.proofs.Numbers.{none_has}
use Rattle.fare_book.proofs.Places.{numbered_nowhere}

-- a list of editions, or what is wrong
abbrev pub Found : Type 0
Found = Result (List Tariff) DamageAt

-- a reading that went on went on from something
pub went_on : (first : Found) (next : List Tariff → Found) (editions : List Tariff) → (first >>= next) ≡ Ok editions → (middle : List Tariff) × (first ≡ Ok middle) × (next middle ≡ Ok editions)
went_on (Ok middle) next editions e = (middle, refl, e)
went_on (Err found) next editions e = absurd cc

-- two readings one after the other are one reading
joined : (first : Found) (whole front : List Tariff → Found) (rest : List Tariff → Found) → ((middle : List Tariff) → whole middle ≡ (front middle >>= rest)) → (first >>= whole) ≡ ((first >>= front) >>= rest)
joined (Ok middle) whole front rest each = each middle
joined (Err found) whole front rest each = refl

-- bodies behind others
pub with_bodies-append : (earlier : List Tariff) (bodies more : List (List ℕ)) → with_bodies earlier (bodies ++ more) ≡ (with_bodies earlier bodies >>= (λ editions. with_bodies editions more))
unfolding with_bodies
with_bodies-append earlier [] more = refl
with_bodies-append earlier (body ∷ bodies) more =
    joined (with_body earlier body) (λ editions. with_bodies editions (bodies ++ more)) (λ editions. with_bodies editions bodies) (λ editions. with_bodies editions more) (λ middle. with_bodies-append middle bodies more)

-- a body adds one edition
with_edition-length : (earlier editions : List Tariff) (found : Result Tariff DamageAt) → with_edition earlier found ≡ Ok editions → length editions ≡ length earlier + 1
with_edition-length earlier editions (Ok edition) e =
    let is : earlier ++ edition ∷ [] ≡ editions = cc in rw (sym is) (length-append earlier (edition ∷ []))
with_edition-length earlier editions (Err found) e = absurd cc

-- bodies add as many editions
pub with_bodies-length : (earlier editions : List Tariff) (bodies : List (List ℕ)) → with_bodies earlier bodies ≡ Ok editions → length editions ≡ length earlier + length bodies
unfolding with_bodies
with_bodies-length earlier editions [] e = let is : earlier ≡ editions = cc in rw (sym is) (omega arith)
with_bodies-length earlier editions (body ∷ bodies) e =
    let step = went_on (with_body earlier body) (λ middle. with_bodies middle bodies) editions e in
    let first = with_edition-length earlier step.0 (read_behind earlier body) step.1 in
    let others = with_bodies-length step.0 editions bodies step.2 in
    omega arith

-- a choice between too many and the editions one by one
chosen : (test : Bool) (found : DamageAt) (one_by_one : Found) (editions : List Tariff) → cond test (Err found) one_by_one ≡ Ok editions → one_by_one ≡ Ok editions
chosen true found one_by_one editions e = absurd cc
chosen false found one_by_one editions e = e

pub editions_one_by_one : (bodies : List (List ℕ)) (editions : List Tariff) → editions_of bodies ≡ Ok editions → with_bodies [] bodies ≡ Ok editions
unfolding editions_of
editions_one_by_one bodies editions e =
    chosen (nat_lt MOST_EDITIONS (length bodies)) (record { place = 33; damage = TooMany }) (with_bodies [] bodies) editions e

-- a number that no edition has has no place
nowhere : (number : ℕ) (editions : List Tariff) (test : Bool) → nat_lt (position_or_len (has_number number) editions) (length editions) ≡ test → numbered number editions ≡ None → position (has_number number) editions ≡ None
nowhere number editions true t e =
    let n = position_or_len (has_number number) editions in
    let within : n < length editions = grind (arith, nat_tests, t) in
    let found = find_at (has_number number) editions in
    elim (slice_get_cases editions n).1 [ inl w ↦ let here = w.2 in absurd cc | inr w ↦ absurd (omega arith) ]
nowhere number editions false t e = rw t refl

-- the edition of a text with a new number stands behind others
pub new_behind : (editions : List Tariff) (edition : Tariff) (text : List ℕ) → edition_of text ≡ Ok edition → numbered edition.number editions ≡ None → with_body editions text ≡ Ok (editions ++ edition ∷ [])
unfolding read_behind
new_behind editions edition text e new =
    let none = nowhere edition.number editions (nat_lt (position_or_len (has_number edition.number) editions) (length editions)) refl new in
    rw (e, none) refl

-- a new edition's text behind the bodies
pub editions_of-push : (bodies : List (List ℕ)) (editions : List Tariff) (edition : Tariff) (text : List ℕ) → editions_of bodies ≡ Ok editions → IsNewTo editions edition → edition_of text ≡ Ok edition → editions_of (bodies ++ text ∷ []) ≡ Ok (editions ++ edition ∷ [])
unfolding editions_of with_bodies
editions_of-push bodies editions edition text e new read =
    let whole = editions_one_by_one bodies editions e in
    let long = with_bodies-length [] editions bodies whole in
    let room = new.room in
    let longer = length-append bodies (text ∷ []) in
    let under : nat_lt MOST_EDITIONS (length (bodies ++ text ∷ [])) ≡ false = grind (arith, nat_tests) in
    let last = new_behind editions edition text read new.new in
    rw (under, with_bodies-append [] bodies (text ∷ []), whole, last) refl

-- editions of which no two have one number
abbrev pub AreDistinct : List Tariff → Type 0
AreDistinct editions = AllPairs HaveOtherNumbers editions

pub other_number : (a b : ℕ) → a ≢ b → (a == b) ≡ false
other_number a b apart = grind (arith, nat_tests)

-- an edition is the one of its number
numbered_at : (editions : List Tariff) (edition : Tariff) (k : ℕ) → AreDistinct editions → k < length editions → get_or editions k edition ≡ edition → numbered edition.number editions ≡ Some edition
numbered_at [] edition k distinct within at = absurd (omega arith)
numbered_at (one ∷ others) edition zero distinct within at =
    let yes = eq-eqb one.number edition.number (ap (λ (e : Tariff). e.number) at) in rw yes (ap Some at)
numbered_at (one ∷ others) edition (suc k) distinct within at =
    let apart : one.number ≢ edition.number = rw at at (distinct 0 (suc k) edition (omega arith) within) in
    let other = other_number one.number edition.number apart in
    rw other (numbered_at others edition k (λ i j d before inside. distinct (suc i) (suc j) d (omega arith) (omega arith)) (omega arith) at)

pub numbered_of : (editions : List Tariff) (edition : Tariff) → AreDistinct editions → Contains editions edition → numbered edition.number editions ≡ Some edition
numbered_of editions edition distinct there = numbered_at editions edition there.0 distinct there.1 there.2

-- what is read behind others repeats none of their numbers
pub no_place : (place : Option ℕ) (one edition : Tariff) → unrepeated one place ≡ Ok edition → (place ≡ None) × (one ≡ edition)
no_place None one edition e = (refl, cc)
no_place (Some place) one edition e = absurd cc

no_index : (index : Option ℕ) → option_map (λ i. i + 1) index ≡ None → index ≡ None
no_index None e = refl
no_index (Some index) e = absurd cc

behind_is_new : (earlier : List Tariff) (reading : Result Tariff TextFault) (edition : Tariff) → edition_behind earlier reading ≡ Ok edition → numbered edition.number earlier ≡ None
behind_is_new earlier (Err fault) edition e = absurd cc
behind_is_new earlier (Ok one) edition e =
    let found = no_place (place_of one.number earlier) one edition e in
    let none = numbered_nowhere one.number earlier (no_index (position (has_number one.number) earlier) found.0) in
    rw found.1 at none

pub placed_ok : (place : ℕ) (found : Result Tariff Damage) (edition : Tariff) → at_place place found ≡ Ok edition → found ≡ Ok edition
placed_ok place (Ok one) edition e = let is : one ≡ edition = cc in ap Ok is
placed_ok place (Err damage) edition e = absurd cc

pub added_ok : (earlier editions : List Tariff) (found : Result Tariff DamageAt) → with_edition earlier found ≡ Ok editions → (edition : Tariff) × (found ≡ Ok edition) × (earlier ++ edition ∷ [] ≡ editions)
added_ok earlier editions (Ok edition) e = (edition, refl, cc)
added_ok earlier editions (Err found) e = absurd cc

-- a body keeps the numbers apart
body_distinct : (earlier editions : List Tariff) (body : List ℕ) → AreDistinct earlier → with_body earlier body ≡ Ok editions → AreDistinct editions
unfolding read_behind
body_distinct earlier editions body distinct e =
    let added = added_ok earlier editions (read_behind earlier body) e in
    let found = placed_ok (length earlier + 1) (edition_behind earlier (edition_of body)) added.0 added.1 in
    let new = behind_is_new earlier (edition_of body) added.0 found in
    rw added.2 at (all_pairs_push HaveOtherNumbers earlier added.0 distinct (none_has added.0.number earlier new))

-- and so do bodies
bodies_distinct : (earlier editions : List Tariff) (bodies : List (List ℕ)) → AreDistinct earlier → with_bodies earlier bodies ≡ Ok editions → AreDistinct editions
unfolding with_bodies
bodies_distinct earlier editions [] distinct e = let is : earlier ≡ editions = cc in rw is at distinct
bodies_distinct earlier editions (body ∷ bodies) distinct e =
    let step = went_on (with_body earlier body) (λ middle. with_bodies middle bodies) editions e in
    bodies_distinct step.0 editions bodies (body_distinct earlier step.0 body distinct step.1) step.2

pub editions_distinct : (bodies : List (List ℕ)) (editions : List Tariff) → editions_of bodies ≡ Ok editions → AreDistinct editions
editions_distinct bodies editions e =
    bodies_distinct [] editions bodies (λ i j d before within. absurd (omega arith)) (editions_one_by_one bodies editions e)
