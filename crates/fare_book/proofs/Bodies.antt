-- The editions of bodies, one body on, where the bodies are told.
use Rattle.std.proofs.Common.{◌≡◌, ◌∙◌, ◌≤◌, ◌<◌, ◌+◌, ◌-◌, ℕ, List, [], length, drop, get_or, Option, Some, None, Result, Ok, Err, IfSome, true, false, nat_lt, arith, sym, refl}
use Rattle.std.specs.List.{slice_get}
use Rattle.std.proofs.lemmas.List.{at_drop_more, at_drop_all}
use Rattle.std.proofs.lemmas.Option.{slice_get_within, slice_get-get_or}
use Rattle.std.proofs.lemmas.Bool.Decides.{nat_tests}
use Rattle.fare_ports.specs.Keeper.{ToldAfter, BodiesStay, body_at}
use Rattle.fare_tariff.specs.Tariff.{Tariff}
use Rattle.fare_book.specs.declared.damage.Damage.TheVariants.{TooMany}
use Rattle.fare_book.specs.declared.restore_fault.RestoreFault.{RestoreFault}
use Rattle.fare_book.specs.declared.restore_fault.RestoreFault.TheVariants.{Memory, KeeperFault, Damaged}
use Rattle.fare_book.specs.declared.book.TheConstants.{MOST_EDITIONS}
use Rattle.fare_book.specs.Book.{BookState}
use Rattle.fare_book.specs.Editions.{DamageAt, ◌>>=◌, editions_of, with_body, with_bodies}
use Rattle.fare_book.specs.Restored.{FitsFault, Gives}

-- the bodies of a keeper, where they are told
abbrev pub Told : Type 0
Told = Option (List (List ℕ))

-- editions with what is left of the bodies are what all stand for
abbrev pub Whole : Told → List Tariff → ℕ → Type 0
Whole told editions index = IfSome told (λ bodies. with_bodies editions (drop index bodies) ≡ with_bodies [] bodies)

-- what is left begins with the body at the place
one_body : (bodies : List (List ℕ)) (index : ℕ) (earlier : List Tariff) (body : List ℕ) → body_at (index + 1) bodies ≡ Some body → with_bodies earlier (drop index bodies) ≡ (with_body earlier body >>= (λ editions. with_bodies editions (drop (index + 1) bodies)))
unfolding with_bodies
one_body bodies index earlier body at =
    let same : (index + 1) - 1 ≡ index = omega arith in
    let here : slice_get bodies index ≡ Some body = rw same at at in
    let within : index < length bodies = slice_get_within bodies index body here in
    let got : get_or bodies index body ≡ body = let e = slice_get-get_or bodies index body within in cc in
    let more = at_drop_more (with_bodies earlier) bodies index body within in
    rw got at more

-- a body that stands for an edition is taken
pub whole-step : (before after : Told) (index : ℕ) (earlier editions : List Tariff) (body : List ℕ) → Whole before earlier index → ToldAfter before after BodiesStay → IfSome after (λ bodies. body_at (index + 1) bodies ≡ Some body) → with_body earlier body ≡ Ok editions → Whole after editions (index + 1)
whole-step before None index earlier editions body whole stay at e = tt
whole-step None (Some new) index earlier editions body whole stay at e = absurd stay
whole-step (Some old) (Some new) index earlier editions body whole stay at e =
    let left : with_bodies earlier (drop index new) ≡ with_bodies [] new = rw stay whole in
    let step : with_bodies earlier (drop index new) ≡ with_bodies editions (drop (index + 1) new) = rw e at (one_body new index earlier body at) in
    sym step ∙ left

-- a body that is damaged is the first such
pub whole-stop : (before after : Told) (index : ℕ) (earlier : List Tariff) (body : List ℕ) (fault : RestoreFault) → Whole before earlier index → ToldAfter before after BodiesStay → IfSome after (λ bodies. body_at (index + 1) bodies ≡ Some body) → FitsFault fault (with_body earlier body) → IfSome after (λ bodies. FitsFault fault (with_bodies [] bodies))
whole-stop before None index earlier body fault whole stay at e = tt
whole-stop None (Some new) index earlier body fault whole stay at e = absurd stay
whole-stop (Some old) (Some new) index earlier body Memory whole stay at e = tt
whole-stop (Some old) (Some new) index earlier body KeeperFault whole stay at e = tt
whole-stop (Some old) (Some new) index earlier body (Damaged place damage) whole stay at e =
    let found : DamageAt = record { place = place; damage = damage } in
    let left : with_bodies earlier (drop index new) ≡ with_bodies [] new = rw stay whole in
    let step : with_bodies earlier (drop index new) ≡ Err found = rw e at (one_body new index earlier body at) in
    sym left ∙ step

-- nothing is left behind the last body
pub whole-all : (told : Told) (index count : ℕ) (editions : List Tariff) → Whole told editions index → IfSome told (λ bodies. length bodies ≡ count) → count ≤ index → IfSome told (λ bodies. with_bodies [] bodies ≡ Ok editions)
unfolding with_bodies
whole-all None index count editions whole length_is past = tt
whole-all (Some bodies) index count editions whole length_is past =
    sym whole ∙ at_drop_all (with_bodies editions) bodies index (omega arith)

-- more than 32 bodies are too many
pub too_many : (told : Told) (count : ℕ) → IfSome told (λ bodies. count ≡ length bodies) → 32 < count → IfSome told (λ bodies. editions_of bodies ≡ Err (record { place = 33; damage = TooMany }))
unfolding editions_of
too_many None count length_is many = tt
too_many (Some bodies) count length_is many =
    let over : nat_lt MOST_EDITIONS (length bodies) ≡ true = grind (arith, nat_tests) in rw over refl

-- at most 32 bodies stand for what they stand for one by one
pub few : (bodies : List (List ℕ)) → length bodies ≤ 32 → editions_of bodies ≡ with_bodies [] bodies
unfolding editions_of
few bodies within =
    let under : nat_lt MOST_EDITIONS (length bodies) ≡ false = grind (arith, nat_tests) in rw under refl

-- the answer for at most 32 bodies is that for the bodies one by one
pub few-told : (before after : Told) (answer : Result BookState RestoreFault) (count : ℕ) → IfSome before (λ bodies. count ≡ length bodies) → count ≤ 32 → ToldAfter before after BodiesStay → IfSome after (λ bodies. Gives (λ book. book.editions) answer (with_bodies [] bodies)) → IfSome after (λ bodies. Gives (λ book. book.editions) answer (editions_of bodies))
few-told before None answer count length_is within stay gives = tt
few-told None (Some new) answer count length_is within stay gives = absurd stay
few-told (Some old) (Some new) answer count length_is within stay gives =
    let short : length new ≤ 32 = rw stay (omega arith) in rw (few new short) gives

-- bodies that stay keep their number
pub length-stay : (before after : Told) (count : ℕ) → IfSome before (λ bodies. length bodies ≡ count) → ToldAfter before after BodiesStay → IfSome after (λ bodies. length bodies ≡ count)
length-stay before None count length_is stay = tt
length-stay None (Some new) count length_is stay = absurd stay
length-stay (Some old) (Some new) count length_is stay = rw stay length_is

-- bodies that stay over one call and over the next stay over both
pub stay-trans : (before between after : Told) → ToldAfter before between BodiesStay → ToldAfter between after BodiesStay → ToldAfter before after BodiesStay
stay-trans before between None first second = tt
stay-trans before None (Some new) first second = absurd second
stay-trans None (Some middle) (Some new) first second = absurd first
stay-trans (Some old) (Some middle) (Some new) first second = second ∙ first
