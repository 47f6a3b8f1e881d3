-- The editions of bodies are those that the words say, and so is their damage.
use Rattle.std.proofs.Common.{◌≡◌, ◌≢◌, ◌∙◌, ◌<◌, ◌≤◌, ◌+◌, ℕ, suc, zero, inl, inr, List, [], ◌∷◌, ◌++◌, length, get_or, map, Option, Some, None, Result, Ok, Err, true, false, Bool, nat_lt, arith, refl, sym, ap, append_assoc, length-append}
use Rattle.std.proofs.lemmas.List.{append-nil}
use Rattle.std.proofs.lemmas.Bool.Decides.{nat_tests}
use Rattle.std.proofs.Math.ListN.{get_or-append}
use Rattle.std.proofs.Math.Seq.{get_or-append_seam}
use Rattle.fare_tariff.specs.Tariff.{Tariff}
use Rattle.fare_csv.specs.declared.text_fault.TextFault.{TextFault}
use Rattle.fare_csv.specs.TariffText.{edition_of}
use Rattle.fare_book.specs.declared.damage.Damage.{Damage}
use Rattle.fare_book.specs.declared.damage.Damage.TheVariants.{Text, Repeat, TooMany}
use Rattle.fare_book.specs.BodiesInWords.{AreEditionsOf, IsDamaged, IsDamageOf, IsFirstDamage}
use Rattle.fare_book.specs.declared.book.TheConstants.{MOST_EDITIONS}
use Rattle.fare_book.specs.Book.{numbered}
use Rattle.fare_book.specs.Editions.{DamageAt, ◌>>=◌, at_place, edition_behind, editions_of, place_of, read_behind, unrepeated, with_body, with_bodies, with_edition}
use Rattle.fare_book.proofs.Bodies.{few}
use Rattle.fare_book.proofs.EditionLists.{AreDistinct, Found, added_ok, editions_distinct, editions_one_by_one, new_behind, no_place, other_number, placed_ok, went_on, with_bodies-append, with_bodies-length}

-- a body that is read behind others is the text of the edition
behind_reads : (earlier : List Tariff) (reading : Result Tariff TextFault) (edition : Tariff) → edition_behind earlier reading ≡ Ok edition → reading ≡ Ok edition
behind_reads earlier (Err fault) edition e = absurd cc
behind_reads earlier (Ok one) edition e =
    let same = (no_place (place_of one.number earlier) one edition e).1 in ap Ok same

-- the editions that bodies add are those of their texts
record Adds (earlier editions : List Tariff) (bodies : List (List ℕ)) : Type 0 where
  more : List Tariff
  whole : editions ≡ earlier ++ more
  each : map edition_of bodies ≡ map Ok more

each_more : (body : List ℕ) (bodies : List (List ℕ)) (edition : Tariff) (more : List Tariff) → edition_of body ≡ Ok edition → map edition_of bodies ≡ map Ok more → map edition_of (body ∷ bodies) ≡ map Ok (edition ∷ more)
each_more body bodies edition more read each = rw (read, each) refl

adds : (earlier editions : List Tariff) (bodies : List (List ℕ)) → with_bodies earlier bodies ≡ Ok editions → Adds earlier editions bodies
unfolding with_bodies read_behind
adds earlier editions [] e =
    let same : editions ≡ earlier = cc in
    record { more = []; whole = same ∙ sym (append-nil earlier); each = refl }
adds earlier editions (body ∷ bodies) e =
    let step = went_on (with_body earlier body) (λ middle. with_bodies middle bodies) editions e in
    let added = added_ok earlier step.0 (read_behind earlier body) step.1 in
    let found = placed_ok (length earlier + 1) (edition_behind earlier (edition_of body)) added.0 added.1 in
    let read = behind_reads earlier (edition_of body) added.0 found in
    let rest = adds step.0 editions bodies step.2 in
    let joined : (earlier ++ added.0 ∷ []) ++ rest.more ≡ earlier ++ added.0 ∷ rest.more = append_assoc earlier (added.0 ∷ []) rest.more in
    let longer = ap (λ (front : List Tariff). front ++ rest.more) added.2 in
    record {
      more = added.0 ∷ rest.more;
      whole = rest.whole ∙ sym longer ∙ joined;
      each = each_more body bodies added.0 rest.more read rest.each;
    }

-- more than 32 bodies stand for no editions
under : (bodies : List (List ℕ)) (editions : List Tariff) (test : Bool) → nat_lt MOST_EDITIONS (length bodies) ≡ test → editions_of bodies ≡ Ok editions → length bodies ≤ MOST_EDITIONS
unfolding editions_of
under bodies editions true t e = let found = rw t at e in absurd cc
under bodies editions false t e = grind (arith, nat_tests, t)

pub editions_in_words : (bodies : List (List ℕ)) (editions : List Tariff) → editions_of bodies ≡ Ok editions → AreEditionsOf bodies editions
editions_in_words bodies editions e =
    let made = adds [] editions bodies (editions_one_by_one bodies editions e) in
    record {
      in_limit = under bodies editions (nat_lt MOST_EDITIONS (length bodies)) refl e;
      each = rw made.whole made.each;
      distinct = editions_distinct bodies editions e;
    }

-- a number that none of these has is nobody's
numbered_none : (number : ℕ) (editions : List Tariff) → ((k : ℕ) (d : Tariff) → k < length editions → (get_or editions k d).number ≢ number) → numbered number editions ≡ None
numbered_none number [] apart = refl
numbered_none number (one ∷ others) apart =
    let other = other_number one.number number (apart zero one (omega arith)) in
    rw other (numbered_none number others (λ k d within. apart (suc k) d (omega arith)))

-- the number of an edition behind others that differ from it
behind_others : (earlier more : List Tariff) (edition : Tariff) → AreDistinct (earlier ++ edition ∷ more) → numbered edition.number earlier ≡ None
behind_others earlier more edition distinct =
    numbered_none edition.number earlier (λ k d within.
    let longer = length-append earlier (edition ∷ more) in
    let here = get_or-append earlier (edition ∷ more) d k within in
    let last = get_or-append_seam earlier edition more d in
    let apart = distinct k (length earlier) d (omega arith) (omega arith) in
    rw (here, last) at apart)

-- bodies of these texts add these editions
adds_back : (earlier more : List Tariff) (bodies : List (List ℕ)) → map edition_of bodies ≡ map Ok more → AreDistinct (earlier ++ more) → with_bodies earlier bodies ≡ Ok (earlier ++ more)
unfolding with_bodies
adds_back earlier [] [] e distinct = rw (append-nil earlier) refl
adds_back earlier (edition ∷ more) [] e distinct = absurd cc
adds_back earlier [] (body ∷ bodies) e distinct = absurd cc
adds_back earlier (edition ∷ more) (body ∷ bodies) e distinct =
    let read : edition_of body ≡ Ok edition = cc in
    let others : map edition_of bodies ≡ map Ok more = cc in
    let joined : (earlier ++ edition ∷ []) ++ more ≡ earlier ++ edition ∷ more = append_assoc earlier (edition ∷ []) more in
    let first = new_behind earlier edition body read (behind_others earlier more edition distinct) in
    let apart : AreDistinct ((earlier ++ edition ∷ []) ++ more) = rw joined distinct in
    let rest = adds_back (earlier ++ edition ∷ []) more bodies others apart in
    rw first (rest ∙ ap Ok joined)

pub words_of_editions : (bodies : List (List ℕ)) (editions : List Tariff) → AreEditionsOf bodies editions → editions_of bodies ≡ Ok editions
words_of_editions bodies editions are = few bodies are.in_limit ∙ adds_back [] editions bodies are.each are.distinct

-- where bodies stop, some of them were read, and the next is damaged
record Stops (earlier : List Tariff) (bodies : List (List ℕ)) (found : DamageAt) : Type 0 where
  front : List (List ℕ)
  body : List ℕ
  back : List (List ℕ)
  split : bodies ≡ front ++ body ∷ back
  middle : List Tariff
  before : with_bodies earlier front ≡ Ok middle
  damaged : read_behind middle body ≡ Err found

stopped_at : (earlier : List Tariff) (reading : Result Tariff DamageAt) (found : DamageAt) → with_edition earlier reading ≡ Err found → reading ≡ Err found
stopped_at earlier (Ok edition) found e = absurd cc
stopped_at earlier (Err other) found e = let same : other ≡ found = cc in ap Err same

-- a body stops the bodies, or those behind it do
stop_or_go : (earlier : List Tariff) (body : List ℕ) (bodies : List (List ℕ)) (found : DamageAt) (first : Found) → with_body earlier body ≡ first → (first >>= (λ middle. with_bodies middle bodies)) ≡ Err found → ((middle : List Tariff) → with_body earlier body ≡ Ok middle → with_bodies middle bodies ≡ Err found → Stops earlier (body ∷ bodies) found) → Stops earlier (body ∷ bodies) found
unfolding with_bodies
stop_or_go earlier body bodies found (Ok middle) is e go = go middle is e
stop_or_go earlier body bodies found (Err other) is e go = record {
  front = [];
  body = body;
  back = bodies;
  split = refl;
  middle = earlier;
  before = refl;
  damaged = stopped_at earlier (read_behind earlier body) found (is ∙ e);
}

stops : (earlier : List Tariff) (bodies : List (List ℕ)) (found : DamageAt) → with_bodies earlier bodies ≡ Err found → Stops earlier bodies found
unfolding with_bodies
stops earlier [] found e = absurd cc
stops earlier (body ∷ bodies) found e =
    stop_or_go earlier body bodies found (with_body earlier body) refl e (λ middle is left.
    let rest = stops middle bodies found left in
    record {
      front = body ∷ rest.front;
      body = rest.body;
      back = rest.back;
      split = ap (λ (others : List (List ℕ)). body ∷ others) rest.split;
      middle = rest.middle;
      before = rw is rest.before;
      damaged = rest.damaged;
    })

-- the place and the damage of a body that is damaged
record IsFoundAt (place : ℕ) (reading : Result Tariff Damage) (found : DamageAt) : Type 0 where
  here : found.place ≡ place
  damage : reading ≡ Err found.damage

found_at : (place : ℕ) (reading : Result Tariff Damage) (found : DamageAt) → at_place place reading ≡ Err found → IsFoundAt place reading found
found_at place (Ok edition) found e = absurd cc
found_at place (Err damage) found e =
    let made : DamageAt = record { place = place; damage = damage } in
    let same : made ≡ found = cc in
    record { here = sym (ap (λ (one : DamageAt). one.place) same); damage = ap (λ (one : DamageAt). Err one.damage) same }

-- a repeated number stands at an earlier place
repeats : (edition : Tariff) (earlier : List Tariff) (damage : Damage) (place : Option ℕ) → place_of edition.number earlier ≡ place → unrepeated edition place ≡ Err damage → IsDamaged earlier (Ok edition) damage
repeats edition earlier damage None is e = absurd cc
repeats edition earlier damage (Some place) is e = let same : Repeat place ≡ damage = cc in (place, is, sym same)

damage_is : (earlier : List Tariff) (reading : Result Tariff TextFault) (damage : Damage) → edition_behind earlier reading ≡ Err damage → IsDamaged earlier reading damage
damage_is earlier (Err fault) damage e = let same : Text fault ≡ damage = cc in sym same
damage_is earlier (Ok edition) damage e = repeats edition earlier damage (place_of edition.number earlier) refl e

is_damage : (earlier : List Tariff) (reading : Result Tariff TextFault) (damage : Damage) → IsDamaged earlier reading damage → edition_behind earlier reading ≡ Err damage
is_damage earlier (Err fault) damage is = ap Err (sym is)
is_damage earlier (Ok edition) damage is = rw (is.1, is.2) refl

first_damage : (bodies : List (List ℕ)) (found : DamageAt) → length bodies ≤ MOST_EDITIONS → editions_of bodies ≡ Err found → IsFirstDamage bodies found
unfolding read_behind
first_damage bodies found within e =
    let stop = stops [] bodies found (sym (few bodies within) ∙ e) in
    let longer = length-append stop.front (stop.body ∷ stop.back) in
    let total = ap (λ (all : List (List ℕ)). length all) stop.split in
    let short : length stop.front ≤ MOST_EDITIONS = omega arith in
    let whole = editions_in_words stop.front stop.middle (few stop.front short ∙ stop.before) in
    let at = found_at (length stop.middle + 1) (edition_behind stop.middle (edition_of stop.body)) found stop.damaged in
    let here = at.here in
    let count = with_bodies-length [] stop.middle stop.front stop.before in
    record {
      front = stop.front;
      body = stop.body;
      back = stop.back;
      split = stop.split;
      place = omega arith;
      earlier = stop.middle;
      whole = whole;
      damaged = damage_is stop.middle (edition_of stop.body) found.damage at.damage;
    }

by_limit : (bodies : List (List ℕ)) (found : DamageAt) (test : Bool) → nat_lt MOST_EDITIONS (length bodies) ≡ test → editions_of bodies ≡ Err found → IsDamageOf bodies found
unfolding editions_of
by_limit bodies found true t e =
    let many : DamageAt = record { place = 33; damage = TooMany } in
    let told = rw t at e in
    let same : many ≡ found = cc in
    inl (record { over = grind (arith, nat_tests, t); told = sym same })
by_limit bodies found false t e =
    let within : length bodies ≤ MOST_EDITIONS = grind (arith, nat_tests, t) in
    inr (within, first_damage bodies found within e)

pub damage_in_words : (bodies : List (List ℕ)) (found : DamageAt) → editions_of bodies ≡ Err found → IsDamageOf bodies found
damage_in_words bodies found e = by_limit bodies found (nat_lt MOST_EDITIONS (length bodies)) refl e

-- a damaged body behind others
damaged_behind : (earlier : List Tariff) (body : List ℕ) (found : DamageAt) → found.place ≡ length earlier + 1 → IsDamaged earlier (edition_of body) found.damage → read_behind earlier body ≡ Err found
unfolding read_behind
damaged_behind earlier body found here is =
    let behind = is_damage earlier (edition_of body) found.damage is in
    rw (behind, sym here) refl

pub words_of_damage : (bodies : List (List ℕ)) (found : DamageAt) → IsDamageOf bodies found → editions_of bodies ≡ Err found
unfolding editions_of with_bodies
words_of_damage bodies found (inl many) =
    let over : nat_lt MOST_EDITIONS (length bodies) ≡ true = grind (arith, nat_tests, many.over) in
    rw over (ap Err (sym many.told))
words_of_damage bodies found (inr w) =
    let first = w.1 in
    let longer = length-append first.front (first.body ∷ first.back) in
    let short = first.whole.in_limit in
    let front = sym (few first.front short) ∙ words_of_editions first.front first.earlier first.whole in
    let count = with_bodies-length [] first.earlier first.front front in
    let place = first.place in
    let here : found.place ≡ length first.earlier + 1 = omega arith in
    let damaged = damaged_behind first.earlier first.body found here first.damaged in
    let whole : with_bodies [] (first.front ++ first.body ∷ first.back) ≡ Err found =
    rw (with_bodies-append [] first.front (first.body ∷ first.back), front, damaged) refl in
    few bodies w.0 ∙ rw first.split whole
