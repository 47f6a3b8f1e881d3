-- Bodies that are brought into canonical spelling one by one.
use Rattle.std.proofs.Common.{◌≡◌, ◌∙◌, ◌<◌, ◌≤◌, ℕ, ◌+◌, ◌-◌, inl, inr, List, [], ◌∷◌, ◌++◌, length, get_or, take, drop, map, Option, Some, None, Result, Ok, Err, true, false, Bool, IfSome, IfOk, IfErr, refl, sym, ap, slice_set, arith, append_assoc}
use Rattle.std.specs.Prelude.{count_by, bytes_eq}
use Rattle.std.specs.List.{filter}
use Rattle.std.specs.Int.{from_bool}
use Rattle.std.specs.Option.{ForSome}
use Rattle.std.proofs.lemmas.List.{append-nil, drop_all, drop_more, get_or_at, get_or-map, length-map, length-take-le, map_more, map-set, set-get_or, set_at, take_all}
use Rattle.std.proofs.lemmas.List.Sums.{count_by_more_yes, count_by_more_no, length-filter}
use Rattle.std.proofs.lemmas.Slice.Eq.{bytes_eq-Decides}
use Rattle.fare_ports.specs.Keeper.{ToldAfter, BodiesStay}
use Rattle.fare_tariff.specs.Tariff.{Tariff}
use Rattle.fare_csv.specs.declared.text_fault.TextFault.{TextFault}
use Rattle.fare_csv.specs.TariffText.{edition_of}
use Rattle.fare_book.specs.Migration.{IsMigrated, IsRespelled, MayRespell, ReadAs, Respells, StandsAt, StopsShort, canonical_body, is_old, migrated, spelled_anew, stored_at}
use Rattle.fare_book.specs.Reopens.{Told}
use Rattle.fare_book.proofs.Respellings.{old_is}

-- the bodies at so many first places are in canonical spelling, so many of these weren't, and each is read as it was
pub record HasCome (index count : ℕ) (before now : List (List ℕ)) : Type 0 where
  pub bodies : now ≡ migrated index before
  pub told : count ≡ count_by is_old (take index before)
  pub read : map edition_of now ≡ map edition_of before

-- no body is brought into canonical spelling yet
pub starts : (told : Told) → ToldAfter told told (HasCome 0 0)
starts None = tt
starts (Some bodies) = record { bodies = refl; told = refl; read = refl }

-- the bodies, with the one at the next place apart
apart : (bodies : List (List ℕ)) (index : ℕ) → index < length bodies → migrated index bodies ≡ map canonical_body (take index bodies) ++ get_or bodies index [] ∷ drop (index + 1) bodies
apart bodies index within = ap (λ (rest : List (List ℕ)). map canonical_body (take index bodies) ++ rest) (drop_more bodies index [] within)

front_size : (bodies : List (List ℕ)) (index : ℕ) → index < length bodies → length (map canonical_body (take index bodies)) ≡ index
front_size bodies index within = length-map (take index bodies) canonical_body ∙ length-take-le index bodies (omega arith)

-- the body at the next place is still as it was
next_is : (bodies : List (List ℕ)) (index : ℕ) → index < length bodies → get_or (migrated index bodies) index [] ≡ get_or bodies index []
next_is bodies index within =
    rw (apart bodies index within) (get_or_at (map canonical_body (take index bodies)) (get_or bodies index []) (drop (index + 1) bodies) [] index (front_size bodies index within))

-- it is brought into canonical spelling
one_more : (bodies : List (List ℕ)) (index : ℕ) → index < length bodies → slice_set (migrated index bodies) index (canonical_body (get_or bodies index [])) ≡ migrated (index + 1) bodies
one_more bodies index within =
    let front = map canonical_body (take index bodies) in
    let back = drop (index + 1) bodies in
    let body = get_or bodies index [] in
    let split = ap (λ (all : List (List ℕ)). slice_set all index (canonical_body body)) (apart bodies index within) in
    let put = set_at front body back (canonical_body body) index (front_size bodies index within) in
    let longer = ap (λ (some : List (List ℕ)). some ++ back) (map_more canonical_body bodies index [] within) in
    split ∙ put ∙ sym (longer ∙ append_assoc front (canonical_body body ∷ []) back)

-- what respelling the next body makes
moved : (old middle new : List (List ℕ)) (index : ℕ) → index < length old → middle ≡ migrated index old → new ≡ slice_set middle ((index + 1) - 1) (canonical_body (stored_at (index + 1) middle)) → new ≡ migrated (index + 1) old
moved old middle new index within come made =
    let same : (index + 1) - 1 ≡ index = omega arith in
    let put : new ≡ slice_set middle index (canonical_body (get_or middle index [])) = rw same at made in
    let from : new ≡ slice_set (migrated index old) index (canonical_body (get_or (migrated index old) index [])) = rw come at put in
    let next = ap (λ (body : List ℕ). slice_set (migrated index old) index (canonical_body body)) (next_is old index within) in
    from ∙ next ∙ one_more old index within

-- bodies that are read alike are as many
pub as_many : (xs ys : List (List ℕ)) → map edition_of xs ≡ map edition_of ys → length xs ≡ length ys
as_many xs ys e = sym (length-map xs edition_of) ∙ ap length e ∙ length-map ys edition_of

-- a body that is put in the place of one that is read alike
alike : (middle new : List (List ℕ)) (place : ℕ) → place - 1 < length middle → IsRespelled place middle new → map edition_of new ≡ map edition_of middle
alike middle new place within made =
    let index = place - 1 in
    let text = canonical_body (stored_at place middle) in
    let read = map-set edition_of middle index text in
    let here = get_or-map edition_of middle index [] (edition_of text) within in
    let same = made.1 ∙ sym here in
    let whole = set-get_or (map edition_of middle) index (edition_of text) in
    ap (λ (all : List (List ℕ)). map edition_of all) made.0 ∙ read
    ∙ ap (λ (one : Result Tariff TextFault). slice_set (map edition_of middle) index one) same ∙ whole

-- what is read of the stored body at the next place
now_stored : (old middle : List (List ℕ)) (index : ℕ) → index < length old → middle ≡ migrated index old → stored_at (index + 1) middle ≡ get_or old index []
now_stored old middle index within come =
    let same : (index + 1) - 1 ≡ index = omega arith in
    rw (same, come) (next_is old index within)

-- a test counts for one at most
pub at_most_one : (test : Bool) → from_bool test ≤ 1
at_most_one true = omega arith
at_most_one false = omega arith

-- one body more is counted where it wasn't in canonical spelling
counted : (bodies : List (List ℕ)) (index count : ℕ) (is_replaced : Bool) → index < length bodies → count ≡ count_by is_old (take index bodies) → is_old (get_or bodies index []) ≡ is_replaced → count + from_bool is_replaced ≡ count_by is_old (take (index + 1) bodies)
counted bodies index count true within told e =
    let more = count_by_more_yes is_old bodies index [] within e in omega (arith, more, told)
counted bodies index count false within told e =
    let more = count_by_more_no is_old bodies index [] within e in omega (arith, more, told)

pub goes_on : (first before after : Told) (index count : ℕ) (is_replaced : Bool) → IfSome first (λ bodies. index < length bodies) → ToldAfter first before (HasCome index count) → ToldAfter before after (Respells (index + 1) is_replaced) → ToldAfter first after (HasCome (index + 1) (count + from_bool is_replaced))
goes_on first before None index count is_replaced within come made = tt
goes_on first None (Some new) index count is_replaced within come made = absurd made
goes_on None (Some middle) (Some new) index count is_replaced within come made = absurd come
goes_on (Some old) (Some middle) (Some new) index count is_replaced within come made =
    let size = as_many middle old come.read in
    let inside : (index + 1) - 1 < length middle = omega arith in
    let stored = now_stored old middle index within come.bodies in
    let tested : is_old (get_or old index []) ≡ is_replaced = rw (← stored) (sym made.1) in
    record {
      bodies = moved old middle new index within come.bodies made.0.0;
      told = counted old index count is_replaced within come.told tested;
      read = alike middle new (index + 1) inside made.0 ∙ come.read;
    }

-- a respelling that was refused stops at this body or behind it
pub stops : (first before after : Told) (index count : ℕ) → IfSome first (λ bodies. index < length bodies) → ToldAfter first before (HasCome index count) → ToldAfter before after (MayRespell (index + 1)) → ToldAfter first after StopsShort
stops first before None index count within come made = tt
stops first None (Some new) index count within come made = absurd made
stops None (Some middle) (Some new) index count within come made = absurd come
stops (Some old) (Some middle) (Some new) index count within come (inl same) =
    ((index, same ∙ come.bodies), ap (λ (all : List (List ℕ)). map edition_of all) same ∙ come.read)
stops (Some old) (Some middle) (Some new) index count within come (inr made) =
    let size = as_many middle old come.read in
    let inside : (index + 1) - 1 < length middle = omega arith in
    ((index + 1, moved old middle new index within come.bodies made.0), alike middle new (index + 1) inside made ∙ come.read)

-- bodies that are read as editions are as many
as_many_read : (bodies : List (List ℕ)) (editions : List Tariff) → ReadAs editions bodies → length bodies ≡ length editions
as_many_read bodies editions read = sym (length-map bodies edition_of) ∙ ap length read ∙ length-map editions Ok

pub room : (first : Told) (editions : List Tariff) (index : ℕ) → ForSome first (ReadAs editions) → index < length editions → IfSome first (λ bodies. index < length bodies)
room None editions index read within = tt
room (Some bodies) editions index read within =
    let size = as_many_read bodies editions (read bodies refl) in omega arith

-- the next body stands for the next edition
stands_there : (old middle : List (List ℕ)) (editions : List Tariff) (edition : Tariff) (index count : ℕ) → ReadAs editions old → HasCome index count old middle → index < length editions → edition ≡ get_or editions index edition → StandsAt (index + 1) edition middle
stands_there old middle editions edition index count read come within is =
    let each : ReadAs editions middle = come.read ∙ read in
    let size = as_many_read middle editions each in
    let inside : index < length middle = omega arith in
    let same : (index + 1) - 1 ≡ index = omega arith in
    let body = get_or-map edition_of middle index [] (Ok edition) inside in
    let one = get_or-map Ok editions index edition (Ok edition) within in
    let both = ap (λ (all : List (Result Tariff TextFault)). get_or all index (Ok edition)) each in
    let here : edition_of (get_or middle index []) ≡ Ok edition = sym body ∙ both ∙ one ∙ ap Ok (sym is) in
    let place : 1 ≤ index + 1 = omega arith in
    let last : index + 1 ≤ length middle = omega arith in
    ((place, last), rw same here)

pub stands_next : (first now : Told) (editions : List Tariff) (edition : Tariff) (index count : ℕ) → ForSome first (ReadAs editions) → ToldAfter first now (HasCome index count) → index < length editions → edition ≡ get_or editions index edition → ForSome now (StandsAt (index + 1) edition)
stands_next first None editions edition index count read come within is = λ bodies e. absurd cc
stands_next None (Some middle) editions edition index count read come within is = absurd come
stands_next (Some old) (Some middle) editions edition index count read come within is =
    λ bodies e.
    let same : middle ≡ bodies = cc in
    rw (← same) (stands_there old middle editions edition index count (read old refl) come within is)

-- behind the last body all are in canonical spelling
pub ends : (first now : Told) (editions : List Tariff) (index count : ℕ) → ForSome first (ReadAs editions) → ToldAfter first now (HasCome index count) → length editions ≤ index → ToldAfter first now (IsMigrated count)
ends first None editions index count read come past = tt
ends None (Some new) editions index count read come past = absurd come
ends (Some old) (Some new) editions index count read come past =
    let size = as_many_read old editions (read old refl) in
    let over : length old ≤ index = omega arith in
    let front = take_all index old over in
    let back = drop_all index old over in
    let bodies : new ≡ map canonical_body old ++ [] = rw (front, back) at come.bodies in
    let told : count ≡ count_by is_old old = rw front at come.told in
    (bodies ∙ append-nil (map canonical_body old), told, come.read)

-- what is in canonical spelling stays in it
spelled_twice : (body : List ℕ) (reading : Result Tariff TextFault) → spelled_anew (spelled_anew body reading) reading ≡ spelled_anew body reading
spelled_twice body (Ok edition) = refl
spelled_twice body (Err fault) = refl

canonical_twice : (body : List ℕ) → edition_of (canonical_body body) ≡ edition_of body → canonical_body (canonical_body body) ≡ canonical_body body
unfolding canonical_body
canonical_twice body e = ap (λ (reading : Result Tariff TextFault). spelled_anew (spelled_anew body (edition_of body)) reading) e ∙ spelled_twice body (edition_of body)

not_old : (body : List ℕ) → edition_of (canonical_body body) ≡ edition_of body → is_old (canonical_body body) ≡ false
not_old body e =
    let own = (bytes_eq-Decides (canonical_body body) (canonical_body body)).1 refl in
    old_is (canonical_body body) (canonical_body body) true (canonical_twice body e) own

-- of bodies that are in canonical spelling none isn't
none_passes : (bodies : List (List ℕ)) → map edition_of (map canonical_body bodies) ≡ map edition_of bodies → filter is_old (map canonical_body bodies) ≡ []
none_passes [] e = refl
none_passes (body ∷ bodies) e =
    let first : edition_of (canonical_body body) ≡ edition_of body = cc in
    let others : map edition_of (map canonical_body bodies) ≡ map edition_of bodies = cc in
    rw (not_old body first) (none_passes bodies others)

pub none_old : (bodies : List (List ℕ)) → map edition_of (map canonical_body bodies) ≡ map edition_of bodies → count_by is_old (map canonical_body bodies) ≡ 0
none_old bodies e = sym (length-filter is_old (map canonical_body bodies)) ∙ ap length (none_passes bodies e)
