-- Connections that are taken one after the other.
use Rattle.std.proofs.Common.{◌≡◌, ◌⊎◌, inl, inr, ℕ, ◌+◌, ◌<◌, ◌≤◌, min, true, List, [], ◌∷◌, ◌++◌, length, map, Option, None, Some, refl, sym, ap, ◌∙◌, subst, arith, append_assoc, append-nil, length-append}
use Rattle.std.specs.Prelude.{IfSome, option_to_list, is_some}
use Rattle.std.proofs.lemmas.List.{map-append, length-map}
use Rattle.std.proofs.lemmas.List.Elements.{All-append, All-cons, All-nil}
use Rattle.fare_ports.specs.Door.{NoneWaits, TakesFirst, with_one_more}
use Rattle.fare_rounds.specs.Entries.{connection_count}
use Rattle.fare_rounds.specs.Taking.{Arrival, cut_off, held, connection_of, entries_of, cut_among, failed_reads, places_from, held_places}
use Rattle.fare_rounds.specs.Taking.{IsRead, RoseBy, TakesEach, with_lists, Gathering, Gathers, TakesOne, none_taken}

-- how many connections were taken
pub each-counts : (arrivals : List Arrival) → length (entries_of arrivals) + cut_among arrivals ≡ length arrivals
each-counts [] = refl
each-counts (cut_off connection failures ∷ arrivals) = let rest = each-counts arrivals in omega (arith, rest)
each-counts (held connection entry ∷ arrivals) = let rest = each-counts arrivals in omega (arith, rest)

entries_of-append : (xs ys : List Arrival) → entries_of (xs ++ ys) ≡ entries_of xs ++ entries_of ys
entries_of-append [] ys = refl
entries_of-append (cut_off connection failures ∷ xs) ys = entries_of-append xs ys
entries_of-append (held connection entry ∷ xs) ys = ap (λ es. entry ∷ es) (entries_of-append xs ys)

cut_among-append : (xs ys : List Arrival) → cut_among (xs ++ ys) ≡ cut_among xs + cut_among ys
cut_among-append [] ys = omega arith
cut_among-append (cut_off connection failures ∷ xs) ys = let rest = cut_among-append xs ys in omega (arith, rest)
cut_among-append (held connection entry ∷ xs) ys = cut_among-append xs ys

failed_reads-append : (xs ys : List Arrival) → failed_reads (xs ++ ys) ≡ failed_reads xs + failed_reads ys
failed_reads-append [] ys = omega arith
failed_reads-append (cut_off connection failures ∷ xs) ys = let rest = failed_reads-append xs ys in omega (arith, rest)
failed_reads-append (held connection entry ∷ xs) ys = failed_reads-append xs ys

-- a count that rose twice
pub rose-both : (some more first second third : ℕ) → RoseBy some first second → RoseBy more second third
    → RoseBy (some + more) first third
rose-both some more first second third before after = omega (arith, before, after)

places_from-append : (place next : ℕ) (xs ys : List Arrival) → next ≡ place + length xs
    → places_from place (xs ++ ys) ≡ places_from place xs ++ places_from next ys
places_from-append place next [] ys is =
    let same : place ≡ next = omega (arith, is) in ap (λ n. places_from n ys) same
places_from-append place next (cut_off connection failures ∷ xs) ys is =
    places_from-append (place + 1) next xs ys (omega (arith, is))
places_from-append place next (held connection entry ∷ xs) ys is =
    ap (λ ps. place ∷ ps) (places_from-append (place + 1) next xs ys (omega (arith, is)))

-- what was taken in two turns
takes-both : (a b c : Option (List (List ℕ))) (xs ys : List (Option (List ℕ)))
    → TakesEach a b xs → TakesEach b c ys → TakesEach a c (xs ++ ys)
takes-both None b c xs ys first second = tt
takes-both (Some a) None c xs ys first second = absurd first
takes-both (Some a) (Some b) None xs ys first second = absurd second
takes-both (Some a) (Some b) (Some c) xs ys first second = (
  first.0 ++ second.0,
  first.1 ∙ ap (λ rest. first.0 ++ rest) second.1 ∙ sym (append_assoc first.0 second.0 c),
  ap (λ before. before ++ ys) first.2 ∙ ap (λ after. map Some first.0 ++ after) second.2
      ∙ sym (map-append Some first.0 second.0),
)

with_lists-both : (xs ys : List (List ℕ)) (a b c : Option (List (List ℕ)))
    → b ≡ with_lists xs a → c ≡ with_lists ys b → c ≡ with_lists (xs ++ ys) a
with_lists-both xs ys None b c first second = second ∙ ap (with_lists ys) first
with_lists-both xs ys (Some a) b c first second =
    second ∙ ap (with_lists ys) first ∙ ap Some (append_assoc a xs ys)

-- where they are held
told-both : (a b : Option (List (List ℕ))) (xs ys : List Arrival) (ps qs : List ℕ)
    → b ≡ with_lists (map (λ _. []) xs) a → IfSome a (λ lists. ps ≡ places_from (length lists) xs)
    → IfSome b (λ lists. qs ≡ places_from (length lists) ys)
    → IfSome a (λ lists. ps ++ qs ≡ places_from (length lists) (xs ++ ys))
told-both None b xs ys ps qs grown first second = tt
told-both (Some a) b xs ys ps qs grown first second =
    let later : qs ≡ places_from (length (a ++ map (λ _. []) xs)) ys =
    subst (λ sent. IfSome sent (λ lists. qs ≡ places_from (length lists) ys)) grown second in
    let count : length (a ++ map (λ _. []) xs) ≡ length a + length xs =
    length-append a (map (λ _. []) xs) ∙ ap (λ n. length a + n) (length-map xs (λ (x : Arrival). [])) in
    ap (λ front. front ++ qs) first ∙ ap (λ back. places_from (length a) xs ++ back) later
    ∙ sym (places_from-append (length a) _ xs ys count)

-- connections taken after others
pub gathers-both : (old between new : Gathering) (xs ys : List Arrival)
    → Gathers old between xs → Gathers between new ys → Gathers old new (xs ++ ys)
gathers-both old between new xs ys first second = record {
  waiting = subst (TakesEach old.waiting new.waiting) (sym (map-append connection_of xs ys))
      (takes-both old.waiting between.waiting new.waiting _ _ first.waiting second.waiting);
  sent = with_lists-both _ _ old.sent between.sent new.sent first.sent second.sent
      ∙ ap (λ lists. with_lists lists old.sent) (sym (map-append (λ _. []) xs ys));
  places = first.places ++ second.places;
  held = second.held ∙ ap (λ front. front ++ second.places) first.held
      ∙ append_assoc old.held first.places second.places;
  each = length-append first.places second.places
      ∙ (omega (arith, first.each, second.each, length-append (entries_of xs) (entries_of ys)))
      ∙ ap length (sym (entries_of-append xs ys));
  told = told-both old.sent between.sent xs ys first.places second.places first.sent first.told second.told;
  read = All-append IsRead xs ys first.read second.read;
  failed = subst (λ count. RoseBy count old.cuts new.cuts) (sym (failed_reads-append xs ys))
      (rose-both (failed_reads xs) (failed_reads ys) old.cuts between.cuts new.cuts first.failed second.failed);
  entries = second.entries ∙ ap (λ front. front ++ entries_of ys) first.entries
      ∙ append_assoc old.row.entries (entries_of xs) (entries_of ys)
      ∙ ap (λ back. old.row.entries ++ back) (sym (entries_of-append xs ys));
  cut = omega (arith, first.cut, second.cut, cut_among-append xs ys);
}

-- one connection was taken
pub gathers-one : (old new : Gathering) (left : Option (List ℕ)) (current : Option ℕ)
    → TakesFirst old.waiting new.waiting left → new.sent ≡ with_one_more old.sent → is_some current ≡ true
    → IfSome old.sent (λ lists. current ≡ Some (length lists))
    → (one : TakesOne left current old.held new.held old.cuts new.cuts old.row new.row)
    → Gathers old new (one.arrival ∷ [])
gathers-one old new left current first sent some place one = record {
  waiting = take-first old.waiting new.waiting (connection_of one.arrival) first one.connection;
  sent = sent;
  places = held_places current one.arrival;
  held = one.held;
  each = count one.arrival current some;
  told = told one.arrival old.sent place;
  read = All-cons IsRead one.arrival [] one.read (All-nil IsRead);
  failed = one.failed;
  entries = one.entries;
  cut = one.cut;
}
  where
    take-first : (a b : Option (List (List ℕ))) (connection : Option (List ℕ)) → TakesFirst a b left → connection ≡ left
        → TakesEach a b (connection ∷ [])
    take-first None b connection first is = tt
    take-first (Some a) None connection first is = absurd first
    take-first (Some a) (Some b) connection first is =
        (first.0 ∷ [], first.1, ap (λ c. c ∷ []) (is ∙ first.2))

    count : (arrival : Arrival) (current : Option ℕ) → is_some current ≡ true
        → length (held_places current arrival) ≡ length (entries_of (arrival ∷ []))
    count (cut_off connection failures) current some = refl
    count (held connection entry) None some = cc
    count (held connection entry) (Some place) some = refl

    told : (arrival : Arrival) (sent : Option (List (List ℕ))) → IfSome sent (λ lists. current ≡ Some (length lists))
        → IfSome sent (λ lists. held_places current arrival ≡ places_from (length lists) (arrival ∷ []))
    told arrival None place = tt
    told (cut_off connection failures) (Some lists) place = refl
    told (held connection entry) (Some lists) place = ap option_to_list place

-- no connection was taken yet
pub gathers-none : (waiting sent : Option (List (List ℕ))) (cuts : ℕ)
    → Gathers (none_taken waiting sent cuts) (none_taken waiting sent cuts) []
gathers-none waiting sent cuts = record {
  waiting = take-none waiting;
  sent = same sent;
  places = [];
  held = refl;
  each = refl;
  told = nowhere sent;
  read = All-nil IsRead;
  failed = omega arith;
  entries = refl;
  cut = refl;
}
  where
    take-none : (lists : Option (List (List ℕ))) → TakesEach lists lists []
    take-none None = tt
    take-none (Some lists) = ([], refl, refl)

    same : (lists : Option (List (List ℕ))) → lists ≡ with_lists [] lists
    same None = refl
    same (Some lists) = ap Some (sym (append-nil lists))

    nowhere : (lists : Option (List (List ℕ))) → IfSome lists (λ told. [] ≡ places_from (length told) [])
    nowhere None = tt
    nowhere (Some lists) = refl

-- one connection more was taken
pub gathers-next : (waiting sent : Option (List (List ℕ))) (cuts : ℕ) (between new : Gathering)
    → (arrivals : List Arrival) × Gathers (none_taken waiting sent cuts) between arrivals
    → (arrival : Arrival) × Gathers between new (arrival ∷ [])
    → (arrivals : List Arrival) × Gathers (none_taken waiting sent cuts) new arrivals
gathers-next waiting sent cuts between new taken one =
    (taken.0 ++ one.0 ∷ [], gathers-both (none_taken waiting sent cuts) between new taken.0 (one.0 ∷ []) taken.1 one.1)

-- it counts
pub counts-next : (between new : Gathering) → (arrival : Arrival) × Gathers between new (arrival ∷ [])
    → connection_count new.row ≡ connection_count between.row + 1
counts-next between new one =
    omega (
      arith,
      one.1.cut,
      ap length one.1.entries,
      length-append between.row.entries (entries_of (one.0 ∷ [])),
      each-counts (one.0 ∷ []),
    )

-- the count is that of the connections taken
pub counts-all : (waiting sent : Option (List (List ℕ))) (cuts : ℕ) (new : Gathering) (arrivals : List Arrival)
    → Gathers (none_taken waiting sent cuts) new arrivals → connection_count new.row ≡ length arrivals
counts-all waiting sent cuts new arrivals taken =
    omega (arith, taken.cut, ap length taken.entries, each-counts arrivals)

-- all that waited were taken, or as many as may be
all-waiting : (old new : Option (List (List ℕ))) (connections : List (Option (List ℕ))) (most : ℕ)
    → TakesEach old new connections → length connections ≤ most → NoneWaits new ⊎ (length connections ≡ most)
    → IfSome old (λ lists. length connections ≡ min most (length lists))
all-waiting None new connections most takes few why = tt
all-waiting (Some old) None connections most takes few why = absurd takes
all-waiting (Some old) (Some new) connections most takes few (inl none) =
    omega (arith, few, ap length takes.1, length-append takes.0 new, ap length none, ap length takes.2, length-map takes.0 (λ (bytes : List ℕ). Some bytes))
all-waiting (Some old) (Some new) connections most takes few (inr full) =
    omega (arith, full, ap length takes.1, length-append takes.0 new, ap length takes.2, length-map takes.0 (λ (bytes : List ℕ). Some bytes))

pub all-taken : (waiting sent : Option (List (List ℕ))) (cuts : ℕ) (new : Gathering) (most : ℕ)
    → (arrivals : List Arrival) × Gathers (none_taken waiting sent cuts) new arrivals
    → connection_count new.row ≤ most → NoneWaits new.waiting ⊎ (connection_count new.row ≡ most)
    → IfSome waiting (λ lists. connection_count new.row ≡ min most (length lists))
all-taken waiting sent cuts new most taken few why =
    let connections = map connection_of taken.0 in
    let count : connection_count new.row ≡ length connections =
    counts-all waiting sent cuts new taken.0 taken.1 ∙ sym (length-map taken.0 connection_of) in
    rw count (all-waiting waiting new.waiting connections most taken.1.waiting (rw count at few) (rw count at why))

-- where a further connection is taken only of those that are told to wait, none waited if none comes
none-before : (old : List (List ℕ)) (new : Option (List (List ℕ))) (connections : List (Option (List ℕ)))
    → TakesEach (Some old) new connections → (0 < length connections → new ≡ None) → NoneWaits new → old ≡ []
none-before old None connections takes asked none = absurd takes
none-before old (Some new) [] takes asked none =
    let nothing : length old ≡ 0 =
    omega (arith, ap length takes.1, length-append takes.0 new, ap length none, ap length takes.2, length-map takes.0 (λ (bytes : List ℕ). Some bytes)) in
    empty old nothing
  where
    empty : (lists : List (List ℕ)) → length lists ≡ 0 → lists ≡ []
    empty [] none = refl
    empty (bytes ∷ lists) none = absurd (omega (arith, none))
none-before old (Some new) (connection ∷ connections) takes asked none =
    let never : Some new ≡ None = asked (omega arith) in absurd (cc)

pub none-waited : (waiting sent : Option (List (List ℕ))) (cuts : ℕ) (new : Gathering)
    → (arrivals : List Arrival) × Gathers (none_taken waiting sent cuts) new arrivals
    → (0 < connection_count new.row → new.waiting ≡ None) → NoneWaits new.waiting
    → IfSome waiting (λ lists. lists ≡ [])
none-waited None sent cuts new taken asked none = tt
none-waited (Some old) sent cuts new taken asked none =
    let count : connection_count new.row ≡ length (map connection_of taken.0) =
    counts-all (Some old) sent cuts new taken.0 taken.1 ∙ sym (length-map taken.0 connection_of) in
    none-before old new.waiting (map connection_of taken.0) taken.1.waiting (λ some. asked (omega (arith, count, some))) none
