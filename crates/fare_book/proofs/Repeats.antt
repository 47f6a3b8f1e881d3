-- An edition that stands in a book still does after publications, and a text of it is published already.
use Rattle.std.proofs.Common.{◌≡◌, ◌≢◌, ◌⊎◌, ◌<◌, ℕ, suc, zero, inl, inr, List, [], ◌∷◌, ◌++◌, length, get_or, Some, Ok, Err, arith, refl, sym, ◌∙◌, ap, eq-eqb, length-append}
use Rattle.std.specs.List.{Contains, filter}
use Rattle.std.proofs.Math.ListN.{get_or-append}
use Rattle.std.proofs.lemmas.List.Elements.{Contains-append_left, Contains-push}
use Rattle.fare_tariff.specs.Tariff.{Tariff}
use Rattle.fare_csv.specs.TariffText.{edition_of}
use Rattle.fare_book.specs.declared.published.Published.TheVariants.{New, Already}
use Rattle.fare_book.specs.declared.publish_fault.PublishFault.TheVariants.{Memory, Malformed, Differs, Full, KeeperFault, Damaged}
use Rattle.fare_book.specs.Book.{BookState, has_number, numbered}
use Rattle.fare_book.specs.Editions.{DamageAt, editions_of}
use Rattle.fare_book.specs.Publish.{Answer, IsOffered, MayOpen, Offers, Publishes}
use Rattle.fare_book.specs.Repeats.{IsCutOff, IsNewOf, IsRun, Publication, PublishesAll, StandsOnce}
use Rattle.fare_book.specs.Reopens.{Told}
use Rattle.fare_book.specs.Stands.{Stands}
use Rattle.fare_book.proofs.EditionLists.{AreDistinct, editions_distinct, numbered_of, other_number}
use Rattle.fare_book.proofs.Standing.{no_damage, opened_is, publishes_stands}

-- what a book that stands opens as has the editions of the book
opened_contains : (old : BookState) (before : List (List ℕ)) (editions : List Tariff) (kept : Tariff) → Stands old before → editions_of before ≡ Ok editions → Contains old.editions kept → Contains editions kept
opened_contains old before editions kept (inl e) is there = let same : old.editions ≡ editions = cc in rw same at there
opened_contains old before editions kept (inr w) is there =
    let e = w.1.1 in
    let same : old.editions ++ w.1.0 ∷ [] ≡ editions = cc in
    rw same at (Contains-append_left old.editions (w.1.0 ∷ []) kept there)

-- an offer keeps each edition
offer_keeps : (editions : List Tariff) (edition kept : Tariff) (answer : Answer) (new : BookState) (before after : Told) → Offers editions edition answer new before after → Contains editions kept → Contains new.editions kept
offer_keeps editions edition kept (Ok (New number)) new before after offers there = rw offers.2 (Contains-append_left editions (edition ∷ []) kept there)
offer_keeps editions edition kept (Ok (Already number)) new before after offers there = rw offers.2 there
offer_keeps editions edition kept (Err (Differs number)) new before after offers there = rw offers.2 there
offer_keeps editions edition kept (Err Full) new before after offers there = rw offers.1 there
offer_keeps editions edition kept (Err KeeperFault) new before after offers there = rw offers.1 there
offer_keeps editions edition kept (Err Memory) new before after offers there = rw offers.0 there
offer_keeps editions edition kept (Err (Malformed fault)) new before after offers there = absurd offers
offer_keeps editions edition kept (Err (Damaged place damage)) new before after offers there = absurd offers

offered_keeps : (old new : BookState) (bytes : List ℕ) (answer : Answer) (before after : List (List ℕ)) (kept : Tariff) → Stands old before → IsOffered old new bytes answer (Some before) (Some after) → Contains old.editions kept → Contains new.editions kept
offered_keeps old new bytes answer before after kept stands made there =
    let is = opened_is old before after (Ok made.editions) old.settled refl made.opened stands in
    offer_keeps made.editions made.edition kept answer new (Some before) (Some after) made.offers (opened_contains old before made.editions kept stands is there)

memory_keeps : (old new : BookState) (before after : List (List ℕ)) (kept : Tariff) → Stands old before → MayOpen old new (Some before) (Some after) → Contains old.editions kept → Contains new.editions kept
memory_keeps old new before after kept stands (inl same) there = rw same there
memory_keeps old new before after kept stands (inr opens) there =
    opened_contains old before new.editions kept stands (opened_is old before after (Ok new.editions) old.settled refl opens.1 stands) there

keeper_keeps : (old new : BookState) (bytes : List ℕ) (before after : List (List ℕ)) (kept : Tariff) → Stands old before → Publishes old new bytes (Err KeeperFault) (Some before) (Some after) → Contains old.editions kept → Contains new.editions kept
keeper_keeps old new bytes before after kept stands (inl fails) there = let same = fails.book in rw same there
keeper_keeps old new bytes before after kept stands (inr made) there = offered_keeps old new bytes (Err KeeperFault) before after kept stands made there

-- a publication keeps each edition
publishes_keeps : (old new : BookState) (bytes : List ℕ) (answer : Answer) (before after : List (List ℕ)) (kept : Tariff) → Stands old before → Publishes old new bytes answer (Some before) (Some after) → Contains old.editions kept → Contains new.editions kept
publishes_keeps old new bytes (Err Memory) before after kept stands made there = memory_keeps old new before after kept stands made.0 there
publishes_keeps old new bytes (Err (Malformed fault)) before after kept stands made there = rw made.1 there
publishes_keeps old new bytes (Err (Damaged place damage)) before after kept stands made there = rw made.2 there
publishes_keeps old new bytes (Err KeeperFault) before after kept stands made there = keeper_keeps old new bytes before after kept stands made there
publishes_keeps old new bytes answer before after kept stands made there = offered_keeps old new bytes answer before after kept stands made there

-- a new edition is in the book
publishes_new : (old new : BookState) (bytes : List ℕ) (number : ℕ) (before after : Told) (edition : Tariff) → Publishes old new bytes (Ok (New number)) before after → edition_of bytes ≡ Ok edition → Contains new.editions edition
publishes_new old new bytes number before after edition made e =
    let read = made.readable in
    let same : edition ≡ made.edition = cc in
    rw (made.offers.2, same) (Contains-push made.editions made.edition)

-- the answer to an edition that stands
offer_again : (editions : List Tariff) (edition : Tariff) (answer : Answer) (new : BookState) (before after : List (List ℕ)) → numbered edition.number editions ≡ Some edition → Offers editions edition answer new (Some before) (Some after) → IsCutOff answer ⊎ ((answer ≡ Ok (Already edition.number)) × (after ≡ before))
offer_again editions edition (Ok (New number)) new before after found offers = let none = offers.1.new in absurd cc
offer_again editions edition (Ok (Already number)) new before after found offers = inr (rw offers.0 refl, offers.3)
offer_again editions edition (Err (Differs number)) new before after found offers =
    let other = offers.1.1 in
    let same : offers.1.0 ≡ edition = cc in absurd (offers.1.2 same)
offer_again editions edition (Err Full) new before after found offers = let none = offers.0.new in absurd cc
offer_again editions edition (Err KeeperFault) new before after found offers = inl (inr refl)
offer_again editions edition (Err Memory) new before after found offers = inl (inl refl)
offer_again editions edition (Err (Malformed fault)) new before after found offers = absurd offers
offer_again editions edition (Err (Damaged place damage)) new before after found offers = absurd offers

offered_again : (old new : BookState) (bytes : List ℕ) (answer : Answer) (before after : List (List ℕ)) (edition : Tariff) → Stands old before → Contains old.editions edition → edition_of bytes ≡ Ok edition → IsOffered old new bytes answer (Some before) (Some after) → IsCutOff answer ⊎ ((answer ≡ Ok (Already edition.number)) × (after ≡ before))
offered_again old new bytes answer before after edition stands there e made =
    let is = opened_is old before after (Ok made.editions) old.settled refl made.opened stands in
    let in_open = opened_contains old before made.editions edition stands is there in
    let found = numbered_of made.editions edition (editions_distinct before made.editions is) in_open in
    let read = made.readable in
    let same : made.edition ≡ edition = cc in
    offer_again made.editions edition answer new before after found (rw same at made.offers)

-- a text of an edition that stands is published already, and leaves the bodies
pub publishes_again : (old new : BookState) (bytes : List ℕ) (answer : Answer) (before after : List (List ℕ)) (edition : Tariff) → Stands old before → Contains old.editions edition → edition_of bytes ≡ Ok edition → Publishes old new bytes answer (Some before) (Some after) → IsCutOff answer ⊎ ((answer ≡ Ok (Already edition.number)) × (after ≡ before))
publishes_again old new bytes (Err Memory) before after edition stands there e made = inl (inl refl)
publishes_again old new bytes (Err KeeperFault) before after edition stands there e made = inl (inr refl)
publishes_again old new bytes (Err (Malformed fault)) before after edition stands there e made = let bad = made.0 in absurd cc
publishes_again old new bytes (Err (Damaged place damage)) before after edition stands there e made =
    let found : DamageAt = record { place = place; damage = damage } in
    absurd (no_damage old before found stands (opened_is old before after (Err found) old.settled refl made.1 stands))
publishes_again old new bytes answer before after edition stands there e made = offered_again old new bytes answer before after edition stands there e made

-- no edition has a number that none of these has
filter_none : (number : ℕ) (editions : List Tariff) → ((k : ℕ) (d : Tariff) → k < length editions → (get_or editions k d).number ≢ number) → filter (has_number number) editions ≡ []
filter_none number [] apart = refl
filter_none number (one ∷ others) apart =
    let other = other_number one.number number (apart zero one (omega arith)) in
    rw other (filter_none number others (λ k d within. apart (suc k) d (omega arith)))

filter_at : (editions : List Tariff) (edition : Tariff) (k : ℕ) → AreDistinct editions → k < length editions → get_or editions k edition ≡ edition → filter (has_number edition.number) editions ≡ edition ∷ []
filter_at [] edition k distinct within at = absurd (omega arith)
filter_at (one ∷ others) edition zero distinct within at =
    let number = ap (λ (e : Tariff). e.number) at in
    let yes = eq-eqb one.number edition.number number in
    let none = filter_none edition.number others (λ j d inside same. distinct zero (suc j) d (omega arith) (omega arith) (let e = number in e ∙ sym same)) in
    rw (yes, none) (ap (λ (e : Tariff). e ∷ []) at)
filter_at (one ∷ others) edition (suc k) distinct within at =
    let apart : one.number ≢ edition.number = rw at at (distinct 0 (suc k) edition (omega arith) within) in
    let other = other_number one.number edition.number apart in
    rw other (filter_at others edition k (λ i j d before inside. distinct (suc i) (suc j) d (omega arith) (omega arith)) (omega arith) at)

-- the editions in front of one more have different numbers too
front_distinct : (editions : List Tariff) (more : Tariff) → AreDistinct (editions ++ more ∷ []) → AreDistinct editions
front_distinct editions more distinct i j d before within =
    let longer = length-append editions (more ∷ []) in
    let inside : i < length editions = omega arith in
    let here : i < j = before in
    let apart = distinct i j d before (omega arith) in
    rw (get_or-append editions (more ∷ []) d i inside, get_or-append editions (more ∷ []) d j within) at apart

-- an edition of a book that stands is the one of its number
stands_distinct : (book : BookState) (bodies : List (List ℕ)) → Stands book bodies → (kept : Tariff) → Contains book.editions kept → StandsOnce book.editions kept
stands_distinct book bodies (inl e) kept there = filter_at book.editions kept there.0 (editions_distinct bodies book.editions e) there.1 there.2
stands_distinct book bodies (inr w) kept there =
    let whole = editions_distinct bodies (book.editions ++ w.1.0 ∷ []) w.1.1 in
    filter_at book.editions kept there.0 (front_distinct book.editions w.1.0 whole) there.1 there.2

-- publications leave a book that stands
pub run_stands : (start last : BookState) (first left : List (List ℕ)) (calls : List Publication) → Stands start first → PublishesAll start first calls last left → Stands last left
unfolding PublishesAll
run_stands start last first left [] stands run = rw (run.0, run.1) stands
run_stands start last first left (made ∷ others) stands run =
    let step = publishes_stands start run.0 made.text made.answer first run.1 run.2 stands in
    run_stands run.0 last run.1 left others step.0 run.3

-- publications keep each edition
run_contains : (start last : BookState) (first left : List (List ℕ)) (calls : List Publication) (kept : Tariff) → Stands start first → PublishesAll start first calls last left → Contains start.editions kept → Contains last.editions kept
unfolding PublishesAll
run_contains start last first left [] kept stands run there = rw run.0 there
run_contains start last first left (made ∷ others) kept stands run there =
    let step = publishes_stands start run.0 made.text made.answer first run.1 run.2 stands in
    let here = publishes_keeps start run.0 made.text made.answer first run.1 kept stands run.2 there in
    run_contains run.0 last run.1 left others kept step.0 run.3 here

-- an edition that was new at one of them is in the last book
run_new : (start last : BookState) (first left : List (List ℕ)) (calls : List Publication) (made : Publication) (edition : Tariff) (k : ℕ) → Stands start first → PublishesAll start first calls last left → k < length calls → get_or calls k made ≡ made → IsNewOf made edition → Contains last.editions edition
unfolding PublishesAll
run_new start last first left [] made edition k stands run within at new = absurd (omega arith)
run_new start last first left (one ∷ others) made edition zero stands run within at new =
    let step = publishes_stands start run.0 one.text one.answer first run.1 run.2 stands in
    let text = ap (λ (made : Publication). made.text) at in
    let answer = ap (λ (made : Publication). made.answer) at in
    let first_made : Publishes start run.0 made.text (Ok (New edition.number)) (Some first) (Some run.1) = rw (text, answer, new.0) at run.2 in
    let here = publishes_new start run.0 made.text edition.number (Some first) (Some run.1) edition first_made new.1 in
    run_contains run.0 last run.1 left others edition step.0 run.3 here
run_new start last first left (one ∷ others) made edition (suc k) stands run within at new =
    let step = publishes_stands start run.0 one.text one.answer first run.1 run.2 stands in
    run_new run.0 last run.1 left others made edition k step.0 run.3 (omega arith) at new

pub run_once : (start last : BookState) (first left : List (List ℕ)) (calls : List Publication) (made : Publication) (edition : Tariff) → IsRun start first calls last left → Contains calls made → IsNewOf made edition → StandsOnce last.editions edition
run_once start last first left calls made edition run there new =
    stands_distinct last left (run_stands start last first left calls run.stands run.made) edition (run_new start last first left calls made edition there.0 run.stands run.made there.1 there.2 new)

pub run_keeps : (start last : BookState) (first left : List (List ℕ)) (calls : List Publication) (edition : Tariff) → IsRun start first calls last left → Contains start.editions edition → StandsOnce last.editions edition
run_keeps start last first left calls edition run there =
    stands_distinct last left (run_stands start last first left calls run.stands run.made) edition (run_contains start last first left calls edition run.stands run.made there)

pub run_again : (start last later : BookState) (first left bodies : List (List ℕ)) (calls : List Publication) (made again : Publication) (edition : Tariff) → IsRun start first calls last left → Contains calls made → IsNewOf made edition → edition_of again.text ≡ Ok edition → Publishes last later again.text again.answer (Some left) (Some bodies) → IsCutOff again.answer ⊎ ((again.answer ≡ Ok (Already edition.number)) × (bodies ≡ left))
run_again start last later first left bodies calls made again edition run there new e published =
    let stands = run_stands start last first left calls run.stands run.made in
    let in_last = run_new start last first left calls made edition there.0 run.stands run.made there.1 there.2 new in
    publishes_again last later again.text again.answer left bodies edition stands in_last e published
