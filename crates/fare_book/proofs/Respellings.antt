-- One body that is brought into canonical spelling.
use Rattle.std.proofs.Common.{◌≡◌, ◌∙◌, ℕ, ◌-◌, inl, inr, List, [], Option, Some, None, Result, Ok, Err, true, false, Bool, IfSome, refl, sym, ap, slice_set}
use Rattle.std.specs.Prelude.{not, bytes_eq}
use Rattle.std.specs.Option.{ForSome}
use Rattle.std.proofs.lemmas.List.{set-get_or}
use Rattle.std.proofs.lemmas.Option.{get_or_from_slice_get}
use Rattle.std.proofs.lemmas.Slice.Eq.{bytes_eq-Decides}
use Rattle.fare_ports.specs.declared.keeper.KeepFault.{KeepFault}
use Rattle.fare_ports.specs.declared.keeper.KeepFault.TheVariants as keeping
use Rattle.fare_ports.specs.Keeper.{ToldAfter, BodiesStay, BodyReplaced, HasPlace, MayReplace, body_at}
use Rattle.fare_tariff.specs.Tariff.{Tariff}
use Rattle.fare_csv.specs.TariffText.{edition_of}
use Rattle.fare_csv.specs.CanonicalText.{canonical_text}
use Rattle.fare_book.specs.Migration.{IsCutOff, IsRespelled, MayRespell, Respells, StandsAt, canonical_body, is_old, stored_at}
use Rattle.fare_book.specs.Reopens.{Told}
use Rattle.fare_book.specs.Restored.{kept_fault}

-- the canonical spelling of a body that stands for an edition is the edition's text
pub canonical_is : (body : List ℕ) (edition : Tariff) → edition_of body ≡ Ok edition → canonical_body body ≡ canonical_text edition
unfolding canonical_body
canonical_is body edition e = rw e refl

-- a body isn't in canonical spelling where it differs from it
pub old_is : (body text : List ℕ) (test : Bool) → canonical_body body ≡ text → bytes_eq body text ≡ test → is_old body ≡ not test
unfolding is_old
old_is body text test c e = rw (c, e) refl

-- the body that is loaded, and its canonical spelling
loaded : (bodies : List (List ℕ)) (place : ℕ) (edition : Tariff) (body text : List ℕ) → StandsAt place edition bodies → body_at place bodies ≡ Some body → text ≡ canonical_text edition → (stored_at place bodies ≡ body) × (canonical_body (stored_at place bodies) ≡ text)
loaded bodies place edition body text stands at e =
    let here : stored_at place bodies ≡ body = get_or_from_slice_get bodies (place - 1) body [] at in
    (here, canonical_is (stored_at place bodies) edition stands.1 ∙ sym e)

-- a body in canonical spelling stays
pub unchanged : (before after : Told) (place : ℕ) (edition : Tariff) (body text : List ℕ) → ForSome before (StandsAt place edition) → ToldAfter before after BodiesStay → IfSome after (λ bodies. body_at place bodies ≡ Some body) → text ≡ canonical_text edition → bytes_eq body text ≡ true → ToldAfter before after (Respells place false)
unchanged before None place edition body text stands stay at e same = tt
unchanged None (Some new) place edition body text stands stay at e same = absurd stay
unchanged (Some old) (Some new) place edition body text stands stay at e same =
    let here : body_at place old ≡ Some body = rw stay at at in
    let found = loaded old place edition body text (stands old refl) here e in
    let equal : body ≡ text = (bytes_eq-Decides body text).0 same in
    let own : canonical_body (stored_at place old) ≡ stored_at place old = found.1 ∙ sym equal ∙ sym found.0 in
    let whole : slice_set old (place - 1) (stored_at place old) ≡ old = set-get_or old (place - 1) [] in
    let bodies = stay ∙ sym whole ∙ sym (ap (λ (text : List ℕ). slice_set old (place - 1) text) own) in
    let tested : bytes_eq (stored_at place old) text ≡ true = rw found.0 same in
    ((bodies, ap edition_of own), sym (old_is (stored_at place old) text true found.1 tested))

-- the text that was put at a place is the canonical spelling of the body there, and read as it
respelled : (old new : List (List ℕ)) (place : ℕ) (edition : Tariff) (body text : List ℕ) → StandsAt place edition old → body_at place old ≡ Some body → text ≡ canonical_text edition → edition_of text ≡ Ok edition → new ≡ slice_set old (place - 1) text → IsRespelled place old new
respelled old new place edition body text stands at e reads made =
    let found = loaded old place edition body text stands at e in
    (made ∙ sym (ap (λ (text : List ℕ). slice_set old (place - 1) text) found.1), ap edition_of found.1 ∙ reads ∙ sym stands.1)

-- a body in another spelling is replaced
pub replaced : (before middle after : Told) (place : ℕ) (edition : Tariff) (body text : List ℕ) → ForSome before (StandsAt place edition) → ToldAfter before middle BodiesStay → IfSome middle (λ bodies. body_at place bodies ≡ Some body) → text ≡ canonical_text edition → edition_of text ≡ Ok edition → bytes_eq body text ≡ false → ToldAfter middle after (BodyReplaced place text) → ToldAfter before after (Respells place true)
replaced before middle None place edition body text stands stay at e reads differs made = tt
replaced before None (Some new) place edition body text stands stay at e reads differs made = absurd made
replaced None (Some middle) (Some new) place edition body text stands stay at e reads differs made = absurd stay
replaced (Some old) (Some middle) (Some new) place edition body text stands stay at e reads differs made =
    let here : body_at place old ≡ Some body = rw stay at at in
    let put : new ≡ slice_set old (place - 1) text = rw stay at made in
    let found = loaded old place edition body text (stands old refl) here e in
    let tested : bytes_eq (stored_at place old) text ≡ false = rw found.0 differs in
    (respelled old new place edition body text (stands old refl) here e reads put, sym (old_is (stored_at place old) text false found.1 tested))

-- bodies that stay may have been brought into canonical spelling
pub stayed : (before after : Told) (place : ℕ) → ToldAfter before after BodiesStay → ToldAfter before after (MayRespell place)
stayed before None place stay = tt
stayed None (Some new) place stay = absurd stay
stayed (Some old) (Some new) place stay = inl stay

-- a body may be replaced where the keeper failed
may_be_replaced : (before middle after : Told) (place : ℕ) (edition : Tariff) (body text : List ℕ) → ForSome before (StandsAt place edition) → ToldAfter before middle BodiesStay → IfSome middle (λ bodies. body_at place bodies ≡ Some body) → text ≡ canonical_text edition → edition_of text ≡ Ok edition → ToldAfter middle after (MayReplace place text) → ToldAfter before after (MayRespell place)
may_be_replaced before middle None place edition body text stands stay at e reads made = tt
may_be_replaced before None (Some new) place edition body text stands stay at e reads made = absurd made
may_be_replaced None (Some middle) (Some new) place edition body text stands stay at e reads made = absurd stay
may_be_replaced (Some old) (Some middle) (Some new) place edition body text stands stay at e reads (inl same) = inl (same ∙ stay)
may_be_replaced (Some old) (Some middle) (Some new) place edition body text stands stay at e reads (inr made) =
    let here : body_at place old ≡ Some body = rw stay at at in
    let put : new ≡ slice_set old (place - 1) text = rw stay at made in
    inr (respelled old new place edition body text (stands old refl) here e reads put)

stayed_twice : (before middle after : Told) (place : ℕ) → ToldAfter before middle BodiesStay → ToldAfter middle after BodiesStay → ToldAfter before after (MayRespell place)
stayed_twice before middle None place stay again = tt
stayed_twice before None (Some new) place stay again = absurd again
stayed_twice None (Some middle) (Some new) place stay again = absurd stay
stayed_twice (Some old) (Some middle) (Some new) place stay again = inl (again ∙ stay)

-- a replacing that was refused
pub refused : (before middle after : Told) (place : ℕ) (edition : Tariff) (body text : List ℕ) (fault : KeepFault) → ForSome before (StandsAt place edition) → ToldAfter before middle BodiesStay → IfSome middle (λ bodies. body_at place bodies ≡ Some body) → text ≡ canonical_text edition → edition_of text ≡ Ok edition → (fault ≡ keeping.Memory → ToldAfter middle after BodiesStay) → (fault ≡ keeping.Failed → ToldAfter middle after (MayReplace place text)) → ToldAfter before after (MayRespell place)
refused before middle after place edition body text keeping.Memory stands stay at e reads memory failed =
    stayed_twice before middle after place stay (memory refl)
refused before middle after place edition body text keeping.Failed stands stay at e reads memory failed =
    may_be_replaced before middle after place edition body text stands stay at e reads (failed refl)

-- the body still stands at its place
pub still_there : (before after : Told) (place : ℕ) (edition : Tariff) → ForSome before (StandsAt place edition) → ToldAfter before after BodiesStay → ForSome after (HasPlace place)
still_there before None place edition stands stay = λ bodies e. absurd cc
still_there None (Some new) place edition stands stay = absurd stay
still_there (Some old) (Some new) place edition stands stay =
    λ bodies e.
    let same : new ≡ bodies = cc in
    rw (← same, stay) ((stands old refl).0)

-- a keeper's fault is no damage of the bodies
pub kept_is_cut_off : (fault : KeepFault) → IsCutOff (kept_fault fault)
kept_is_cut_off keeping.Memory = tt
kept_is_cut_off keeping.Failed = tt
