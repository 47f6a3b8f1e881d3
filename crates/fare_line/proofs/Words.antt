-- Words, one of some words, and bytes up to a last one.
use Rattle.std.proofs.Common.{◌≡◌, ◌∙◌, ◌<◌, ◌≤◌, ℕ, zero, suc, Bool, true, false, ◌==◌, ◌&&◌, List, [], ◌∷◌, ◌++◌, map, length, get_or, append-nil, Option, Some, None, Result, Ok, Err, inl, inr, refl, sym, ap, subst, arith, if◌then◌else◌}
use Rattle.std.specs.Prelude.{IfOk}
use Rattle.std.proofs.lemmas.Bool.{eq-eqb, eqb-true}
use Rattle.std.proofs.lemmas.Grind.{common_steps}
use Rattle.std.proofs.lemmas.List.Folds.{list_all_at}
use Rattle.std.specs.List.{list_all}
use Rattle.fare_line.specs.declared.reading.byte_kind.ByteKind.TheVariants.{This}
use Rattle.fare_line.specs.reader.Reading.{◌>>=◌, Gives, byte_at, later, word_at, one_of, scan}
use Rattle.fare_line.proofs.Readers.{done_is, either_ok, stopped_is, ok_is_not_err, Reads, Stops, Joined, Empty, IsByte, Or, joined, same, reads_byte, reads_nothing, reads_either}

-- ---- a value made of what is read

pub record Mapped {A B : Type 0} (L : A → List ℕ → Type 0) (f : A → B) (b : B) (text : List ℕ) : Type 0 where
  pub origin : A
  pub is : L origin text
  pub value : b ≡ f origin

pub mapped : {A B : Type 0} (L : A → List ℕ → Type 0) (f : A → B) (r : List ℕ → Result (A × List ℕ) ℕ) → Reads L r
    → Reads (Mapped L f) (λ bytes. r bytes >>= λ x. Ok (f x.0, x.1))
mapped {A} {B} L f r reads =
    same (Joined L (λ (a : A). Empty (f a))) (Mapped L f) (λ bytes. r bytes >>= λ x. Ok (f x.0, x.1))
    (joined L (λ (a : A). Empty (f a)) r (λ (a : A) (rest : List ℕ). Ok (f a, rest)) reads (λ a text h. reads_nothing (f a)) (λ a text h. (f a, [], record { value = refl; none = refl })))
    (λ b text j. record { origin = j.first; is = subst (λ (t : List ℕ). L j.first t) (sym (j.whole ∙ ap (λ (t : List ℕ). j.front ++ t) j.behind_is.none ∙ append-nil j.front)) j.front_is; value = j.behind_is.value })
    (λ b text m. record { first = m.origin; front = text; behind = []; front_is = m.is; behind_is = record { value = m.value; none = refl }; whole = sym (append-nil text) })

-- ---- a word

abbrev pub IsWord : List ℕ → Unit {0} → List ℕ → Type 0
IsWord word u text = text ≡ word

pub reads_word : (word : List ℕ) → Reads (IsWord word) (word_at word)
unfolding word_at
reads_word [] = same (Empty tt) (IsWord []) (word_at []) (reads_nothing tt) (λ u text h. h.none) (λ u text h. record { value = refl; none = h })
reads_word (letter ∷ letters) =
    same (Joined (IsByte (This letter)) (λ (b : ℕ). IsWord letters)) (IsWord (letter ∷ letters)) (word_at (letter ∷ letters))
    (joined (IsByte (This letter)) (λ (b : ℕ). IsWord letters) (byte_at (This letter)) (λ (b : ℕ). word_at letters) (reads_byte (This letter) letter (eq-eqb letter letter refl))
    (λ b text h. reads_word letters) (λ b text h. (tt, letters, refl)))
    (λ u text j.
    let here : j.first ≡ letter = eqb-true j.first letter j.front_is.of_kind in
    let front : j.front ≡ letter ∷ [] = j.front_is.alone ∙ ap (λ (k : ℕ). k ∷ []) here in
    j.whole ∙ ap (λ (t : List ℕ). t ++ j.behind) front ∙ ap (λ (t : List ℕ). letter ∷ t) j.behind_is)
    (λ u text h. record { first = letter; front = letter ∷ []; behind = letters; front_is = record { of_kind = eq-eqb letter letter refl; alone = refl }; behind_is = refl; whole = h })

-- ---- one of some words

-- neither of two words begins the other
abbrev pub apart : List ℕ → List ℕ → Bool
apart [] b = false
apart (x ∷ a) [] = false
apart (x ∷ a) (y ∷ b) = if x == y then apart a b else true

-- no word begins another
abbrev pub are_apart : List (List ℕ) → Bool
are_apart [] = true
are_apart (word ∷ words) = list_all (apart word) words && are_apart words

pub apart_words : (a b x y : List ℕ) → apart a b ≡ true → a ++ x ≡ b ++ y → ⊥
apart_words [] b x y h e = absurd cc
apart_words (c ∷ a) [] x y h e = absurd cc
apart_words (c ∷ a) (d ∷ b) x y h e =
    let heads : c ≡ d = cc in
    let tails : a ++ x ≡ b ++ y = cc in
    let more : apart a b ≡ true = rw (eq-eqb c d heads) at h in
    apart_words a b x y more tails

pub record IsOneOf (word : List ℕ) (others : List (List ℕ)) (i : ℕ) (text : List ℕ) : Type 0 where
  pub index : i ≤ length others
  pub word_is : text ≡ get_or (word ∷ others) i []

-- one of the tests of all
pub all_at : (p : List ℕ → Bool) (words : List (List ℕ)) (i : ℕ) → i < length words → list_all p words ≡ true → p (get_or words i []) ≡ true
all_at p words i below all = grind (arith, common_steps, list_all_at p words i [])

pub both_tests : (a b : Bool) → (a && b) ≡ true → (a ≡ true) × (b ≡ true)
both_tests a b h = (grind arith, grind arith)

pub reads_one_of : (word : List ℕ) (others : List (List ℕ)) → are_apart (word ∷ others) ≡ true → Reads (IsOneOf word others) (one_of word others)
unfolding one_of
reads_one_of word [] h =
    same (Mapped (IsWord word) (λ (u : Unit {0}). 0)) (IsOneOf word []) (one_of word []) (mapped (IsWord word) (λ (u : Unit {0}). 0) (word_at word) (reads_word word))
    (λ i text m. record { index = omega (arith, m.value); word_is = m.is ∙ ap (λ (k : ℕ). get_or (word ∷ []) k []) (sym m.value) })
    (λ i text o. let none : i ≡ 0 = (let index = o.index in omega arith) in record { origin = tt; is = o.word_is ∙ ap (λ (k : ℕ). get_or (word ∷ []) k []) none; value = none })
reads_one_of word (next ∷ others) h =
    let tests = both_tests (list_all (apart word) (next ∷ others)) (are_apart (next ∷ others)) h in
    same (Or (Mapped (IsWord word) (λ (u : Unit {0}). 0)) (Mapped (IsOneOf next others) (λ (k : ℕ). suc k))) (IsOneOf word (next ∷ others)) (one_of word (next ∷ others))
    (reads_either (Mapped (IsWord word) (λ (u : Unit {0}). 0)) (Mapped (IsOneOf next others) (λ (k : ℕ). suc k))
    (λ bytes. word_at word bytes >>= λ x. Ok (0, x.1)) (λ bytes. one_of next others bytes >>= λ x. Ok (suc x.0, x.1))
    (mapped (IsWord word) (λ (u : Unit {0}). 0) (word_at word) (reads_word word))
    (mapped (IsOneOf next others) (λ (k : ℕ). suc k) (one_of next others) (reads_one_of next others tests.1))
    (λ i j s t x y p q e.
    let k = q.origin in
    let index = q.is.index in
    let there = all_at (apart word) (next ∷ others) k (omega arith) tests.0 in
    apart_words word (get_or (next ∷ others) k []) x y there (ap (λ (u : List ℕ). u ++ x) (sym p.is) ∙ e ∙ ap (λ (u : List ℕ). u ++ y) q.is.word_is)))
    (λ i text o. elim o [
      | inl m ↦ record { index = omega (arith, m.value); word_is = m.is ∙ ap (λ (k : ℕ). get_or (word ∷ next ∷ others) k []) (sym m.value) }
      | inr m ↦ record { index = (let index = m.is.index in let value = m.value in omega arith); word_is = m.is.word_is ∙ ap (λ (k : ℕ). get_or (word ∷ next ∷ others) k []) (sym m.value) }
    ])
    (λ i text o. one i text o)
  where
    one : (i : ℕ) (text : List ℕ) → IsOneOf word (next ∷ others) i text → Or (Mapped (IsWord word) (λ (u : Unit {0}). 0)) (Mapped (IsOneOf next others) (λ (k : ℕ). suc k)) i text
    one zero text o = inl (record { origin = tt; is = o.word_is; value = refl })
    one (suc k) text o = inr (record { origin = k; is = record { index = (let index = o.index in omega arith); word_is = o.word_is }; value = refl })

-- the index of a word is one of theirs
pub index_of_word : {A : Type 0} (f : A → List ℕ) (word : List ℕ) (others : List A) (bytes rest : List ℕ) (found : Result ℕ ℕ)
    → Gives found rest (one_of word (map f others) bytes) → IfOk found (λ (i : ℕ). i ≤ length others)
unfolding one_of
index_of_word {A} f word others bytes rest (Err left) gives = tt
index_of_word {A} f word others bytes rest (Ok i) gives = within others word i gives
  where
    at_first : (r : Result (Unit {0} × List ℕ) ℕ) (i : ℕ) → ◌>>=◌ {B = ℕ × List ℕ} r (λ x. Ok (0, x.1)) ≡ Ok (i, rest) → i ≡ 0
    at_first (Ok x) i e = (done_is i 0 rest x.1 (sym e)).0
    at_first (Err left) i e = absurd cc

    at_later : (r : Result (ℕ × List ℕ) ℕ) (i : ℕ) → later r ≡ Ok (i, rest) → (j : ℕ) × (r ≡ Ok (j, rest)) × (i ≡ suc j)
    at_later (Ok x) i e = let both = done_is i (suc x.0) rest x.1 (sym e) in (x.0, ap (λ (behind : List ℕ). Ok (x.0, behind)) (sym both.1), both.0)
    at_later (Err left) i e = absurd cc

    within : (others : List A) (word : List ℕ) (i : ℕ) → one_of word (map f others) bytes ≡ Ok (i, rest) → i ≤ length others
    within [] word i e = omega (arith, at_first (word_at word bytes) i e)
    within (next ∷ others) word i e =
        elim (either_ok (◌>>=◌ {B = ℕ × List ℕ} (word_at word bytes) (λ x. Ok (0, x.1))) (later (one_of (f next) (map f others) bytes)) (i, rest) e) [
          | inl first ↦ omega (arith, at_first (word_at word bytes) i first)
          | inr behind ↦ let got = at_later (one_of (f next) (map f others) bytes) i behind in
              let below : got.0 ≤ length others = within others (f next) got.0 got.1 in omega (arith, got.2)
        ]

-- ---- bytes up to a last one

-- a value and the bytes that lead on from it
abbrev pub steps : {A : Type 0} → (A → ℕ → Option A) → A → List ℕ → Option A
steps step value [] = Some value
steps step value (byte ∷ bytes) = elim (step value byte) [ None ↦ None | Some next ↦ steps step next bytes ]

pub record IsScanned {A : Type 0} (step : A → ℕ → Option A) (last : ℕ) (value : A) (a : A) (text : List ℕ) : Type 0 where
  pub bytes : List ℕ
  pub leads : steps step value bytes ≡ Some a
  pub whole : text ≡ bytes ++ last ∷ []

-- what a byte does
data Does {A : Type 0} (step : A → ℕ → Option A) (last : ℕ) (value : A) (byte : ℕ) : Type 0 where
  ends : byte ≡ last → Does step last value byte
  fails : (byte == last) ≡ false → step value byte ≡ None → Does step last value byte
  goes : (next : A) → (byte == last) ≡ false → step value byte ≡ Some next → Does step last value byte

does : {A : Type 0} (step : A → ℕ → Option A) (last : ℕ) (value : A) (byte : ℕ) → Does step last value byte
does {A} step last value byte = go (byte == last) refl (step value byte) refl
  where
    go : (b : Bool) → (byte == last) ≡ b → (o : Option A) → step value byte ≡ o → Does step last value byte
    go true e o f = ends (eqb-true byte last e)
    go false e None f = fails e f
    go false e (Some next) f = goes next e f

scan_ends : {A : Type 0} (step : A → ℕ → Option A) (last : ℕ) (value : A) (rest : List ℕ) → scan step last value (last ∷ rest) ≡ Ok (value, rest)
unfolding scan
scan_ends step last value rest = rw (eq-eqb last last refl) refl

scan_fails : {A : Type 0} (step : A → ℕ → Option A) (last : ℕ) (value : A) (byte : ℕ) (rest : List ℕ) → (byte == last) ≡ false → step value byte ≡ None
    → scan step last value (byte ∷ rest) ≡ Err (suc (length rest))
unfolding scan
scan_fails step last value byte rest e f = rw (e, f) refl

scan_goes : {A : Type 0} (step : A → ℕ → Option A) (last : ℕ) (value : A) (byte : ℕ) (next : A) (rest : List ℕ) → (byte == last) ≡ false → step value byte ≡ Some next
    → scan step last value (byte ∷ rest) ≡ scan step last next rest
unfolding scan
scan_goes step last value byte next rest e f = rw (e, f) refl

pub steps_go : {A : Type 0} (step : A → ℕ → Option A) (value : A) (byte : ℕ) (next : A) (bytes : List ℕ) → step value byte ≡ Some next → steps step value (byte ∷ bytes) ≡ steps step next bytes
steps_go {A} step value byte next bytes e = let F : Option A → Option A = λ o. elim o [ None ↦ None | Some n ↦ steps step n bytes ] in ap F e

pub steps_none : {A : Type 0} (step : A → ℕ → Option A) (value : A) (byte : ℕ) (bytes : List ℕ) → step value byte ≡ None → steps step value (byte ∷ bytes) ≡ None
steps_none {A} step value byte bytes e = let F : Option A → Option A = λ o. elim o [ None ↦ None | Some n ↦ steps step n bytes ] in ap F e

pub none_is_not_some : {A : Type 0} (a : A) → None ≡ Some a → ⊥
none_is_not_some a e = cc

pub some_is : {A : Type 0} (a b : A) → Some a ≡ Some b → a ≡ b
some_is a b e = cc

-- the last byte leads nowhere
abbrev pub EndsAt : {A : Type 0} → (A → ℕ → Option A) → ℕ → Type 0
EndsAt {A} step last = (value : A) → step value last ≡ None

scan_again : {A : Type 0} (step : A → ℕ → Option A) (last : ℕ) → EndsAt step last → (bytes : List ℕ) (value a : A) (rest : List ℕ) → steps step value bytes ≡ Some a
    → scan step last value ((bytes ++ last ∷ []) ++ rest) ≡ Ok (a, rest)
scan_again {A} step last end [] value a rest h = scan_ends step last value rest ∙ ap (λ (v : A). Ok (v, rest)) (some_is value a h)
scan_again step last end (byte ∷ bytes) value a rest h = elim (does step last value byte) [
  | ends e ↦ absurd (none_is_not_some a (sym (steps_none step value byte bytes (ap (step value) e ∙ end value)) ∙ h))
  | fails e f ↦ absurd (none_is_not_some a (sym (steps_none step value byte bytes f) ∙ h))
  | goes next e f ↦ scan_goes step last value byte next ((bytes ++ last ∷ []) ++ rest) e f ∙ scan_again step last end bytes next a rest (sym (steps_go step value byte next bytes f) ∙ h)
]

scan_found : {A : Type 0} (step : A → ℕ → Option A) (last : ℕ) (bytes : List ℕ) (value a : A) (rest : List ℕ) → scan step last value bytes ≡ Ok (a, rest)
    → (text : List ℕ) × IsScanned step last value a text × (bytes ≡ text ++ rest)
unfolding scan
scan_found step last [] value a rest h = absurd cc
scan_found {A} step last (byte ∷ bytes) value a rest h = elim (does step last value byte) [
  | ends e ↦ (
      let at : scan step last value (byte ∷ bytes) ≡ Ok (value, bytes) = ap (λ (b : ℕ). scan step last value (b ∷ bytes)) e ∙ scan_ends step last value bytes in
      let both = done_is value a bytes rest (sym at ∙ h) in
      (last ∷ [], record { bytes = []; leads = ap (λ (v : A). Some v) both.0; whole = refl }, ap (λ (b : ℕ). b ∷ bytes) e ∙ ap (λ (t : List ℕ). last ∷ t) both.1))
  | fails e f ↦ absurd (ok_is_not_err (a, rest) (suc (length bytes)) (sym h ∙ scan_fails step last value byte bytes e f))
  | goes next e f ↦ (
      let got = scan_found step last bytes next a rest (sym (scan_goes step last value byte next bytes e f) ∙ h) in (
        byte ∷ got.0,
        record { bytes = byte ∷ got.1.bytes; leads = steps_go step value byte next got.1.bytes f ∙ got.1.leads; whole = ap (λ (t : List ℕ). byte ∷ t) got.1.whole },
        ap (λ (t : List ℕ). byte ∷ t) got.2,
      ))
]

-- a first byte that is refused
scan_refused : {A : Type 0} (step : A → ℕ → Option A) (last : ℕ) (value a : A) (byte : ℕ) (text behind more : List ℕ) → (byte == last) ≡ false → step value byte ≡ None
    → IsScanned step last value a text → text ++ behind ≡ byte ∷ more → ⊥
scan_refused {A} step last value a byte text behind more e f s h = go s.bytes s.leads (ap (λ (t : List ℕ). t ++ behind) (sym s.whole) ∙ h)
  where
    go : (bytes : List ℕ) → steps step value bytes ≡ Some a → (bytes ++ last ∷ []) ++ behind ≡ byte ∷ more → ⊥
    go [] leads g = (let here : byte ≡ last = cc in let there = eq-eqb byte last here in cc)
    go (c ∷ bytes) leads g =
        let here : c ≡ byte = cc in
        none_is_not_some a (sym (steps_none step value c bytes (ap (step value) here ∙ f)) ∙ leads)

-- a byte more in front of what stopped
scan_behind : {A : Type 0} (step : A → ℕ → Option A) (last : ℕ) (value next : A) (byte : ℕ) (bytes : List ℕ) (left : ℕ) → (byte == last) ≡ false → step value byte ≡ Some next
    → Stops (IsScanned step last next) bytes left → Stops (IsScanned step last value) (byte ∷ bytes) left
scan_behind {A} step last value next byte bytes left e f stop = record {
  front = byte ∷ stop.front;
  back = stop.back;
  whole = ap (λ (t : List ℕ). byte ∷ t) stop.whole;
  left_is = stop.left_is;
  viable = (stop.viable.0, stop.viable.1, (let s = stop.viable.2 in record { bytes = byte ∷ s.bytes; leads = steps_go step value byte next s.bytes f ∙ s.leads; whole = ap (λ (t : List ℕ). byte ∷ t) s.whole }));
  refused = λ after others more text behind a b s h. go after others more text behind a b s.bytes s.leads (ap (λ (t : List ℕ). t ++ behind) (sym s.whole) ∙ h);
}
  where
    go : (after : ℕ) (others more text behind : List ℕ) (a : A) → stop.back ≡ after ∷ others → (bs : List ℕ) → steps step value bs ≡ Some a
        → (bs ++ last ∷ []) ++ behind ≡ byte ∷ (stop.front ++ after ∷ more) → ⊥
    go after others more text behind a b [] leads g = (let here : byte ≡ last = cc in let there = eq-eqb byte last here in cc)
    go after others more text behind a b (c ∷ bs) leads g =
        let here : c ≡ byte = cc in
        let tails : (bs ++ last ∷ []) ++ behind ≡ stop.front ++ after ∷ more = cc in
        let there : step value c ≡ Some next = ap (step value) here ∙ f in
        stop.refused after others more (bs ++ last ∷ []) behind a b
        (record { bytes = bs; leads = sym (steps_go step value c next bs there) ∙ leads; whole = refl }) tails

scan_stops : {A : Type 0} (step : A → ℕ → Option A) (last : ℕ) (bytes : List ℕ) (value : A) (left : ℕ) → scan step last value bytes ≡ Err left → Stops (IsScanned step last value) bytes left
unfolding scan
scan_stops {A} step last [] value left h = record {
  front = [];
  back = [];
  whole = refl;
  left_is = stopped_is {A = A × List ℕ} 0 left h;
  viable = (value, last ∷ [], record { bytes = []; leads = refl; whole = refl });
  refused = λ next others more text behind a b s f. absurd cc;
}
scan_stops {A} step last (byte ∷ bytes) value left h = elim (does step last value byte) [
  | ends e ↦ absurd (ok_is_not_err (value, bytes) left (sym (ap (λ (b : ℕ). scan step last value (b ∷ bytes)) e ∙ scan_ends step last value bytes) ∙ h))
  | fails e f ↦ record {
    front = [];
    back = byte ∷ bytes;
    whole = refl;
    left_is = stopped_is {A = A × List ℕ} (suc (length bytes)) left (sym (scan_fails step last value byte bytes e f) ∙ h);
    viable = (value, last ∷ [], record { bytes = []; leads = refl; whole = refl });
    refused = λ next others more text behind a b s g.
        (let here : byte ≡ next = cc in scan_refused step last value a byte text behind more e f s (g ∙ ap (λ (k : ℕ). k ∷ more) (sym here)));
  }
  | goes next e f ↦ scan_behind step last value next byte bytes left e f (scan_stops step last bytes next left (sym (scan_goes step last value byte next bytes e f) ∙ h))
]

pub reads_scanned : {A : Type 0} (step : A → ℕ → Option A) (last : ℕ) → EndsAt step last → (value : A) → Reads (IsScanned step last value) (scan step last value)
reads_scanned {A} step last end value = record {
  again = λ a text rest s. ap (λ (t : List ℕ). scan step last value (t ++ rest)) s.whole ∙ scan_again step last end s.bytes value a rest s.leads;
  found = λ bytes rest a e. scan_found step last bytes value a rest e;
  stops = λ bytes left e. scan_stops step last bytes value left e;
}

-- what passes a test throughout passes it at each index
pub all_at_least : (p : ℕ → Bool) (xs : List ℕ) (i : ℕ) → i < length xs → list_all p xs ≡ true → p (get_or xs i 0) ≡ true
all_at_least p xs i below all = grind (arith, common_steps, list_all_at p xs i 0)
