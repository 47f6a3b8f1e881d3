-- Readers of the front of a text, each tied to the language of what it reads: which texts stand for which values.
use Rattle.std.proofs.Common.{◌≡◌, ◌∙◌, ◌≤◌, ◌+◌, ℕ, suc, min, Bool, true, false, List, [], ◌∷◌, ◌++◌, length, Result, Ok, Err, ◌⊎◌, inl, inr, refl, sym, ap, subst, append_assoc, append-nil, length-append, arith}
use Rattle.std.proofs.lemmas.Bool.{cases_lt}
use Rattle.fare_line.specs.declared.reading.byte_kind.ByteKind.{ByteKind}
use Rattle.fare_line.specs.reader.Reading.{◌>>=◌, either, byte_at, is_of}

-- a reader stopped with so many bytes left: what stands before them begins a text of the language, and with the next byte it doesn't
pub record Stops {A : Type 0} (L : A → List ℕ → Type 0) (bytes : List ℕ) (left : ℕ) : Type 0 where
  pub front : List ℕ
  pub back : List ℕ
  pub whole : bytes ≡ front ++ back
  pub left_is : length back ≡ left
  pub viable : (a : A) × (more : List ℕ) × L a (front ++ more)
  pub refused : (next : ℕ) (others more text behind : List ℕ) (a : A) → back ≡ next ∷ others → L a text → text ++ behind ≡ front ++ next ∷ more → ⊥

-- a reader reads exactly the texts of a language, whatever follows, and stops where none goes on
pub record Reads {A : Type 0} (L : A → List ℕ → Type 0) (r : List ℕ → Result (A × List ℕ) ℕ) : Type 0 where
  pub again : (a : A) (text rest : List ℕ) → L a text → r (text ++ rest) ≡ Ok (a, rest)
  pub found : (bytes rest : List ℕ) (a : A) → r bytes ≡ Ok (a, rest) → (text : List ℕ) × L a text × (bytes ≡ text ++ rest)
  pub stops : (bytes : List ℕ) (left : ℕ) → r bytes ≡ Err left → Stops L bytes left

abbrev pub done : {A : Type 0} → A × List ℕ → Result (A × List ℕ) ℕ
done x = Ok x

-- what a reading holds
pub done_is : {A : Type 0} (a b : A) (x y : List ℕ) → done (a, x) ≡ done (b, y) → (a ≡ b) × (x ≡ y)
done_is {A} a b x y e =
    let both : (a, x) ≡ (b, y) = cc in
    (ap (λ (p : A × List ℕ). p.0) both, ap (λ (p : A × List ℕ). p.1) both)

abbrev pub stopped : {A : Type 0} → ℕ → Result A ℕ
stopped left = Err left

pub stopped_is : {A : Type 0} (l m : ℕ) → stopped {A = A} l ≡ stopped m → l ≡ m
stopped_is l m e = cc

pub ok_is_not_err : {A : Type 0} (x : A) (l : ℕ) → Ok x ≡ stopped l → ⊥
ok_is_not_err x l e = cc

-- a reading was found, or it stopped
pub cases : {A : Type 0} (r : Result A ℕ) → ((x : A) × (r ≡ Ok x)) ⊎ ((left : ℕ) × (r ≡ Err left))
cases (Ok x) = inl (x, refl)
cases (Err left) = inr (left, refl)

-- two readings of one text are one
pub one_reading : {A : Type 0} (L : A → List ℕ → Type 0) (r : List ℕ → Result (A × List ℕ) ℕ) → Reads L r
    → (a b : A) (s t x y : List ℕ) → L a s → L b t → s ++ x ≡ t ++ y → (a ≡ b) × (x ≡ y)
one_reading L r reads a b s t x y p q e =
    let left = reads.again a s x p in
    let right = reads.again b t y q in
    done_is a b x y (sym left ∙ ap r e ∙ right)

-- the same language in other words
pub same : {A : Type 0} (L M : A → List ℕ → Type 0) (r : List ℕ → Result (A × List ℕ) ℕ) → Reads L r
    → ((a : A) (text : List ℕ) → L a text → M a text) → ((a : A) (text : List ℕ) → M a text → L a text) → Reads M r
same L M r reads to from = record {
  again = λ a text rest h. reads.again a text rest (from a text h);
  found = λ bytes rest a e. let got = reads.found bytes rest a e in (got.0, to a got.0 got.1, got.2);
  stops = λ bytes left e. let stop = reads.stops bytes left e in record {
    front = stop.front;
    back = stop.back;
    whole = stop.whole;
    left_is = stop.left_is;
    viable = (stop.viable.0, stop.viable.1, to _ _ stop.viable.2);
    refused = λ next others more text behind a b h. stop.refused next others more text behind a b (from a text h);
  };
}

-- the same reader in other words
pub same_reader : {A : Type 0} (L : A → List ℕ → Type 0) (r s : List ℕ → Result (A × List ℕ) ℕ) → Reads L r → ((bytes : List ℕ) → s bytes ≡ r bytes) → Reads L s
same_reader L r s reads e = record {
  again = λ a text rest h. e (text ++ rest) ∙ reads.again a text rest h;
  found = λ bytes rest a f. reads.found bytes rest a (sym (e bytes) ∙ f);
  stops = λ bytes left f. reads.stops bytes left (sym (e bytes) ∙ f);
}

-- ---- no text at all

pub record Empty {A : Type 0} (one a : A) (text : List ℕ) : Type 0 where
  pub value : a ≡ one
  pub none : text ≡ []

pub reads_nothing : {A : Type 0} (one : A) → Reads (Empty one) (λ bytes. Ok (one, bytes))
reads_nothing one = record {
  again = λ a text rest h. rw (h.value, h.none) refl;
  found = λ bytes rest a e. let both = done_is one a bytes rest e in ([], record { value = sym both.0; none = refl }, both.1);
  stops = λ bytes left e. absurd (ok_is_not_err _ _ e);
}

-- ---- one text after the other

pub record Joined {A B : Type 0} (L : A → List ℕ → Type 0) (M : A → B → List ℕ → Type 0) (b : B) (text : List ℕ) : Type 0 where
  pub first : A
  pub front : List ℕ
  pub behind : List ℕ
  pub front_is : L first front
  pub behind_is : M first b behind
  pub whole : text ≡ front ++ behind

bind_ok : {A B : Type 0} (r : Result A ℕ) (f : A → Result B ℕ) (y : B) → (r >>= f) ≡ Ok y → (x : A) × (r ≡ Ok x) × (f x ≡ Ok y)
bind_ok (Ok x) f y e = (x, refl, e)
bind_ok (Err d) f y e = absurd cc

bind_err : {A B : Type 0} (r : Result A ℕ) (f : A → Result B ℕ) (left : ℕ) → (r >>= f) ≡ Err left → (r ≡ Err left) ⊎ ((x : A) × (r ≡ Ok x) × (f x ≡ Err left))
bind_err (Ok x) f left e = inr (x, refl, e)
bind_err {A} {B} (Err d) f left e = inl (ap (λ (l : ℕ). stopped {A = A} l) (stopped_is {A = B} d left e))

pub joined : {A B : Type 0} (L : A → List ℕ → Type 0) (M : A → B → List ℕ → Type 0) (r : List ℕ → Result (A × List ℕ) ℕ) (s : A → List ℕ → Result (B × List ℕ) ℕ)
    → Reads L r → ((a : A) (text : List ℕ) → L a text → Reads (M a) (s a)) → ((a : A) (text : List ℕ) → L a text → (b : B) × (more : List ℕ) × M a b more)
    → Reads (Joined L M) (λ bytes. r bytes >>= λ x. s x.0 x.1)
joined {A} {B} L M r s reads second some = record {
  again = λ b text rest j.
      let first : r (text ++ rest) ≡ Ok (j.first, j.behind ++ rest) =
      ap r (ap (λ (t : List ℕ). t ++ rest) j.whole ∙ append_assoc j.front j.behind rest) ∙ reads.again j.first j.front (j.behind ++ rest) j.front_is in
      rw first ((second j.first j.front j.front_is).again b j.behind rest j.behind_is);
  found = λ bytes rest b e.
      let got = bind_ok (r bytes) (λ x. s x.0 x.1) (b, rest) e in
      let one = reads.found bytes got.0.1 got.0.0 got.1 in
      let two = (second got.0.0 one.0 one.1).found got.0.1 rest b got.2 in (
        one.0 ++ two.0,
        record { first = got.0.0; front = one.0; behind = two.0; front_is = one.1; behind_is = two.1; whole = refl },
        one.2 ∙ ap (λ (t : List ℕ). one.0 ++ t) two.2 ∙ sym (append_assoc one.0 two.0 rest),
      );
  stops = λ bytes left e. elim (bind_err (r bytes) (λ x. s x.0 x.1) left e) [
    | inl f ↦ stop_first L M r reads some bytes left f
    | inr f ↦ stop_second L M r s reads second bytes left f.0.0 f.0.1 f.1 f.2
  ];
}
  where
    stop_first : {A B : Type 0} (L : A → List ℕ → Type 0) (M : A → B → List ℕ → Type 0) (r : List ℕ → Result (A × List ℕ) ℕ)
        → Reads L r → ((a : A) (text : List ℕ) → L a text → (b : B) × (more : List ℕ) × M a b more)
        → (bytes : List ℕ) (left : ℕ) → r bytes ≡ Err left → Stops (Joined L M) bytes left
    stop_first L M r reads some bytes left f =
        let stop = reads.stops bytes left f in
        let goes = some stop.viable.0 _ stop.viable.2 in
        record {
          front = stop.front;
          back = stop.back;
          whole = stop.whole;
          left_is = stop.left_is;
          viable = (
            goes.0,
            stop.viable.1 ++ goes.1,
            record {
              first = stop.viable.0;
              front = stop.front ++ stop.viable.1;
              behind = goes.1;
              front_is = stop.viable.2;
              behind_is = goes.2;
              whole = sym (append_assoc stop.front stop.viable.1 goes.1);
            },
          );
          refused = λ next others more text behind b back j g.
              stop.refused next others more j.front (j.behind ++ behind) j.first back j.front_is
              (sym (append_assoc j.front j.behind behind) ∙ ap (λ (t : List ℕ). t ++ behind) (sym j.whole) ∙ g);
        }

    stop_second : {A B : Type 0} (L : A → List ℕ → Type 0) (M : A → B → List ℕ → Type 0) (r : List ℕ → Result (A × List ℕ) ℕ) (s : A → List ℕ → Result (B × List ℕ) ℕ)
        → Reads L r → ((a : A) (text : List ℕ) → L a text → Reads (M a) (s a))
        → (bytes : List ℕ) (left : ℕ) (a : A) (rest : List ℕ) → r bytes ≡ Ok (a, rest) → s a rest ≡ Err left → Stops (Joined L M) bytes left
    stop_second {A} {B} L M r s reads second bytes left a rest f g =
        let one = reads.found bytes rest a f in
        let stop = (second a one.0 one.1).stops rest left g in
        record {
          front = one.0 ++ stop.front;
          back = stop.back;
          whole = one.2 ∙ ap (λ (t : List ℕ). one.0 ++ t) stop.whole ∙ sym (append_assoc one.0 stop.front stop.back);
          left_is = stop.left_is;
          viable = (
            stop.viable.0,
            stop.viable.1,
            record {
              first = a;
              front = one.0;
              behind = stop.front ++ stop.viable.1;
              front_is = one.1;
              behind_is = stop.viable.2;
              whole = append_assoc one.0 stop.front stop.viable.1;
            },
          );
          refused = λ next others more text behind b back j h.
              let split = one_reading L r reads j.first a j.front one.0 (j.behind ++ behind) (stop.front ++ next ∷ more) j.front_is one.1
              (sym (append_assoc j.front j.behind behind) ∙ ap (λ (t : List ℕ). t ++ behind) (sym j.whole) ∙ h ∙ append_assoc one.0 stop.front (next ∷ more)) in
              stop.refused next others more j.behind behind b back (subst (λ (x : A). M x b j.behind) split.0 j.behind_is) split.1;
        }

-- ---- one of two texts, neither of which begins the other

-- a longer front of one text in two splits
longer : (a b x y : List ℕ) → a ++ x ≡ b ++ y → length b ≤ length a → (mid : List ℕ) × (a ≡ b ++ mid) × (y ≡ mid ++ x)
longer a [] x y e h = (a, refl, sym e)
longer [] (c ∷ b) x y e h = absurd (omega arith)
longer (d ∷ a) (c ∷ b) x y e h =
    let heads : d ≡ c = cc in
    let tails : a ++ x ≡ b ++ y = cc in
    let rest = longer a b x y tails (omega arith) in
    let front : d ∷ a ≡ c ∷ (b ++ rest.0) = ap (λ (k : ℕ). k ∷ a) heads ∙ ap (λ (t : List ℕ). c ∷ t) rest.1 in
    (rest.0, front, rest.2)

-- what is refused stays refused further on
refused_later : {A : Type 0} (L : A → List ℕ → Type 0) (bytes : List ℕ) (left : ℕ) → Stops L bytes left
    → (front back : List ℕ) → bytes ≡ front ++ back → length back ≤ left
    → (next : ℕ) (others more text behind : List ℕ) (a : A) → back ≡ next ∷ others → L a text → text ++ behind ≡ front ++ next ∷ more → ⊥
refused_later {A} L bytes left stop front back whole few next others more text behind a is h e =
    let both : front ++ back ≡ stop.front ++ stop.back = sym whole ∙ stop.whole in
    let sizes : length front + length back ≡ length stop.front + length stop.back = sym (length-append front back) ∙ ap length both ∙ length-append stop.front stop.back in
    let left_is = stop.left_is in
    let split = longer front stop.front back stop.back both (omega arith) in
    go split.0 split.1 split.2
  where
    go : (mid : List ℕ) → front ≡ stop.front ++ mid → stop.back ≡ mid ++ back → ⊥
    go [] f b = stop.refused next others more text behind a (b ∙ is) h (e ∙ ap (λ (t : List ℕ). t ++ next ∷ more) (f ∙ append-nil stop.front))
    go (c ∷ mid) f b =
        stop.refused c (mid ++ back) (mid ++ next ∷ more) text behind a b h
        (e ∙ ap (λ (t : List ℕ). t ++ next ∷ more) f ∙ append_assoc stop.front (c ∷ mid) (next ∷ more))

-- no text of the one language begins one of the other
abbrev pub Apart : {A : Type 0} → (A → List ℕ → Type 0) → (A → List ℕ → Type 0) → Type 0
Apart {A} L M = (a b : A) (s t x y : List ℕ) → L a s → M b t → s ++ x ≡ t ++ y → ⊥

abbrev pub Or : {A : Type 0} → (A → List ℕ → Type 0) → (A → List ℕ → Type 0) → A → List ℕ → Type 0
Or L M a text = L a text ⊎ M a text

-- both stopped
both_stopped : {A : Type 0} (L M : A → List ℕ → Type 0) (bytes : List ℕ) (l m left : ℕ) → Stops L bytes l → Stops M bytes m → left ≡ min l m → Stops (Or L M) bytes left
both_stopped {A} L M bytes l m left one two e = elim (cases_lt l m) [
  | inl lt ↦ record {
    front = one.front;
    back = one.back;
    whole = one.whole;
    left_is = one.left_is ∙ omega arith;
    viable = (one.viable.0, one.viable.1, inl one.viable.2);
    refused = λ next others more text behind a b h f. elim h [
      | inl p ↦ one.refused next others more text behind a b p f
      | inr p ↦ (let size : length one.back ≤ m = (let is = one.left_is in omega arith) in refused_later M bytes m two one.front one.back one.whole size next others more text behind a b p f)
    ];
  }
  | inr le ↦ record {
    front = two.front;
    back = two.back;
    whole = two.whole;
    left_is = two.left_is ∙ omega arith;
    viable = (two.viable.0, two.viable.1, inr two.viable.2);
    refused = λ next others more text behind a b h f. elim h [
      | inl p ↦ (let size : length two.back ≤ l = (let is = two.left_is in omega arith) in refused_later L bytes l one two.front two.back two.whole size next others more text behind a b p f)
      | inr p ↦ two.refused next others more text behind a b p f
    ];
  }
]

-- how two readings make one
pub either_ok : {A : Type 0} (r s : Result (A × List ℕ) ℕ) (x : A × List ℕ) → either r s ≡ Ok x → (r ≡ Ok x) ⊎ (s ≡ Ok x)
either_ok (Ok y) s x e = inl e
either_ok (Err l) (Ok y) x e = inr e
either_ok (Err l) (Err m) x e = absurd cc

either_err : {A : Type 0} (r s : Result (A × List ℕ) ℕ) (left : ℕ) → either r s ≡ Err left → (l m : ℕ) × (r ≡ Err l) × (s ≡ Err m) × (left ≡ min l m)
either_err (Ok y) s left e = absurd cc
either_err (Err l) (Ok y) left e = absurd cc
either_err {A} (Err l) (Err m) left e = (l, m, refl, refl, sym (stopped_is {A = A × List ℕ} (min l m) left e))

pub reads_either : {A : Type 0} (L M : A → List ℕ → Type 0) (r s : List ℕ → Result (A × List ℕ) ℕ)
    → Reads L r → Reads M s → Apart L M → Reads (Or L M) (λ bytes. either (r bytes) (s bytes))
reads_either {A} L M r s one two apart = record {
  again = λ a text rest h. elim h [
    | inl p ↦ rw (one.again a text rest p) refl
    | inr p ↦ second a text rest p
  ];
  found = λ bytes rest a e. elim (either_ok (r bytes) (s bytes) (a, rest) e) [
    | inl f ↦ (let got = one.found bytes rest a f in (got.0, inl got.1, got.2))
    | inr f ↦ (let got = two.found bytes rest a f in (got.0, inr got.1, got.2))
  ];
  stops = λ bytes left e.
      let got = either_err (r bytes) (s bytes) left e in
      both_stopped L M bytes got.0 got.1 left (one.stops bytes got.0 got.2) (two.stops bytes got.1 got.3) got.4;
}
  where
    second : (a : A) (text rest : List ℕ) → M a text → either (r (text ++ rest)) (s (text ++ rest)) ≡ Ok (a, rest)
    second a text rest p = elim (cases (r (text ++ rest))) [
      | inl f ↦ (let got = one.found (text ++ rest) f.0.1 f.0.0 f.1 in absurd (apart f.0.0 a got.0 text f.0.1 rest got.1 p (sym got.2)))
      | inr f ↦ rw (f.1, two.again a text rest p) refl
    ]

-- ---- a byte of a kind

pub record IsByte (kind : ByteKind) (byte : ℕ) (text : List ℕ) : Type 0 where
  pub of_kind : is_of kind byte ≡ true
  pub alone : text ≡ byte ∷ []

byte_cases : (b : Bool) → (b ≡ true) ⊎ (b ≡ false)
byte_cases true = inl refl
byte_cases false = inr refl

byte_again : (kind : ByteKind) (byte : ℕ) (rest : List ℕ) → is_of kind byte ≡ true → byte_at kind (byte ∷ rest) ≡ Ok (byte, rest)
byte_again kind byte rest h = rw h refl

byte_refused : (kind : ByteKind) (byte : ℕ) (rest : List ℕ) → is_of kind byte ≡ false → byte_at kind (byte ∷ rest) ≡ Err (suc (length rest))
byte_refused kind byte rest h = rw h refl

byte_stops : (kind : ByteKind) (sample : ℕ) → is_of kind sample ≡ true → (bytes : List ℕ) (left : ℕ) → byte_at kind bytes ≡ Err left → Stops (IsByte kind) bytes left
byte_stops kind sample some [] left e = record {
  front = [];
  back = [];
  whole = refl;
  left_is = stopped_is {A = ℕ × List ℕ} 0 left e;
  viable = (sample, sample ∷ [], record { of_kind = some; alone = refl });
  refused = λ next others more text behind a b h f. absurd cc;
}
byte_stops kind sample some (c ∷ bytes) left e = elim (byte_cases (is_of kind c)) [
  | inl holds ↦ absurd (ok_is_not_err (c, bytes) left (sym (byte_again kind c bytes holds) ∙ e))
  | inr fails ↦ record {
    front = [];
    back = c ∷ bytes;
    whole = refl;
    left_is = stopped_is {A = ℕ × List ℕ} (suc (length bytes)) left (sym (byte_refused kind c bytes fails) ∙ e);
    viable = (sample, sample ∷ [], record { of_kind = some; alone = refl });
    refused = λ next others more text behind a b h f. refused c bytes next others more text behind a fails b h f;
  }
]
  where
    refused : (c : ℕ) (bytes : List ℕ) (next : ℕ) (others more text behind : List ℕ) (a : ℕ) → is_of kind c ≡ false → c ∷ bytes ≡ next ∷ others → IsByte kind a text
        → text ++ behind ≡ next ∷ more → ⊥
    refused c bytes next others more text behind a fails b h f =
        let holds = h.of_kind in
        let cell : a ∷ behind ≡ next ∷ more = ap (λ (t : List ℕ). t ++ behind) (sym h.alone) ∙ f in
        let here : a ≡ c = cc in
        let holds_too : is_of kind c ≡ true = subst (λ (k : ℕ). is_of kind k ≡ true) here holds in
        cc

byte_found : (kind : ByteKind) (bytes rest : List ℕ) (a : ℕ) → byte_at kind bytes ≡ Ok (a, rest) → (text : List ℕ) × IsByte kind a text × (bytes ≡ text ++ rest)
byte_found kind [] rest a e = absurd cc
byte_found kind (c ∷ bytes) rest a e = elim (byte_cases (is_of kind c)) [
  | inl holds ↦ (let both = done_is c a bytes rest (sym (byte_again kind c bytes holds) ∙ e) in (c ∷ [], record { of_kind = subst (λ (k : ℕ). is_of kind k ≡ true) both.0 holds; alone = ap (λ (k : ℕ). k ∷ []) both.0 }, ap (λ (t : List ℕ). c ∷ t) both.1))
  | inr fails ↦ absurd (ok_is_not_err (a, rest) (suc (length bytes)) (sym e ∙ byte_refused kind c bytes fails))
]

pub reads_byte : (kind : ByteKind) (sample : ℕ) → is_of kind sample ≡ true → Reads (IsByte kind) (byte_at kind)
reads_byte kind sample some = record {
  again = λ a text rest h. rw h.alone (byte_again kind a rest h.of_kind);
  found = λ bytes rest a e. byte_found kind bytes rest a e;
  stops = λ bytes left e. byte_stops kind sample some bytes left e;
}
