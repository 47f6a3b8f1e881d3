-- Readings of two to four texts, one behind the other, of which one value is made.
use Rattle.std.proofs.Common.{◌≡◌, ◌∙◌, ℕ, Bool, true, ◌==◌, List, [], ◌∷◌, ◌++◌, Result, Ok, refl, sym, ap, subst}
use Rattle.std.proofs.lemmas.Bool.{eq-eqb, eqb-true}
use Rattle.fare_line.specs.declared.reading.byte_kind.ByteKind.{ByteKind}
use Rattle.fare_line.specs.declared.reading.byte_kind.ByteKind.TheVariants.{This}
use Rattle.fare_line.specs.reader.Reading.{◌>>=◌, byte_at, is_of, word_at}
use Rattle.fare_line.proofs.Readers.{Reads, Joined, IsByte, joined, same, reads_byte}
use Rattle.fare_line.proofs.Words.{Mapped, IsWord, mapped, reads_word}
use Rattle.fare_line.proofs.Amounts.{IsText}

-- a byte of a kind, as a text
pub reads_one : (kind : ByteKind) (sample : ℕ) → is_of kind sample ≡ true → Reads (IsText (is_of kind) (λ (b : ℕ). b ∷ [])) (byte_at kind)
reads_one kind sample some =
    same (IsByte kind) (IsText (is_of kind) (λ (b : ℕ). b ∷ [])) (byte_at kind) (reads_byte kind sample some)
    (λ b text h. record { valid = h.of_kind; spelled = h.alone }) (λ b text h. record { of_kind = h.valid; alone = h.spelled })

-- one byte alone
pub reads_this : (byte : ℕ) → Reads (IsText (λ (b : ℕ). b == byte) (λ (b : ℕ). byte ∷ [])) (byte_at (This byte))
reads_this byte =
    same (IsByte (This byte)) (IsText (λ (b : ℕ). b == byte) (λ (b : ℕ). byte ∷ [])) (byte_at (This byte)) (reads_byte (This byte) byte (eq-eqb byte byte refl))
    (λ b text h. record { valid = h.of_kind; spelled = h.alone ∙ ap (λ (k : ℕ). k ∷ []) (eqb-true b byte h.of_kind) })
    (λ b text h. record { of_kind = h.valid; alone = h.spelled ∙ ap (λ (k : ℕ). k ∷ []) (sym (eqb-true b byte h.valid)) })

-- a word, as a text
pub reads_words : (word : List ℕ) → Reads (IsText (λ (u : Unit {0}). true) (λ (u : Unit {0}). word)) (word_at word)
reads_words word =
    same (IsWord word) (IsText (λ (u : Unit {0}). true) (λ (u : Unit {0}). word)) (word_at word) (reads_word word)
    (λ u text h. record { valid = refl; spelled = h }) (λ u text h. h.spelled)

-- what holds of a value and a text holds of equal ones
moved : {D : Type 0} (L : D → List ℕ → Type 0) (d e : D) (x y : List ℕ) → e ≡ d → y ≡ x → L d x → L e y
moved {D} L d e x y p q h = subst (λ (k : D). L k y) (sym p) (subst (λ (k : List ℕ). L d k) (sym q) h)

-- one text, of which a value is made
pub record Split1 {A D : Type 0} (v : A → Bool) (t : A → List ℕ) (f : A → D) (e : D) (text : List ℕ) : Type 0 where
  pub a : A
  pub a_is : v a ≡ true
  pub value : e ≡ f a
  pub whole : text ≡ t a

pub chain1 : {A D : Type 0} (v : A → Bool) (t : A → List ℕ) (f : A → D) (L : D → List ℕ → Type 0) (r : List ℕ → Result (A × List ℕ) ℕ)
    → Reads (IsText v t) r
    → ((a : A) → v a ≡ true → L (f a) (t a))
    → ((e : D) (text : List ℕ) → L e text → Split1 v t f e text)
    → Reads L (λ bytes. r bytes >>= λ x. Ok (f x.0, x.1))
chain1 {A} {D} v t f L r reads to from =
    same (Mapped (IsText v t) f) L (λ bytes. r bytes >>= λ x. Ok (f x.0, x.1)) (mapped (IsText v t) f r reads)
    (λ e text m. moved L (f m.origin) e (t m.origin) text m.value m.is.spelled (to m.origin m.is.valid))
    (λ e text h. let s = from e text h in record { origin = s.a; is = record { valid = s.a_is; spelled = s.whole }; value = s.value })

-- two texts
pub record Split2 {A B D : Type 0} (v : A → Bool) (t : A → List ℕ) (w : B → Bool) (u : B → List ℕ) (f : A → B → D) (e : D) (text : List ℕ) : Type 0 where
  pub a : A
  pub b : B
  pub a_is : v a ≡ true
  pub b_is : w b ≡ true
  pub value : e ≡ f a b
  pub whole : text ≡ t a ++ u b

pub chain2 : {A B D : Type 0} (v : A → Bool) (t : A → List ℕ) (w : B → Bool) (u : B → List ℕ) (f : A → B → D) (L : D → List ℕ → Type 0)
    (r : List ℕ → Result (A × List ℕ) ℕ) (s : List ℕ → Result (B × List ℕ) ℕ)
    → Reads (IsText v t) r → Reads (IsText w u) s → (b : B) → w b ≡ true
    → ((a : A) (b : B) → v a ≡ true → w b ≡ true → L (f a b) (t a ++ u b))
    → ((e : D) (text : List ℕ) → L e text → Split2 v t w u f e text)
    → Reads L (λ bytes. r bytes >>= λ x. (s x.1 >>= λ y. Ok (f x.0 y.0, y.1)))
chain2 {A} {B} {D} v t w u f L r s reads others b some to from =
    same (Joined (IsText v t) (λ (a : A). Mapped (IsText w u) (f a))) L (λ bytes. r bytes >>= λ x. (s x.1 >>= λ y. Ok (f x.0 y.0, y.1)))
    (joined (IsText v t) (λ (a : A). Mapped (IsText w u) (f a)) r (λ (a : A) (rest : List ℕ). s rest >>= λ y. Ok (f a y.0, y.1)) reads
    (λ a text h. mapped (IsText w u) (f a) s others)
    (λ a text h. (f a b, u b, record { origin = b; is = record { valid = some; spelled = refl }; value = refl })))
    (λ e text j. moved L (f j.first j.behind_is.origin) e (t j.first ++ u j.behind_is.origin) text j.behind_is.value (j.whole ∙ rw (j.front_is.spelled, j.behind_is.is.spelled) refl) (to j.first j.behind_is.origin j.front_is.valid j.behind_is.is.valid))
    (λ e text h. let p = from e text h in record {
      first = p.a;
      front = t p.a;
      behind = u p.b;
      front_is = record { valid = p.a_is; spelled = refl };
      behind_is = record { origin = p.b; is = record { valid = p.b_is; spelled = refl }; value = p.value };
      whole = p.whole;
    })

-- three texts
pub record Split3 {A B C D : Type 0} (v1 : A → Bool) (t1 : A → List ℕ) (v2 : B → Bool) (t2 : B → List ℕ) (v3 : C → Bool) (t3 : C → List ℕ) (f : A → B → C → D) (e : D) (text : List ℕ) : Type 0 where
  pub a : A
  pub b : B
  pub c : C
  pub a_is : v1 a ≡ true
  pub b_is : v2 b ≡ true
  pub c_is : v3 c ≡ true
  pub value : e ≡ f a b c
  pub whole : text ≡ t1 a ++ (t2 b ++ t3 c)

pub chain3 : {A B C D : Type 0} (v1 : A → Bool) (t1 : A → List ℕ) (v2 : B → Bool) (t2 : B → List ℕ) (v3 : C → Bool) (t3 : C → List ℕ) (f : A → B → C → D) (L : D → List ℕ → Type 0)
    (r1 : List ℕ → Result (A × List ℕ) ℕ) (r2 : List ℕ → Result (B × List ℕ) ℕ) (r3 : List ℕ → Result (C × List ℕ) ℕ)
    → Reads (IsText v1 t1) r1 → Reads (IsText v2 t2) r2 → Reads (IsText v3 t3) r3 → (b : B) → v2 b ≡ true → (c : C) → v3 c ≡ true
    → ((a : A) (b : B) (c : C) → v1 a ≡ true → v2 b ≡ true → v3 c ≡ true → L (f a b c) (t1 a ++ (t2 b ++ t3 c)))
    → ((e : D) (text : List ℕ) → L e text → Split3 v1 t1 v2 t2 v3 t3 f e text)
    → Reads L (λ bytes. r1 bytes >>= λ x. (r2 x.1 >>= λ y. (r3 y.1 >>= λ z. Ok (f x.0 y.0 z.0, z.1))))
chain3 {A} {B} {C} {D} v1 t1 v2 t2 v3 t3 f L r1 r2 r3 one two three b some_b c some_c to from =
    same (Joined (IsText v1 t1) (λ (a : A). Joined (IsText v2 t2) (λ (b : B). Mapped (IsText v3 t3) (f a b)))) L
    (λ bytes. r1 bytes >>= λ x. (r2 x.1 >>= λ y. (r3 y.1 >>= λ z. Ok (f x.0 y.0 z.0, z.1))))
    (joined (IsText v1 t1) (λ (a : A). Joined (IsText v2 t2) (λ (b : B). Mapped (IsText v3 t3) (f a b))) r1
    (λ (a : A) (rest : List ℕ). r2 rest >>= λ y. (r3 y.1 >>= λ z. Ok (f a y.0 z.0, z.1))) one
    (λ a text h. joined (IsText v2 t2) (λ (b : B). Mapped (IsText v3 t3) (f a b)) r2 (λ (b : B) (rest : List ℕ). r3 rest >>= λ z. Ok (f a b z.0, z.1)) two
    (λ b text h. mapped (IsText v3 t3) (f a b) r3 three)
    (λ b text h. (f a b c, t3 c, record { origin = c; is = record { valid = some_c; spelled = refl }; value = refl })))
    (λ a text h. (
      f a b c,
      t2 b ++ t3 c,
      record {
        first = b;
        front = t2 b;
        behind = t3 c;
        front_is = record { valid = some_b; spelled = refl };
        whole = refl;
        behind_is = record { origin = c; is = record { valid = some_c; spelled = refl }; value = refl };
      },
    )))
    (λ e text j. let k = j.behind_is in let m = k.behind_is in
    moved L (f j.first k.first m.origin) e (t1 j.first ++ (t2 k.first ++ t3 m.origin)) text m.value
    (j.whole ∙ rw (j.front_is.spelled, k.whole, k.front_is.spelled, m.is.spelled) refl) (to j.first k.first m.origin j.front_is.valid k.front_is.valid m.is.valid))
    (λ e text h. let p = from e text h in record {
      first = p.a;
      front = t1 p.a;
      behind = t2 p.b ++ t3 p.c;
      front_is = record { valid = p.a_is; spelled = refl };
      whole = p.whole;
      behind_is = record {
        first = p.b;
        front = t2 p.b;
        behind = t3 p.c;
        front_is = record { valid = p.b_is; spelled = refl };
        whole = refl;
        behind_is = record { origin = p.c; is = record { valid = p.c_is; spelled = refl }; value = p.value };
      };
    })

-- four texts
pub record Split4 {A B C D E : Type 0} (v1 : A → Bool) (t1 : A → List ℕ) (v2 : B → Bool) (t2 : B → List ℕ) (v3 : C → Bool) (t3 : C → List ℕ) (v4 : D → Bool) (t4 : D → List ℕ) (f : A → B → C → D → E) (e : E) (text : List ℕ) : Type 0 where
  pub a : A
  pub b : B
  pub c : C
  pub d : D
  pub a_is : v1 a ≡ true
  pub b_is : v2 b ≡ true
  pub c_is : v3 c ≡ true
  pub d_is : v4 d ≡ true
  pub value : e ≡ f a b c d
  pub whole : text ≡ t1 a ++ (t2 b ++ (t3 c ++ t4 d))

pub chain4 : {A B C D E : Type 0} (v1 : A → Bool) (t1 : A → List ℕ) (v2 : B → Bool) (t2 : B → List ℕ) (v3 : C → Bool) (t3 : C → List ℕ) (v4 : D → Bool) (t4 : D → List ℕ) (f : A → B → C → D → E) (L : E → List ℕ → Type 0)
    (r1 : List ℕ → Result (A × List ℕ) ℕ) (r2 : List ℕ → Result (B × List ℕ) ℕ) (r3 : List ℕ → Result (C × List ℕ) ℕ) (r4 : List ℕ → Result (D × List ℕ) ℕ)
    → Reads (IsText v1 t1) r1 → Reads (IsText v2 t2) r2 → Reads (IsText v3 t3) r3 → Reads (IsText v4 t4) r4
    → (b : B) → v2 b ≡ true → (c : C) → v3 c ≡ true → (d : D) → v4 d ≡ true
    → ((a : A) (b : B) (c : C) (d : D) → v1 a ≡ true → v2 b ≡ true → v3 c ≡ true → v4 d ≡ true → L (f a b c d) (t1 a ++ (t2 b ++ (t3 c ++ t4 d))))
    → ((e : E) (text : List ℕ) → L e text → Split4 v1 t1 v2 t2 v3 t3 v4 t4 f e text)
    → Reads L (λ bytes. r1 bytes >>= λ x. (r2 x.1 >>= λ y. (r3 y.1 >>= λ z. (r4 z.1 >>= λ w. Ok (f x.0 y.0 z.0 w.0, w.1)))))
chain4 {A} {B} {C} {D} {E} v1 t1 v2 t2 v3 t3 v4 t4 f L r1 r2 r3 r4 one two three four b some_b c some_c d some_d to from =
    same (Joined (IsText v1 t1) (λ (a : A). Joined (IsText v2 t2) (λ (b : B). Joined (IsText v3 t3) (λ (c : C). Mapped (IsText v4 t4) (f a b c))))) L
    (λ bytes. r1 bytes >>= λ x. (r2 x.1 >>= λ y. (r3 y.1 >>= λ z. (r4 z.1 >>= λ w. Ok (f x.0 y.0 z.0 w.0, w.1)))))
    (joined (IsText v1 t1) (λ (a : A). Joined (IsText v2 t2) (λ (b : B). Joined (IsText v3 t3) (λ (c : C). Mapped (IsText v4 t4) (f a b c)))) r1
    (λ (a : A) (rest : List ℕ). r2 rest >>= λ y. (r3 y.1 >>= λ z. (r4 z.1 >>= λ w. Ok (f a y.0 z.0 w.0, w.1)))) one
    (λ a text h. joined (IsText v2 t2) (λ (b : B). Joined (IsText v3 t3) (λ (c : C). Mapped (IsText v4 t4) (f a b c))) r2
    (λ (b : B) (rest : List ℕ). r3 rest >>= λ z. (r4 z.1 >>= λ w. Ok (f a b z.0 w.0, w.1))) two
    (λ b text h. joined (IsText v3 t3) (λ (c : C). Mapped (IsText v4 t4) (f a b c)) r3 (λ (c : C) (rest : List ℕ). r4 rest >>= λ w. Ok (f a b c w.0, w.1)) three
    (λ c text h. mapped (IsText v4 t4) (f a b c) r4 four)
    (λ c text h. (f a b c d, t4 d, record { origin = d; is = record { valid = some_d; spelled = refl }; value = refl })))
    (λ b text h. (
      f a b c d,
      t3 c ++ t4 d,
      record {
        first = c;
        front = t3 c;
        behind = t4 d;
        front_is = record { valid = some_c; spelled = refl };
        whole = refl;
        behind_is = record { origin = d; is = record { valid = some_d; spelled = refl }; value = refl };
      },
    )))
    (λ a text h. (
      f a b c d,
      t2 b ++ (t3 c ++ t4 d),
      record {
        first = b;
        front = t2 b;
        behind = t3 c ++ t4 d;
        front_is = record { valid = some_b; spelled = refl };
        whole = refl;
        behind_is = record {
          first = c;
          front = t3 c;
          behind = t4 d;
          front_is = record { valid = some_c; spelled = refl };
          whole = refl;
          behind_is = record { origin = d; is = record { valid = some_d; spelled = refl }; value = refl };
        };
      },
    )))
    (λ e text j. let k = j.behind_is in let m = k.behind_is in let n = m.behind_is in
    moved L (f j.first k.first m.first n.origin) e (t1 j.first ++ (t2 k.first ++ (t3 m.first ++ t4 n.origin))) text n.value
    (j.whole ∙ rw (j.front_is.spelled, k.whole, k.front_is.spelled, m.whole, m.front_is.spelled, n.is.spelled) refl)
    (to j.first k.first m.first n.origin j.front_is.valid k.front_is.valid m.front_is.valid n.is.valid))
    (λ e text h. let p = from e text h in record {
      first = p.a;
      front = t1 p.a;
      behind = t2 p.b ++ (t3 p.c ++ t4 p.d);
      front_is = record { valid = p.a_is; spelled = refl };
      whole = p.whole;
      behind_is = record {
        first = p.b;
        front = t2 p.b;
        behind = t3 p.c ++ t4 p.d;
        front_is = record { valid = p.b_is; spelled = refl };
        whole = refl;
        behind_is = record {
          first = p.c;
          front = t3 p.c;
          behind = t4 p.d;
          front_is = record { valid = p.c_is; spelled = refl };
          whole = refl;
          behind_is = record { origin = p.d; is = record { valid = p.d_is; spelled = refl }; value = p.value };
        };
      };
    })
