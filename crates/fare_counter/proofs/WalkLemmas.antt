-- What a walk over rows answers of the rows whose keys are wanted, where these have no parameter.
use Rattle.std.proofs.Common.{◌≡◌, ◌≢◌, ◌⊎◌, inl, inr, ℕ, zero, suc, ◌-◌, List, [], ◌∷◌, length, Option, Some, None, Bool, true, false, cond, refl, sym, ap, ◌∙◌, subst, arith, nat_eq, ◌==◌, ◌&&◌, ltb, bytes_eq}
use Rattle.std.proofs.lemmas.Bool.{and_parts, eqb-true, ltb-true, cond_both, cases_Bool}
use Rattle.matchit.specs.Rows.{RowsOf, param_token, catch_all_token}
use Rattle.matchit.specs.Seek.{own, step, or_else, seek, param_step, has_slash, longest_suffix, segment, with_suffix, same_text}

-- every token is a byte
abbrev pub is_plain : List ℕ → Bool
is_plain [] = true
is_plain (token ∷ tokens) = ltb token 256 && is_plain tokens

module _ {K : Type 0} (wanted : K → Bool) where
  -- a row with this key spells just this path
  abbrev pub Has : RowsOf K → List ℕ → K → Type 0
  Has [] path key = ⊥
  Has ((tokens, own_key) ∷ rest) path key = ((tokens ≡ path) × (own_key ≡ key)) ⊎ Has rest path key

  -- the wanted rows have no parameter
  abbrev pub are_plain : RowsOf K → Bool
  are_plain [] = true
  are_plain ((tokens, key) ∷ rest) = cond (wanted key) (is_plain tokens) true && are_plain rest

  -- no row is wanted
  abbrev pub NoneWanted : RowsOf K → Type 0
  NoneWanted [] = Unit {0}
  NoneWanted ((tokens, key) ∷ rest) = (wanted key ≡ false) × NoneWanted rest

  or_else-parts : (a b : Option K) (key : K) → or_else a b ≡ Some key → (a ≡ Some key) ⊎ (b ≡ Some key)
  or_else-parts None b key e = inr e
  or_else-parts (Some first) b key e = inl e

  own-has : (rows : RowsOf K) (key : K) → own rows ≡ Some key → Has rows [] key
  own-has [] key e = absurd (cc)
  own-has (([], first) ∷ rest) key e = inl (refl, cc)
  own-has ((token ∷ tokens, first) ∷ rest) key e = inr (own-has rest key e)

  step-has : (byte : ℕ) (rows : RowsOf K) (path : List ℕ) (key : K) → Has (step byte rows) path key → Has rows (byte ∷ path) key
  step-has byte [] path key has = has
  step-has byte (([], first) ∷ rest) path key has = inr (step-has byte rest path key has)
  step-has byte ((token ∷ tokens, first) ∷ rest) path key has =
      by (token == byte) refl (λ later. step-has byte rest path key later) has
    where
      by : (same : Bool) → (token == byte) ≡ same → (Has (step byte rest) path key → Has rest (byte ∷ path) key)
          → Has (cond same ((tokens, first) ∷ step byte rest) (step byte rest)) path key
          → Has ((token ∷ tokens, first) ∷ rest) (byte ∷ path) key
      by true e further (inl here) =
          let token_is : token ≡ byte = eqb-true token byte e in
          let rest_is : tokens ≡ path = here.0 in
          inl (cc, here.1)
      by true e further (inr later) = inr (further later)
      by false e further later = inr (further later)

  own-unwanted : (rows : RowsOf K) (key : K) → NoneWanted rows → own rows ≡ Some key → wanted key ≡ false
  own-unwanted [] key none e = absurd (cc)
  own-unwanted (([], first) ∷ rest) key none e = let same : first ≡ key = cc in subst (λ k. wanted k ≡ false) same none.0
  own-unwanted ((token ∷ tokens, first) ∷ rest) key none e = own-unwanted rest key none.1 e

  step-unwanted : (byte : ℕ) (rows : RowsOf K) → NoneWanted rows → NoneWanted (step byte rows)
  step-unwanted byte [] none = tt
  step-unwanted byte (([], first) ∷ rest) none = step-unwanted byte rest none.1
  step-unwanted byte ((token ∷ tokens, first) ∷ rest) none =
      elim (token == byte) as (λ same. NoneWanted (cond same ((tokens, first) ∷ step byte rest) (step byte rest))) [
        | true ↦ (none.0, step-unwanted byte rest none.1)
        | false ↦ step-unwanted byte rest none.1
      ]

  suffix-unwanted : (suffix : List ℕ) (rows : RowsOf K) → NoneWanted rows → NoneWanted (with_suffix suffix rows)
  suffix-unwanted suffix [] none = tt
  suffix-unwanted suffix ((tokens, first) ∷ rest) none =
      elim (same_text (segment tokens) suffix) as (λ same. NoneWanted (cond same ((tokens, first) ∷ with_suffix suffix rest) (with_suffix suffix rest))) [
        | true ↦ (none.0, suffix-unwanted suffix rest none.1)
        | false ↦ suffix-unwanted suffix rest none.1
      ]

  param-unwanted : (rows : RowsOf K) (path : List ℕ) → NoneWanted rows → NoneWanted (param_step rows path).1
  unfolding param_step
  param-unwanted rows path none =
      let Pair = ℕ × RowsOf K in
      cond_both (ltb 0 (length (longest_suffix (segment path) rows))) (
        length (segment path) - length (longest_suffix (segment path) rows),
        with_suffix (longest_suffix (segment path) rows) rows,
      )
      (cond (has_slash path) (0, []) (length path, rows))
      (λ (taken : ℕ × RowsOf K). NoneWanted taken.1)
      (λ e. suffix-unwanted (longest_suffix (segment path) rows) rows none)
      (λ e. cond_both (has_slash path) (0, []) (length path, rows) (λ (taken : ℕ × RowsOf K). NoneWanted taken.1) (λ e. tt) (λ e. none))

  seek-unwanted : (skip : ℕ) (rows : RowsOf K) (path : List ℕ) (key : K) → NoneWanted rows → seek skip rows path ≡ Some key → wanted key ≡ false
  unfolding seek
  seek-unwanted skip rows [] key none e = own-unwanted rows key none e
  seek-unwanted (suc skip) rows (byte ∷ path) key none e = seek-unwanted skip rows path key none e
  seek-unwanted zero rows (byte ∷ path) key none e =
      let after = step param_token rows in
      let taken = param_step after (byte ∷ path) in
      elim (or_else-parts (seek 0 (step byte rows) path) (or_else (seek (taken.0 - 1) taken.1 path) (own (step catch_all_token rows))) key e) [
        | inl by_byte ↦ seek-unwanted 0 (step byte rows) path key (step-unwanted byte rows none) by_byte
        | inr further ↦ elim (or_else-parts (seek (taken.0 - 1) taken.1 path) (own (step catch_all_token rows)) key further) [
          | inl by_param ↦ seek-unwanted (taken.0 - 1) taken.1 path key (param-unwanted after (byte ∷ path) (step-unwanted param_token rows none)) by_param
          | inr by_rest ↦ own-unwanted (step catch_all_token rows) key (step-unwanted catch_all_token rows none) by_rest
        ]
      ]

  step-plain : (byte : ℕ) (rows : RowsOf K) → are_plain rows ≡ true → are_plain (step byte rows) ≡ true
  step-plain byte [] plain = refl
  step-plain byte (([], first) ∷ rest) plain = step-plain byte rest (and_parts _ _ plain).1
  step-plain byte ((token ∷ tokens, first) ∷ rest) plain =
      let parts = and_parts (cond (wanted first) (is_plain (token ∷ tokens)) true) (are_plain rest) plain in
      let later = step-plain byte rest parts.1 in
      elim (token == byte) as (λ same. are_plain (cond same ((tokens, first) ∷ step byte rest) (step byte rest)) ≡ true) [
        | true ↦ rw later (by (wanted first) parts.0)
        | false ↦ later
      ]
    where
      by : (is : Bool) → cond is (ltb token 256 && is_plain tokens) true ≡ true → (cond is (is_plain tokens) true && true) ≡ true
      by true e = let plain : is_plain tokens ≡ true = (and_parts (ltb token 256) (is_plain tokens) e).1 in rw plain refl
      by false e = refl

  special-unwanted : (special : ℕ) (rows : RowsOf K) → ltb special 256 ≡ false → are_plain rows ≡ true → NoneWanted (step special rows)
  special-unwanted special [] above plain = tt
  special-unwanted special (([], first) ∷ rest) above plain = special-unwanted special rest above (and_parts _ _ plain).1
  special-unwanted special ((token ∷ tokens, first) ∷ rest) above plain =
      let parts = and_parts (cond (wanted first) (is_plain (token ∷ tokens)) true) (are_plain rest) plain in
      let later = special-unwanted special rest above parts.1 in
      by (token == special) (wanted first) refl refl parts.0 later
    where
      by : (same is : Bool) → (token == special) ≡ same → wanted first ≡ is → cond is (ltb token 256 && is_plain tokens) true ≡ true
          → NoneWanted (step special rest) → NoneWanted (cond same ((tokens, first) ∷ step special rest) (step special rest))
      by true false e w p later = (w, later)
      by true true e w p later =
          let t : token ≡ special = eqb-true token special e in
          let below : ltb token 256 ≡ true = (and_parts _ _ p).0 in
          let no : ltb token 256 ≡ false = subst (λ x. ltb x 256 ≡ false) (sym t) above in
          absurd (cc)
      by false is e w p later = later

  -- the key that a walk answers, where it is wanted, is that of a row that spells the path
  pub seek-has : (rows : RowsOf K) (path : List ℕ) (key : K) → are_plain rows ≡ true → wanted key ≡ true → seek 0 rows path ≡ Some key → Has rows path key
  unfolding seek
  seek-has rows [] key plain is e = own-has rows key e
  seek-has rows (byte ∷ path) key plain is e =
      let after = step param_token rows in
      let taken = param_step after (byte ∷ path) in
      elim (or_else-parts (seek 0 (step byte rows) path) (or_else (seek (taken.0 - 1) taken.1 path) (own (step catch_all_token rows))) key e) [
        | inl by_byte ↦ step-has byte rows path key (seek-has (step byte rows) path key (step-plain byte rows plain) is by_byte)
        | inr further ↦ elim (or_else-parts (seek (taken.0 - 1) taken.1 path) (own (step catch_all_token rows)) key further) [
          | inl by_param ↦
              let no : wanted key ≡ false = seek-unwanted (taken.0 - 1) taken.1 path key (param-unwanted after (byte ∷ path) (special-unwanted param_token rows refl plain)) by_param in
              absurd (cc)
          | inr by_rest ↦
              let no : wanted key ≡ false = own-unwanted (step catch_all_token rows) key (special-unwanted catch_all_token rows refl plain) by_rest in
              absurd (cc)
        ]
      ]
