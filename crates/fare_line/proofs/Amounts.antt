-- Amounts, rates and units, as they are read.
use Rattle.std.proofs.Common.{◌≡◌, ◌∙◌, ◌<◌, ◌≤◌, ◌+◌, ◌-◌, ◌*◌, ◌/◌, ◌%◌, ◌^◌, ℕ, zero, suc, Bool, true, List, [], ◌∷◌, ◌++◌, get_or, Ok, decimal, codes, refl, sym, ap, arith, append_assoc, lit≤}
use Rattle.std.proofs.lemmas.Bool.Decides.{nat_tests}
use Rattle.std.proofs.lemmas.Bool.{ltb-true, lt-ltb}
use Rattle.std.specs.Fmt.{digits}
use Rattle.fare_codes.specs.Numbers.{nuc_text, rate_text, decimal_text, last_digits}
use Rattle.fare_line.specs.Line.{is_amount, is_rate, is_unit}
use Rattle.fare_line.specs.LineText.{spaced}
use Rattle.fare_line.specs.reader.Reading.{◌>>=◌, whole_at, hundredths_at, amount_at, rate_at, unit_at, one_of, later_units}
use Rattle.fare_line.proofs.Readers.{Reads, Joined, joined, same}
use Rattle.fare_line.proofs.Words.{Mapped, IsOneOf, mapped, reads_one_of}
use Rattle.fare_line.proofs.Numerals.{IsWhole, IsHundredths, reads_whole, reads_hundredths}

-- a value that passes a test, with its text
pub record IsText {A : Type 0} (test : A → Bool) (text_of : A → List ℕ) (a : A) (text : List ℕ) : Type 0 where
  pub valid : test a ≡ true
  pub spelled : text ≡ text_of a

-- an amount in its pieces
pub nuc_is : (n w x : ℕ) → n ≡ 100 * w + x → x < 100 → (decimal w ++ 46 ∷ []) ++ ((48 + x / 10) ∷ (48 + x % 10) ∷ []) ≡ nuc_text n
unfolding decimal_text last_digits
nuc_is n w x value below =
    let whole : n / 100 ≡ w = omega arith in
    let tens : n / 10 % 10 ≡ x / 10 = omega arith in
    let ones : n % 10 ≡ x % 10 = omega arith in
    append_assoc (decimal w) (46 ∷ []) ((48 + x / 10) ∷ (48 + x % 10) ∷ [])
    ∙ ap (λ (k : ℕ). decimal k ++ 46 ∷ (48 + x / 10) ∷ (48 + x % 10) ∷ []) (sym whole)
    ∙ ap (λ (k : ℕ). decimal (n / 100) ++ 46 ∷ (48 + k) ∷ (48 + x % 10) ∷ []) (sym tens)
    ∙ ap (λ (k : ℕ). decimal (n / 100) ++ 46 ∷ (48 + n / 10 % 10) ∷ (48 + k) ∷ []) (sym ones)

pub reads_amount : Reads (IsText is_amount nuc_text) amount_at
unfolding amount_at
reads_amount =
    same (Joined (IsWhole 100_000_000) (λ (w : ℕ). Mapped IsHundredths (λ (x : ℕ). 100 * w + x))) (IsText is_amount nuc_text) amount_at
    (joined (IsWhole 100_000_000) (λ (w : ℕ). Mapped IsHundredths (λ (x : ℕ). 100 * w + x)) (whole_at 100_000_000) (λ (w : ℕ) (rest : List ℕ). hundredths_at rest >>= λ x. Ok (100 * w + x.0, x.1))
    (reads_whole 100_000_000 (lit≤ tt) (lit≤ tt)) (λ w text h. mapped IsHundredths (λ (x : ℕ). 100 * w + x) hundredths_at reads_hundredths)
    (λ w text h. (100 * w + 0, 48 ∷ 48 ∷ [], record { origin = 0; is = record { below = omega arith; spelled = refl }; value = refl })))
    (λ n text j.
    let whole = j.front_is.below in
    let places = j.behind_is.is.below in
    let value = j.behind_is.value in
    record {
      valid = lt-ltb n (10 ^ 11) (omega arith);
      spelled = j.whole ∙ ap (λ (t : List ℕ). t ++ j.behind) j.front_is.spelled ∙ ap (λ (t : List ℕ). (decimal j.first ++ 46 ∷ []) ++ t) j.behind_is.is.spelled
          ∙ nuc_is n j.first j.behind_is.origin value places;
    })
    (λ n text h.
    let below : n < 10 ^ 11 = ltb-true n (10 ^ 11) h.valid in
    record {
      first = n / 100;
      front = decimal (n / 100) ++ 46 ∷ [];
      behind = (48 + n % 100 / 10) ∷ (48 + n % 100 % 10) ∷ [];
      front_is = record { below = omega arith; spelled = refl };
      behind_is = record { origin = n % 100; is = record { below = omega arith; spelled = refl }; value = omega arith };
      whole = h.spelled ∙ sym (nuc_is n (n / 100) (n % 100) (omega arith) (omega arith));
    })

-- a rate in its pieces
record Places (n w a b c : ℕ) : Type 0 where
  whole : n / 1_000_000 ≡ w
  first : n / 10 / 10 / 10 / 10 / 10 % 10 ≡ a / 10
  second : n / 10 / 10 / 10 / 10 % 10 ≡ a % 10
  third : n / 10 / 10 / 10 % 10 ≡ b / 10
  fourth : n / 10 / 10 % 10 ≡ b % 10
  fifth : n / 10 % 10 ≡ c / 10
  sixth : n % 10 ≡ c % 10

places : (n w a b c : ℕ) → n ≡ 1_000_000 * w + 10_000 * a + 100 * b + c → a < 100 → b < 100 → c < 100 → Places n w a b c
places n w a b c value x y z =
    let one : n / 10 / 10 ≡ 10_000 * w + 100 * a + b = omega arith in
    let two : n / 10 / 10 / 10 / 10 ≡ 100 * w + a = omega arith in
    record {
      whole = omega arith;
      first = omega arith;
      second = omega arith;
      third = omega arith;
      fourth = omega arith;
      fifth = omega arith;
      sixth = omega arith;
    }

-- the units, as they are written
unit_word : (i : ℕ) → i ≤ 15 → get_or (codes "1 " ∷ later_units) i [] ≡ spaced (decimal (i + 1))
unfolding digits
unit_word zero h = refl
unit_word (suc zero) h = refl
unit_word (suc (suc zero)) h = refl
unit_word (suc (suc (suc zero))) h = refl
unit_word (suc (suc (suc (suc zero)))) h = refl
unit_word (suc (suc (suc (suc (suc zero))))) h = refl
unit_word (suc (suc (suc (suc (suc (suc zero)))))) h = refl
unit_word (suc (suc (suc (suc (suc (suc (suc zero))))))) h = refl
unit_word (suc (suc (suc (suc (suc (suc (suc (suc zero)))))))) h = refl
unit_word (suc (suc (suc (suc (suc (suc (suc (suc (suc zero))))))))) h = refl
unit_word (suc (suc (suc (suc (suc (suc (suc (suc (suc (suc zero)))))))))) h = refl
unit_word (suc (suc (suc (suc (suc (suc (suc (suc (suc (suc (suc zero))))))))))) h = refl
unit_word (suc (suc (suc (suc (suc (suc (suc (suc (suc (suc (suc (suc zero)))))))))))) h = refl
unit_word (suc (suc (suc (suc (suc (suc (suc (suc (suc (suc (suc (suc (suc zero))))))))))))) h = refl
unit_word (suc (suc (suc (suc (suc (suc (suc (suc (suc (suc (suc (suc (suc (suc zero)))))))))))))) h = refl
unit_word (suc (suc (suc (suc (suc (suc (suc (suc (suc (suc (suc (suc (suc (suc (suc zero))))))))))))))) h = refl
unit_word (suc (suc (suc (suc (suc (suc (suc (suc (suc (suc (suc (suc (suc (suc (suc (suc n)))))))))))))))) h = absurd (omega arith)

pub unit_range : (u : ℕ) → is_unit u ≡ true → (1 ≤ u) × (u ≤ 16)
unit_range u h = (grind (arith, nat_tests), grind (arith, nat_tests))

unit_from : (u : ℕ) → 1 ≤ u → u ≤ 16 → is_unit u ≡ true
unit_from u low high = grind (arith, nat_tests)

pub reads_unit : Reads (IsText is_unit (λ (u : ℕ). spaced (decimal u))) unit_at
unfolding unit_at
reads_unit =
    same (Mapped (IsOneOf (codes "1 ") later_units) (λ (i : ℕ). i + 1)) (IsText is_unit (λ (u : ℕ). spaced (decimal u))) unit_at
    (mapped (IsOneOf (codes "1 ") later_units) (λ (i : ℕ). i + 1) (one_of (codes "1 ") later_units) (reads_one_of (codes "1 ") later_units refl))
    (λ u text m. let index = m.is.index in record {
      valid = unit_from u (omega (arith, m.value)) (omega (arith, m.value));
      spelled = m.is.word_is ∙ unit_word m.origin index ∙ ap (λ (k : ℕ). spaced (decimal k)) (sym m.value);
    })
    (λ u text h.
    let range = unit_range u h.valid in
    let back : u - 1 + 1 ≡ u = omega (arith, range.0) in
    record {
      origin = u - 1;
      is = record { index = omega (arith, range.1); word_is = h.spelled ∙ ap (λ (k : ℕ). spaced (decimal k)) (sym back) ∙ sym (unit_word (u - 1) (omega (arith, range.1))) };
      value = sym back;
    })

pub rate_is : (n w a b c : ℕ) → n ≡ 1_000_000 * w + 10_000 * a + 100 * b + c → a < 100 → b < 100 → c < 100
    → (decimal w ++ 46 ∷ []) ++ (((48 + a / 10) ∷ (48 + a % 10) ∷ []) ++ (((48 + b / 10) ∷ (48 + b % 10) ∷ []) ++ ((48 + c / 10) ∷ (48 + c % 10) ∷ []))) ≡ rate_text n
unfolding decimal_text last_digits
rate_is n w a b c value x y z =
    let p = places n w a b c value x y z in
    append_assoc (decimal w) (46 ∷ []) _
    ∙ ap (λ (k : ℕ). decimal k ++ 46 ∷ (48 + a / 10) ∷ (48 + a % 10) ∷ (48 + b / 10) ∷ (48 + b % 10) ∷ (48 + c / 10) ∷ (48 + c % 10) ∷ []) (sym p.whole)
    ∙ ap (λ (t : List ℕ). decimal (n / 1_000_000) ++ 46 ∷ t) (six a b c p)
  where
    six : (a b c : ℕ) → Places n w a b c → (48 + a / 10) ∷ (48 + a % 10) ∷ (48 + b / 10) ∷ (48 + b % 10) ∷ (48 + c / 10) ∷ (48 + c % 10) ∷ []
        ≡ (48 + n / 10 / 10 / 10 / 10 / 10 % 10) ∷ (48 + n / 10 / 10 / 10 / 10 % 10) ∷ (48 + n / 10 / 10 / 10 % 10) ∷ (48 + n / 10 / 10 % 10) ∷ (48 + n / 10 % 10) ∷ (48 + n % 10) ∷ []
    six a b c p = rw (p.first, p.second, p.third, p.fourth, p.fifth, p.sixth) refl

abbrev Rate : ℕ → List ℕ → Type 0
Rate = Joined (IsWhole 1_000_000) (λ (w : ℕ). Joined IsHundredths (λ (a : ℕ). Joined IsHundredths (λ (b : ℕ). Mapped IsHundredths (λ (c : ℕ). 1_000_000 * w + 10_000 * a + 100 * b + c))))

nil_places : IsHundredths 0 (48 ∷ 48 ∷ [])
nil_places = record { below = omega arith; spelled = refl }

reads_last : (w a b : ℕ) → Reads (Mapped IsHundredths (λ (c : ℕ). 1_000_000 * w + 10_000 * a + 100 * b + c)) (λ rest. hundredths_at rest >>= λ x. Ok (1_000_000 * w + 10_000 * a + 100 * b + x.0, x.1))
reads_last w a b = mapped IsHundredths (λ (c : ℕ). 1_000_000 * w + 10_000 * a + 100 * b + c) hundredths_at reads_hundredths

reads_second : (w a : ℕ) → Reads (Joined IsHundredths (λ (b : ℕ). Mapped IsHundredths (λ (c : ℕ). 1_000_000 * w + 10_000 * a + 100 * b + c)))
    (λ rest. hundredths_at rest >>= λ x. (hundredths_at x.1 >>= λ y. Ok (1_000_000 * w + 10_000 * a + 100 * x.0 + y.0, y.1)))
reads_second w a =
    joined IsHundredths (λ (b : ℕ). Mapped IsHundredths (λ (c : ℕ). 1_000_000 * w + 10_000 * a + 100 * b + c)) hundredths_at
    (λ (b : ℕ) (rest : List ℕ). hundredths_at rest >>= λ y. Ok (1_000_000 * w + 10_000 * a + 100 * b + y.0, y.1)) reads_hundredths (λ b text h. reads_last w a b)
    (λ b text h. (1_000_000 * w + 10_000 * a + 100 * b + 0, 48 ∷ 48 ∷ [], record { origin = 0; is = nil_places; value = refl }))

reads_first : (w : ℕ) → Reads (Joined IsHundredths (λ (a : ℕ). Joined IsHundredths (λ (b : ℕ). Mapped IsHundredths (λ (c : ℕ). 1_000_000 * w + 10_000 * a + 100 * b + c))))
    (λ rest. hundredths_at rest >>= λ z. (hundredths_at z.1 >>= λ x. (hundredths_at x.1 >>= λ y. Ok (1_000_000 * w + 10_000 * z.0 + 100 * x.0 + y.0, y.1))))
reads_first w =
    joined IsHundredths (λ (a : ℕ). Joined IsHundredths (λ (b : ℕ). Mapped IsHundredths (λ (c : ℕ). 1_000_000 * w + 10_000 * a + 100 * b + c))) hundredths_at
    (λ (a : ℕ) (rest : List ℕ). hundredths_at rest >>= λ x. (hundredths_at x.1 >>= λ y. Ok (1_000_000 * w + 10_000 * a + 100 * x.0 + y.0, y.1))) reads_hundredths (λ a text h. reads_second w a)
    (λ a text h. (
      1_000_000 * w + 10_000 * a + 100 * 0 + 0,
      48 ∷ 48 ∷ 48 ∷ 48 ∷ [],
      record {
        first = 0;
        front = 48 ∷ 48 ∷ [];
        behind = 48 ∷ 48 ∷ [];
        front_is = nil_places;
        behind_is = record { origin = 0; is = nil_places; value = refl };
        whole = refl;
      },
    ))

pub reads_rate : Reads (IsText is_rate rate_text) rate_at
unfolding rate_at
reads_rate =
    same Rate (IsText is_rate rate_text) rate_at
    (joined (IsWhole 1_000_000) (λ (w : ℕ). Joined IsHundredths (λ (a : ℕ). Joined IsHundredths (λ (b : ℕ). Mapped IsHundredths (λ (c : ℕ). 1_000_000 * w + 10_000 * a + 100 * b + c)))) (whole_at 1_000_000)
    (λ (w : ℕ) (rest : List ℕ). hundredths_at rest >>= λ z. (hundredths_at z.1 >>= λ x. (hundredths_at x.1 >>= λ y. Ok (1_000_000 * w + 10_000 * z.0 + 100 * x.0 + y.0, y.1))))
    (reads_whole 1_000_000 (lit≤ tt) (lit≤ tt)) (λ w text h. reads_first w)
    (λ w text h. (
      1_000_000 * w + 10_000 * 0 + 100 * 0 + 0,
      48 ∷ 48 ∷ 48 ∷ 48 ∷ 48 ∷ 48 ∷ [],
      record {
        first = 0;
        front = 48 ∷ 48 ∷ [];
        behind = 48 ∷ 48 ∷ 48 ∷ 48 ∷ [];
        front_is = nil_places;
        whole = refl;
        behind_is = record { first = 0; front = 48 ∷ 48 ∷ []; behind = 48 ∷ 48 ∷ []; front_is = nil_places; whole = refl; behind_is = record { origin = 0; is = nil_places; value = refl } };
      },
    )))
    (λ n text j. rate_to n text j)
    (λ n text h. rate_from n text h)
  where
    rate_to : (n : ℕ) (text : List ℕ) → Rate n text → IsText is_rate rate_text n text
    rate_to n text j =
        let k = j.behind_is in
        let m = k.behind_is in
        let l = m.behind_is in
        let w = j.front_is.below in
        let a = k.front_is.below in
        let b = m.front_is.below in
        let c = l.is.below in
        let value = l.value in
        record {
          valid = lt-ltb n (10 ^ 13) (omega arith);
          spelled = j.whole ∙ rw (j.front_is.spelled, k.whole, k.front_is.spelled, m.whole, m.front_is.spelled, l.is.spelled) (rate_is n j.first k.first m.first l.origin value a b c);
        }

    rate_from : (n : ℕ) (text : List ℕ) → IsText is_rate rate_text n text → Rate n text
    rate_from n text h =
        let below : n < 10 ^ 13 = ltb-true n (10 ^ 13) h.valid in
        record {
          first = n / 1_000_000;
          front = decimal (n / 1_000_000) ++ 46 ∷ [];
          front_is = record { below = omega arith; spelled = refl };
          behind = _;
          behind_is = record {
            first = n / 10_000 % 100;
            front = _;
            front_is = record { below = omega arith; spelled = refl };
            behind = _;
            behind_is = record {
              first = n / 100 % 100;
              front = _;
              front_is = record { below = omega arith; spelled = refl };
              behind = _;
              behind_is = record { origin = n % 100; is = record { below = omega arith; spelled = refl }; value = omega arith };
              whole = refl;
            };
            whole = refl;
          };
          whole = h.spelled ∙ sym (rate_is n (n / 1_000_000) (n / 10_000 % 100) (n / 100 % 100) (n % 100) (omega arith) (omega arith) (omega arith) (omega arith));
        }
