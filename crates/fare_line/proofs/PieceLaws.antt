-- Sectors, gaps, plus-ups and the end of a line, as they are read.
use Rattle.std.proofs.Common.{◌≡◌, ◌∙◌, ℕ, Bool, true, false, ◌&&◌, ◌==◌, List, [], ◌∷◌, ◌++◌, get_or, Ok, Err, Result, inl, inr, decimal, codes, refl, sym, ap, subst, append_assoc}
use Rattle.std.specs.Char.{is_ascii_uppercase}
use Rattle.fare_codes.specs.Codes.{is_city, is_carrier}
use Rattle.fare_codes.specs.Numbers.{nuc_text, rate_text}
use Rattle.fare_codes.specs.declared.city.City.{City}
use Rattle.fare_codes.specs.declared.carrier.Carrier.{Carrier}
use Rattle.fare_line.specs.declared.line.sector.LineSector.{LineSector}
use Rattle.fare_line.specs.declared.reading.pieces.Totals.{Totals}
use Rattle.fare_line.specs.declared.reading.byte_kind.ByteKind.TheVariants.{This}
use Rattle.fare_line.specs.Line.{is_amount, is_rate, is_unit, is_flown, is_plus}
use Rattle.fare_line.specs.LineText.{spaced, transfer_text, sector_text, plus_text, totals_text}
use Rattle.fare_line.specs.reader.Reading.{◌>>=◌, either, byte_at, word_at, carrier_at, spaced_city_at, amount_at, rate_at, unit_at}
use Rattle.fare_line.specs.reader.Pieces.{sector_to, transfer_to, sector_at, gap_at, plus_at, totals_at}
use Rattle.fare_line.proofs.Readers.{Reads, Joined, Or, joined, same, same_reader, reads_either}
use Rattle.fare_line.proofs.Words.{both_tests, IsWord, reads_word}
use Rattle.fare_line.proofs.Amounts.{IsText, reads_amount, reads_rate, reads_unit}
use Rattle.fare_line.proofs.Chains.{chain1, chain2, chain4, reads_this, reads_words}
use Rattle.fare_line.proofs.CodeLaws.{city_cells, reads_carrier, reads_spaced_city}

-- ---- sectors

-- a sector of a carrier, behind it and the mark of a transfer
pub record IsPlain (carrier : Carrier) (transfer : Bool) (sector : LineSector) (text : List ℕ) : Type 0 where
  pub carrier_is : sector.carrier ≡ carrier
  pub transfer_is : sector.transfer ≡ transfer
  pub valid : is_city sector.to ≡ true
  pub spelled : text ≡ spaced sector.to

same_sector : (sector : LineSector) (carrier : Carrier) (transfer : Bool) → sector.carrier ≡ carrier → sector.transfer ≡ transfer → sector ≡ record { carrier = carrier; transfer = transfer; to = sector.to }
same_sector sector carrier transfer e f = rw (← e, ← f) refl

reads_plain : (carrier : Carrier) (transfer : Bool) → Reads (IsPlain carrier transfer) (sector_to carrier transfer)
unfolding sector_to
reads_plain carrier transfer =
    chain1 is_city spaced (λ (c : List ℕ). record { carrier = carrier; transfer = transfer; to = c }) (IsPlain carrier transfer) spaced_city_at reads_spaced_city
    (λ c x. record { carrier_is = refl; transfer_is = refl; valid = x; spelled = refl })
    (λ sector text h. record { a = sector.to; a_is = h.valid; value = same_sector sector carrier transfer h.carrier_is h.transfer_is; whole = h.spelled })

abbrev ToTransfer : Carrier → LineSector → List ℕ → Type 0
ToTransfer carrier = Joined (IsWord (codes "X/")) (λ (u : Unit {0}). IsPlain carrier true)

sample : (carrier : Carrier) (transfer : Bool) → IsPlain carrier transfer (record { carrier = carrier; transfer = transfer; to = codes "AAA" }) (codes "AAA ")
sample carrier transfer = record { carrier_is = refl; transfer_is = refl; valid = refl; spelled = refl }

reads_transfer : (carrier : Carrier) → Reads (ToTransfer carrier) (transfer_to carrier)
unfolding transfer_to
reads_transfer carrier =
    joined (IsWord (codes "X/")) (λ (u : Unit {0}). IsPlain carrier true) (word_at (codes "X/")) (λ (u : Unit {0}). sector_to carrier true) (reads_word (codes "X/"))
    (λ u text h. reads_plain carrier true) (λ u text h. (record { carrier = carrier; transfer = true; to = codes "AAA" }, codes "AAA ", sample carrier true))

slash_is_no_letter : (c : ℕ) → is_ascii_uppercase c ≡ true → c ≡ 47 → ⊥
slash_is_no_letter c h e = no (subst (λ (k : ℕ). is_ascii_uppercase k ≡ true) e h)
  where
    no : is_ascii_uppercase 47 ≡ true → ⊥
    no f = absurd cc

apart_transfer : (carrier : Carrier) (a b : LineSector) (s t x y : List ℕ) → ToTransfer carrier a s → IsPlain carrier false b t → s ++ x ≡ t ++ y → ⊥
apart_transfer carrier a b s t x y j q e =
    let cells = city_cells b.to q.valid in
    let both : codes "X/" ++ j.behind ++ x ≡ spaced b.to ++ y = ap (λ (u : List ℕ). u ++ x) (sym (j.whole ∙ ap (λ (u : List ℕ). u ++ j.behind) j.front_is)) ∙ e ∙ ap (λ (u : List ℕ). u ++ y) q.spelled in
    let second : get_or (spaced b.to ++ y) 1 0 ≡ cells.b = ap (λ (u : List ℕ). get_or (spaced u ++ y) 1 0) cells.whole in
    slash_is_no_letter cells.b cells.b_is (sym second ∙ ap (λ (u : List ℕ). get_or u 1 0) (sym both))

-- a sector of a carrier, behind it
pub record IsBehind (carrier : Carrier) (sector : LineSector) (text : List ℕ) : Type 0 where
  pub carrier_is : sector.carrier ≡ carrier
  pub valid : is_city sector.to ≡ true
  pub spelled : text ≡ transfer_text sector.transfer ++ spaced sector.to

behind_from : (carrier : Carrier) (transfer : Bool) (to : City) (text : List ℕ) → is_city to ≡ true → text ≡ transfer_text transfer ++ spaced to
    → Or (ToTransfer carrier) (IsPlain carrier false) (record { carrier = carrier; transfer = transfer; to = to }) text
behind_from carrier true to text x e = inl (record { first = tt; front = codes "X/"; behind = spaced to; front_is = refl; behind_is = record { carrier_is = refl; transfer_is = refl; valid = x; spelled = refl }; whole = e })
behind_from carrier false to text x e = inr (record { carrier_is = refl; transfer_is = refl; valid = x; spelled = e })

reads_behind : (carrier : Carrier) → Reads (IsBehind carrier) (λ bytes. either (transfer_to carrier bytes) (sector_to carrier false bytes))
reads_behind carrier =
    same (Or (ToTransfer carrier) (IsPlain carrier false)) (IsBehind carrier) (λ bytes. either (transfer_to carrier bytes) (sector_to carrier false bytes))
    (reads_either (ToTransfer carrier) (IsPlain carrier false) (transfer_to carrier) (sector_to carrier false) (reads_transfer carrier) (reads_plain carrier false)
    (λ a b s t x y p q e. apart_transfer carrier a b s t x y p q e))
    (λ sector text o. elim o [
      | inl j ↦ record { carrier_is = j.behind_is.carrier_is; valid = j.behind_is.valid; spelled = j.whole ∙ rw (j.front_is, j.behind_is.spelled, j.behind_is.transfer_is) refl }
      | inr q ↦ record { carrier_is = q.carrier_is; valid = q.valid; spelled = q.spelled ∙ rw q.transfer_is refl }
    ])
    (λ sector text h. subst (λ (k : LineSector). Or (ToTransfer carrier) (IsPlain carrier false) k text) (sym (same_sector sector carrier sector.transfer h.carrier_is refl))
    (behind_from carrier sector.transfer sector.to text h.valid h.spelled))

-- what a space stands before
abbrev Spaced : Carrier → LineSector → List ℕ → Type 0
Spaced carrier = Joined (IsText (λ (b : ℕ). b == 32) (λ (b : ℕ). 32 ∷ [])) (λ (b : ℕ). IsBehind carrier)

reads_spaced : (carrier : Carrier) → Reads (Spaced carrier) (λ bytes. byte_at (This 32) bytes >>= λ x. either (transfer_to carrier x.1) (sector_to carrier false x.1))
reads_spaced carrier =
    joined (IsText (λ (b : ℕ). b == 32) (λ (b : ℕ). 32 ∷ [])) (λ (b : ℕ). IsBehind carrier) (byte_at (This 32)) (λ (b : ℕ) (rest : List ℕ). either (transfer_to carrier rest) (sector_to carrier false rest))
    (reads_this 32) (λ b text h. reads_behind carrier)
    (λ b text h. (record { carrier = carrier; transfer = false; to = codes "AAA" }, codes "AAA ", record { carrier_is = refl; valid = refl; spelled = refl }))

pub reads_sector : Reads (IsText is_flown sector_text) sector_at
unfolding sector_at
reads_sector =
    same (Joined (IsText is_carrier (λ (c : List ℕ). c)) Spaced) (IsText is_flown sector_text) sector_at
    (joined (IsText is_carrier (λ (c : List ℕ). c)) Spaced carrier_at
    (λ (carrier : List ℕ) (bytes : List ℕ). byte_at (This 32) bytes >>= λ x. either (transfer_to carrier x.1) (sector_to carrier false x.1)) reads_carrier
    (λ carrier text h. reads_spaced carrier)
    (λ carrier text h. (
      record { carrier = carrier; transfer = false; to = codes "AAA" },
      codes " AAA ",
      record {
        first = 32;
        front = 32 ∷ [];
        behind = codes "AAA ";
        front_is = record { valid = refl; spelled = refl };
        behind_is = record { carrier_is = refl; valid = refl; spelled = refl };
        whole = refl;
      },
    )))
    (λ sector text j. let k = j.behind_is in let b = k.behind_is in record {
      valid = rw (b.carrier_is, j.front_is.valid, b.valid) refl;
      spelled = j.whole ∙ rw (j.front_is.spelled, k.whole, k.front_is.spelled, b.spelled, b.carrier_is) (sym (simp append_assoc));
    })
    (λ sector text h. let tests = both_tests (is_carrier sector.carrier) (is_city sector.to) h.valid in record {
      first = sector.carrier;
      front = sector.carrier;
      behind = 32 ∷ (transfer_text sector.transfer ++ spaced sector.to);
      front_is = record { valid = tests.0; spelled = refl };
      behind_is = record {
        first = 32;
        front = 32 ∷ [];
        behind = transfer_text sector.transfer ++ spaced sector.to;
        front_is = record { valid = refl; spelled = refl };
        behind_is = record { carrier_is = refl; valid = tests.1; spelled = refl };
        whole = refl;
      };
      whole = h.spelled ∙ simp append_assoc;
    })

-- ---- gaps, plus-ups and the end

-- the city of a gap, with its mark
abbrev pub slashes : City → List ℕ
slashes city = codes "// " ++ spaced city

ended : {A : Type 0} (r : Result (A × List ℕ) ℕ) → r ≡ (r >>= λ x. Ok (x.0, x.1))
ended (Ok x) = refl
ended (Err left) = refl

pub reads_gap : Reads (IsText is_city slashes) gap_at
unfolding gap_at
reads_gap =
    same_reader (IsText is_city slashes) (λ bytes. word_at (codes "// ") bytes >>= λ x. (spaced_city_at x.1 >>= λ y. Ok (y.0, y.1))) gap_at
    (chain2 (λ (u : Unit {0}). true) (λ (u : Unit {0}). codes "// ") is_city spaced (λ (u : Unit {0}) (c : List ℕ). c) (IsText is_city slashes)
    (word_at (codes "// ")) spaced_city_at (reads_words (codes "// ")) reads_spaced_city (codes "AAA") refl
    (λ u c x y. record { valid = y; spelled = refl })
    (λ c text h. record { a = tt; b = c; a_is = refl; b_is = h.valid; value = refl; whole = h.spelled }))
    (λ bytes. both (word_at (codes "// ") bytes))
  where
    both : (r : Result (Unit {0} × List ℕ) ℕ) → (r >>= λ x. spaced_city_at x.1) ≡ (r >>= λ x. (spaced_city_at x.1 >>= λ y. Ok (y.0, y.1)))
    both (Ok x) = ended (spaced_city_at x.1)
    both (Err left) = refl

pub reads_plus : Reads (IsText is_plus plus_text) plus_at
unfolding plus_at
reads_plus =
    chain4 (λ (u : Unit {0}). true) (λ (u : Unit {0}). codes "P/") is_unit (λ (u : ℕ). spaced (decimal u)) is_amount nuc_text (λ (b : ℕ). b == 32) (λ (b : ℕ). 32 ∷ [])
    (λ (mark : Unit {0}) (unit amount b : ℕ). record { unit = unit; amount = amount }) (IsText is_plus plus_text)
    (word_at (codes "P/")) unit_at amount_at (byte_at (This 32)) (reads_words (codes "P/")) reads_unit reads_amount (reads_this 32) 1 refl 0 refl 32 refl
    (λ u unit amount b x y z w. record { valid = rw (y, z) refl; spelled = regroup (spaced (decimal unit)) (nuc_text amount) })
    (λ plus text h. let tests = both_tests (is_unit plus.unit) (is_amount plus.amount) h.valid in record {
      a = tt;
      b = plus.unit;
      c = plus.amount;
      d = 32;
      a_is = refl;
      b_is = tests.0;
      c_is = tests.1;
      d_is = refl;
      value = refl;
      whole = h.spelled ∙ sym (regroup (spaced (decimal plus.unit)) (nuc_text plus.amount));
    })
  where
    regroup : (b c : List ℕ) → codes "P/" ++ (b ++ (c ++ (32 ∷ []))) ≡ codes "P/" ++ b ++ (c ++ (32 ∷ []))
    regroup b c = sym (append_assoc (codes "P/") b (c ++ (32 ∷ [])))

-- a total and a rate are in their forms
abbrev pub are_totals : Totals → Bool
are_totals totals = is_amount totals.total && is_rate totals.roe

abbrev pub text_of_totals : Totals → List ℕ
text_of_totals totals = totals_text totals.total totals.roe

pub reads_totals : Reads (IsText are_totals text_of_totals) totals_at
unfolding totals_at
reads_totals =
    chain4 (λ (u : Unit {0}). true) (λ (u : Unit {0}). codes "NUC") is_amount nuc_text (λ (u : Unit {0}). true) (λ (u : Unit {0}). codes "END ROE") is_rate rate_text
    (λ (mark : Unit {0}) (total : ℕ) (u : Unit {0}) (roe : ℕ). record { total = total; roe = roe }) (IsText are_totals text_of_totals)
    (word_at (codes "NUC")) amount_at (word_at (codes "END ROE")) rate_at (reads_words (codes "NUC")) reads_amount (reads_words (codes "END ROE")) reads_rate 0 refl tt refl 0 refl
    (λ u total v roe x y z w. record { valid = rw (y, w) refl; spelled = regroup (nuc_text total) (rate_text roe) })
    (λ totals text h. let tests = both_tests (is_amount totals.total) (is_rate totals.roe) h.valid in record {
      a = tt;
      b = totals.total;
      c = tt;
      d = totals.roe;
      a_is = refl;
      b_is = tests.0;
      c_is = refl;
      d_is = tests.1;
      value = refl;
      whole = h.spelled ∙ sym (regroup (nuc_text totals.total) (rate_text totals.roe));
    })
  where
    regroup : (b d : List ℕ) → codes "NUC" ++ (b ++ (codes "END ROE" ++ d)) ≡ codes "NUC" ++ b ++ codes "END ROE" ++ d
    regroup b d = sym (append_assoc (codes "NUC" ++ b) (codes "END ROE") d ∙ append_assoc (codes "NUC") b (codes "END ROE" ++ d))
