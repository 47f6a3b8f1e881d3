-- The piece that stands next is one that may come next.
use Rattle.std.proofs.Common.{◌≡◌, ◌∙◌, ◌<◌, ◌≤◌, ℕ, zero, suc, Bool, true, false, ◌||◌, ◌==◌, List, [], ◌∷◌, ◌++◌, length, nat_lt, Option, Some, None, Ok, inl, inr, refl, sym, ap, subst, arith}
use Rattle.std.specs.Prelude.{is_some}
use Rattle.std.proofs.lemmas.Bool.{cases_lt, lt-ltb, le-ltb, eqb-true}
use Rattle.fare_codes.specs.Codes.{is_city}
use Rattle.fare_codes.specs.declared.city.City.{City}
use Rattle.fare_line.specs.declared.line.sector.LineSector.{LineSector}
use Rattle.fare_line.specs.declared.line.part.LinePart.{LinePart}
use Rattle.fare_line.specs.declared.line.plus_up.PlusUp.{PlusUp}
use Rattle.fare_line.specs.declared.reading.pieces.Totals.{Totals}
use Rattle.fare_line.specs.declared.reading.pieces.Piece.{Piece}
use Rattle.fare_line.specs.declared.reading.pieces.Piece.TheVariants.{Sector, Part, Gap, Plus, End}
use Rattle.fare_line.specs.Line.{gap_count, is_amount, is_flown, is_plus, is_rate}
use Rattle.fare_line.specs.LineText.{plus_text, price_text, sector_text}
use Rattle.fare_line.specs.reader.Reading.{either}
use Rattle.fare_line.specs.reader.Pieces.{gap_at, plus_at, price_at, sector_at, totals_at}
use Rattle.fare_line.specs.reader.Draft.{DraftLine, IsDraft, IsBetween, Allowed, count, between_at, closing_at, end_piece, further_at, gap_piece, last_end, part_piece, piece_at, plus_piece, sector_piece, within_at}
use Rattle.fare_line.proofs.Readers.{Reads, Or, reads_either, same, same_reader}
use Rattle.fare_line.proofs.Words.{Mapped, both_tests, mapped}
use Rattle.fare_line.proofs.Amounts.{IsText}
use Rattle.fare_line.proofs.MarkLaws.{IsPart, reads_price}
use Rattle.fare_line.proofs.PieceLaws.{are_totals, reads_gap, reads_plus, reads_sector, reads_totals, slashes, text_of_totals}
use Rattle.fare_line.proofs.NextLaws.{gap_end, gap_plus, plus_end, sector_end, sector_gap, sector_part, sector_plus}

-- the text of a piece
abbrev pub piece_text : Piece → List ℕ
piece_text (Sector sector) = sector_text sector
piece_text (Part part) = price_text part
piece_text (Gap city) = slashes city
piece_text (Plus plus) = plus_text plus
piece_text (End totals) = text_of_totals totals

-- a piece that may come next, with its text
pub record IsNext (d : DraftLine) (piece : Piece) (text : List ℕ) : Type 0 where
  pub allowed : Allowed d piece
  pub spelled : text ≡ piece_text piece

-- ---- a piece of each kind

abbrev SectorText : Piece → List ℕ → Type 0
SectorText = Mapped (IsText is_flown sector_text) (λ (s : LineSector). Sector s)

abbrev PartText : DraftLine → Piece → List ℕ → Type 0
PartText d = Mapped (IsPart (count d) d.gap) (λ (p : LinePart). Part p)

abbrev GapText : Piece → List ℕ → Type 0
GapText = Mapped (IsText is_city slashes) (λ (c : City). Gap c)

abbrev PlusText : Piece → List ℕ → Type 0
PlusText = Mapped (IsText is_plus plus_text) (λ (u : PlusUp). Plus u)

abbrev EndText : Piece → List ℕ → Type 0
EndText = Mapped (IsText are_totals text_of_totals) (λ (t : Totals). End t)

sector_reads : Reads SectorText sector_piece
sector_reads = mapped (IsText is_flown sector_text) (λ (s : LineSector). Sector s) sector_at reads_sector

part_reads : (d : DraftLine) → IsDraft d → Reads (PartText d) (part_piece d)
part_reads d draft = mapped (IsPart (count d) d.gap) (λ (p : LinePart). Part p) (price_at (count d) d.gap) (reads_price (count d) d.gap draft.gap)

gap_reads : Reads GapText gap_piece
gap_reads = mapped (IsText is_city slashes) (λ (c : City). Gap c) gap_at reads_gap

plus_reads : Reads PlusText plus_piece
plus_reads = mapped (IsText is_plus plus_text) (λ (u : PlusUp). Plus u) plus_at reads_plus

end_reads : Reads EndText end_piece
end_reads = mapped (IsText are_totals text_of_totals) (λ (t : Totals). End t) totals_at reads_totals

-- texts of two kinds
both_texts : (s t u v x y : List ℕ) → s ≡ u → t ≡ v → s ++ x ≡ t ++ y → u ++ x ≡ v ++ y
both_texts s t u v x y p q e = ap (λ (k : List ℕ). k ++ x) (sym p) ∙ e ∙ ap (λ (k : List ℕ). k ++ y) q

-- ---- what may come next

sector_next : (d : DraftLine) (piece : Piece) (text : List ℕ) → count d < 16 → length d.plus ≡ 0 → SectorText piece text → IsNext d piece text
sector_next d piece text few none m =
    subst (λ (k : Piece). IsNext d k text) (sym m.value) (record { allowed = (m.is.valid, few, none); spelled = m.is.spelled })

part_next : (d : DraftLine) (piece : Piece) (text : List ℕ) → 0 < length d.pending → PartText d piece text → IsNext d piece text
part_next d piece text some m =
    subst (λ (k : Piece). IsNext d k text) (sym m.value) (record { allowed = (m.is.valid, some, m.is.end_is, m.is.gap_is); spelled = m.is.spelled })

gap_next : (d : DraftLine) (piece : Piece) (text : List ℕ) → IsBetween d → count d < 15 → length d.plus ≡ 0 → GapText piece text → IsNext d piece text
gap_next d piece text between few none m =
    subst (λ (k : Piece). IsNext d k text) (sym m.value) (record { allowed = (m.is.valid, between, few, none); spelled = m.is.spelled })

plus_next : (d : DraftLine) (piece : Piece) (text : List ℕ) → IsBetween d → length d.plus < 16 → PlusText piece text → IsNext d piece text
plus_next d piece text between few m =
    subst (λ (k : Piece). IsNext d k text) (sym m.value) (record { allowed = (m.is.valid, between, few); spelled = m.is.spelled })

end_next : (d : DraftLine) (piece : Piece) (text : List ℕ) → IsBetween d → EndText piece text → IsNext d piece text
end_next d piece text between m =
    let tests = both_tests (is_amount m.origin.total) (is_rate m.origin.roe) m.is.valid in
    subst (λ (k : Piece). IsNext d k text) (sym m.value) (record { allowed = (tests.0, tests.1, between); spelled = m.is.spelled })

sector_from : (d : DraftLine) (sector : LineSector) (text : List ℕ) → IsNext d (Sector sector) text → SectorText (Sector sector) text
sector_from d sector text h = record { origin = sector; is = record { valid = h.allowed.0; spelled = h.spelled }; value = refl }

part_from : (d : DraftLine) (part : LinePart) (text : List ℕ) → IsNext d (Part part) text → PartText d (Part part) text
part_from d part text h = record { origin = part; is = record { end_is = h.allowed.2; gap_is = h.allowed.3; valid = h.allowed.0; spelled = h.spelled }; value = refl }

gap_from : (d : DraftLine) (city : City) (text : List ℕ) → IsNext d (Gap city) text → GapText (Gap city) text
gap_from d city text h = record { origin = city; is = record { valid = h.allowed.0; spelled = h.spelled }; value = refl }

plus_from : (d : DraftLine) (plus : PlusUp) (text : List ℕ) → IsNext d (Plus plus) text → PlusText (Plus plus) text
plus_from d plus text h = record { origin = plus; is = record { valid = h.allowed.0; spelled = h.spelled }; value = refl }

end_from : (d : DraftLine) (totals : Totals) (text : List ℕ) → IsNext d (End totals) text → EndText (End totals) text
end_from d totals text h = record { origin = totals; is = record { valid = rw (h.allowed.0, h.allowed.1) refl; spelled = h.spelled }; value = refl }

-- ---- within a part

within_reads : (d : DraftLine) → IsDraft d → 0 < length d.pending → length d.plus ≡ 0 → Reads (IsNext d) (within_at d)
unfolding within_at
within_reads d draft some none = elim (cases_lt (count d) 16) [
  | inl few ↦ same_reader (IsNext d) (λ bytes. either (sector_piece bytes) (part_piece d bytes)) (within_at d)
      (same (Or SectorText (PartText d)) (IsNext d) (λ bytes. either (sector_piece bytes) (part_piece d bytes))
      (reads_either SectorText (PartText d) sector_piece (part_piece d) sector_reads (part_reads d draft)
      (λ a b s t x y p q e. sector_part p.origin q.origin x y p.is.valid q.is.valid (both_texts s t _ _ x y p.is.spelled q.is.spelled e)))
      (λ piece text o. elim o [ inl m ↦ sector_next d piece text few none m | inr m ↦ part_next d piece text some m ])
      (λ piece text h. from piece text h))
      (λ bytes. rw (lt-ltb (count d) 16 few) refl)
  | inr full ↦ same_reader (IsNext d) (part_piece d) (within_at d)
      (same (PartText d) (IsNext d) (part_piece d) (part_reads d draft) (λ piece text m. part_next d piece text some m) (λ piece text h. only full piece text h))
      (λ bytes. rw (le-ltb (count d) 16 full) refl)
]
  where
    from : (piece : Piece) (text : List ℕ) → IsNext d piece text → Or SectorText (PartText d) piece text
    from (Sector sector) text h = inl (sector_from d sector text h)
    from (Part part) text h = inr (part_from d part text h)
    from (Gap city) text h = absurd (omega (arith, h.allowed.1.none_pending))
    from (Plus plus) text h = absurd (omega (arith, h.allowed.1.none_pending))
    from (End totals) text h = absurd (omega (arith, h.allowed.2.none_pending))

    only : 16 ≤ count d → (piece : Piece) (text : List ℕ) → IsNext d piece text → PartText d piece text
    only full (Sector sector) text h = (let few = h.allowed.1 in absurd (omega arith))
    only full (Part part) text h = part_from d part text h
    only full (Gap city) text h = absurd (omega (arith, h.allowed.1.none_pending))
    only full (Plus plus) text h = absurd (omega (arith, h.allowed.1.none_pending))
    only full (End totals) text h = absurd (omega (arith, h.allowed.2.none_pending))

-- ---- behind the parts

-- a plus-up or the end
abbrev IsClosing : Piece → Type 0
IsClosing (Sector sector) = ⊥
IsClosing (Part part) = ⊥
IsClosing (Gap city) = ⊥
IsClosing (Plus plus) = Unit {0}
IsClosing (End totals) = Unit {0}

record Closes (d : DraftLine) (piece : Piece) (text : List ℕ) : Type 0 where
  closing : IsClosing piece
  next : IsNext d piece text

plus_closes : (d : DraftLine) (piece : Piece) (text : List ℕ) → IsBetween d → length d.plus < 16 → PlusText piece text → Closes d piece text
plus_closes d piece text between few m = record { closing = subst IsClosing (sym m.value) tt; next = plus_next d piece text between few m }

end_closes : (d : DraftLine) (piece : Piece) (text : List ℕ) → IsBetween d → EndText piece text → Closes d piece text
end_closes d piece text between m = record { closing = subst IsClosing (sym m.value) tt; next = end_next d piece text between m }

closing_reads : (d : DraftLine) → IsBetween d → Reads (Closes d) (closing_at d)
unfolding closing_at
closing_reads d between = elim (cases_lt (length d.plus) 16) [
  | inl few ↦ same_reader (Closes d) (λ bytes. either (plus_piece bytes) (end_piece bytes)) (closing_at d)
      (same (Or PlusText EndText) (Closes d) (λ bytes. either (plus_piece bytes) (end_piece bytes))
      (reads_either PlusText EndText plus_piece end_piece plus_reads end_reads
      (λ a b s t x y p q e. plus_end p.origin q.origin x y (both_texts s t _ _ x y p.is.spelled q.is.spelled e)))
      (λ piece text o. elim o [ inl m ↦ plus_closes d piece text between few m | inr m ↦ end_closes d piece text between m ])
      (λ piece text h. from piece text h.closing h.next))
      (λ bytes. rw (lt-ltb (length d.plus) 16 few) refl)
  | inr full ↦ same_reader (Closes d) end_piece (closing_at d)
      (same EndText (Closes d) end_piece end_reads (λ piece text m. end_closes d piece text between m) (λ piece text h. only full piece text h.closing h.next))
      (λ bytes. rw (le-ltb (length d.plus) 16 full) refl)
]
  where
    from : (piece : Piece) (text : List ℕ) → IsClosing piece → IsNext d piece text → Or PlusText EndText piece text
    from (Sector sector) text c h = absurd c
    from (Part part) text c h = absurd c
    from (Gap city) text c h = absurd c
    from (Plus plus) text c h = inl (plus_from d plus text h)
    from (End totals) text c h = inr (end_from d totals text h)

    only : 16 ≤ length d.plus → (piece : Piece) (text : List ℕ) → IsClosing piece → IsNext d piece text → EndText piece text
    only full (Sector sector) text c h = absurd c
    only full (Part part) text c h = absurd c
    only full (Gap city) text c h = absurd c
    only full (Plus plus) text c h = (let few = h.allowed.2 in absurd (omega arith))
    only full (End totals) text c h = end_from d totals text h

-- ---- between two parts

abbrev Begins : Piece → List ℕ → Type 0
Begins = Or SectorText GapText

further_reads : Reads Begins further_at
unfolding further_at
further_reads =
    reads_either SectorText GapText sector_piece gap_piece sector_reads gap_reads
    (λ a b s t x y p q e. sector_gap p.origin q.origin x y p.is.valid (both_texts s t _ _ x y p.is.spelled q.is.spelled e))

-- a sector begins apart from a plus-up and from the end
sector_closing : (d : DraftLine) (a b : Piece) (s t x y : List ℕ) → SectorText a s → Closes d b t → s ++ x ≡ t ++ y → ⊥
sector_closing d a (Sector sector) s t x y p q e = absurd q.closing
sector_closing d a (Part part) s t x y p q e = absurd q.closing
sector_closing d a (Gap city) s t x y p q e = absurd q.closing
sector_closing d a (Plus plus) s t x y p q e = sector_plus p.origin plus x y p.is.valid (both_texts s t _ _ x y p.is.spelled q.next.spelled e)
sector_closing d a (End totals) s t x y p q e = sector_end p.origin totals x y p.is.valid (both_texts s t _ _ x y p.is.spelled q.next.spelled e)

-- so does a gap
gap_closing : (d : DraftLine) (a b : Piece) (s t x y : List ℕ) → GapText a s → Closes d b t → s ++ x ≡ t ++ y → ⊥
gap_closing d a (Sector sector) s t x y p q e = absurd q.closing
gap_closing d a (Part part) s t x y p q e = absurd q.closing
gap_closing d a (Gap city) s t x y p q e = absurd q.closing
gap_closing d a (Plus plus) s t x y p q e = gap_plus p.origin plus x y (both_texts s t _ _ x y p.is.spelled q.next.spelled e)
gap_closing d a (End totals) s t x y p q e = gap_end p.origin totals x y (both_texts s t _ _ x y p.is.spelled q.next.spelled e)

begins_closing : (d : DraftLine) (a b : Piece) (s t x y : List ℕ) → Begins a s → Closes d b t → s ++ x ≡ t ++ y → ⊥
begins_closing d a b s t x y (inl p) q e = sector_closing d a b s t x y p q e
begins_closing d a b s t x y (inr p) q e = gap_closing d a b s t x y p q e

closing_next : (d : DraftLine) (piece : Piece) (text : List ℕ) → Closes d piece text → IsNext d piece text
closing_next d piece text c = c.next

between_reads : (d : DraftLine) → IsBetween d → length d.plus ≡ 0 → Reads (IsNext d) (between_at d)
unfolding between_at
between_reads d between none = elim (cases_lt (count d) 15) [
  | inl few ↦ same_reader (IsNext d) (λ bytes. either (further_at bytes) (closing_at d bytes)) (between_at d)
      (same (Or Begins (Closes d)) (IsNext d) (λ bytes. either (further_at bytes) (closing_at d bytes))
      (reads_either Begins (Closes d) further_at (closing_at d) further_reads (closing_reads d between) (λ a b s t x y p q e. begins_closing d a b s t x y p q e))
      (λ piece text o. elim o [
        | inl m ↦ elim m [ inl k ↦ sector_next d piece text (omega arith) none k | inr k ↦ gap_next d piece text between few none k ]
        | inr c ↦ closing_next d piece text c
      ])
      (λ piece text h. all piece text h))
      (λ bytes. rw (lt-ltb (count d) 15 few) refl)
  | inr no_gap ↦ elim (cases_lt (count d) 16) [
    | inl few ↦ same_reader (IsNext d) (λ bytes. either (sector_piece bytes) (closing_at d bytes)) (between_at d)
        (same (Or SectorText (Closes d)) (IsNext d) (λ bytes. either (sector_piece bytes) (closing_at d bytes))
        (reads_either SectorText (Closes d) sector_piece (closing_at d) sector_reads (closing_reads d between) (λ a b s t x y p q e. sector_closing d a b s t x y p q e))
        (λ piece text o. elim o [ inl m ↦ sector_next d piece text few none m | inr c ↦ closing_next d piece text c ])
        (λ piece text h. one no_gap piece text h))
        (λ bytes. rw (le-ltb (count d) 15 no_gap, lt-ltb (count d) 16 few) refl)
    | inr full ↦ same_reader (IsNext d) (closing_at d) (between_at d)
        (same (Closes d) (IsNext d) (closing_at d) (closing_reads d between) (λ piece text c. closing_next d piece text c) (λ piece text h. none_more full piece text h))
        (λ bytes. rw (le-ltb (count d) 15 no_gap, le-ltb (count d) 16 full) refl)
  ]
]
  where
    no_part : (part : LinePart) (text : List ℕ) → IsNext d (Part part) text → ⊥
    no_part part text h = (let some = h.allowed.1 in absurd (omega (arith, between.none_pending)))

    all : (piece : Piece) (text : List ℕ) → IsNext d piece text → Or Begins (Closes d) piece text
    all (Sector sector) text h = inl (inl (sector_from d sector text h))
    all (Part part) text h = absurd (no_part part text h)
    all (Gap city) text h = inl (inr (gap_from d city text h))
    all (Plus plus) text h = inr (record { closing = tt; next = h })
    all (End totals) text h = inr (record { closing = tt; next = h })

    one : 15 ≤ count d → (piece : Piece) (text : List ℕ) → IsNext d piece text → Or SectorText (Closes d) piece text
    one room (Sector sector) text h = inl (sector_from d sector text h)
    one room (Part part) text h = absurd (no_part part text h)
    one room (Gap city) text h = (let few = h.allowed.2 in absurd (omega arith))
    one room (Plus plus) text h = inr (record { closing = tt; next = h })
    one room (End totals) text h = inr (record { closing = tt; next = h })

    none_more : 16 ≤ count d → (piece : Piece) (text : List ℕ) → IsNext d piece text → Closes d piece text
    none_more full (Sector sector) text h = (let few = h.allowed.1 in absurd (omega arith))
    none_more full (Part part) text h = absurd (no_part part text h)
    none_more full (Gap city) text h = (let few = h.allowed.2 in absurd (omega arith))
    none_more full (Plus plus) text h = record { closing = tt; next = h }
    none_more full (End totals) text h = record { closing = tt; next = h }

-- ---- the piece that stands next

-- behind a sector no plus-up stands
pub no_plus : (d : DraftLine) → IsDraft d → 0 < length d.pending → length d.plus ≡ 0
no_plus d draft some = elim (cases_lt 0 (length d.plus)) [
  | inl more ↦ absurd (omega (arith, (draft.plus_behind more).none_pending))
  | inr none ↦ omega arith
]

no_items : (xs : List LinePart) → length xs ≡ 0 → xs ≡ []
no_items [] f = refl
no_items (x ∷ xs) f = absurd (omega arith)

some_is_not_none : (city : City) → Some city ≡ None → ⊥
some_is_not_none city f = absurd cc

wrong : true ≡ false → ⊥
wrong f = absurd cc

positive : (n : ℕ) → (n == 0) ≡ false → 0 < n
positive zero f = absurd (wrong f)
positive (suc n) f = omega arith

-- where a sector must come no plus-up stands, and there is room for one
pub begun_room : (d : DraftLine) → IsDraft d → length d.pending ≡ 0 → (is_some d.gap || (length d.parts == 0)) ≡ true → (count d < 16) × (length d.plus ≡ 0)
begun_room d draft none h = go d.gap refl
  where
    no_more : (0 < length d.plus → ⊥) → length d.plus ≡ 0
    no_more k = elim (cases_lt 0 (length d.plus)) [ inl more ↦ absurd (k more) | inr none ↦ omega arith ]

    go : (gap : Option City) → d.gap ≡ gap → (count d < 16) × (length d.plus ≡ 0)
    go None e =
        let empty : length d.parts ≡ 0 = eqb-true (length d.parts) 0 (ap (λ (g : Option City). is_some g || (length d.parts == 0)) (sym e) ∙ h) in
        let begun : 0 ≡ d.begun = ap (λ (k : List LinePart). last_end 0 k) (sym (no_items d.parts empty)) ∙ draft.begun in
        let gaps : gap_count d.gap ≡ 0 = ap gap_count e in
        (omega arith, no_more (λ more. absurd (omega (arith, (draft.plus_behind more).some_part))))
    go (Some city) e =
        let gaps : gap_count d.gap ≡ 1 = ap gap_count e in
        let room = draft.gap_room (ap is_some e) in
        (omega arith, no_more (λ more. some_is_not_none city (sym e ∙ (draft.plus_behind more).no_gap)))

-- else a part is read, and nothing of the next
pub is_between : (d : DraftLine) → length d.pending ≡ 0 → (is_some d.gap || (length d.parts == 0)) ≡ false → IsBetween d
is_between d none h = go d.gap refl
  where
    go : (gap : Option City) → d.gap ≡ gap → IsBetween d
    go None e =
        let some : (length d.parts == 0) ≡ false = ap (λ (g : Option City). is_some g || (length d.parts == 0)) (sym e) ∙ h in
        record { none_pending = none; no_gap = e; some_part = positive (length d.parts) some }
    go (Some city) e = absurd (wrong (ap (λ (g : Option City). is_some g || (length d.parts == 0)) (sym e) ∙ h))

-- where a sector must come no part is done with
not_between : (d : DraftLine) → (is_some d.gap || (length d.parts == 0)) ≡ true → IsBetween d → ⊥
not_between d h between =
    let empty : length d.parts ≡ 0 = eqb-true (length d.parts) 0 (ap (λ (g : Option City). is_some g || (length d.parts == 0)) (sym between.no_gap) ∙ h) in
    let some = between.some_part in
    absurd (omega arith)

begun_only : (d : DraftLine) → length d.pending ≡ 0 → (is_some d.gap || (length d.parts == 0)) ≡ true → (piece : Piece) (text : List ℕ) → IsNext d piece text → SectorText piece text
begun_only d none h (Sector sector) text k = sector_from d sector text k
begun_only d none h (Part part) text k = (let some = k.allowed.1 in absurd (omega arith))
begun_only d none h (Gap city) text k = absurd (not_between d h k.allowed.1)
begun_only d none h (Plus plus) text k = absurd (not_between d h k.allowed.1)
begun_only d none h (End totals) text k = absurd (not_between d h k.allowed.2)

closing_only : (d : DraftLine) → IsBetween d → 0 < length d.plus → (piece : Piece) (text : List ℕ) → IsNext d piece text → Closes d piece text
closing_only d between more (Sector sector) text k = (let none = k.allowed.2 in absurd (omega arith))
closing_only d between more (Part part) text k = (let some = k.allowed.1 in absurd (omega (arith, between.none_pending)))
closing_only d between more (Gap city) text k = (let none = k.allowed.3 in absurd (omega arith))
closing_only d between more (Plus plus) text k = record { closing = tt; next = k }
closing_only d between more (End totals) text k = record { closing = tt; next = k }

pub reads_piece : (d : DraftLine) → IsDraft d → Reads (IsNext d) (piece_at d)
unfolding piece_at
reads_piece d draft = elim (cases_lt 0 (length d.pending)) [
  | inl some ↦ same_reader (IsNext d) (within_at d) (piece_at d) (within_reads d draft some (no_plus d draft some)) (λ bytes. rw (lt-ltb 0 (length d.pending) some) refl)
  | inr least ↦ (let none : length d.pending ≡ 0 = omega arith in at none (le-ltb 0 (length d.pending) least) (is_some d.gap || (length d.parts == 0)) refl)
]
  where
    at : length d.pending ≡ 0 → nat_lt 0 (length d.pending) ≡ false → (b : Bool) → (is_some d.gap || (length d.parts == 0)) ≡ b → Reads (IsNext d) (piece_at d)
    at none test true h =
        let room = begun_room d draft none h in
        same_reader (IsNext d) sector_piece (piece_at d)
        (same SectorText (IsNext d) sector_piece sector_reads (λ piece text m. sector_next d piece text room.0 room.1 m) (λ piece text k. begun_only d none h piece text k))
        (λ bytes. rw (test, h) refl)
    at none test false h =
        let between = is_between d none h in
        elim (cases_lt 0 (length d.plus)) [
          | inl more ↦ same_reader (IsNext d) (closing_at d) (piece_at d)
              (same (Closes d) (IsNext d) (closing_at d) (closing_reads d between) (λ piece text c. closing_next d piece text c) (λ piece text k. closing_only d between more piece text k))
              (λ bytes. rw (test, h, lt-ltb 0 (length d.plus) more) refl)
          | inr few ↦ (let empty : length d.plus ≡ 0 = omega arith in
              same_reader (IsNext d) (between_at d) (piece_at d) (between_reads d between empty) (λ bytes. rw (test, h, le-ltb 0 (length d.plus) few) refl))
        ]

-- a piece that is read may come next
pub piece_allowed : (d : DraftLine) (bytes rest : List ℕ) (piece : Piece) → IsDraft d → piece_at d bytes ≡ Ok (piece, rest) → Allowed d piece
piece_allowed d bytes rest piece draft e = ((reads_piece d draft).found bytes rest piece e).1.allowed
