-- What leads to a line is that line's text.
use Rattle.std.proofs.Common.{◌≡◌, ◌∙◌, ◌-◌, ℕ, true, List, [], ◌∷◌, ◌++◌, length, take, drop, Option, Some, refl, sym, ap, arith, append_assoc, append-nil}
use Rattle.std.specs.List.{flat_map}
use Rattle.std.proofs.lemmas.List.{drop-append-le, flat_map_more, length-drop, take-append-le, take_all}
use Rattle.fare_codes.specs.declared.city.City.{City}
use Rattle.fare_line.specs.declared.line.sector.LineSector.{LineSector}
use Rattle.fare_line.specs.declared.line.part.LinePart.{LinePart}
use Rattle.fare_line.specs.declared.line.plus_up.PlusUp.{PlusUp}
use Rattle.fare_line.specs.declared.reading.pieces.Totals.{Totals}
use Rattle.fare_line.specs.declared.reading.pieces.Piece.{Piece}
use Rattle.fare_line.specs.declared.reading.pieces.Piece.TheVariants.{Sector, Part, Gap, Plus, End}
use Rattle.fare_line.specs.Line.{CalculationLine, are_parts, flown_count, gap_count, is_line}
use Rattle.fare_line.specs.LineText.{gap_text, line_text, part_text, parts_text, plus_text, price_text, sector_text, spaced}
use Rattle.fare_line.specs.reader.Draft.{DraftLine, IsDraft, IsBetween, count, ended, last_end, with_piece}
use Rattle.fare_line.proofs.PartLemmas.{leads}
use Rattle.fare_line.proofs.DraftLaws.{draft_with, ended_is_line, none_flown}
use Rattle.fare_line.proofs.PieceLaws.{text_of_totals}
use Rattle.fare_line.proofs.PieceAt.{no_plus, piece_text}
use Rattle.fare_line.proofs.RunLaws.{Way}

-- the text of a draft
unfoldable pub so_far : DraftLine → List ℕ
so_far d = spaced d.from ++ (parts_text 0 d.closed d.parts ++ ((gap_text d.gap ++ flat_map sector_text d.pending) ++ flat_map plus_text d.plus))

flat_more : {X : Type 0} (f : X → List ℕ) (xs : List X) (x : X) → flat_map f (xs ++ x ∷ []) ≡ flat_map f xs ++ f x
flat_more f xs x = sym (flat_map_more f [] xs x)

pub empty : {X : Type 0} (xs : List X) → length xs ≡ 0 → xs ≡ []
empty [] h = refl
empty (x ∷ xs) h = absurd (omega arith)

no_parts_text : (begun : ℕ) (sectors : List LineSector) → parts_text begun sectors [] ≡ []
unfolding parts_text
no_parts_text begun sectors = refl

pub parts_text_next : (begun : ℕ) (sectors : List LineSector) (part : LinePart) (parts : List LinePart)
    → parts_text begun sectors (part ∷ parts) ≡ part_text (take (flown_count begun part) sectors) part ++ parts_text part.end (drop (flown_count begun part) sectors) parts
unfolding parts_text
parts_text_next begun sectors part parts = refl

-- one part more
parts_text_more : (parts : List LinePart) (begun : ℕ) (closed pending : List LineSector) (part : LinePart) → are_parts begun (length closed) parts ≡ true
    → flown_count (last_end begun parts) part ≡ length pending
    → parts_text begun (closed ++ pending) (parts ++ part ∷ []) ≡ parts_text begun closed parts ++ part_text pending part
parts_text_more [] begun closed pending part h n =
    let none : closed ≡ [] = empty closed (none_flown begun (length closed) h) in
    let all : take (flown_count begun part) pending ≡ pending = take_all (flown_count begun part) pending (omega arith) in
    ap (λ (k : List LineSector). parts_text begun (k ++ pending) (part ∷ [])) none
    ∙ parts_text_next begun pending part []
    ∙ ap (λ (t : List ℕ). part_text (take (flown_count begun part) pending) part ++ t) (no_parts_text part.end (drop (flown_count begun part) pending))
    ∙ append-nil (part_text (take (flown_count begun part) pending) part)
    ∙ ap (λ (k : List LineSector). part_text k part) all
    ∙ ap (λ (t : List ℕ). t ++ part_text pending part) (sym (no_parts_text begun closed))
parts_text_more (first ∷ parts) begun closed pending part h n =
    let lead = leads begun (length closed) first parts h in
    let fits = lead.fits in
    let front : take (flown_count begun first) (closed ++ pending) ≡ take (flown_count begun first) closed = take-append-le (flown_count begun first) closed pending fits in
    let back : drop (flown_count begun first) (closed ++ pending) ≡ drop (flown_count begun first) closed ++ pending = drop-append-le (flown_count begun first) closed pending fits in
    let size : length (drop (flown_count begun first) closed) ≡ length closed - flown_count begun first = length-drop (flown_count begun first) closed in
    let rest : are_parts first.end (length (drop (flown_count begun first) closed)) parts ≡ true = ap (λ (k : ℕ). are_parts first.end k parts) size ∙ lead.rest in
    let more = parts_text_more parts first.end (drop (flown_count begun first) closed) pending part rest n in
    parts_text_next begun (closed ++ pending) first (parts ++ part ∷ [])
    ∙ ap (λ (k : List LineSector). part_text k first ++ parts_text first.end (drop (flown_count begun first) (closed ++ pending)) (parts ++ part ∷ [])) front
    ∙ ap (λ (k : List LineSector). part_text (take (flown_count begun first) closed) first ++ parts_text first.end k (parts ++ part ∷ [])) back
    ∙ ap (λ (t : List ℕ). part_text (take (flown_count begun first) closed) first ++ t) more
    ∙ sym (append_assoc (part_text (take (flown_count begun first) closed) first) (parts_text first.end (drop (flown_count begun first) closed) parts) (part_text pending part))
    ∙ ap (λ (t : List ℕ). t ++ part_text pending part) (sym (parts_text_next begun closed first parts))

-- ---- the text with a piece more

behind_nothing : (a b c e : List ℕ) → a ++ (b ++ ((c ++ e) ++ [])) ≡ (a ++ (b ++ (c ++ []))) ++ e
behind_nothing a b c e = simp (append_assoc, append-nil)

sector_more : (d : DraftLine) (sector : LineSector) → d.plus ≡ [] → so_far (with_piece d (Sector sector)) ≡ so_far d ++ sector_text sector
unfolding so_far
sector_more d sector none =
    ap (λ (t : List ℕ). spaced d.from ++ (parts_text 0 d.closed d.parts ++ ((gap_text d.gap ++ t) ++ flat_map plus_text d.plus))) (flat_more sector_text d.pending sector)
    ∙ ap (λ (k : List PlusUp). spaced d.from ++ (parts_text 0 d.closed d.parts ++ ((gap_text d.gap ++ (flat_map sector_text d.pending ++ sector_text sector)) ++ flat_map plus_text k))) none
    ∙ regroup (spaced d.from) (parts_text 0 d.closed d.parts) (gap_text d.gap) (flat_map sector_text d.pending) (sector_text sector)
    ∙ ap (λ (k : List PlusUp). (spaced d.from ++ (parts_text 0 d.closed d.parts ++ ((gap_text d.gap ++ flat_map sector_text d.pending) ++ flat_map plus_text k))) ++ sector_text sector) (sym none)
  where
    regroup : (a b c x y : List ℕ) → a ++ (b ++ ((c ++ (x ++ y)) ++ [])) ≡ (a ++ (b ++ ((c ++ x) ++ []))) ++ y
    regroup a b c x y = simp (append_assoc, append-nil)

part_more : (d : DraftLine) (part : LinePart) → IsDraft d → d.plus ≡ [] → part.end ≡ count d → part.gap ≡ d.gap → so_far (with_piece d (Part part)) ≡ so_far d ++ price_text part
unfolding so_far
part_more d part draft none end gap =
    let gaps : gap_count part.gap ≡ gap_count d.gap = ap gap_count gap in
    let begun = draft.begun in
    let more = parts_text_more d.parts 0 d.closed d.pending part draft.parts (omega arith) in
    ap (λ (t : List ℕ). spaced d.from ++ (t ++ (([] ++ []) ++ flat_map plus_text d.plus))) more
    ∙ ap (λ (k : List PlusUp). spaced d.from ++ ((parts_text 0 d.closed d.parts ++ part_text d.pending part) ++ (([] ++ []) ++ flat_map plus_text k))) none
    ∙ ap (λ (g : Option City). spaced d.from ++ ((parts_text 0 d.closed d.parts ++ (gap_text g ++ flat_map sector_text d.pending ++ price_text part)) ++ (([] ++ []) ++ []))) gap
    ∙ regroup (spaced d.from) (parts_text 0 d.closed d.parts) (gap_text d.gap) (flat_map sector_text d.pending) (price_text part)
    ∙ ap (λ (k : List PlusUp). (spaced d.from ++ (parts_text 0 d.closed d.parts ++ ((gap_text d.gap ++ flat_map sector_text d.pending) ++ flat_map plus_text k))) ++ price_text part) (sym none)
  where
    regroup : (a b c x y : List ℕ) → a ++ ((b ++ (c ++ x ++ y)) ++ (([] ++ []) ++ [])) ≡ (a ++ (b ++ ((c ++ x) ++ []))) ++ y
    regroup a b c x y = simp (append_assoc, append-nil)

gap_more : (d : DraftLine) (city : City) → IsBetween d → d.plus ≡ [] → so_far (with_piece d (Gap city)) ≡ so_far d ++ gap_text (Some city)
unfolding so_far
gap_more d city between none =
    ap (λ (k : List LineSector). spaced d.from ++ (parts_text 0 d.closed d.parts ++ ((gap_text (Some city) ++ flat_map sector_text k) ++ flat_map plus_text d.plus))) (empty d.pending between.none_pending)
    ∙ ap (λ (k : List PlusUp). spaced d.from ++ (parts_text 0 d.closed d.parts ++ ((gap_text (Some city) ++ []) ++ flat_map plus_text k))) none
    ∙ regroup (spaced d.from) (parts_text 0 d.closed d.parts) (gap_text (Some city))
    ∙ ap (λ (k : List PlusUp). (spaced d.from ++ (parts_text 0 d.closed d.parts ++ (([] ++ []) ++ flat_map plus_text k))) ++ gap_text (Some city)) (sym none)
    ∙ ap (λ (k : List LineSector). (spaced d.from ++ (parts_text 0 d.closed d.parts ++ (([] ++ flat_map sector_text k) ++ flat_map plus_text d.plus))) ++ gap_text (Some city)) (sym (empty d.pending between.none_pending))
    ∙ ap (λ (g : Option City). (spaced d.from ++ (parts_text 0 d.closed d.parts ++ ((gap_text g ++ flat_map sector_text d.pending) ++ flat_map plus_text d.plus))) ++ gap_text (Some city)) (sym between.no_gap)
  where
    regroup : (a b c : List ℕ) → a ++ (b ++ ((c ++ []) ++ [])) ≡ (a ++ (b ++ (([] ++ []) ++ []))) ++ c
    regroup a b c = simp (append_assoc, append-nil)

plus_more : (d : DraftLine) (plus : PlusUp) → so_far (with_piece d (Plus plus)) ≡ so_far d ++ plus_text plus
unfolding so_far
plus_more d plus =
    ap (λ (t : List ℕ). spaced d.from ++ (parts_text 0 d.closed d.parts ++ ((gap_text d.gap ++ flat_map sector_text d.pending) ++ t))) (flat_more plus_text d.plus plus)
    ∙ regroup (spaced d.from) (parts_text 0 d.closed d.parts) (gap_text d.gap ++ flat_map sector_text d.pending) (flat_map plus_text d.plus) (plus_text plus)
  where
    regroup : (a b c x y : List ℕ) → a ++ (b ++ (c ++ (x ++ y))) ≡ (a ++ (b ++ (c ++ x))) ++ y
    regroup a b c x y = simp append_assoc

end_more : (d : DraftLine) (totals : Totals) → IsBetween d → line_text (ended d totals) ≡ so_far d ++ text_of_totals totals
unfolding line_text so_far
end_more d totals between =
    regroup (spaced d.from) (parts_text 0 d.closed d.parts) (flat_map plus_text d.plus) (text_of_totals totals)
    ∙ ap (λ (k : List LineSector). (spaced d.from ++ (parts_text 0 d.closed d.parts ++ (([] ++ flat_map sector_text k) ++ flat_map plus_text d.plus))) ++ text_of_totals totals) (sym (empty d.pending between.none_pending))
    ∙ ap (λ (g : Option City). (spaced d.from ++ (parts_text 0 d.closed d.parts ++ ((gap_text g ++ flat_map sector_text d.pending) ++ flat_map plus_text d.plus))) ++ text_of_totals totals) (sym between.no_gap)
  where
    regroup : (a b c e : List ℕ) → a ++ b ++ c ++ e ≡ (a ++ (b ++ (([] ++ []) ++ c))) ++ e
    regroup a b c e = simp append_assoc

-- ---- a whole way

-- a step and the rest
onward : (line : List ℕ) (old new piece rest : List ℕ) → line ≡ new ++ rest → new ≡ old ++ piece → line ≡ old ++ (piece ++ rest)
onward line old new piece rest e f = e ∙ ap (λ (t : List ℕ). t ++ rest) f ∙ append_assoc old piece rest

pub way_is_text : (pieces : List Piece) (d : DraftLine) (line : CalculationLine) → IsDraft d → Way d pieces line → (is_line line ≡ true) × (line_text line ≡ so_far d ++ flat_map piece_text pieces)
way_is_text [] d line draft way = absurd way
way_is_text (Sector sector ∷ pieces) d line draft way =
    let rest = way_is_text pieces (with_piece d (Sector sector)) line (draft_with d (Sector sector) draft way.0) way.1 in
    (rest.0, onward (line_text line) (so_far d) (so_far (with_piece d (Sector sector))) (sector_text sector) (flat_map piece_text pieces) rest.1 (sector_more d sector (empty d.plus way.0.2)))
way_is_text (Part part ∷ pieces) d line draft way =
    let rest = way_is_text pieces (with_piece d (Part part)) line (draft_with d (Part part) draft way.0) way.1 in (
      rest.0,
      onward (line_text line) (so_far d) (so_far (with_piece d (Part part))) (price_text part) (flat_map piece_text pieces) rest.1
          (part_more d part draft (empty d.plus (no_plus d draft way.0.1)) way.0.2 way.0.3),
    )
way_is_text (Gap city ∷ pieces) d line draft way =
    let rest = way_is_text pieces (with_piece d (Gap city)) line (draft_with d (Gap city) draft way.0) way.1 in
    (rest.0, onward (line_text line) (so_far d) (so_far (with_piece d (Gap city))) (gap_text (Some city)) (flat_map piece_text pieces) rest.1 (gap_more d city way.0.1 (empty d.plus way.0.3)))
way_is_text (Plus plus ∷ pieces) d line draft way =
    let rest = way_is_text pieces (with_piece d (Plus plus)) line (draft_with d (Plus plus) draft way.0) way.1 in
    (rest.0, onward (line_text line) (so_far d) (so_far (with_piece d (Plus plus))) (plus_text plus) (flat_map piece_text pieces) rest.1 (plus_more d plus))
way_is_text (End totals ∷ pieces) d line draft way =
    let is : line ≡ ended d totals = way.1.1 in
    let text : line_text line ≡ so_far d ++ (text_of_totals totals ++ flat_map piece_text pieces) =
    ap line_text is ∙ end_more d totals way.0.2 ∙ ap (λ (t : List ℕ). so_far d ++ t) (sym (append-nil (text_of_totals totals)) ∙ ap (λ (k : List Piece). text_of_totals totals ++ flat_map piece_text k) (sym way.1.0)) in
    (ap is_line is ∙ ended_is_line d totals draft way.0, text)
