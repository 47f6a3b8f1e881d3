-- A line as far as it is read: what holds of it holds with a piece more.
use Rattle.std.proofs.Common.{◌≡◌, ◌∙◌, ◌<◌, ◌≤◌, ◌+◌, ◌-◌, ℕ, Bool, true, List, [], ◌∷◌, ◌++◌, length, take, drop, Option, Some, None, refl, sym, ap, subst, arith, length-append}
use Rattle.std.specs.Prelude.{is_some, is_none}
use Rattle.std.proofs.lemmas.Bool.{lt-ltb, le-leb, eqb-true}
use Rattle.std.proofs.lemmas.List.Folds.{list_all-append}
use Rattle.std.proofs.lemmas.List.{drop_all, length-drop, length-take, take-append-drop, take_all}
use Rattle.std.specs.List.{list_all}
use Rattle.fare_codes.specs.Codes.{is_city}
use Rattle.fare_codes.specs.declared.city.City.{City}
use Rattle.fare_line.specs.declared.line.sector.LineSector.{LineSector}
use Rattle.fare_line.specs.declared.line.part.LinePart.{LinePart}
use Rattle.fare_line.specs.declared.line.plus_up.PlusUp.{PlusUp}
use Rattle.fare_line.specs.declared.reading.pieces.Totals.{Totals}
use Rattle.fare_line.specs.declared.reading.pieces.Piece.{Piece}
use Rattle.fare_line.specs.declared.reading.pieces.Piece.TheVariants.{Sector, Part, Gap, Plus, End}
use Rattle.fare_line.specs.Line.{are_parts, flown_count, gap_count, is_flown, is_led, is_line, is_plus, is_priced}
use Rattle.fare_line.specs.reader.Draft.{DraftLine, IsDraft, Allowed, count, ended, start, last_end, leads_without_gap, with_piece}
use Rattle.fare_line.proofs.PartLemmas.{leads}

-- all of some and one more
all_more : {A : Type 0} (p : A → Bool) (xs : List A) (x : A) → list_all p xs ≡ true → p x ≡ true → list_all p (xs ++ x ∷ []) ≡ true
all_more p xs x h k = list_all-append p xs (x ∷ []) ∙ rw (h, k) refl

pub all_joined : {A : Type 0} (p : A → Bool) (xs ys : List A) → list_all p xs ≡ true → list_all p ys ≡ true → list_all p (xs ++ ys) ≡ true
all_joined p xs ys h k = list_all-append p xs ys ∙ rw (h, k) refl

pub no_parts : (begun : ℕ) → are_parts begun 0 [] ≡ true
unfolding are_parts
no_parts begun = refl

pub parts_from : (begun flown : ℕ) (part : LinePart) (parts : List LinePart) → is_priced part ≡ true → begun + gap_count part.gap < part.end → part.end ≤ 16
    → flown_count begun part ≤ flown → are_parts part.end (flown - flown_count begun part) parts ≡ true → are_parts begun flown (part ∷ parts) ≡ true
unfolding are_parts
parts_from begun flown part parts x y z w rest = rw (x, lt-ltb (begun + gap_count part.gap) part.end y, le-leb part.end 16 z, le-leb (flown_count begun part) flown w, rest) refl

pub none_flown : (begun flown : ℕ) → are_parts begun flown [] ≡ true → flown ≡ 0
unfolding are_parts
none_flown begun flown h = eqb-true flown 0 h

-- one part more
parts_more : (parts : List LinePart) (begun flown more : ℕ) (part : LinePart) → are_parts begun flown parts ≡ true
    → is_priced part ≡ true → last_end begun parts + gap_count part.gap < part.end → part.end ≤ 16 → more ≡ flown_count (last_end begun parts) part
    → are_parts begun (flown + more) (parts ++ part ∷ []) ≡ true
parts_more [] begun flown more part h x y z w =
    let none = none_flown begun flown h in
    parts_from begun (flown + more) part [] x y z (omega arith) (let left : flown + more - flown_count begun part ≡ 0 = omega arith in ap (λ (k : ℕ). are_parts part.end k []) left ∙ no_parts part.end)
parts_more (first ∷ parts) begun flown more part h x y z w =
    let lead = leads begun flown first parts h in
    let fits = lead.fits in
    let left : flown + more - flown_count begun first ≡ flown - flown_count begun first + more = omega arith in
    parts_from begun (flown + more) first (parts ++ part ∷ []) lead.priced lead.begins lead.ends (omega arith)
    (ap (λ (k : ℕ). are_parts first.end k (parts ++ part ∷ [])) left ∙ parts_more parts first.end (flown - flown_count begun first) more part lead.rest x y z w)

last_more : (parts : List LinePart) (begun : ℕ) (part : LinePart) → last_end begun (parts ++ part ∷ []) ≡ part.end
last_more [] begun part = refl
last_more (first ∷ parts) begun part = last_more parts first.end part

led_more : (parts : List LinePart) (part : LinePart) → leads_without_gap parts ≡ true → (length parts ≡ 0 → is_none part.gap ≡ true) → leads_without_gap (parts ++ part ∷ []) ≡ true
led_more [] part h k = k refl
led_more (first ∷ parts) part h k = h

-- no more sectors are flown than end, nor more parts
pub flown_le : (parts : List LinePart) (begun flown : ℕ) → are_parts begun flown parts ≡ true → (begun + flown ≤ last_end begun parts) × (begun + length parts ≤ last_end begun parts)
flown_le [] begun flown h = let none = none_flown begun flown h in (omega arith, omega arith)
flown_le (part ∷ parts) begun flown h =
    let lead = leads begun flown part parts h in
    let rest = flown_le parts part.end (flown - flown_count begun part) lead.rest in
    let begins = lead.begins in
    let fits = lead.fits in
    (omega (arith, rest.0), omega (arith, rest.1))

-- nothing but the first city
pub draft_start : (from : City) → is_city from ≡ true → IsDraft (start from)
draft_start from h = record {
  from = h;
  closed = refl;
  parts = no_parts 0;
  begun = refl;
  led = refl;
  gap = refl;
  behind_part = λ e. absurd cc;
  gap_room = λ e. absurd cc;
  pending = refl;
  room = omega arith;
  plus = refl;
  plus_room = omega arith;
  plus_behind = λ e. absurd (omega arith);
}

no_gap_first : (gap : Option City) (n : ℕ) → (is_some gap ≡ true → 0 < n) → n ≡ 0 → is_none gap ≡ true
no_gap_first None n h e = refl
no_gap_first (Some city) n h e = absurd (omega (arith, h refl))

pub draft_with : (d : DraftLine) (piece : Piece) → IsDraft d → Allowed d piece → IsDraft (with_piece d piece)
draft_with d (Sector sector) draft allowed =
    let few = allowed.1 in
    let more : length (d.pending ++ sector ∷ []) ≡ length d.pending + 1 = length-append d.pending (sector ∷ []) in
    record {
      from = draft.from;
      closed = draft.closed;
      parts = draft.parts;
      begun = draft.begun;
      led = draft.led;
      gap = draft.gap;
      behind_part = draft.behind_part;
      gap_room = draft.gap_room;
      pending = all_more is_flown d.pending sector draft.pending allowed.0;
      room = omega arith;
      plus = draft.plus;
      plus_room = draft.plus_room;
      plus_behind = λ some. absurd (omega (arith, allowed.2));
    }
draft_with d (Part part) draft allowed =
    let some = allowed.1 in
    let end = allowed.2 in
    let gap = allowed.3 in
    let gaps : gap_count part.gap ≡ gap_count d.gap = ap gap_count gap in
    let room = draft.room in
    let begun = draft.begun in
    let size : length (d.closed ++ d.pending) ≡ length d.closed + length d.pending = length-append d.closed d.pending in
    record {
      from = draft.from;
      closed = all_joined is_flown d.closed d.pending draft.closed draft.pending;
      parts = ap (λ (k : ℕ). are_parts 0 k (d.parts ++ part ∷ [])) size
          ∙ parts_more d.parts 0 (length d.closed) (length d.pending) part draft.parts allowed.0 (omega arith) (omega arith) (omega arith);
      begun = last_more d.parts 0 part;
      led = led_more d.parts part draft.led (λ none. ap is_none gap ∙ no_gap_first d.gap (length d.parts) draft.behind_part none);
      gap = refl;
      behind_part = λ e. absurd cc;
      gap_room = λ e. absurd cc;
      pending = refl;
      room = omega arith;
      plus = draft.plus;
      plus_room = draft.plus_room;
      plus_behind = λ more. absurd (omega (arith, (draft.plus_behind more).none_pending));
    }
draft_with d (Gap city) draft allowed =
    let between = allowed.1 in
    let pending = between.none_pending in
    let gap : gap_count d.gap ≡ 0 = ap gap_count between.no_gap in
    let few = allowed.2 in
    let none = allowed.3 in
    record {
      from = draft.from;
      closed = draft.closed;
      parts = draft.parts;
      begun = draft.begun;
      led = draft.led;
      gap = allowed.0;
      behind_part = λ e. between.some_part;
      gap_room = λ e. omega arith;
      pending = draft.pending;
      room = omega arith;
      plus = draft.plus;
      plus_room = draft.plus_room;
      plus_behind = λ more. absurd (omega arith);
    }
draft_with d (Plus plus) draft allowed =
    let few = allowed.2 in
    let more : length (d.plus ++ plus ∷ []) ≡ length d.plus + 1 = length-append d.plus (plus ∷ []) in
    record {
      from = draft.from;
      closed = draft.closed;
      parts = draft.parts;
      begun = draft.begun;
      led = draft.led;
      gap = draft.gap;
      behind_part = draft.behind_part;
      gap_room = draft.gap_room;
      pending = draft.pending;
      room = draft.room;
      plus = all_more is_plus d.plus plus draft.plus allowed.0;
      plus_room = omega arith;
      plus_behind = λ some. record { none_pending = allowed.1.none_pending; no_gap = allowed.1.no_gap; some_part = allowed.1.some_part };
    }
draft_with d (End totals) draft allowed = draft

-- there is room for a sector more, and for a part more
pub few_sectors : (d : DraftLine) → IsDraft d → (length d.closed + length d.pending ≤ count d) × (length d.parts ≤ d.begun)
few_sectors d draft =
    let both = flown_le d.parts 0 (length d.closed) draft.parts in
    let begun = draft.begun in
    (omega (arith, both.0), omega (arith, both.1))

-- the sectors of a draft, apart and together
pub sectors_of : (xs : List LineSector) (closed : ℕ) → closed ≤ length xs → length (take closed xs) + length (drop closed xs) ≡ length xs
sectors_of xs closed h = omega (arith, length-take closed xs, length-drop closed xs)

led : (parts : List LinePart) → 0 < length parts → leads_without_gap parts ≡ true → is_led parts ≡ true
led [] some h = absurd (omega arith)
led (first ∷ others) some h = h

-- a line that is ended is one
pub ended_is_line : (d : DraftLine) (totals : Totals) → IsDraft d → Allowed d (End totals) → is_line (ended d totals) ≡ true
unfolding is_line
ended_is_line d totals draft allowed =
    rw (draft.from, draft.closed, led d.parts allowed.2.some_part draft.led, draft.parts, draft.plus, le-leb (length d.plus) 16 draft.plus_room, allowed.0, allowed.1) refl

-- no sector is pending
pub none_pending : (xs : List LineSector) (closed : ℕ) → length (drop closed xs) ≡ 0 → take closed xs ≡ xs
none_pending xs closed h = take_all closed xs (omega (arith, length-drop closed xs))

-- there is room for a part more
pub part_room : (d : DraftLine) (part : LinePart) → IsDraft d → Allowed d (Part part) → length d.parts < 16
part_room d part draft allowed =
    let few = few_sectors d draft in
    let room = draft.room in
    let some = allowed.1 in
    omega (arith, few.1)

-- a draft whose sectors are kept in one list
abbrev pub kept : City → List LineSector → ℕ → List LinePart → ℕ → Option City → List PlusUp → DraftLine
kept from sectors closed parts begun gap plus = record { from = from; closed = take closed sectors; parts = parts; begun = begun; gap = gap; pending = drop closed sectors; plus = plus }

pub part_kept : (from : City) (sectors : List LineSector) (closed : ℕ) (parts : List LinePart) (begun : ℕ) (gap : Option City) (plus : List PlusUp) (n : ℕ) (new : List LinePart) (part : LinePart)
    → IsDraft (kept from sectors closed parts begun gap plus) → Allowed (kept from sectors closed parts begun gap plus) (Part part)
    → n ≡ length sectors → new ≡ parts ++ part ∷ [] → IsDraft (kept from sectors n new part.end None plus)
part_kept from sectors closed parts begun gap plus n new part draft allowed all more =
    let next = draft_with (kept from sectors closed parts begun gap plus) (Part part) draft allowed in
    let front : take closed sectors ++ drop closed sectors ≡ take n sectors = take-append-drop closed sectors ∙ sym (take_all n sectors (omega arith)) in
    let back : [] ≡ drop n sectors = sym (drop_all n sectors (omega arith)) in
    let one : IsDraft (record { from = from; closed = take n sectors; parts = parts ++ part ∷ []; begun = part.end; gap = None; pending = []; plus = plus }) =
    subst (λ (k : List LineSector). IsDraft (record { from = from; closed = k; parts = parts ++ part ∷ []; begun = part.end; gap = None; pending = []; plus = plus })) front next in
    let two : IsDraft (record { from = from; closed = take n sectors; parts = parts ++ part ∷ []; begun = part.end; gap = None; pending = drop n sectors; plus = plus }) =
    subst (λ (k : List LineSector). IsDraft (record { from = from; closed = take n sectors; parts = parts ++ part ∷ []; begun = part.end; gap = None; pending = k; plus = plus })) back one in
    subst (λ (k : List LinePart). IsDraft (kept from sectors n k part.end None plus)) (sym more) two

-- what the clauses say of a draft holds of its fields
pub allowed_of : (d e : DraftLine) (piece : Piece) → d ≡ e → Allowed e piece → Allowed d piece
allowed_of d e piece same h = subst (λ (k : DraftLine). Allowed k piece) (sym same) h

-- a line that is ended is one, its sectors kept in one list
pub kept_is_line : (from : City) (sectors : List LineSector) (closed : ℕ) (parts : List LinePart) (begun : ℕ) (gap : Option City) (plus : List PlusUp) (totals : Totals)
    → IsDraft (kept from sectors closed parts begun gap plus) → Allowed (kept from sectors closed parts begun gap plus) (End totals)
    → is_line (record { from = from; sectors = sectors; parts = parts; plus = plus; total = totals.total; roe = totals.roe }) ≡ true
kept_is_line from sectors closed parts begun gap plus totals draft allowed =
    let whole = ended_is_line (kept from sectors closed parts begun gap plus) totals draft allowed in
    let all : take closed sectors ≡ sectors = none_pending sectors closed allowed.2.none_pending in
    subst (λ (k : List LineSector). is_line (record { from = from; sectors = k; parts = parts; plus = plus; total = totals.total; roe = totals.roe }) ≡ true) all whole
