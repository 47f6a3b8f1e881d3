-- The rows of a text of whole lines and of what stands behind it.
use Rattle.std.proofs.Common.{◌≡◌, ◌-◌, ℕ, suc, List, [], ◌∷◌, ◌++◌, length, Bool, true, false, Option, Some, None, refl, sym, ap, ◌∙◌, arith}
use Rattle.std.specs.Prelude.{◌==◌, ◌&&◌, ⊤}
use Rattle.std.specs.List.{list_all}
use Rattle.csv.specs.Machine.{Read, in_field, next_record, start_field, step}
use Rattle.csv.specs.Reading.{default_config, strip_bom}
use Rattle.csv.specs.declared.parser.Action.{Action}
use Rattle.csv.specs.declared.parser.Action.TheVariants as act
use Rattle.csv.specs.declared.parser.State.{State}
use Rattle.csv.specs.declared.parser.State.TheVariants as st
use Rattle.fare_csv.specs.Rows.{Fields, rows_from, rows_of}
use Rattle.fare_csv.specs.Pieces.{ends_a_line, is_unmarked, is_unquoted, is_whole}
use Rattle.std.proofs.lemmas.Bool.{not-true}
use Rattle.std.proofs.lemmas.Bool.Decides.{nat_tests}
use Rattle.fare_csv.proofs.Streaming.{rows_from-end, rows_from-more, rows_of-from}
use Rattle.fare_csv.proofs.PlainLines.{both, strip_bom-other}

-- a row that was read, and the rows behind it
unfoldable rows_after : Option Read → List Fields
rows_after None = []
rows_after (Some found) = found.0 ∷ rows_from found.1 found.2

-- the rows of a text from a row on of which some fields and some bytes of the next were read
unfoldable rows_in : State → Fields → List ℕ → List ℕ → List Fields
rows_in state fields bytes text = rows_after (next_record default_config state fields bytes text)

rows_from-in : (state : State) (text : List ℕ) → rows_from state text ≡ rows_in state [] [] text
unfolding rows_in rows_after
rows_from-in state text = by (next_record default_config state [] [] text) refl
  where
    by : (o : Option Read) → next_record default_config state [] [] text ≡ o → rows_from state text ≡ rows_after o
    by None e = rows_from-end state text e
    by (Some found) e = rows_from-more state text found e

-- the rows after a byte that makes a state and an action
unfoldable rows_on : State × Action → Fields → List ℕ → ℕ → List ℕ → List Fields
rows_on (next, act.EndRecord) fields bytes byte text = (fields ++ (bytes ∷ [])) ∷ rows_in next [] [] text
rows_on (next, act.EndField) fields bytes byte text = rows_in next (fields ++ (bytes ∷ [])) [] text
rows_on (next, act.Copy) fields bytes byte text = rows_in next fields (bytes ++ (byte ∷ [])) text
rows_on (next, act.Skip) fields bytes byte text = rows_in next fields bytes text

-- one byte further
rows_in-on : (state : State) (fields : Fields) (bytes : List ℕ) (byte : ℕ) (text : List ℕ)
    → rows_in state fields bytes (byte ∷ text) ≡ rows_on (step default_config state byte) fields bytes byte text
unfolding rows_in rows_after rows_on next_record
rows_in-on state fields bytes byte text = by (step default_config state byte) refl
  where
    by : (move : State × Action) → step default_config state byte ≡ move
        → rows_in state fields bytes (byte ∷ text) ≡ rows_on move fields bytes byte text
    by (next, act.EndRecord) e = rw e (ap (λ (rows : List Fields). (fields ++ (bytes ∷ [])) ∷ rows) (rows_from-in next text))
    by (next, act.EndField) e = rw e refl
    by (next, act.Copy) e = rw e refl
    by (next, act.Skip) e = rw e refl

-- a state outside quotes; between two rows nothing of a row was read
abbrev IsOutside : State → Fields → List ℕ → Type 0
IsOutside st.StartRecord fields bytes = (fields ≡ []) × (bytes ≡ [])
IsOutside st.AfterCr fields bytes = (fields ≡ []) × (bytes ≡ [])
IsOutside st.StartField fields bytes = ⊤
IsOutside st.InField fields bytes = ⊤
IsOutside st.InQuoted fields bytes = ⊥
IsOutside st.AfterQuote fields bytes = ⊥
IsOutside st.InEscape fields bytes = ⊥
IsOutside st.InComment fields bytes = ⊥

-- a byte leaves a state outside quotes
abbrev StaysOutside : State × Action → Fields → List ℕ → ℕ → Type 0
StaysOutside (next, act.EndRecord) fields bytes byte = IsOutside next [] []
StaysOutside (next, act.EndField) fields bytes byte = IsOutside next (fields ++ (bytes ∷ [])) []
StaysOutside (next, act.Copy) fields bytes byte = IsOutside next fields (bytes ++ (byte ∷ []))
StaysOutside (next, act.Skip) fields bytes byte = IsOutside next fields bytes

in_field-stays : (fields : Fields) (bytes : List ℕ) (byte : ℕ) → StaysOutside (in_field default_config byte) fields bytes byte
in_field-stays fields bytes byte = by (byte == 44) refl (byte == 13) refl (byte == 10) refl
  where
    by : (comma : Bool) → (byte == 44) ≡ comma → (cr : Bool) → (byte == 13) ≡ cr → (lf : Bool) → (byte == 10) ≡ lf
        → StaysOutside (in_field default_config byte) fields bytes byte
    by true e cr f lf g = rw e tt
    by false e true f lf g = rw (e, f) (refl, refl)
    by false e false f true g = rw (e, f, g) (refl, refl)
    by false e false f false g = rw (e, f, g) tt

start_field-stays : (fields : Fields) (bytes : List ℕ) (byte : ℕ) → (byte == 34) ≡ false
    → StaysOutside (start_field default_config byte) fields bytes byte
start_field-stays fields bytes byte unquoted = rw unquoted (in_field-stays fields bytes byte)

start_record-stays : (fields : Fields) (bytes : List ℕ) (byte : ℕ) → (byte == 34) ≡ false → (fields ≡ []) × (bytes ≡ [])
    → StaysOutside (step default_config st.StartRecord byte) fields bytes byte
start_record-stays fields bytes byte unquoted none = by (byte == 13) refl (byte == 10) refl
  where
    by : (cr : Bool) → (byte == 13) ≡ cr → (lf : Bool) → (byte == 10) ≡ lf → StaysOutside (step default_config st.StartRecord byte) fields bytes byte
    by true f lf g = rw f none
    by false f true g = rw (f, g) none
    by false f false g =
        let inside = start_field-stays fields bytes byte unquoted in
        rw (f, g) (rw (f, g) at inside)

after_cr-stays : (fields : Fields) (bytes : List ℕ) (byte : ℕ) → (byte == 34) ≡ false → (fields ≡ []) × (bytes ≡ [])
    → StaysOutside (step default_config st.AfterCr byte) fields bytes byte
after_cr-stays fields bytes byte unquoted none = by (byte == 10) refl
  where
    by : (lf : Bool) → (byte == 10) ≡ lf → StaysOutside (step default_config st.AfterCr byte) fields bytes byte
    by true g = rw g none
    by false g =
        let between = start_record-stays fields bytes byte unquoted none in
        rw g (rw g at between)

-- outside quotes a byte that is no quotation mark leaves a state outside quotes
stays : (state : State) (fields : Fields) (bytes : List ℕ) (byte : ℕ) → IsOutside state fields bytes → (byte == 34) ≡ false
    → StaysOutside (step default_config state byte) fields bytes byte
stays st.StartRecord fields bytes byte outside unquoted = start_record-stays fields bytes byte unquoted outside
stays st.AfterCr fields bytes byte outside unquoted = after_cr-stays fields bytes byte unquoted outside
stays st.StartField fields bytes byte outside unquoted = start_field-stays fields bytes byte unquoted
stays st.InField fields bytes byte outside unquoted = in_field-stays fields bytes byte
stays st.InQuoted fields bytes byte outside unquoted = absurd outside
stays st.AfterQuote fields bytes byte outside unquoted = absurd outside
stays st.InEscape fields bytes byte outside unquoted = absurd outside
stays st.InComment fields bytes byte outside unquoted = absurd outside

-- no text, no row
no-rows : rows_in st.StartRecord [] [] [] ≡ []
unfolding rows_in rows_after next_record
no-rows = refl

-- a line feed outside quotes is followed by a new row
behind-feed : (state : State) (fields : Fields) (bytes rest : List ℕ) → IsOutside state fields bytes
    → rows_in state fields bytes (10 ∷ rest) ≡ rows_in state fields bytes (10 ∷ []) ++ rows_in st.StartRecord [] [] rest
unfolding rows_on
behind-feed st.StartRecord fields bytes rest (f, b) =
    rw (rows_in-on st.StartRecord fields bytes 10 rest, rows_in-on st.StartRecord fields bytes 10 [], f, b, no-rows) refl
behind-feed st.AfterCr fields bytes rest (f, b) =
    rw (rows_in-on st.AfterCr fields bytes 10 rest, rows_in-on st.AfterCr fields bytes 10 [], f, b, no-rows) refl
behind-feed st.StartField fields bytes rest outside =
    rw (rows_in-on st.StartField fields bytes 10 rest, rows_in-on st.StartField fields bytes 10 [], no-rows) refl
behind-feed st.InField fields bytes rest outside =
    rw (rows_in-on st.InField fields bytes 10 rest, rows_in-on st.InField fields bytes 10 [], no-rows) refl
behind-feed st.InQuoted fields bytes rest outside = absurd outside
behind-feed st.AfterQuote fields bytes rest outside = absurd outside
behind-feed st.InEscape fields bytes rest outside = absurd outside
behind-feed st.InComment fields bytes rest outside = absurd outside

-- the rows of a text and of what stands behind it, one byte further
behind-move : (move : State × Action) (fields : Fields) (bytes : List ℕ) (byte : ℕ) (text rest : List ℕ) → StaysOutside move fields bytes byte
    → ((s : State) (f : Fields) (b : List ℕ) → IsOutside s f b → rows_in s f b (text ++ rest) ≡ rows_in s f b text ++ rows_in st.StartRecord [] [] rest)
    → rows_on move fields bytes byte (text ++ rest) ≡ rows_on move fields bytes byte text ++ rows_in st.StartRecord [] [] rest
unfolding rows_on
behind-move (next, act.EndRecord) fields bytes byte text rest outside same =
    ap (λ (rows : List Fields). (fields ++ (bytes ∷ [])) ∷ rows) (same next [] [] outside)
behind-move (next, act.EndField) fields bytes byte text rest outside same = same next (fields ++ (bytes ∷ [])) [] outside
behind-move (next, act.Copy) fields bytes byte text rest outside same = same next fields (bytes ++ (byte ∷ [])) outside
behind-move (next, act.Skip) fields bytes byte text rest outside same = same next fields bytes outside

is-feed : (byte : ℕ) → (byte == 10) ≡ true → byte ≡ 10
is-feed byte e = grind (arith, nat_tests)

-- what ends a line ends one also without its first byte
still-ends : (byte next : ℕ) (text : List ℕ) → ends_a_line (byte ∷ next ∷ text) ≡ true → ends_a_line (next ∷ text) ≡ true
unfolding ends_a_line
still-ends byte next text ends =
    let at : length (byte ∷ next ∷ text) - 1 ≡ suc (length (next ∷ text) - 1) = omega arith in
    rw at at ends

-- the rows of whole lines and of what stands behind them
behind-lines : (byte : ℕ) (text rest : List ℕ) (state : State) (fields : Fields) (bytes : List ℕ) → IsOutside state fields bytes
    → ends_a_line (byte ∷ text) ≡ true → list_all is_unquoted (byte ∷ text) ≡ true
    → rows_in state fields bytes (byte ∷ (text ++ rest)) ≡ rows_in state fields bytes (byte ∷ text) ++ rows_in st.StartRecord [] [] rest
unfolding ends_a_line
behind-lines byte [] rest state fields bytes outside ends unquoted = rw (is-feed byte ends) (behind-feed state fields bytes rest outside)
behind-lines byte (next ∷ text) rest state fields bytes outside ends unquoted =
    let parts = both (is_unquoted byte) (list_all is_unquoted (next ∷ text)) unquoted in
    rw (rows_in-on state fields bytes byte ((next ∷ text) ++ rest), rows_in-on state fields bytes byte (next ∷ text))
    (behind-move (step default_config state byte) fields bytes byte (next ∷ text) rest
    (stays state fields bytes byte outside (not-true _ parts.0))
    (λ s f b o. behind-lines next text rest s f b o (still-ends byte next text ends) parts.1))

-- the rows of a text that doesn't begin as a byte order mark does
rows_of-in : (text : List ℕ) → is_unmarked text ≡ true → rows_of text ≡ rows_in st.StartRecord [] [] text
unfolding is_unmarked strip_bom
rows_of-in [] unmarked = rows_of-from [] ∙ rows_from-in st.StartRecord []
rows_of-in (byte ∷ text) unmarked =
    rows_of-from (byte ∷ text)
    ∙ ap (rows_from st.StartRecord) (strip_bom-other byte text (not-true _ unmarked))
    ∙ rows_from-in st.StartRecord (byte ∷ text)

-- the rows of such a text are those that are read from its start
pub rows_of_unmarked : (text : List ℕ) → is_unmarked text ≡ true → rows_from st.StartRecord text ≡ rows_of text
rows_of_unmarked text unmarked = sym (rows_of-in text unmarked ∙ sym (rows_from-in st.StartRecord text))

-- what stands behind whole lines decides the start only where there is no line
pub unmarked-behind : (text rest : List ℕ) → is_whole text ≡ true → is_unmarked rest ≡ true → is_unmarked (text ++ rest) ≡ true
unfolding is_whole is_unmarked
unmarked-behind [] rest whole unmarked = unmarked
unmarked-behind (byte ∷ text) rest whole unmarked = (both (is_unmarked (byte ∷ text)) _ whole).0

-- the rows of whole lines, and then those of what stands behind them
pub rows_of-behind : (text rest : List ℕ) → is_whole text ≡ true → is_unmarked rest ≡ true
    → rows_of (text ++ rest) ≡ rows_of text ++ rows_of rest
unfolding is_whole
rows_of-behind [] rest whole unmarked = rw (rows_of-in [] (both (is_unmarked []) _ whole).0, no-rows) refl
rows_of-behind (byte ∷ text) rest whole unmarked =
    let start = both (is_unmarked (byte ∷ text)) (ends_a_line (byte ∷ text) && list_all is_unquoted (byte ∷ text)) whole in
    let parts = both (ends_a_line (byte ∷ text)) (list_all is_unquoted (byte ∷ text)) start.1 in
    rows_of-in (byte ∷ (text ++ rest)) (unmarked-behind (byte ∷ text) rest whole unmarked)
    ∙ behind-lines byte text rest st.StartRecord [] [] (refl, refl) parts.0 parts.1
    ∙ rw (rows_of-in (byte ∷ text) start.0, rows_of-in rest unmarked) refl
