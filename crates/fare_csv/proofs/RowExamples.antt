-- The rows of short texts.
use Rattle.std.proofs.Common.{◌≡◌, [], ◌∷◌, codes, refl}
use Rattle.csv.proofs.OnLiterals.{csv_on_literals}
use Rattle.fare_csv.specs.Rows.{rows_of}

pub no-text : rows_of [] ≡ []
unfolding csv_on_literals rows_of
no-text = refl

pub blank-lines : rows_of (codes "\r\r\n\n\r") ≡ []
unfolding csv_on_literals rows_of
blank-lines = refl

pub a-row-to-a-line : rows_of (codes "END\n\na,b\r\nc") ≡ (codes "END" ∷ []) ∷ (codes "a" ∷ codes "b" ∷ []) ∷ (codes "c" ∷ []) ∷ []
unfolding csv_on_literals rows_of
a-row-to-a-line = refl

pub cr-alone-ends-a-line : rows_of (codes "a\rb") ≡ (codes "a" ∷ []) ∷ (codes "b" ∷ []) ∷ []
unfolding csv_on_literals rows_of
cr-alone-ends-a-line = refl

pub commas-alone : rows_of (codes ",,\n") ≡ ([] ∷ [] ∷ [] ∷ []) ∷ []
unfolding csv_on_literals rows_of
commas-alone = refl

pub quotes-alone : rows_of (codes "\"\"\n") ≡ ([] ∷ []) ∷ []
unfolding csv_on_literals rows_of
quotes-alone = refl

pub unterminated-quote : rows_of (codes "\"a,b\nEND\n") ≡ (codes "a,b\nEND\n" ∷ []) ∷ []
unfolding csv_on_literals rows_of
unterminated-quote = refl

pub text-after-a-quote : rows_of (codes "\"a\"b,c") ≡ (codes "ab" ∷ codes "c" ∷ []) ∷ []
unfolding csv_on_literals rows_of
text-after-a-quote = refl

pub spaces-stay : rows_of (codes " END \n") ≡ (codes " END " ∷ []) ∷ []
unfolding csv_on_literals rows_of
spaces-stay = refl

pub byte-order-mark : rows_of (239 ∷ 187 ∷ 191 ∷ codes "END\n") ≡ (codes "END" ∷ []) ∷ []
unfolding csv_on_literals rows_of
byte-order-mark = refl

pub one-mark-alone-goes : rows_of (239 ∷ 187 ∷ 191 ∷ 239 ∷ 187 ∷ 191 ∷ []) ≡ ((239 ∷ 187 ∷ 191 ∷ []) ∷ []) ∷ []
unfolding csv_on_literals rows_of
one-mark-alone-goes = refl

pub any-bytes : rows_of (255 ∷ 0 ∷ 44 ∷ 128 ∷ []) ≡ ((255 ∷ 0 ∷ []) ∷ (128 ∷ []) ∷ []) ∷ []
unfolding csv_on_literals rows_of
any-bytes = refl
