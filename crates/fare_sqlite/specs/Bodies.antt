-- The bodies that the rows of the table stand for.
use Rattle.std.specs.Prelude.{ℕ, zero, suc, pos, List, [], ◌∷◌, length, Option, Some, None, filter, Bool, true, false}
use Rattle.std.specs.Prelude.{◌||◌}
use Rattle.sqlite_value.specs.declared.value.Value.{Value}
use Rattle.sqlite_value.specs.declared.value.Value.TheVariants.{Null, Int, Real, Text, Blob}
use Rattle.sqlite_value.specs.Order.{Row, column}
use Rattle.sqlite_trees.specs.Tree.{has_rowid}

-- the bytes of a value, where it is a blob
abbrev pub blob_of : Value → Option (List ℕ)
blob_of Null = None
blob_of (Int n) = None
blob_of (Real x) = None
blob_of (Text t) = None
blob_of (Blob bytes) = Some bytes

-- a body that counts only where the place before it is a whole number
abbrev pub placed_body : Value → Option (List ℕ) → Option (List ℕ)
placed_body Null body = None
placed_body (Int n) body = body
placed_body (Real x) body = None
placed_body (Text t) body = None
placed_body (Blob bytes) body = None

-- the body of a row: the blob in its column `body`, where its place is a whole number
abbrev pub body_of : Row → Option (List ℕ)
body_of row = placed_body (column row 0) (blob_of (column row 2))

-- the rows at a place
abbrev pub rows_at : ℕ → List Row → List Row
rows_at place rows = filter (has_rowid (pos place)) rows

-- the body of the one row, where there is just one
abbrev pub sole_body : List Row → Option (List ℕ)
sole_body [] = None
sole_body (row ∷ []) = body_of row
sole_body (row ∷ other ∷ more) = None

-- a body and those behind it, where all of them are there
abbrev pub led_by : Option (List ℕ) → Option (List (List ℕ)) → Option (List (List ℕ))
led_by None bodies = None
led_by (Some body) None = None
led_by (Some body) (Some bodies) = Some (body ∷ bodies)

-- the bodies at so many places, from a place on, where just one row stands at each
unfoldable pub bodies_from : ℕ → ℕ → List Row → Option (List (List ℕ))
bodies_from zero place rows = Some []
bodies_from (suc count) place rows = led_by (sole_body (rows_at place rows)) (bodies_from count (suc place) rows)

-- the bodies that rows stand for, by their places: just one row, with a blob, at each place from 1 to their number
unfoldable pub bodies_in : List Row → Option (List (List ℕ))
bodies_in rows = bodies_from (length rows) 1 rows

-- a value is no blob
abbrev pub is_no_blob : Value → Bool
is_no_blob Null = true
is_no_blob (Int n) = true
is_no_blob (Real x) = true
is_no_blob (Text t) = true
is_no_blob (Blob bytes) = false

-- a value is no whole number
abbrev pub is_no_int : Value → Bool
is_no_int Null = true
is_no_int (Int n) = false
is_no_int (Real x) = true
is_no_int (Text t) = true
is_no_int (Blob bytes) = true

-- a row has no body: its place is no whole number, or its column `body` no blob
abbrev pub has_no_body : Row → Bool
has_no_body row = is_no_int (column row 0) || is_no_blob (column row 2)
