-- What a writer of a text in memory holds.
use Rattle.std.specs.Prelude.{ℕ, ◌≡◌, true, false, List, [], Option, Some, unwrap_or}
use Rattle.std.specs.Global.{Vec}
use Rattle.csv.specs.Writing.{default_writer, fields_written, has_written, text_written, with_flexible, writer_setup}
use Rattle.csv.specs.declared.writer.Writer.{Writer}

-- the bytes that a vector holds
abbrev pub vec_contents : Vec ℕ → Option (List ℕ)
vec_contents v = Some v.items

-- the text that was written so far
abbrev pub written : Writer (Vec ℕ) → List ℕ
written writer = unwrap_or (text_written vec_contents writer) []

-- a writer of rows of any length, between two rows
pub record IsRowWriter (writer : Writer (Vec ℕ)) : Type 0 where
  pub setup : writer_setup writer ≡ with_flexible default_writer true
  pub fields : fields_written writer ≡ 0
  pub wrote : has_written writer ≡ false
