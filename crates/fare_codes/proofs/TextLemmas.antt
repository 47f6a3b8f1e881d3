-- The characters of codes are ASCII.
use Rattle.std.proofs.Common.{◌≡◌, ◌<◌, ℕ, suc, Bool, true, List, [], ◌∷◌, ◌&&◌, length, get_or, arith, refl, ap}
use Rattle.std.proofs.lemmas.Grind.{common_steps}
use Rattle.std.proofs.lemmas.Bool.Decides.{nat_tests}
use Rattle.std.proofs.lemmas.List.Folds.{list_all_at}
use Rattle.std.proofs.lemmas.Str.{encode_ascii}
use Rattle.std.specs.List.{list_all}
use Rattle.std.specs.Char.{is_ascii, is_ascii_uppercase, encode_utf8}
use Rattle.fare_codes.specs.Codes.{is_code_character}

-- letters A to Z are ASCII
pub uppercase_is_ascii : (bytes : List ℕ) → list_all is_ascii_uppercase bytes ≡ true → list_all is_ascii bytes ≡ true
uppercase_is_ascii [] h = refl
uppercase_is_ascii (c ∷ cs) h = grind (arith, common_steps, uppercase_is_ascii cs)

-- letters A to Z and digits are ASCII
pub code_characters_are_ascii : (bytes : List ℕ) → list_all is_code_character bytes ≡ true → list_all is_ascii bytes ≡ true
code_characters_are_ascii [] h = refl
code_characters_are_ascii (c ∷ cs) h = grind (arith, common_steps, code_characters_are_ascii cs)

-- each byte of an ASCII text is below 128
pub ascii_at : (bytes : List ℕ) (i : ℕ) → i < length bytes → list_all is_ascii bytes ≡ true → get_or bytes i 0 < 128
ascii_at bytes i h a = grind (arith, common_steps, list_all_at is_ascii bytes i 0)

-- an ASCII character takes one byte
pub length-ascii_char : (c : ℕ) → c < 128 → length (encode_utf8 c) ≡ 1
length-ascii_char c h = ap length (encode_ascii c h)

-- both tests hold
pub both : (a b : Bool) → (a && b) ≡ true → (a ≡ true) × (b ≡ true)
both a b h = grind arith

-- a text whose bytes are each below 128 is ASCII
pub ascii_from_reads : (text : List ℕ) → ((k : ℕ) → k < length text → get_or text k 0 < 128) → list_all is_ascii text ≡ true
ascii_from_reads [] reads = refl
ascii_from_reads (c ∷ cs) reads =
    let first : c < 128 = reads 0 (omega arith) in
    let rest : (k : ℕ) → k < length cs → get_or cs k 0 < 128 = λ k h. reads (suc k) (omega arith) in
    grind (arith, nat_tests, ascii_from_reads cs rest)
