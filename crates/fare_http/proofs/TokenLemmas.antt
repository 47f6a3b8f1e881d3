-- The tokens of a head and those of a method are the same.
use Rattle.std.proofs.Common.{ℕ, List}
use Rattle.httparse.specs.Grammar.{IsToken, is_token_byte}
use Rattle.http_header.specs.Token.{IsToken as IsMethod, is_token_byte as is_method_byte}

-- a token of a head is one of a method
pub method-token : (bytes : List ℕ) → IsToken bytes → IsMethod bytes
unfolding is_token_byte is_method_byte
method-token bytes token = token
