-- A whole request in the bytes of a connection.
use Rattle.std.specs.Prelude.{◌≡◌, ◌==◌, ℕ, ◌<◌, ◌≤◌, List, Option, Result, Ok, length, map, take}
use Rattle.std.specs.List.{before_first}
use Rattle.std.specs.Io.KnownBytes.{IsAtEnd}
use Rattle.httparse.specs.Grammar.{RequestHead, ReadsRequest, print_request}
use Rattle.httparse.specs.Spans.{name_and_value}
use Rattle.fare_http.specs.declared.head.TheConstants.{MOST_FIELDS, MOST_HEAD}
use Rattle.fare_http.specs.declared.lengths.BodyFault.{BodyFault}
use Rattle.fare_http.specs.declared.request.Request.{Request}
use Rattle.fare_http.specs.Lengths.{body_length}

-- the path is the target up to its first `?`
abbrev pub path_of : List ℕ → List ℕ
path_of target = before_first (λ byte. byte == 63) target

-- the length of the body that a head announces
abbrev pub announced : RequestHead → Result ℕ BodyFault
announced head = body_length (map name_and_value head.fields)

-- the bytes begin with this head, which is within its limits, and the rest stands behind it
pub record HasHead (taken : List ℕ) (head : RequestHead) (rest : List ℕ) : Type 0 where
  pub reads : ReadsRequest taken head rest
  pub short : length (print_request head) ≤ MOST_HEAD
  pub few : length head.fields ≤ MOST_FIELDS

-- the bytes begin with a head that announces this length, or is wrong about it in this way
abbrev pub Announces : Result ℕ BodyFault → List ℕ → Type 0
Announces answer taken =
    (head : RequestHead) × (rest : List ℕ) × HasHead taken head rest × (announced head ≡ answer)

-- the bytes begin with the head and the whole body of this request
pub record IsWhole (request : Request) (taken : List ℕ) : Type 0 where
  pub head : RequestHead
  pub rest : List ℕ
  pub count : ℕ
  pub has_head : HasHead taken head rest
  pub announced : announced head ≡ Ok count
  pub within : count ≤ length rest
  pub method : request.method ≡ head.method
  pub path : request.path ≡ path_of head.target
  pub body : request.body ≡ take count rest

-- the connection ended, and fewer bytes stand behind the head than it announces
abbrev pub EndsInBody : Option (List ℕ) → List ℕ → Type 0
EndsInBody left taken =
    IsAtEnd left × (head : RequestHead) × (rest : List ℕ) × (count : ℕ)
    × HasHead taken head rest × (announced head ≡ Ok count) × (length rest < count)
