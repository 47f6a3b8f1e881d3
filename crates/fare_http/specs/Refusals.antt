-- What is read from a connection, and the fixed answers.
use Rattle.std.specs.Prelude.{◌≡◌, ◌⊎◌, ℕ, List, Option, Err, codes, ⊤}
use Rattle.httparse.specs.Grammar.{NeverHasRequest}
use Rattle.fare_http.specs.declared.reply.Status.{Status}
use Rattle.fare_http.specs.declared.reply.Status.TheVariants.{BadRequest, ContentTooLarge}
use Rattle.fare_http.specs.declared.reply.Form.TheVariants.{Text}
use Rattle.fare_http.specs.declared.reply.Allow.TheVariants.{Unsaid}
use Rattle.fare_http.specs.declared.reply.Reply.{Reply}
use Rattle.fare_http.specs.declared.request.Request.{Request}
use Rattle.fare_http.specs.declared.taken.Taken.{Taken}
use Rattle.fare_http.specs.declared.taken.Taken.TheVariants.{Whole, Fixed, NoMemory, Cut}
use Rattle.fare_http.specs.declared.lengths.BodyFault.{BodyFault}
use Rattle.fare_http.specs.declared.lengths.BodyFault.TheVariants.{Coded, BadLength, TooLong}
use Rattle.fare_http.specs.Heads.{IsOverLimit, EndsEarly}
use Rattle.fare_http.specs.Requests.{Announces, EndsInBody}

-- this holds of the request, where a whole one was read
abbrev pub IfWhole : Taken → (Request → Type 0) → Type 0
IfWhole (Whole request) property = property request
IfWhole (Fixed reply) property = ⊤
IfWhole NoMemory property = ⊤
IfWhole Cut property = ⊤

-- this holds of the fixed answer, where there is one
abbrev pub IfFixed : Taken → (Reply → Type 0) → Type 0
IfFixed (Whole request) property = ⊤
IfFixed (Fixed reply) property = property reply
IfFixed NoMemory property = ⊤
IfFixed Cut property = ⊤

-- this holds, where the connection was cut
abbrev pub OnCut : Taken → Type 0 → Type 0
OnCut (Whole request) fact = ⊤
OnCut (Fixed reply) fact = ⊤
OnCut NoMemory fact = ⊤
OnCut Cut fact = fact

-- a reply with this status and plain text, and no word of what is allowed
pub record Says (status : Status) (text : List ℕ) (reply : Reply) : Type 0 where
  pub status_is : reply.status ≡ status
  pub form_is : reply.form ≡ Text
  pub allow_is : reply.allow ≡ Unsaid
  pub text_is : reply.body ≡ text

-- a fixed answer with this status and text, or want of memory
abbrev pub IsFixed : Status → List ℕ → Taken → Type 0
IsFixed status text (Whole request) = ⊥
IsFixed status text (Fixed reply) = Says status text reply
IsFixed status text NoMemory = ⊤
IsFixed status text Cut = ⊥

-- a reply that says what is wrong with the length of a body
abbrev pub SaysFault : BodyFault → Reply → Type 0
SaysFault Coded reply = Says BadRequest (codes "CODED BODY\n") reply
SaysFault BadLength reply = Says BadRequest (codes "BAD LENGTH\n") reply
SaysFault TooLong reply = Says ContentTooLarge (codes "LIMIT\n") reply

-- the reply is the fixed answer to what is wrong with these bytes: the first step that fails
pub data IsRefused (reply : Reply) (taken : List ℕ) : Type 0 where
  bad_head : Says BadRequest (codes "BAD HEAD\n") reply → NeverHasRequest taken → IsRefused reply taken
  head_limit : Says ContentTooLarge (codes "LIMIT\n") reply → IsOverLimit taken → IsRefused reply taken
  coded_body : Says BadRequest (codes "CODED BODY\n") reply → Announces (Err Coded) taken
      → IsRefused reply taken
  bad_length : Says BadRequest (codes "BAD LENGTH\n") reply → Announces (Err BadLength) taken → IsRefused reply taken
  body_limit : Says ContentTooLarge (codes "LIMIT\n") reply → Announces (Err TooLong) taken → IsRefused reply taken

-- the connection ended inside the head or the body
abbrev pub EndsInside : Option (List ℕ) → List ℕ → Type 0
EndsInside left taken = EndsEarly left taken ⊎ EndsInBody left taken
