-- The bytes of an answer.
use Rattle.std.specs.Prelude.{ℕ, List, [], ◌++◌, length, codes, decimal, Option, None, Some}
use Rattle.fare_http.specs.declared.reply.Status.{Status}
use Rattle.fare_http.specs.declared.reply.Status.TheVariants.{Okay, Created, BadRequest, NotFound}
use Rattle.fare_http.specs.declared.reply.Status.TheVariants.{MethodNotAllowed, Conflict, ContentTooLarge}
use Rattle.fare_http.specs.declared.reply.Status.TheVariants.{UnprocessableContent, InternalServerError}
use Rattle.fare_http.specs.declared.reply.Status.TheVariants.{ServiceUnavailable, InsufficientStorage}
use Rattle.fare_http.specs.declared.reply.Form.{Form}
use Rattle.fare_http.specs.declared.reply.Form.TheVariants.{Text, Json}
use Rattle.fare_http.specs.declared.reply.Allow.{Allow}
use Rattle.fare_http.specs.declared.reply.Allow.TheVariants.{Unsaid, Get, Post}
use Rattle.fare_http.specs.declared.reply.Reply.{Reply}

-- the number of a status
abbrev pub status_number : Status → ℕ
status_number Okay = 200
status_number Created = 201
status_number BadRequest = 400
status_number NotFound = 404
status_number MethodNotAllowed = 405
status_number Conflict = 409
status_number ContentTooLarge = 413
status_number UnprocessableContent = 422
status_number InternalServerError = 500
status_number ServiceUnavailable = 503
status_number InsufficientStorage = 507

-- a status with its phrase
abbrev pub status_text : Status → List ℕ
status_text Okay = codes "200 OK"
status_text Created = codes "201 Created"
status_text BadRequest = codes "400 Bad Request"
status_text NotFound = codes "404 Not Found"
status_text MethodNotAllowed = codes "405 Method Not Allowed"
status_text Conflict = codes "409 Conflict"
status_text ContentTooLarge = codes "413 Content Too Large"
status_text UnprocessableContent = codes "422 Unprocessable Content"
status_text InternalServerError = codes "500 Internal Server Error"
status_text ServiceUnavailable = codes "503 Service Unavailable"
status_text InsufficientStorage = codes "507 Insufficient Storage"

-- the line of a status
abbrev pub status_line : Status → List ℕ
status_line status = codes "HTTP/1.1 " ++ status_text status ++ codes "\r\n"

-- the line that says what a body is
abbrev pub form_line : Form → List ℕ
form_line Text = codes "Content-Type: text/plain\r\n"
form_line Json = codes "Content-Type: application/json\r\n"

-- the line that says which method is allowed, where the reply says so
abbrev pub allow_line : Allow → List ℕ
allow_line Unsaid = []
allow_line Get = codes "Allow: GET\r\n"
allow_line Post = codes "Allow: POST\r\n"

-- an answer: the status line, the fields, an empty line and the body
abbrev pub answer : Status → Form → Allow → List ℕ → List ℕ
answer status form allow body =
    status_line status ++ form_line form ++ codes "Content-Length: " ++ decimal (length body) ++ codes "\r\n"
    ++ allow_line allow ++ codes "Connection: close\r\n\r\n" ++ body

-- the bytes of a reply
abbrev pub reply_bytes : Reply → List ℕ
reply_bytes reply = answer reply.status reply.form reply.allow reply.body

-- the answer where memory was wanting
abbrev pub no_memory_bytes : List ℕ
no_memory_bytes = answer InsufficientStorage Text Unsaid (codes "NO MEMORY\n")

-- the bytes of a reply, or of the answer where memory was wanting
abbrev pub answer_bytes : Option Reply → List ℕ
answer_bytes None = no_memory_bytes
answer_bytes (Some reply) = reply_bytes reply
