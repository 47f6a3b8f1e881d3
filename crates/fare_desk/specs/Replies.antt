-- The replies of the desk, each plain or in JSON, and the texts that they are made of.
use Rattle.std.specs.Prelude.{◌≡◌, ◌≢◌, ℕ, List, ◌++◌, codes, nat_eq, if◌then◌else◌}
use Rattle.std.specs.List.{starts_with}
use Rattle.fare_http.specs.declared.reply.Allow.{Allow}
use Rattle.fare_http.specs.declared.reply.Allow.TheVariants as allow
use Rattle.fare_http.specs.declared.reply.Form.{Form}
use Rattle.fare_http.specs.declared.reply.Form.TheVariants.{Text, Json}
use Rattle.fare_http.specs.declared.reply.Reply.{Reply}
use Rattle.fare_http.specs.declared.reply.Status.{Status}
use Rattle.fare_http.specs.declared.reply.Status.TheVariants.{MethodNotAllowed, NotFound}
use Rattle.fare_json.specs.FaultData.{fault_data}
use Rattle.fare_sentences.specs.FaultWords.{fault_text, method_name}
use Rattle.fare_json.specs.JsonText.{json_line}
use Rattle.fare_sentences.specs.declared.fault.Fault.{Fault}
use Rattle.fare_sentences.specs.declared.fault.Fault.TheVariants.{NoRoute, Method}
use Rattle.fare_sentences.specs.declared.fault.OneMethod.{OneMethod}
use Rattle.fare_sentences.specs.declared.fault.OneMethod.TheVariants.{Get, Post}

-- the form of the reply to a path: JSON where the path begins with `/json/`
abbrev pub form_of : List ℕ → Form
form_of path = if starts_with nat_eq path (codes "/json/") then Json else Text

-- a line ends with LF
abbrev pub line : List ℕ → List ℕ
line words = words ++ codes "\n"

-- a reply in this form, with this status and body, and no word of what is allowed
abbrev pub says : Form → Status → List ℕ → Reply
says form status body = record { status = status; form = form; allow = allow.Unsaid; body = body }

-- a fault in a form: its line, or the JSON answer that has the line and a sentence
abbrev pub fault_body : Form → Fault → List ℕ
fault_body Text fault = line (fault_text fault)
fault_body Json fault = json_line (fault_data fault)

-- a request is refused for a fault
abbrev pub refused : Form → Status → Fault → Reply
refused form status fault = says form status (fault_body form fault)

-- a path that has no route
abbrev pub no_route : Form → Reply
no_route form = refused form NotFound NoRoute

-- what a reply says that is allowed where a route is said to take one method
abbrev pub allowed : OneMethod → Allow
allowed Get = allow.Get
allowed Post = allow.Post

-- a method that a route doesn't take, with the one that it is said to take
abbrev pub not_allowed : Form → OneMethod → Reply
not_allowed form method = record {
  status = MethodNotAllowed;
  form = form;
  allow = allowed method;
  body = fault_body form (Method method);
}

-- a route is asked by its method, and then this holds of the reply; by any other it is not allowed
pub record IsAskedBy (form : Form) (wanted : OneMethod) (method : List ℕ) (reply : Reply) (Answered : Type 0)
    : Type 0 where
  pub by_method : method ≡ method_name wanted → Answered
  pub by_other : method ≢ method_name wanted → reply ≡ not_allowed form wanted
