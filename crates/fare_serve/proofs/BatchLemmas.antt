-- A batch is answered by its desk.
use Rattle.std.proofs.Common.{◌≡◌, ℕ, List, None, Some, Result, Ok, Err, IfOk}
use Rattle.std.specs.Prelude.{codes}
use Rattle.fare_desk.specs.Tariff.{Tariff}
use Rattle.fare_http.specs.declared.reply.Reply.{Reply}
use Rattle.fare_desk.specs.Routes.{route_of}
use Rattle.fare_desk.specs.Batching.{IsBatchReply}
use Rattle.fare_desk.specs.Replies.{form_of}
use Rattle.fare_desk.specs.declared.routes.Route.TheVariants.{Batch}
use Rattle.fare_counter.specs.Counter.{IsCounterAnswer}
use Rattle.fare_counter.specs.Routes.{counter_route_of}

-- the reply to a batch is the answer of a counter whose own routes the path doesn't take
pub batch-answered : (editions : List Tariff) (method path body : List ℕ) (reply : Reply)
    → counter_route_of path ≡ None → route_of path ≡ Some Batch → method ≡ codes "POST"
    → IsBatchReply (form_of path) editions body reply → IsCounterAnswer editions method path body reply
batch-answered editions method path body reply none is post replied =
    rw none (rw is (record { by_method = λ same. replied; by_other = λ other. absurd (other post) }))

-- the same where there may be none, for want of memory
pub if_batch_answered : {E : Type 0} (editions : List Tariff) (method path body : List ℕ) (result : Result Reply E)
    → counter_route_of path ≡ None → route_of path ≡ Some Batch → method ≡ codes "POST"
    → IfOk result (IsBatchReply (form_of path) editions body) → IfOk result (IsCounterAnswer editions method path body)
if_batch_answered editions method path body (Ok reply) none is post replied =
    batch-answered editions method path body reply none is post replied
if_batch_answered editions method path body (Err fault) none is post replied = tt
