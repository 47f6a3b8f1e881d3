-- What is served by a handler that is seen as a counter.
use Rattle.std.proofs.Common.{◌≡◌, ◌≤◌, ℕ, List, Option, Result, Ok, Err, Vec, refl, ◌∙◌, arith}
use Rattle.fare_desk.specs.Publishing.{DeskState}
use Rattle.fare_http.specs.declared.reply.Reply.{Reply}
use Rattle.fare_serve.specs.Desk.{CounterServesAll, CounterServesSome, CounterStep, world_of}
use Rattle.fare_serve.specs.Service.{DoorState, IsService, ServesAll, ServesSome}
use Rattle.fare_serve.proofs.KeepLemmas.{service-keeps}
use Rattle.fare_serve.proofs.ViewLemmas.{all-as, some-as}

-- what a handler that is seen as a counter served is what its book did
pub text-of-counter : {H : Type 0} → (first last : H) (view : H → DeskState)
    {step : H → List ℕ → List ℕ → List ℕ → Option Reply → H → Type 0} {count most port : ℕ} {before after : DoorState} {text : List ℕ}
    → ServesAll step count most port first last before after text
    → ((old : H) (method path body : List ℕ) (reply : Option Reply) (new : H) → step old method path body reply new
    → CounterStep (view old) method path body reply (view new))
    → CounterServesAll count most port (view first).book (world_of before (view first).bodies (view first).faults)
    (world_of after (view last).bodies (view last).faults) text
text-of-counter first last view {step = step} {count = count} {most = most} {port = port} {before = before} {after = after} {text = text} serves shows =
    ((view last).book, all-as view step CounterStep shows count most port first last before after text serves)

-- and so it is where the door failed
pub failure-of-counter : {H : Type 0} → (first last : H) (view : H → DeskState)
    {step : H → List ℕ → List ℕ → List ℕ → Option Reply → H → Type 0} {count most port : ℕ} {before after : DoorState}
    → ServesSome step count most port first last before after
    → ((old : H) (method path body : List ℕ) (reply : Option Reply) (new : H) → step old method path body reply new
    → CounterStep (view old) method path body reply (view new))
    → CounterServesSome count most port (view first).book (world_of before (view first).bodies (view first).faults)
    (world_of after (view last).bodies (view last).faults)
failure-of-counter first last view {step = step} {count = count} {most = most} {port = port} {before = before} {after = after} serves shows =
    ((view last).book, some-as view step CounterStep shows count most port first last before after serves)

-- a name that each step keeps is kept by a service
pub name-kept : {H N : Type 0} → (first last : H) (name : H → N)
    {step : H → List ℕ → List ℕ → List ℕ → Option Reply → H → Type 0} {count most port : ℕ} {before after : DoorState} {served cut : ℕ}
    → IsService step count most port first last before after served cut
    → ((old : H) (method path body : List ℕ) (reply : Option Reply) (new : H) → step old method path body reply new
    → name new ≡ name old)
    → name last ≡ name first
name-kept first last name {step = step} {count = count} {most = most} {port = port} {before = before} {after = after} {served = served} {cut = cut} service steps =
    service-keeps step (λ old new. name new ≡ name old) (λ handler. refl) (λ one two three near far. far ∙ near) steps
    count most port first last before after served cut service

-- a count that falls in no step doesn't fall in a service
pub count-kept : {H : Type 0} → (first last : H) (count_of : H → ℕ)
    {step : H → List ℕ → List ℕ → List ℕ → Option Reply → H → Type 0} {count most port : ℕ} {before after : DoorState} {served cut : ℕ}
    → IsService step count most port first last before after served cut
    → ((old : H) (method path body : List ℕ) (reply : Option Reply) (new : H) → step old method path body reply new
    → count_of old ≤ count_of new)
    → count_of first ≤ count_of last
count-kept first last count_of {step = step} {count = count} {most = most} {port = port} {before = before} {after = after} {served = served} {cut = cut} service steps =
    service-keeps step (λ old new. count_of old ≤ count_of new) (λ handler. omega arith)
    (λ one two three near far. omega (arith, near, far)) steps count most port first last before after served cut service
