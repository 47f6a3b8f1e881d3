-- Readings in steps: the first fault is the answer.
use Rattle.std.specs.Prelude.{ℕ, Option, Some, None, Result, Ok, Err}
use Rattle.fare_trip.specs.declared.fault.Member.{Member}
use Rattle.fare_trip.specs.declared.fault.TripFault.{TripFault}
use Rattle.fare_trip.specs.declared.fault.TripFault.TheVariants as fault

-- the value of a member's text, which is Bad where there is none
abbrev pub or_bad : {A : Type 0} → Member → ℕ → Option A → Result A TripFault
or_bad member number None = Err (fault.Bad member number)
or_bad member number (Some value) = Ok value

-- a member that has to stand there: Missing where it is absent, Bad where it isn't in its form
abbrev pub required : {A B : Type 0} → (A → Option B) → Member → ℕ → Option A → Result B TripFault
required form member number None = Err (fault.Missing member number)
required form member number (Some value) = or_bad member number (form value)

-- a member that may be absent, with what that means
abbrev pub optional : {A B : Type 0} → (A → Option B) → B → Member → ℕ → Option A → Result B TripFault
optional form absent member number None = Ok absent
optional form absent member number (Some value) = or_bad member number (form value)

-- an answer whose value is seen as `f` sees it
abbrev pub seen : {A B : Type 0} → (A → B) → Result A TripFault → Result B TripFault
seen f (Ok value) = Ok (f value)
seen f (Err found) = Err found
