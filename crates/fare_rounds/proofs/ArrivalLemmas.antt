-- What was read from a connection, as an arrival.
use Rattle.std.proofs.Common.{◌≡◌, ◌⊎◌, ◌≤◌, inl, inr, ℕ, List, Option, None, Some, refl, subst, arith}
use Rattle.fare_ports.specs.Cause.{Rose}
use Rattle.fare_http.specs.declared.taken.Taken.{Taken}
use Rattle.fare_http.specs.declared.taken.Taken.TheVariants.{Whole, Fixed, NoMemory, Cut}
use Rattle.fare_http.specs.Heads.{Takes}
use Rattle.fare_http.specs.Refusals.{IfWhole, IfFixed, OnCut, IsRefused, EndsInside}
use Rattle.fare_http.specs.Requests.{IsWhole}
use Rattle.fare_http.specs.Serving.{BringsTooLittle}
use Rattle.fare_rounds.specs.declared.entry.Entry.{Entry}
use Rattle.fare_rounds.specs.Entries.{entry_of, IsBrought}
use Rattle.fare_rounds.specs.Taking.{RoseBy}

-- an entry is what its connection brought
pub entry-brought : (taken : Taken) (entry : Entry) (old new : Option (List ℕ))
    → IfWhole taken (λ request. Takes old new (IsWhole request))
    → IfFixed taken (λ reply. Takes old new (IsRefused reply))
    → Some entry ≡ entry_of taken → IsBrought old entry.request entry.reply
entry-brought (Whole request) entry old new whole fixed is =
    let same : record { request = Some request; reply = None } ≡ entry = cc in
    subst (λ (e : Entry). IsBrought old e.request e.reply) same ((new, whole), refl)
entry-brought (Fixed reply) entry old new whole fixed is =
    let same : record { request = None; reply = Some reply } ≡ entry = cc in
    subst (λ (e : Entry). IsBrought old e.request e.reply) same (new, fixed)
entry-brought NoMemory entry old new whole fixed is =
    let same : record { request = None; reply = None } ≡ entry = cc in
    subst (λ (e : Entry). IsBrought old e.request e.reply) same tt
entry-brought Cut entry old new whole fixed is = cc

-- where there is no entry, the connection ended too early or a read failed, which was counted
pub no-entry : (taken : Taken) (old new : Option (List ℕ)) (first last : ℕ) → first ≤ last
    → OnCut taken (Takes old new (EndsInside new) ⊎ Rose first last) → None ≡ entry_of taken
    → (failures : ℕ) × RoseBy failures first last × (BringsTooLittle old ⊎ (1 ≤ failures))
no-entry (Whole request) old new first last grows cut is = absurd (cc)
no-entry (Fixed reply) old new first last grows cut is = absurd (cc)
no-entry NoMemory old new first last grows cut is = absurd (cc)
no-entry Cut old new first last grows (inl short) is = (0, omega (arith, grows), inl (new, short))
no-entry Cut old new first last grows (inr rose) is = (1, omega (arith, rose), inr (omega arith))
