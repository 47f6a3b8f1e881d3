-- The reply to a tariff text that is to be checked: every fault of it, or what it stands for.
use Rattle.std.specs.Prelude.{ℕ, List, Option, Some, None}
use Rattle.fare_csv.specs.TariffText.{edition_of}
use Rattle.fare_csv.specs.declared.text_fault.TextFault.{TextFault}
use Rattle.fare_check.specs.CheckText.{check_text}
use Rattle.fare_check.specs.Faults.{fault_in}
use Rattle.fare_http.specs.declared.reply.Form.TheVariants.{Text}
use Rattle.fare_http.specs.declared.reply.Reply.{Reply}
use Rattle.fare_http.specs.declared.reply.Status.{Status}
use Rattle.fare_http.specs.declared.reply.Status.TheVariants.{BadRequest, Okay}
use Rattle.fare_desk.specs.Replies.{says}

-- a text without a fault is right
abbrev pub status_for : Option TextFault → Status
status_for None = Okay
status_for (Some fault) = BadRequest

-- the check text, with a status that says whether there is a fault
abbrev pub check_reply : List ℕ → Reply
check_reply body = says Text (status_for (fault_in (edition_of body))) (check_text body)
