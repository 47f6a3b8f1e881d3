-- The reply to a line that is presented for a trip, plain or in JSON: the text first, then the edition for the trip,
-- and the verdict.
use Rattle.std.specs.Prelude.{◌≡◌, ℕ, List, Ok, Err, MatchResult}
use Rattle.fare_trip.specs.Itinerary.{Itinerary}
use Rattle.fare_tariff.specs.Tariff.{Tariff}
use Rattle.fare_line.specs.Line.{CalculationLine}
use Rattle.fare_audit.specs.AuditText.{Reading, Reads, fault_text}
use Rattle.fare_audit.specs.Verdict.{IsVerdict}
use Rattle.fare_audit.specs.VerdictText.{verdict_text}
use Rattle.fare_audit.specs.declared.fault.AuditFault.{AuditFault}
use Rattle.fare_audit.specs.declared.verdict.Verdict.{Verdict}
use Rattle.fare_answers.specs.EditionFor.{edition_for}
use Rattle.fare_http.specs.declared.reply.Form.{Form}
use Rattle.fare_http.specs.declared.reply.Form.TheVariants.{Text, Json}
use Rattle.fare_http.specs.declared.reply.Reply.{Reply}
use Rattle.fare_http.specs.declared.reply.Status.TheVariants.{BadRequest, Okay}
use Rattle.fare_json.specs.AuditData.{audit_data}
use Rattle.fare_sentences.specs.AuditFault.{audit_fault}
use Rattle.fare_json.specs.JsonText.{json_line}
use Rattle.fare_desk.specs.Quoting.{refusal_reply}
use Rattle.fare_desk.specs.Replies.{line, refused, says}

-- the verdict on a line in an edition: its line of text, or the JSON answer
abbrev pub verdict_body : Form → Tariff → CalculationLine → Verdict → List ℕ
verdict_body Text tariff presented verdict = verdict_text verdict
verdict_body Json tariff presented verdict = json_line (audit_data tariff presented verdict)

-- in an edition that knows all points of the trip: the verdict
abbrev pub IsVerdictReply : Form → Tariff → Itinerary → CalculationLine → Reply → Type 0
IsVerdictReply form tariff trip presented reply =
    (verdict : Verdict) × IsVerdict tariff trip presented verdict
    × (reply ≡ says form Okay (verdict_body form tariff presented verdict))

-- over the editions of a book: in the edition for the trip, or why there is none
abbrev pub IsAuditOver : Form → List Tariff → Itinerary → CalculationLine → Reply → Type 0
IsAuditOver form editions trip presented reply =
    MatchResult (edition_for editions trip) (λ tariff. IsVerdictReply form tariff trip presented reply)
    (λ fault. reply ≡ refusal_reply form fault)

-- the reply to a text that asks for no audit, by its first fault
abbrev pub unread_reply : Form → List ℕ → AuditFault → Reply
unread_reply Text body fault = says Text BadRequest (line (fault_text fault))
unread_reply Json body fault = refused Json BadRequest (audit_fault body fault)

-- the reply to a line with its trip, or to the first fault of the text that should tell them
abbrev pub IsReadingReply : Form → List Tariff → List ℕ → Reading → Reply → Type 0
IsReadingReply form editions body (Ok found) reply = IsAuditOver form editions found.1 found.0 reply
IsReadingReply form editions body (Err fault) reply = reply ≡ unread_reply form body fault

-- the reply to a text, by what it is read as
abbrev pub IsAuditReply : Form → List Tariff → List ℕ → Reply → Type 0
IsAuditReply form editions body reply =
    (reading : Reading) × Reads body reading × IsReadingReply form editions body reading reply
