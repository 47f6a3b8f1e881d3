-- The JSON form of a refusal: its plain line and its sentence.
use Rattle.std.specs.Prelude.{ℕ, List, codes}
use Rattle.serde_json.specs.Data.{Data, string, object, no_members, member}
use Rattle.fare_csv.specs.declared.text_fault.TextFault.{TextFault}
use Rattle.fare_csv.specs.FaultText as tariff
use Rattle.fare_sentences.specs.declared.fault.Fault.{Fault}
use Rattle.fare_sentences.specs.FaultWords.{fault_text, fault_words}

-- a refusal is its plain line and its sentence
unfoldable pub refusal_data : List ℕ → List ℕ → Data
refusal_data text words =
    object (member (codes "fault") (object (member (codes "text") (string text)
    (member (codes "words") (string words) no_members))) no_members)

-- a refusal
abbrev pub fault_data : Fault → Data
fault_data fault = refusal_data (fault_text fault) (fault_words fault)

-- the first fault of a tariff text, with the sentence for it
abbrev pub tariff_data : TextFault → List ℕ → Data
tariff_data fault words = refusal_data (tariff.fault_text fault) words
