-- The plain line and the sentence of each refusal that has a JSON form.
use Rattle.std.specs.Prelude.{ℕ, List, [], ◌++◌, codes, decimal}
use Rattle.fare_trip.specs.FaultText as trip
use Rattle.fare_book.specs.declared.damage.Damage.{Damage}
use Rattle.fare_book.specs.declared.damage.Damage.TheVariants as damage
use Rattle.fare_book.specs.DamageText.{damage_text}
use Rattle.fare_sentences.specs.declared.fault.Fault.{Fault}
use Rattle.fare_sentences.specs.declared.fault.Fault.TheVariants.{Trip, NoBatch, NoRequest, NoTrip, NoLine, BadLine}
use Rattle.fare_sentences.specs.declared.fault.Fault.TheVariants.{SourceLimit}
use Rattle.fare_sentences.specs.declared.fault.Fault.TheVariants.{BatchLimit, NoEdition, UnknownPlace, NoRoute, Method}
use Rattle.fare_sentences.specs.declared.fault.Fault.TheVariants.{ReadFault, KeeperFault, Damaged}
use Rattle.fare_sentences.specs.declared.fault.OneMethod.{OneMethod}
use Rattle.fare_sentences.specs.declared.fault.OneMethod.TheVariants.{Get, Post}
use Rattle.fare_sentences.specs.Sentence.{around}
use Rattle.fare_sentences.specs.TripWords.{trip_words}

-- the line that stands for a refusal that has to do with the desk
abbrev pub desk_text : Fault → List ℕ
desk_text (NoEdition day) = codes "NO EDITION " ++ day
desk_text (UnknownPlace city) = codes "UNKNOWN PLACE " ++ city
desk_text NoRoute = codes "NO ROUTE"
desk_text (Method method) = codes "METHOD"
desk_text ReadFault = codes "READ FAULT"
desk_text KeeperFault = codes "KEEPER FAULT"
desk_text (Damaged place damage) = codes "DAMAGED " ++ decimal place ++ codes " " ++ damage_text damage
desk_text other = []

-- the line that stands for a refusal, without the LF that ends it
abbrev pub fault_text : Fault → List ℕ
fault_text (Trip fault) = trip.fault_text fault
fault_text NoBatch = codes "TRIP Bad trip 0"
fault_text NoRequest = codes "TRIP Bad trip 0"
fault_text NoTrip = codes "TRIP Missing trip 0"
fault_text NoLine = codes "LINE MISSING"
fault_text (BadLine number) = codes "LINE " ++ decimal number
fault_text (SourceLimit most) = codes "LIMIT"
fault_text BatchLimit = codes "LIMIT"
fault_text other = desk_text other

-- the sentence of a damage of the stored text at a place
abbrev pub damage_words : ℕ → Damage → List ℕ
damage_words place (damage.Text fault) = around (codes "text ") place (codes " of the store is no edition")
damage_words place (damage.Repeat first) =
    codes "text " ++ decimal place ++ codes " of the store has the number of text " ++ decimal first
damage_words place damage.TooMany = codes "the store holds more than 32 texts"

-- the name of a method
abbrev pub method_name : OneMethod → List ℕ
method_name Get = codes "GET"
method_name Post = codes "POST"

-- the sentence of a refusal that has to do with the desk: an edition, a path, a device or the store
abbrev pub desk_words : Fault → List ℕ
desk_words (NoEdition day) = codes "no edition is effective by " ++ day
desk_words (UnknownPlace city) = codes "the edition has no record of the city " ++ city
desk_words NoRoute = codes "nothing is at this path"
desk_words (Method method) = codes "this path takes " ++ method_name method ++ codes " alone"
desk_words ReadFault = codes "standard input can't be read"
desk_words KeeperFault = codes "the store can't be used"
desk_words (Damaged place damage) = damage_words place damage
desk_words other = []

-- the sentence of a refusal
abbrev pub fault_words : Fault → List ℕ
fault_words (Trip fault) = trip_words fault
fault_words NoBatch = codes "the batch isn't a JSON array"
fault_words NoRequest = codes "the request isn't a JSON object"
fault_words NoTrip = codes "the request has no member trip"
fault_words NoLine = codes "the request has no member line that is a string"
fault_words (BadLine number) =
    around (codes "the first ") number (codes " bytes of the line begin a calculation line, and no more of them do")
fault_words (SourceLimit most) = around (codes "the source holds more than ") most (codes " bytes")
fault_words BatchLimit = codes "the batch has more than 256 itineraries"
fault_words other = desk_words other
