-- What a refusal spells is the compact text of its value.
use Rattle.std.proofs.Common.{◌≡◌, ℕ, List, ◌++◌, refl}
use Rattle.std.specs.Prelude.{codes}
use Rattle.std.proofs.lemmas.List.{append_assoc}
use Rattle.json.specs.Print.{escape_byte}
use Rattle.fare_json.specs.JsonText.{json_line}
use Rattle.fare_json.specs.FaultData.{refusal_data}
use Rattle.fare_json.specs.Spelled.{refusal_json, string_json}

pub refusal_text : (text words : List ℕ) → refusal_json text words ≡ json_line (refusal_data text words)
unfolding refusal_json refusal_data string_json escape_byte
refusal_text text words = simp append_assoc refl
