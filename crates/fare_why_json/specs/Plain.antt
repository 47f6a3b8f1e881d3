-- The plain text that the JSON answer of what would make a trip cheaper stands for, made of its members alone.
use Rattle.std.specs.Prelude.{ℕ, List, ◌++◌, codes, flat_map}
use Rattle.serde_json.specs.Data.{Data, null}
use Rattle.fare_json.specs.Plain.{at, digits, listed, plain_edition, said}

-- the price of the best construction, or that there is no fare
abbrev pub plain_total : Data → List ℕ
plain_total null = codes "NO FARE\n"
plain_total total = codes "BEST " ++ said total ++ codes "\n"

-- what is saved, or a dash
abbrev pub plain_saved : Data → List ℕ
plain_saved null = codes "-"
plain_saved saved = said saved

-- the broken rule with its place
abbrev pub plain_broken : Data → List ℕ
plain_broken broken =
    codes "BROKEN " ++ digits (at (codes "rule") broken) ++ codes " " ++ digits (at (codes "place") broken)
    ++ codes "\n"

-- a reason
unfoldable pub plain_reason : Data → List ℕ
plain_reason reason =
    (codes "WITHOUT " ++ said (at (codes "kind") reason) ++ codes " " ++ said (at (codes "total") reason)
    ++ codes " SAVES " ++ plain_saved (at (codes "saves") reason) ++ codes "\n")
    ++ said (at (codes "line") reason) ++ codes "\n" ++ plain_broken (at (codes "broken") reason)

-- the plain text of the reasons
unfoldable pub plain_why : Data → List ℕ
plain_why answer =
    plain_edition (at (codes "edition") answer) ++ plain_total (at (codes "total") answer)
    ++ flat_map plain_reason (listed (at (codes "without") answer))
