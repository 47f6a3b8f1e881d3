-- What is sent on the current connection.
use Rattle.std.specs.Prelude.{◌≡◌, ℕ, ◌<◌, List, Option, length, take, option_map}
use Rattle.fare_ports.specs.Door.{with_more_at}

-- what was sent, where it is told, with these bytes more on the current connection
abbrev pub sent_more : Option ℕ → Option (List (List ℕ)) → List ℕ → Option (List (List ℕ))
sent_more current sent bytes = option_map (with_more_at current bytes) sent

-- a prefix of the bytes was sent, and not all of them
abbrev pub SentPrefix : Option ℕ → Option (List (List ℕ)) → Option (List (List ℕ)) → List ℕ → Type 0
SentPrefix current old new bytes =
    (count : ℕ) × (count < length bytes) × (new ≡ sent_more current old (take count bytes))

-- the bytes were sent on the current connection, which is still the current one
pub record Sends
    (current now : Option ℕ) (old new : Option (List (List ℕ))) (bytes : List ℕ) : Type 0 where
  pub stays : now ≡ current
  pub sent : new ≡ sent_more current old bytes

-- a prefix of the bytes was sent on the current connection, which is still the current one
pub record SendsPrefix
    (current now : Option ℕ) (old new : Option (List (List ℕ))) (bytes : List ℕ) : Type 0 where
  pub stays : now ≡ current
  pub sent : SentPrefix current old new bytes
