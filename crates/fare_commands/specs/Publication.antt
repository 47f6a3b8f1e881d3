-- What `publish` may do to the bodies of its store.
use Rattle.std.specs.Prelude.{◌≡◌, ◌⊎◌, ℕ, List, Ok, ⊤}
use Rattle.fare_ports.specs.Keeper.{BodiesStay, BodyAppended}
use Rattle.fare_tariff.specs.Tariff.{Tariff}
use Rattle.fare_csv.specs.TariffText.{edition_of}
use Rattle.fare_csv.specs.CanonicalText.{canonical_text}
use Rattle.fare_book.specs.Editions.{editions_of}
use Rattle.fare_book.specs.Publish.{IsNewTo}
use Rattle.fare_commands.specs.declared.exit.Exit.{Exit}
use Rattle.fare_commands.specs.declared.exit.Exit.TheVariants as ended
use Rattle.fare_commands.specs.StoreOutcome.{Bodies}

-- an end on which nothing is published: every one but `Done`, `WriteFault`, `KeeperFault` and `DoorFault`
abbrev pub PublishesNothing : Exit → Type 0
PublishesNothing ended.Done = ⊥
PublishesNothing ended.WriteFault = ⊥
PublishesNothing ended.KeeperFault = ⊥
PublishesNothing ended.DoorFault = ⊥
PublishesNothing other = ⊤

-- the bodies stand for editions, the source for an edition that is new to these, and its canonical text was put behind
-- the bodies
pub record AddsEdition (source : List ℕ) (old new : Bodies) : Type 0 where
  pub edition : Tariff
  pub editions : List Tariff
  pub readable : edition_of source ≡ Ok edition
  pub stored : editions_of old ≡ Ok editions
  pub is_new : IsNewTo editions edition
  pub appended : BodyAppended (canonical_text edition) old new

-- the bodies are as before, or have the canonical text of the source's edition at the end, which is new to them
abbrev pub MayPublish : List ℕ → Bodies → Bodies → Type 0
MayPublish source old new = BodiesStay old new ⊎ AddsEdition source old new
