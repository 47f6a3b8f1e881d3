use Rattle.std.proofs.Common.{◌≡◌, map, take}
use Rattle.std.specs.List.{All}
use Rattle.serde_json.specs.View.{view}
use Rattle.fare_trip.specs.Written.{sector_data, ReadsBack}
use Rattle.fare_trip.proofs.written.sector_values.Given as goal

-- the values so far are those of the sectors so far, which read back
abbrev pub invariant-loop-sector : goal.invariant-loop-sector
invariant-loop-sector l = record { values : map view l.values.items ≡ map sector_data (take l.sector-index l.sectors); back : All ReadsBack (take l.sector-index l.sectors) }
