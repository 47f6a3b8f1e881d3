-- Barring: what is behind some first parts at least where no unit is open, without the fares that they bar.
use Rattle.std.specs.Prelude.{ℕ, zero, suc, List, length, Option}
use Rattle.fare_tariff.specs.Tariff.{Tariff}
use Rattle.fare_rules.specs.declared.part.Part.{Part}
use Rattle.fare_rules.specs.Construction.{part_at}
use Rattle.fare_homing.specs.declared.homing.Homing.{Homing}
use Rattle.fare_homing.specs.declared.onward.Onwards.{Onwards}
use Rattle.fare_homing.specs.Onward.{next_set, onward_at}

-- the place of the numbers behind so many parts of some, by the fare of each
abbrev pub set_after : Tariff → Onwards → List Part → ℕ → ℕ
set_after tariff onwards parts zero = 0
set_after tariff onwards parts (suc k) =
    next_set tariff onwards (set_after tariff onwards parts k) (part_at parts (suc k)).fare

-- all that is behind each point at least where no unit is open, without the fares that some parts bar
abbrev pub left_of : Tariff → Homing → List Part → List (Option ℕ)
left_of tariff homing parts =
    (onward_at homing.onwards (set_after tariff homing.onwards parts (length parts))).rest
