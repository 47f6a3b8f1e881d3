-- Each check kind on a small list of records, computed.
use Rattle.std.proofs.Common.{◌≡◌, ℕ, List, [], ◌∷◌, ◌++◌, Option, Some, None, codes, refl, replicate, true, false, length}
use Rattle.fare_codes.specs.declared.area.Area.TheVariants.{Two}
use Rattle.fare_codes.specs.declared.cabin.Cabin.TheVariants.{Y}
use Rattle.fare_codes.specs.declared.kind.Kind.TheVariants.{OW}
use Rattle.fare_codes.specs.declared.mode.Mode.TheVariants.{Up}
use Rattle.fare_codes.specs.declared.indicator.Indicator.TheVariants.{EH}
use Rattle.fare_codes.specs.Season.{season_holds}
use Rattle.fare_records.specs.declared.record.Record.{Record}
use Rattle.fare_records.specs.declared.record.Record.TheVariants as filed
use Rattle.fare_records.specs.declared.names.Names.TheVariants.{All}
use Rattle.fare_tariff.specs.declared.check.check_kind.CheckKind.TheVariants.{Duplicate, UnknownCity, UnknownRule, UnknownCurrency, TooManyFares, SamePoint, ZeroMileage, Overlap}
use Rattle.fare_tariff.specs.declared.check.check_fault.CheckFault.TheVariants.{At}
use Rattle.fare_tariff.specs.Check.{first_fault, first_fault_from, kind_of, is_one_unknown, is_out_of_limit}

pound : Record
pound = filed.Cur (record { country = codes "GB"; currency = codes "GBP"; roe = 800_000; decimals = 2; unit = 1; mode = Up })

euro : Record
euro = filed.Cur (record { country = codes "IT"; currency = codes "EUR"; roe = 900_000; decimals = 2; unit = 1; mode = Up })

london : Record
london = filed.City (record { code = codes "LON"; country = codes "GB"; area = Two })

rome : Record
rome = filed.City (record { code = codes "ROM"; country = codes "IT"; area = Two })

paris : Record
paris = filed.City (record { code = codes "PAR"; country = codes "FR"; area = Two })

excursion : Record
excursion = filed.Rule (record { id = codes "EXC"; stops = 1; transfers = 2; advance = 0; min_stay = 0; max_stay = 30; excess = true; units = All; ends = All })

fare_in_season : List ℕ → List ℕ → List ℕ → List ℕ → Option (List ℕ) → Record
fare_in_season from to first last rule = filed.Fare (record { from = from; to = to; ind = EH; carrier = codes "YY"; class = Y; kind = OW; rule = rule; season = record { first = first; last = last }; amount = 40_000 })

london_rome : List ℕ → List ℕ → Record
london_rome first last = fare_in_season (codes "LON") (codes "ROM") first last None

base : List Record
base = pound ∷ euro ∷ london ∷ rome ∷ []

-- a list without a fault, whose fares of one key share no day over the year's end
none : first_fault (base ++ london_rome (codes "04-01") (codes "10-31") ∷ london_rome (codes "11-01") (codes "03-31") ∷ []) ≡ None
unfolding first_fault_from kind_of is_one_unknown season_holds pound euro london rome fare_in_season london_rome base
none = refl

-- the second record of a city; its earlier record has the number 4
duplicate : first_fault (base ++ london ∷ []) ≡ Some (At 6 (Duplicate 4))
unfolding first_fault_from kind_of is_one_unknown season_holds pound euro london rome base
duplicate = refl

-- the same fare twice overlaps too, and has the lesser kind
duplicate_fare : first_fault (base ++ london_rome (codes "01-01") (codes "12-31") ∷ london_rome (codes "01-01") (codes "12-31") ∷ []) ≡ Some (At 7 (Duplicate 6))
unfolding first_fault_from kind_of is_one_unknown season_holds pound euro london rome fare_in_season london_rome base
duplicate_fare = refl

-- a pair is unordered
duplicate_pair : first_fault (base ++ filed.Tpm (record { from = codes "LON"; to = codes "ROM"; miles = 700 }) ∷ filed.Tpm (record { from = codes "ROM"; to = codes "LON"; miles = 800 }) ∷ []) ≡ Some (At 7 (Duplicate 6))
unfolding first_fault_from kind_of is_one_unknown pound euro london rome base
duplicate_pair = refl

-- a city that isn't filed
unknown_city : first_fault (base ++ filed.Tpm (record { from = codes "LON"; to = codes "PAR"; miles = 700 }) ∷ []) ≡ Some (At 6 UnknownCity)
unfolding first_fault_from kind_of is_one_unknown pound euro london rome base
unknown_city = refl

-- a via city that isn't filed
unknown_via : first_fault (base ++ filed.Ema (record { from = codes "LON"; to = codes "ROM"; ind = EH; via = Some (codes "PAR"); miles = 700 }) ∷ []) ≡ Some (At 6 UnknownCity)
unfolding first_fault_from kind_of is_one_unknown pound euro london rome base
unknown_via = refl

-- a fare whose rule isn't filed, and one whose rule is filed after it
unknown_rule : first_fault (base ++ fare_in_season (codes "LON") (codes "ROM") (codes "01-01") (codes "12-31") (Some (codes "SAVER")) ∷ excursion ∷ []) ≡ Some (At 6 UnknownRule)
unfolding first_fault_from kind_of is_one_unknown season_holds pound euro london rome excursion fare_in_season base
unknown_rule = refl

known_rule : first_fault (base ++ fare_in_season (codes "LON") (codes "ROM") (codes "01-01") (codes "12-31") (Some (codes "EXC")) ∷ excursion ∷ []) ≡ None
unfolding first_fault_from kind_of is_one_unknown season_holds pound euro london rome excursion fare_in_season base
known_rule = refl

-- a city whose country has no currency
unknown_currency : first_fault (base ++ paris ∷ []) ≡ Some (At 6 UnknownCurrency)
unfolding first_fault_from kind_of is_one_unknown pound euro london rome paris base
unknown_currency = refl

-- two equal cities, and a mileage of 0 that is the greater kind
same_point : first_fault (base ++ filed.Tpm (record { from = codes "LON"; to = codes "LON"; miles = 0 }) ∷ []) ≡ Some (At 6 SamePoint)
unfolding first_fault_from kind_of is_one_unknown pound euro london rome base
same_point = refl

-- a mileage of 0
zero_mileage : first_fault (base ++ filed.Mpm (record { from = codes "LON"; to = codes "ROM"; ind = EH; miles = 0 }) ∷ []) ≡ Some (At 6 ZeroMileage)
unfolding first_fault_from kind_of is_one_unknown pound euro london rome base
zero_mileage = refl

-- two fares of one key whose seasons share 10-31 alone, the later of them over the year's end
overlap : first_fault (base ++ london_rome (codes "04-01") (codes "10-31") ∷ london_rome (codes "10-31") (codes "03-31") ∷ []) ≡ Some (At 7 (Overlap 6))
unfolding first_fault_from kind_of is_one_unknown season_holds pound euro london rome fare_in_season london_rome base
overlap = refl

-- the fault of the least record, though a later one has a lesser kind
least_record : first_fault (base ++ filed.Mpm (record { from = codes "LON"; to = codes "ROM"; ind = EH; miles = 0 }) ∷ london ∷ []) ≡ Some (At 6 ZeroMileage)
unfolding first_fault_from kind_of is_one_unknown pound euro london rome base
least_record = refl

by_carrier : List ℕ → Record
by_carrier carrier = filed.Fare (record { from = codes "LON"; to = codes "ROM"; ind = EH; carrier = carrier; class = Y; kind = OW; rule = None; season = record { first = codes "01-01"; last = codes "12-31" }; amount = 0 })

-- the 65th fare of a from, to and indicator
too_many_fares : kind_of base (replicate 64 (by_carrier (codes "BA"))) (by_carrier (codes "YY")) ≡ Some TooManyFares
unfolding kind_of is_one_unknown season_holds pound euro london rome by_carrier base
too_many_fares = refl

-- and the 64th
enough_fares : kind_of base (replicate 63 (by_carrier (codes "BA"))) (by_carrier (codes "YY")) ≡ None
unfolding kind_of is_one_unknown season_holds pound euro london rome by_carrier base
enough_fares = refl

-- the record with the number 400,002 is out of the limit
out_of_limit : (earlier : List Record) → length earlier ≡ 400_000 → is_out_of_limit earlier ≡ true
out_of_limit earlier h = rw h refl

-- and that with the number 400,001 is in it
in_limit : (earlier : List Record) → length earlier ≡ 399_999 → is_out_of_limit earlier ≡ false
in_limit earlier h = rw h refl
