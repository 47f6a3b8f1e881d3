-- Two records are the same by the test exactly where they are equal.
use Rattle.std.proofs.Common.{◌≡◌, ◌==◌, ◌↔◌, ℕ, Bool, true, false, ◌&&◌, List, [], ◌∷◌, Option, Some, None, IsTrue, bytes_eq, refl, ap, sym, ◌∙◌}
use Rattle.std.specs.Bool.{Decides}
use Rattle.std.proofs.lemmas.Bool.{eqb-true, eq-eqb}
use Rattle.std.proofs.lemmas.Bool.Decides.{same_from_decides}
use Rattle.std.proofs.lemmas.Slice.Eq.{bytes_eq-Decides}
use Rattle.fare_codes.specs.declared.area.Area.{Area}
use Rattle.fare_codes.specs.declared.area.Area.TheVariants.{One, Two, Three}
use Rattle.fare_codes.specs.declared.mode.Mode.{Mode}
use Rattle.fare_codes.specs.declared.mode.Mode.TheVariants.{Up, Nearest}
use Rattle.fare_codes.specs.declared.indicator.Indicator.{Indicator}
use Rattle.fare_codes.specs.declared.indicator.Indicator.TheVariants.{WH, EH, AT, PA, AP}
use Rattle.fare_codes.specs.declared.cabin.Cabin.{Cabin}
use Rattle.fare_codes.specs.declared.cabin.Cabin.TheVariants.{F, C, Y}
use Rattle.fare_codes.specs.declared.kind.Kind.{Kind}
use Rattle.fare_codes.specs.declared.kind.Kind.TheVariants.{OW, HR}
use Rattle.fare_codes.specs.declared.season.Season.{Season}
use Rattle.fare_codes.specs.Same.{same_indicator, same_cabin, same_kind, same_season}
use Rattle.fare_records.specs.declared.names.Names.{Names}
use Rattle.fare_records.specs.declared.names.Names.TheVariants.{All, Of}
use Rattle.fare_records.specs.declared.city_record.CityRec.{CityRec}
use Rattle.fare_records.specs.declared.record.Record.{Record}
use Rattle.fare_records.specs.declared.record.Record.TheVariants as filed
use Rattle.fare_records.specs.Record.{CurrencyRecord, RuleRecord, FareRecord, MileageRecord, PairRecord, AllowanceRecord}
use Rattle.fare_records.specs.Fields.{same_rule, same_via}
use Rattle.fare_changes.specs.SameRecord.{same_area, same_mode, same_flag, same_list, same_names, same_city_record, same_currency_record, same_rule_record, same_fare_record, same_mileage_record, same_pair_record, same_allowance_record, same_record}

-- both of two tests that are true together
and_true : (p q : Bool) → (p && q) ≡ true → (p ≡ true) × (q ≡ true)
and_true true q h = (refl, h)
and_true false q h = cc

-- two tests that are true are true together
both : (p q : Bool) → p ≡ true → q ≡ true → (p && q) ≡ true
both p q h k = rw (h, k) refl

text_true : (a b : List ℕ) → bytes_eq a b ≡ true → a ≡ b
text_true a b h = (bytes_eq-Decides a b).0 h

pub text_refl : (a : List ℕ) → bytes_eq a a ≡ true
text_refl a = (bytes_eq-Decides a a).1 refl

number_refl : (n : ℕ) → (n == n) ≡ true
number_refl n = eq-eqb n n refl

area_true : (a b : Area) → same_area a b ≡ true → a ≡ b
area_true One One h = refl
area_true Two Two h = refl
area_true Three Three h = refl
area_true _ _ h = cc

area_refl : (a : Area) → same_area a a ≡ true
area_refl One = refl
area_refl Two = refl
area_refl Three = refl

mode_true : (a b : Mode) → same_mode a b ≡ true → a ≡ b
mode_true Up Up h = refl
mode_true Nearest Nearest h = refl
mode_true _ _ h = cc

mode_refl : (a : Mode) → same_mode a a ≡ true
mode_refl Up = refl
mode_refl Nearest = refl

flag_true : (a b : Bool) → same_flag a b ≡ true → a ≡ b
flag_true true true h = refl
flag_true false false h = refl
flag_true true false h = cc
flag_true false true h = cc

flag_refl : (a : Bool) → same_flag a a ≡ true
flag_refl true = refl
flag_refl false = refl

indicator_true : (a b : Indicator) → same_indicator a b ≡ true → a ≡ b
indicator_true WH WH h = refl
indicator_true EH EH h = refl
indicator_true AT AT h = refl
indicator_true PA PA h = refl
indicator_true AP AP h = refl
indicator_true _ _ h = cc

pub indicator_refl : (a : Indicator) → same_indicator a a ≡ true
indicator_refl WH = refl
indicator_refl EH = refl
indicator_refl AT = refl
indicator_refl PA = refl
indicator_refl AP = refl

cabin_true : (a b : Cabin) → same_cabin a b ≡ true → a ≡ b
cabin_true F F h = refl
cabin_true C C h = refl
cabin_true Y Y h = refl
cabin_true _ _ h = cc

pub cabin_refl : (a : Cabin) → same_cabin a a ≡ true
cabin_refl F = refl
cabin_refl C = refl
cabin_refl Y = refl

kind_true : (a b : Kind) → same_kind a b ≡ true → a ≡ b
kind_true OW OW h = refl
kind_true HR HR h = refl
kind_true _ _ h = cc

pub kind_refl : (a : Kind) → same_kind a a ≡ true
kind_refl OW = refl
kind_refl HR = refl

rule_true : (a b : Option (List ℕ)) → same_rule a b ≡ true → a ≡ b
rule_true None None h = refl
rule_true (Some a) (Some b) h = ap Some (text_true a b h)
rule_true _ _ h = cc

pub rule_refl : (a : Option (List ℕ)) → same_rule a a ≡ true
rule_refl None = refl
rule_refl (Some a) = text_refl a

via_true : (a b : Option (List ℕ)) → same_via a b ≡ true → a ≡ b
via_true None None h = refl
via_true (Some a) (Some b) h = ap Some (text_true a b h)
via_true _ _ h = cc

pub via_refl : (a : Option (List ℕ)) → same_via a a ≡ true
via_refl None = refl
via_refl (Some a) = text_refl a

season_true : (a b : Season) → same_season a b ≡ true → a ≡ b
season_true a b h =
    let p = and_true (bytes_eq a.first b.first) (bytes_eq a.last b.last) h in
    let first : a.first ≡ b.first = text_true a.first b.first p.0 in
    let last : a.last ≡ b.last = text_true a.last b.last p.1 in
    λ k. record { first = first k; last = last k }

pub season_refl : (a : Season) → same_season a a ≡ true
season_refl a = both (bytes_eq a.first a.first) (bytes_eq a.last a.last) (text_refl a.first) (text_refl a.last)

list_true : (a b : List (Option (List ℕ))) → same_list a b ≡ true → a ≡ b
list_true [] [] h = refl
list_true (a ∷ xs) (b ∷ ys) h =
    let p = and_true (same_rule a b) (same_list xs ys) h in
    let first : a ≡ b = rule_true a b p.0 in
    let others : xs ≡ ys = list_true xs ys p.1 in
    λ k. first k ∷ others k
list_true _ _ h = cc

list_refl : (a : List (Option (List ℕ))) → same_list a a ≡ true
list_refl [] = refl
list_refl (a ∷ xs) = both (same_rule a a) (same_list xs xs) (rule_refl a) (list_refl xs)

names_true : (a b : Names) → same_names a b ≡ true → a ≡ b
names_true All All h = refl
names_true (Of a) (Of b) h = ap Of (list_true a b h)
names_true _ _ h = cc

names_refl : (a : Names) → same_names a a ≡ true
names_refl All = refl
names_refl (Of a) = list_refl a

city_true : (a b : CityRec) → same_city_record a b ≡ true → a ≡ b
city_true a b h =
    let p = and_true (bytes_eq a.code b.code && bytes_eq a.country b.country) (same_area a.area b.area) h in
    let q = and_true (bytes_eq a.code b.code) (bytes_eq a.country b.country) p.0 in
    let code : a.code ≡ b.code = text_true a.code b.code q.0 in
    let country : a.country ≡ b.country = text_true a.country b.country q.1 in
    let area : a.area ≡ b.area = area_true a.area b.area p.1 in
    λ k. record { code = code k; country = country k; area = area k }

city_refl : (a : CityRec) → same_city_record a a ≡ true
city_refl a = rw (text_refl a.code, text_refl a.country, area_refl a.area) refl

currency_true : (a b : CurrencyRecord) → same_currency_record a b ≡ true → a ≡ b
currency_true a b h =
    let m = and_true (bytes_eq a.country b.country && bytes_eq a.currency b.currency && (a.roe == b.roe) && (a.decimals == b.decimals) && (a.unit == b.unit)) (same_mode a.mode b.mode) h in
    let n = and_true (bytes_eq a.country b.country && bytes_eq a.currency b.currency && (a.roe == b.roe) && (a.decimals == b.decimals)) (a.unit == b.unit) m.0 in
    let o = and_true (bytes_eq a.country b.country && bytes_eq a.currency b.currency && (a.roe == b.roe)) (a.decimals == b.decimals) n.0 in
    let p = and_true (bytes_eq a.country b.country && bytes_eq a.currency b.currency) (a.roe == b.roe) o.0 in
    let q = and_true (bytes_eq a.country b.country) (bytes_eq a.currency b.currency) p.0 in
    let country : a.country ≡ b.country = text_true a.country b.country q.0 in
    let currency : a.currency ≡ b.currency = text_true a.currency b.currency q.1 in
    let roe : a.roe ≡ b.roe = eqb-true a.roe b.roe p.1 in
    let decimals : a.decimals ≡ b.decimals = eqb-true a.decimals b.decimals o.1 in
    let unit : a.unit ≡ b.unit = eqb-true a.unit b.unit n.1 in
    let mode : a.mode ≡ b.mode = mode_true a.mode b.mode m.1 in
    λ k. record { country = country k; currency = currency k; roe = roe k; decimals = decimals k; unit = unit k; mode = mode k }

currency_refl : (a : CurrencyRecord) → same_currency_record a a ≡ true
currency_refl a = rw (text_refl a.country, text_refl a.currency, number_refl a.roe, number_refl a.decimals, number_refl a.unit, mode_refl a.mode) refl

rule_record_true : (a b : RuleRecord) → same_rule_record a b ≡ true → a ≡ b
rule_record_true a b h =
    let i = and_true (bytes_eq a.id b.id && (a.stops == b.stops) && (a.transfers == b.transfers) && (a.advance == b.advance) && (a.min_stay == b.min_stay) && (a.max_stay == b.max_stay) && same_flag a.excess b.excess && same_names a.units b.units) (same_names a.ends b.ends) h in
    let j = and_true (bytes_eq a.id b.id && (a.stops == b.stops) && (a.transfers == b.transfers) && (a.advance == b.advance) && (a.min_stay == b.min_stay) && (a.max_stay == b.max_stay) && same_flag a.excess b.excess) (same_names a.units b.units) i.0 in
    let k = and_true (bytes_eq a.id b.id && (a.stops == b.stops) && (a.transfers == b.transfers) && (a.advance == b.advance) && (a.min_stay == b.min_stay) && (a.max_stay == b.max_stay)) (same_flag a.excess b.excess) j.0 in
    let m = and_true (bytes_eq a.id b.id && (a.stops == b.stops) && (a.transfers == b.transfers) && (a.advance == b.advance) && (a.min_stay == b.min_stay)) (a.max_stay == b.max_stay) k.0 in
    let n = and_true (bytes_eq a.id b.id && (a.stops == b.stops) && (a.transfers == b.transfers) && (a.advance == b.advance)) (a.min_stay == b.min_stay) m.0 in
    let o = and_true (bytes_eq a.id b.id && (a.stops == b.stops) && (a.transfers == b.transfers)) (a.advance == b.advance) n.0 in
    let p = and_true (bytes_eq a.id b.id && (a.stops == b.stops)) (a.transfers == b.transfers) o.0 in
    let q = and_true (bytes_eq a.id b.id) (a.stops == b.stops) p.0 in
    let id : a.id ≡ b.id = text_true a.id b.id q.0 in
    let stops : a.stops ≡ b.stops = eqb-true a.stops b.stops q.1 in
    let transfers : a.transfers ≡ b.transfers = eqb-true a.transfers b.transfers p.1 in
    let advance : a.advance ≡ b.advance = eqb-true a.advance b.advance o.1 in
    let min_stay : a.min_stay ≡ b.min_stay = eqb-true a.min_stay b.min_stay n.1 in
    let max_stay : a.max_stay ≡ b.max_stay = eqb-true a.max_stay b.max_stay m.1 in
    let excess : a.excess ≡ b.excess = flag_true a.excess b.excess k.1 in
    let units : a.units ≡ b.units = names_true a.units b.units j.1 in
    let ends : a.ends ≡ b.ends = names_true a.ends b.ends i.1 in
    λ z. record { id = id z; stops = stops z; transfers = transfers z; advance = advance z; min_stay = min_stay z; max_stay = max_stay z; excess = excess z; units = units z; ends = ends z }

rule_record_refl : (a : RuleRecord) → same_rule_record a a ≡ true
rule_record_refl a = rw (text_refl a.id, number_refl a.stops, number_refl a.transfers, number_refl a.advance, number_refl a.min_stay, number_refl a.max_stay, flag_refl a.excess, names_refl a.units, names_refl a.ends) refl

fare_true : (a b : FareRecord) → same_fare_record a b ≡ true → a ≡ b
fare_true a b h =
    let i = and_true (bytes_eq a.from b.from && bytes_eq a.to b.to && same_indicator a.ind b.ind && bytes_eq a.carrier b.carrier && same_cabin a.class b.class && same_kind a.kind b.kind && same_rule a.rule b.rule && same_season a.season b.season) (a.amount == b.amount) h in
    let j = and_true (bytes_eq a.from b.from && bytes_eq a.to b.to && same_indicator a.ind b.ind && bytes_eq a.carrier b.carrier && same_cabin a.class b.class && same_kind a.kind b.kind && same_rule a.rule b.rule) (same_season a.season b.season) i.0 in
    let k = and_true (bytes_eq a.from b.from && bytes_eq a.to b.to && same_indicator a.ind b.ind && bytes_eq a.carrier b.carrier && same_cabin a.class b.class && same_kind a.kind b.kind) (same_rule a.rule b.rule) j.0 in
    let m = and_true (bytes_eq a.from b.from && bytes_eq a.to b.to && same_indicator a.ind b.ind && bytes_eq a.carrier b.carrier && same_cabin a.class b.class) (same_kind a.kind b.kind) k.0 in
    let n = and_true (bytes_eq a.from b.from && bytes_eq a.to b.to && same_indicator a.ind b.ind && bytes_eq a.carrier b.carrier) (same_cabin a.class b.class) m.0 in
    let o = and_true (bytes_eq a.from b.from && bytes_eq a.to b.to && same_indicator a.ind b.ind) (bytes_eq a.carrier b.carrier) n.0 in
    let p = and_true (bytes_eq a.from b.from && bytes_eq a.to b.to) (same_indicator a.ind b.ind) o.0 in
    let q = and_true (bytes_eq a.from b.from) (bytes_eq a.to b.to) p.0 in
    let from : a.from ≡ b.from = text_true a.from b.from q.0 in
    let to : a.to ≡ b.to = text_true a.to b.to q.1 in
    let ind : a.ind ≡ b.ind = indicator_true a.ind b.ind p.1 in
    let carrier : a.carrier ≡ b.carrier = text_true a.carrier b.carrier o.1 in
    let class : a.class ≡ b.class = cabin_true a.class b.class n.1 in
    let kind : a.kind ≡ b.kind = kind_true a.kind b.kind m.1 in
    let rule : a.rule ≡ b.rule = rule_true a.rule b.rule k.1 in
    let season : a.season ≡ b.season = season_true a.season b.season j.1 in
    let amount : a.amount ≡ b.amount = eqb-true a.amount b.amount i.1 in
    λ z. record { from = from z; to = to z; ind = ind z; carrier = carrier z; class = class z; kind = kind z; rule = rule z; season = season z; amount = amount z }

fare_refl : (a : FareRecord) → same_fare_record a a ≡ true
fare_refl a = rw (text_refl a.from, text_refl a.to, indicator_refl a.ind, text_refl a.carrier, cabin_refl a.class, kind_refl a.kind, rule_refl a.rule, season_refl a.season, number_refl a.amount) refl

mileage_true : (a b : MileageRecord) → same_mileage_record a b ≡ true → a ≡ b
mileage_true a b h =
    let o = and_true (bytes_eq a.from b.from && bytes_eq a.to b.to && same_indicator a.ind b.ind) (a.miles == b.miles) h in
    let p = and_true (bytes_eq a.from b.from && bytes_eq a.to b.to) (same_indicator a.ind b.ind) o.0 in
    let q = and_true (bytes_eq a.from b.from) (bytes_eq a.to b.to) p.0 in
    let from : a.from ≡ b.from = text_true a.from b.from q.0 in
    let to : a.to ≡ b.to = text_true a.to b.to q.1 in
    let ind : a.ind ≡ b.ind = indicator_true a.ind b.ind p.1 in
    let miles : a.miles ≡ b.miles = eqb-true a.miles b.miles o.1 in
    λ k. record { from = from k; to = to k; ind = ind k; miles = miles k }

mileage_refl : (a : MileageRecord) → same_mileage_record a a ≡ true
mileage_refl a = rw (text_refl a.from, text_refl a.to, indicator_refl a.ind, number_refl a.miles) refl

pair_true : (a b : PairRecord) → same_pair_record a b ≡ true → a ≡ b
pair_true a b h =
    let p = and_true (bytes_eq a.from b.from && bytes_eq a.to b.to) (a.miles == b.miles) h in
    let q = and_true (bytes_eq a.from b.from) (bytes_eq a.to b.to) p.0 in
    let from : a.from ≡ b.from = text_true a.from b.from q.0 in
    let to : a.to ≡ b.to = text_true a.to b.to q.1 in
    let miles : a.miles ≡ b.miles = eqb-true a.miles b.miles p.1 in
    λ k. record { from = from k; to = to k; miles = miles k }

pair_refl : (a : PairRecord) → same_pair_record a a ≡ true
pair_refl a = rw (text_refl a.from, text_refl a.to, number_refl a.miles) refl

allowance_true : (a b : AllowanceRecord) → same_allowance_record a b ≡ true → a ≡ b
allowance_true a b h =
    let n = and_true (bytes_eq a.from b.from && bytes_eq a.to b.to && same_indicator a.ind b.ind && same_via a.via b.via) (a.miles == b.miles) h in
    let o = and_true (bytes_eq a.from b.from && bytes_eq a.to b.to && same_indicator a.ind b.ind) (same_via a.via b.via) n.0 in
    let p = and_true (bytes_eq a.from b.from && bytes_eq a.to b.to) (same_indicator a.ind b.ind) o.0 in
    let q = and_true (bytes_eq a.from b.from) (bytes_eq a.to b.to) p.0 in
    let from : a.from ≡ b.from = text_true a.from b.from q.0 in
    let to : a.to ≡ b.to = text_true a.to b.to q.1 in
    let ind : a.ind ≡ b.ind = indicator_true a.ind b.ind p.1 in
    let via : a.via ≡ b.via = via_true a.via b.via o.1 in
    let miles : a.miles ≡ b.miles = eqb-true a.miles b.miles n.1 in
    λ k. record { from = from k; to = to k; ind = ind k; via = via k; miles = miles k }

allowance_refl : (a : AllowanceRecord) → same_allowance_record a a ≡ true
allowance_refl a = rw (text_refl a.from, text_refl a.to, indicator_refl a.ind, via_refl a.via, number_refl a.miles) refl

-- records that are the same by the test are equal
pub record_true : (a b : Record) → same_record a b ≡ true → a ≡ b
unfolding same_record
record_true (filed.City a) (filed.City b) h = ap filed.City (city_true a b h)
record_true (filed.Cur a) (filed.Cur b) h = ap filed.Cur (currency_true a b h)
record_true (filed.Rule a) (filed.Rule b) h = ap filed.Rule (rule_record_true a b h)
record_true (filed.Fare a) (filed.Fare b) h = ap filed.Fare (fare_true a b h)
record_true (filed.Mpm a) (filed.Mpm b) h = ap filed.Mpm (mileage_true a b h)
record_true (filed.Tpm a) (filed.Tpm b) h = ap filed.Tpm (pair_true a b h)
record_true (filed.Ema a) (filed.Ema b) h = ap filed.Ema (allowance_true a b h)
record_true _ _ h = cc

-- each record is the same as itself
pub record_refl : (a : Record) → same_record a a ≡ true
unfolding same_record
record_refl (filed.City a) = city_refl a
record_refl (filed.Cur a) = currency_refl a
record_refl (filed.Rule a) = rule_record_refl a
record_refl (filed.Fare a) = fare_refl a
record_refl (filed.Mpm a) = mileage_refl a
record_refl (filed.Tpm a) = pair_refl a
record_refl (filed.Ema a) = allowance_refl a

-- equal records are the same by the test
pub record_same : (a b : Record) → a ≡ b → same_record a b ≡ true
record_same a b e = ap (λ r. same_record a r) (sym e) ∙ record_refl a

-- the test says whether two records are equal
pub record_decides : (a b : Record) → Decides (same_record a b) (a ≡ b)
record_decides a b = (record_true a b, record_same a b)

-- and so does one that says whether the lists of each alone are
pub same_alone : (r : Bool) (a b : Record) (xs ys : List Record) → xs ≡ a ∷ [] → ys ≡ b ∷ [] → (IsTrue r ↔ (xs ≡ ys)) → r ≡ same_record a b
same_alone r a b xs ys first second h =
    let alone : IsTrue r ↔ (a ≡ b) = (
      λ t. let e : a ∷ [] ≡ b ∷ [] = sym first ∙ h.0 t ∙ second in cc,
      λ e. h.1 (first ∙ ap (λ x. x ∷ []) e ∙ sym second),
    ) in
    same_from_decides r (same_record a b) alone (record_decides a b)
