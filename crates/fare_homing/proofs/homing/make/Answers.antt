use Rattle.std.proofs.Common.{rules, ◌≡◌, ◌+◌, ◌-◌, ◌<◌, ℕ, List, [], subst, ◌∙◌, ap, arith, length-set, set}
use Rattle.std.specs.Prelude.{Option, Some, slice_index_or}
use Rattle.fare_trip.specs.Itinerary.{count}
use Rattle.fare_bounds.specs.Covers.{rest_at}
use Rattle.fare_homing.specs.HomingRows.{AreBetweens, AreWholes}
use Rattle.fare_legs.specs.Legs.{AreLegsBehind}
use Rattle.fare_homing.specs.Rows.{begun_from, cell, closing_from, jaw_from, no_standing}
use Rattle.fare_homing.proofs.HomingLemmas.{AreHomingsFrom, all_homings, closing_put, no_homings, put_homings}
use Rattle.fare_homing.proofs.HomingRowLemmas.{betweens_same, put_betweens}
use Rattle.fare_homing.proofs.homing.make.Goals as goal

pub loop-c-init : goal.loop-c-init
loop-c-init c =
    let last : c.count-count.result ≡ count c.args.table.now.trip = c.count-count.ensures.value ∙ ap count c.trip-trip.ensures in
    let end = subst (λ n. rest_at c.rest_at_end-homing.result n ≡ Some 0) last c.rest_at_end-homing.ensures in
    record {
      long_standing = search rules;
      long_whole = search rules;
      long_rest = search rules;
      long_betweens = search rules;
      betweens = λ i low high. absurd (omega arith);
      known = rw last (no_homings c.args.table.now.edition c.args.table.now.trip _ end);
      countries = c.countries_of-homing.ensures;
      lonely = c.lonely_fares-homing.ensures;
      of_two = c.fares_of_two-homing.ensures;
      ceiling = c.ceiling_of-homing.ensures.ceiling;
      bar = c.requires;
      unit_ceiling = c.unit_ceiling_of-homing.ensures c.args.table.now.edition c.args.table.now.trip c.ceiling_of-homing.ensures.ceiling c.requires;
      price = c.ceiling_of-homing.ensures.value;
    }

pub loop-c-preserved : goal.loop-c-preserved
loop-c-preserved c =
    let tariff = c.args.table.now.edition in
    let trip = c.args.table.now.trip in
    let homing = c.loop-c.homing in
    let known = c.loop-c.invariant in
    let place = c.loop-c.c - 1 in
    let next : c.loop-c.c ≡ place + 1 = omega arith in
    let last : c.count-count.result ≡ count trip = c.count-count.ensures.value ∙ ap count c.trip-trip.ensures in
    let within : place < count trip = omega arith in
    let After : ℕ → ℕ → Option ℕ = λ b. closing_from homing b b in
    let B : ℕ → Type 0 = λ i. AreBetweens tariff trip homing.unit_ceiling After i (rest_at c.betweens_at-between.result) in
    let between_here : B place = subst B c.start_at-start.ensures.behind c.betweens_at-between.ensures in
    let From : ℕ → Type 0 = λ n. AreHomingsFrom tariff trip n homing in
    let W : List ℕ → Type 0 = λ barred. AreWholes tariff trip barred (begun_from homing) (jaw_from homing) c.start_at-start.result.behind (rest_at c.wholes_at-whole.result) in
    let I : ℕ → Type 0 = λ i. AreWholes tariff trip [] (begun_from homing) (jaw_from homing) i (rest_at c.wholes_at-whole.result) in
    record {
      long_standing = length-set homing.standing place c.standing_at-standing.result ∙ known.long_standing;
      long_whole = length-set homing.whole place c.wholes_at-whole.result ∙ known.long_whole;
      long_rest = length-set homing.rest place c.least_onward.result ∙ known.long_rest;
      long_betweens = length-set c.loop-c.betweens place c.betweens_at-between.result ∙ known.long_betweens;
      betweens = λ i low high. betweens_same tariff trip homing.unit_ceiling After (λ b. cell (slice_index_or (set homing.standing place c.standing_at-standing.result) b no_standing).closing b) i (cell (set c.loop-c.betweens place c.betweens_at-between.result) i)
          (λ b j past. closing_put homing.standing place c.standing_at-standing.result b b j (omega (arith, past, low)))
          (put_betweens tariff trip homing.unit_ceiling After c.loop-c.betweens place c.betweens_at-between.result (omega (arith, known.long_betweens, c.count-count.ensures.at_most)) between_here (λ i low high. known.betweens i (omega arith) high) i low high);
      known = put_homings tariff trip homing place (omega arith) c.wholes_at-whole.result c.least_onward.result c.standing_at-standing.result
          (omega (arith, known.long_standing, c.count-count.ensures.at_most)) (omega (arith, known.long_whole, c.count-count.ensures.at_most)) (omega (arith, known.long_rest, c.count-count.ensures.at_most)) (subst From next known.known)
          (subst I c.start_at-start.ensures.behind (subst W (c.start_at-start.ensures.barred ∙ c.as_slice-barred.ensures) c.wholes_at-whole.ensures)) (λ b x y past within up more. c.least_onward.ensures b x y past (omega arith) up more) c.standing_at-standing.ensures.begins c.standing_at-standing.ensures.closes c.standing_at-standing.ensures.ends;
      countries = known.countries;
      lonely = known.lonely;
      of_two = known.of_two;
      ceiling = known.ceiling;
      bar = known.bar;
      unit_ceiling = known.unit_ceiling;
      price = known.price;
    }

pub returns-clause-homings : goal.returns-clause-homings
returns-clause-homings c =
    let done : c.loop-c.c ≡ 0 = omega arith in
    let P : ℕ → Type 0 = λ first. AreHomingsFrom c.args.table.now.edition c.args.table.now.trip first c.loop-c.homing in
    let known = all_homings c.args.table.now.edition c.args.table.now.trip c.loop-c.homing (subst P done c.loop-c.invariant.known) in
    record {
      known = known;
      onwards = c.without_barred-homing.ensures c.args.table.now.edition c.args.table.now.trip (begun_from c.loop-c.homing) (jaw_from c.loop-c.homing) (cell c.loop-c.homing.whole) (record { wholes = known.wholes; onward = known.onward; nothing = known.nothing });
      countries = c.loop-c.invariant.countries;
      lonely = c.loop-c.invariant.lonely;
      of_two = c.loop-c.invariant.of_two;
      ceiling = c.loop-c.invariant.ceiling;
      bar = c.loop-c.invariant.bar;
      unit_ceiling = c.loop-c.invariant.unit_ceiling;
    }

pub returns-clause-ceiling : goal.returns-clause-ceiling
returns-clause-ceiling c = c.loop-c.invariant.price

pub standing_at-standing-requires-clause-legs : goal.standing_at-standing-requires-clause-legs
standing_at-standing-requires-clause-legs c =
    let B : List ℕ → Type 0 = λ barred. AreLegsBehind c.args.table.now.edition c.args.table.now.trip barred c.legs_behind-legs.result in
    subst B c.as_slice-barred.ensures c.legs_behind-legs.ensures

pub standing_at-standing-requires-clause-betweens : goal.standing_at-standing-requires-clause-betweens
standing_at-standing-requires-clause-betweens c =
    let tariff = c.args.table.now.edition in
    let trip = c.args.table.now.trip in
    let homing = c.loop-c.homing in
    let known = c.loop-c.invariant in
    let place = c.loop-c.c - 1 in
    let next : c.loop-c.c ≡ place + 1 = omega arith in
    let After : ℕ → ℕ → Option ℕ = λ b. closing_from homing b b in
    let B : ℕ → Type 0 = λ i. AreBetweens tariff trip homing.unit_ceiling After i (rest_at c.betweens_at-between.result) in
    let between_here : B place = subst B c.start_at-start.ensures.behind c.betweens_at-between.ensures in
    put_betweens tariff trip homing.unit_ceiling After c.loop-c.betweens place c.betweens_at-between.result (omega (arith, known.long_betweens, c.count-count.ensures.at_most)) between_here (λ i low high. known.betweens i (omega arith) high)
