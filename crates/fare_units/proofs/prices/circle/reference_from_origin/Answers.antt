use Rattle.std.proofs.Common.{◌≤◌, ◌∙◌, slice_index, arith}
use Rattle.fare_units.proofs.CircleSteps.{own_sectors_up_to}
use Rattle.fare_units.proofs.prices.circle.reference_from_origin.Goals as goal

pub indicator_of-ind-requires-clause-from_one : goal.indicator_of-ind-requires-clause-from_one
indicator_of-ind-requires-clause-from_one c =
    λ j h. (own_sectors_up_to c.args.unit.now.trip.now c.args.unit.now.parts.now c.args.unit.now.own.now c.args.i c.as_slice.result.now (c.as_slice.ensures.value ∙ c.own_sectors-ways.ensures) j 0 h).0

pub indicator_of-ind-requires-clause-within : goal.indicator_of-ind-requires-clause-within
indicator_of-ind-requires-clause-within c =
    λ j h. let most : slice_index c.as_slice.result.now j ≤ c.args.i = (own_sectors_up_to c.args.unit.now.trip.now c.args.unit.now.parts.now c.args.unit.now.own.now c.args.i c.as_slice.result.now (c.as_slice.ensures.value ∙ c.own_sectors-ways.ensures) j 0 h).1 in omega arith
