-- a place at which nothing is shown adds no reason
use Rattle.std.proofs.Common.{◌∙◌, sym}
use Rattle.fare_why.proofs.Gathered.{shown_same, there_same}
use Rattle.fare_why.proofs.gathering.gathered.Goals as goal

pub loop-slot-preserved-in-Some-None : goal.loop-slot-preserved-in-Some-None
loop-slot-preserved-in-Some-None c = record {
  shown = c.loop-slot.invariant.shown ∙ sym (shown_same c.loop-slot.yielded c.in-Some.slot c.in-Some-None.field-0 c.in-Some-None.is c.in-Some-None.field-0-is);
  there = there_same c.loop-slot.yielded c.in-Some.slot c.in-Some-None.field-0 c.in-Some-None.is c.loop-slot.invariant.there;
}
