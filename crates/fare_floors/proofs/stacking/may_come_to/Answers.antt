use Rattle.std.proofs.Common.{refl}
use Rattle.fare_floors.proofs.stacking.may_come_to.Goals as goal

pub returns-else-closes : goal.returns-else-closes
returns-else-closes c = rw (c.lie_near.ensures, c.if-closes.false) refl
