use Rattle.std.proofs.Common.{refl}
use Rattle.fare_outside.proofs.plain_keeper.PlainKeeperKeeper.load.Goals as goal

pub overflow_sub-place : goal.overflow_sub-place
overflow_sub-place c = (c.requires.place _ refl).0
