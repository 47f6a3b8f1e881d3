use Rattle.std.proofs.Common.{refl}
use Rattle.fare_outside.proofs.mem_keeper.MemKeeperKeeper.load.Goals as goal

pub overflow_sub-index : goal.overflow_sub-index
overflow_sub-index c = (c.requires.place _ refl).0
