use Rattle.fare_check.proofs.Law.{first_is_editions}
use Rattle.fare_check.proofs.checked.first_fault_is_the_editions.Goals as goal

pub returns : goal.returns
returns c = first_is_editions c.args.bytes.now
