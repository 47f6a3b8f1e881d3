use Rattle.std.proofs.Common.{rules}
use Rattle.std.proofs.lemmas.Nat.{be_bytes_8}
use Rattle.fare_codes.proofs.rule_id.as_one.Goals as goal

pub returns : goal.returns
returns c = be_bytes_8 c.args.characters _ (search rules) (search rules) c.from_be_bytes.ensures
