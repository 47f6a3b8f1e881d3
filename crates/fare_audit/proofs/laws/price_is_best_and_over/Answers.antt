use Rattle.std.proofs.Common.{arith}
use Rattle.fare_audit.proofs.VerdictLemmas.{lawful_over_best}
use Rattle.fare_audit.proofs.laws.price_is_best_and_over.Goals as goal

pub returns-clause-over : goal.returns-clause-over
returns-clause-over c = lawful_over_best

pub returns-clause-none_over : goal.returns-clause-none_over
returns-clause-none_over c = λ tariff trip line price best parts is of. (let whole = lawful_over_best tariff trip line price 0 best parts is of in omega (arith, whole))
