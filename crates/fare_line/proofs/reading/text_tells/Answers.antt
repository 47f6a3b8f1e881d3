use Rattle.fare_line.proofs.LineLaws.{one_line}
use Rattle.fare_line.proofs.reading.text_tells.Goals as goal

pub returns : goal.returns
returns c = λ a b x y e. one_line a b x y e
