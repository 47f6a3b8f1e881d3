use Rattle.fare_calc.proofs.worksheet.total.push_total.Goals as goal

pub returns : goal.returns
returns c = rw (c.currency.ensures.value, ← c.price.ensures.total) c.push_price.ensures
