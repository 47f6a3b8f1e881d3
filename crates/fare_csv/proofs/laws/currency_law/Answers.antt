use Rattle.std.proofs.Common.{◌≡◌, Some, arith}
use Rattle.std.specs.Prelude.{decimal}
use Rattle.fare_codes.specs.Numbers.{read_number}
use Rattle.fare_csv.proofs.RecordsReadBack.{currency_reads_back}
use Rattle.fare_csv.proofs.laws.currency_law.Goals as goal

pub returns : goal.returns
returns c =
    let decimals : read_number 2 (decimal c.rate.inside.decimals) ≡ Some c.rate.inside.decimals =
    rw c.from.ensures at (c.number_text-decimals.ensures.read_back 2 (omega (arith, c.from.ensures, c.rate.invariant.decimals_in_range))) in
    rw (← c.rate.view_is) (currency_reads_back _ c.rate.invariant c.text-country.ensures.form c.text-currency.ensures.form c.rate_text-roe.ensures.read_back decimals (c.number_text-unit.ensures.read_back 10_000 c.rate.invariant.unit_in_range) c.text-mode.ensures.read_back)
