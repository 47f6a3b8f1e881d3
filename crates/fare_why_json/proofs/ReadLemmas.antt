-- The value of the answer is read back from its text.
use Rattle.std.proofs.Common.{◌≡◌, ◌≤◌, ℕ, List, map, Option, Some, None, refl, arith}
use Rattle.std.specs.Prelude.{All}
use Rattle.json.proofs.Printed.Decimals.{IsNumber-decimal}
use Rattle.serde_json.proofs.Numbers.{number_of-decimal}
use Rattle.fare_tariff.specs.Tariff.{Tariff}
use Rattle.fare_rules.specs.declared.broken.Broken.{Broken}
use Rattle.fare_why.specs.Explanation.{Alternative, Explanation}
use Rattle.fare_json.specs.Counts.{IsCount}
use Rattle.fare_json.specs.ReadBack.{IsReadable, IsReadBack}
use Rattle.fare_json.proofs.ReadLemmas.{array_readable, edition_readable, from_all, is_read_back_within}
use Rattle.fare_why_json.specs.Counts.{AreReasonCounts}
use Rattle.fare_why_json.specs.WhyData.{broken_data, money_if, reason_data, why_data}

money_readable : (amount : Option ℕ) → IsReadable 0 (money_if amount)
money_readable None = record { reads = refl; numbers = tt; shallow = omega arith }
money_readable (Some hundredths) = record { reads = refl; numbers = tt; shallow = omega arith }

broken_readable : (broken : Broken) → IsCount broken.place → IsCount broken.rule → IsReadable 1 (broken_data broken)
unfolding broken_data
broken_readable broken place rule = record {
  reads = rw (number_of-decimal broken.place place, number_of-decimal broken.rule rule) refl;
  numbers = (IsNumber-decimal broken.place place, (IsNumber-decimal broken.rule rule, (tt, tt)));
  shallow = omega arith;
}

reason_readable : (shown : Alternative) → AreReasonCounts shown → IsReadable 2 (reason_data shown)
unfolding reason_data
reason_readable shown counts =
    let broken = broken_readable shown.broken counts.0 counts.1 in
    let saves = money_readable shown.saves in
    record {
      reads = rw (broken.reads, saves.reads) refl;
      numbers = (broken.numbers, (tt, (tt, (saves.numbers, (tt, tt)))));
      shallow = let b = broken.shallow in let s = saves.shallow in omega (arith, b, s);
    }

pub why_reads_back : (tariff : Tariff) (why : Explanation) → IsCount tariff.number → All AreReasonCounts why.reasons
    → IsReadBack (why_data tariff why)
unfolding why_data
why_reads_back tariff why fits counts =
    let edition = edition_readable tariff fits in
    let total = money_readable why.total in
    let reasons = array_readable 2 (map reason_data why.reasons) (from_all 2 reason_data why.reasons (λ k d below. reason_readable _ (counts k d below))) in
    is_read_back_within _ (record {
      reads = rw (edition.reads, total.reads, reasons.reads) refl;
      numbers = (edition.numbers, (total.numbers, (reasons.numbers, tt)));
      shallow = let e = edition.shallow in let t = total.shallow in let r = reasons.shallow in omega (arith, e, t, r);
    })
