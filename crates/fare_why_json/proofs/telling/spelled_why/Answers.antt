-- Each piece stands behind the one before it.
use Rattle.fare_why_json.specs.Spelled.{why_json}
use Rattle.fare_why_json.proofs.WhyLemmas.{marks_beside}
use Rattle.fare_why_json.proofs.telling.spelled_why.Goals as goal

pub returns : goal.returns
unfolding why_json
returns c =
    rw (
      c.in_ok-extend_from_slice-4.ensures.items,
      c.in_ok-push_reasons.ensures,
      c.reasons.ensures,
      c.in_ok-extend_from_slice-3.ensures.items,
      c.in_ok-push_money_if.ensures,
      c.total.ensures.value,
      c.in_ok-extend_from_slice-2.ensures.items,
      c.in_ok-push_edition.ensures,
      c.in_ok-extend_from_slice.ensures.items,
      c.new-text.ensures.items,
    ) (marks_beside _ _ _)
