use Rattle.std.proofs.Common.{ap, codes, ◌∙◌}
use Rattle.fare_counter.specs.declared.routes.CounterRoute.TheVariants.{Best, Audit, Why, Check, Diff}
use Rattle.fare_counter.specs.Routes.{counter_rows, with_pattern}
use Rattle.fare_counter.proofs.routes.CounterRoutes.new.Goals as goal

pub invariant_of-result : goal.invariant_of-result
unfolding counter_rows
invariant_of-result c =
    let best = c.in_ok-put.ensures ∙ ap (with_pattern (codes "/best/{k}") Best) c.new-router.ensures in
    let audit = c.in_ok-put-2.ensures ∙ ap (with_pattern (codes "/audit") Audit) best in
    let why = c.in_ok-put-3.ensures ∙ ap (with_pattern (codes "/why") Why) audit in
    let check = c.in_ok-put-4.ensures ∙ ap (with_pattern (codes "/check") Check) why in
    let diff = c.in_ok-put-5.ensures ∙ ap (with_pattern (codes "/editions/{n}/diff/{m}") Diff) check in
    let json_best = c.in_ok-put-6.ensures ∙ ap (with_pattern (codes "/json/best/{k}") Best) diff in
    let json_audit = c.in_ok-put-7.ensures ∙ ap (with_pattern (codes "/json/audit") Audit) json_best in
    record { all = c.in_ok-put-8.ensures ∙ ap (with_pattern (codes "/json/why") Why) json_audit }
