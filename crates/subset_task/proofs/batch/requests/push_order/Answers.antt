use Rattle.std.proofs.Common.{◌≡◌, List, rules, subst, sym}
use Rattle.subset_task.specs.Batch.Requests.{AreNames, left_after}
use Rattle.subset_task.specs.declared.batch.requests.Request.{Request}
use Rattle.subset_task.proofs.BatchLaws.{named_last, left_last}
use Rattle.subset_task.proofs.batch.requests.push_order.Goals as goal

pub returns-clause-names : goal.returns-clause-names
returns-clause-names c =
    let request : Request = record { line = c.args.line.number; job = c.begin-job.result.0 } in
    subst (λ (requests : List Request). AreNames requests c.add_names_if.new.names) (sym c.in_ok-push.ensures.items) (named_last c.args.batch.now.requests.items request c.args.names.now c.add_names_if.new.names c.requires.names c.in_ok-add_names_if.ensures)

pub returns-clause-left : goal.returns-clause-left
returns-clause-left c =
    let request : Request = record { line = c.args.line.number; job = c.begin-job.result.0 } in
    subst (λ (requests : List Request). c.saturating_sub.result ≡ left_after requests) (sym c.in_ok-push.ensures.items) (left_last c.args.batch.now.requests.items request c.args.left.now c.saturating_sub.result c.requires.left (search rules))
