use Rattle.std.proofs.Common.{◌≡◌, ◌-◌, ℕ, List, IfOk, length, rules, subst, ap, ◌∙◌}
use Rattle.subset_task.specs.Faces.Named.{line_of_names}
use Rattle.subset_task.proofs.Steps.{few_named}
use Rattle.subset_task.proofs.faces.named.few_names.Goals as goal

pub returns : goal.returns
returns c =
    let more : c.saturating_sub.result ≡ length c.args.records.now - 20 = search rules in
    let named = few_named c.args.names.now c.args.records.now c.few_records.result.now c.in_ok-text.text.items c.saturating_sub.result c.few_records.ensures c.in_ok-text.ensures more in
    subst (λ (v : List ℕ). IfOk c.line_of_names.result (λ line. line.items ≡ v)) (ap line_of_names c.in_ok-text-2.ensures ∙ named) c.line_of_names.ensures
