use Rattle.std.proofs.Common.{ℕ, Option, length, ap, ◌∙◌, unwrap_or}
use Rattle.pdf_runs.specs.Items.{begins}
use Rattle.pdf_runs.proofs.ClusterLaws.{all_within, found_or_all}
use Rattle.pdf_runs.proofs.clusters.continued.Goals as goal

pub returns-clause-value : goal.returns-clause-value
returns-clause-value c = c.unwrap_or.ensures ∙ ap (λ (o : Option ℕ). unwrap_or o (length c.args.items.now)) c.next_beginning.ensures ∙ found_or_all begins c.args.items.now

pub returns-clause-within : goal.returns-clause-within
returns-clause-within c =
    all_within c.args.items.now c.unwrap_or.result
    (c.unwrap_or.ensures ∙ ap (λ (o : Option ℕ). unwrap_or o (length c.args.items.now)) c.next_beginning.ensures ∙ found_or_all begins c.args.items.now)
