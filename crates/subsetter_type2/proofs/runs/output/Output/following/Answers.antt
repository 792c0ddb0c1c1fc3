use Rattle.std.proofs.Common.{◌∙◌}
use Rattle.subsetter_type2.proofs.RunsLaws.OutputLemmas.{holds_none, stands_settled, written_is}
use Rattle.subsetter_type2.proofs.runs.output.Output.following.Goals as goal

pub invariant_of-result : goal.invariant_of-result
invariant_of-result c = holds_none _ _ _ _ (stands_settled _ _ (c.len-settled.ensures ∙ c.args.bytes.ok.0))

pub returns : goal.returns
returns c = written_is _ _ _ _ (stands_settled _ _ (c.len-settled.ensures ∙ c.args.bytes.ok.0))
