use Rattle.std.proofs.Common.{ℕ, ◌+◌, sym, ap, ◌∙◌, arith}
use Rattle.pdf_runs.proofs.WordLaws.{rest_found, rest_more, rest_none}
use Rattle.pdf_runs.proofs.words.word_rest.Goals as goal

pub loop-cluster-preserved : goal.loop-cluster-preserved
loop-cluster-preserved c = record {
  at = ap (λ (n : ℕ). n + 1) c.loop-cluster.invariant.at;
  rest = rest_more c.args.clusters.now c.loop-cluster.count c.loop-cluster.cluster-index _ _ c.loop-cluster-test.true (sym c.is_blank.ensures ∙ c.if-is_blank.false) c.loop-cluster.invariant.rest;
}

pub returns-then-is_blank-clause-value : goal.returns-then-is_blank-clause-value
returns-then-is_blank-clause-value c = rest_found c.args.clusters.now c.loop-cluster.count c.loop-cluster.cluster-index _ _ c.loop-cluster-test.true (sym c.is_blank.ensures ∙ c.if-is_blank.true) c.loop-cluster.invariant.rest

pub returns-clause-value : goal.returns-clause-value
returns-clause-value c = rest_none c.args.clusters.now c.loop-cluster.count c.loop-cluster.cluster-index _ (omega arith) c.loop-cluster.invariant.rest
