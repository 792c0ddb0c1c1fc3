use Rattle.std.proofs.Common.{◌<◌, ◌++◌, ℕ, List, ap, ◌∙◌, subst, arith}
use Rattle.std.specs.Prelude.{All}
use Rattle.pdf_text.specs.Cmaps.Cmap.{words}
use Rattle.pdf_operators.specs.Operators.{units_of}
use Rattle.pdf_operators.proofs.RunSteps.{texts_all, texts_put, texts_seen}
use Rattle.pdf_operators.proofs.operations.write_texts.Goals as goal

pub loop-cluster-preserved : goal.loop-cluster-preserved
loop-cluster-preserved c =
    let cs = c.args.clusters.now in
    let k = c.loop-cluster.cluster-index in
    let so_far = c.loop-cluster.text.items in
    record {
      so_far = texts_put cs k _ so_far c.write_characters.new.text.items _ c.loop-cluster-test.true (c.in_ok-write_characters.ensures.ok ∙ ap (λ (t : List ℕ). so_far ++ words (units_of t)) c.text_of.ensures) c.loop-cluster.invariant.so_far;
      seen = texts_seen (λ (n : ℕ). n < 1114112) cs k _ c.loop-cluster-test.true (subst (All (λ (n : ℕ). n < 1114112)) c.text_of.ensures c.in_ok-write_characters.ensures.characters) c.loop-cluster.invariant.seen;
    }

pub returns-clause-characters : goal.returns-clause-characters
returns-clause-characters c = texts_all (λ n. n < 1114112) c.args.clusters.now c.loop-cluster.cluster-index (omega arith) c.loop-cluster.invariant.seen
