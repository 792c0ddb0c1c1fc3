use Rattle.std.proofs.Common.{◌++◌, List, ℕ, get_or, refl, ap, arith}
use Rattle.std.specs.Prelude.{flat_map}
use Rattle.std.proofs.lemmas.List.{append-nil}
use Rattle.subsetter.specs.Common.Post.Marks.{run_bytes}
use Rattle.subsetter.specs.Common.Post.Plain.{entry_of}
use Rattle.subsetter.proofs.CommonLaws.PostLaws.Runs.{next_written, all_written}
use Rattle.subsetter.proofs.common.post.write.write_names.Goals as goal

pub loop-index-init : goal.loop-index-init
loop-index-init c = record {
  written = ap (λ (l : List ℕ). l ++ flat_map (entry_of c.args.names.now) c.args.indexes.now) (append-nil c.args.w.now);
  small = omega arith;
}

pub loop-index-preserved : goal.loop-index-preserved
loop-index-preserved c =
    let names = c.args.names.now in
    let run = c.loop-index.run in
    let i = c.loop-index.index-index in
    record {
      written = next_written names c.args.indexes.now i (get_or c.args.indexes.now i 0) (c.loop-index.w ++ run_bytes names run.from run.count) _ _ c.loop-index-test.true refl c.in_ok-run.ensures.ok c.loop-index.invariant.written;
      small = c.in_ok-run.ensures.small;
    }

pub returns-clause-ok : goal.returns-clause-ok
returns-clause-ok c =
    let names = c.args.names.now in
    let run = c.loop-index.run in
    all_written names c.args.indexes.now c.loop-index.index-index (c.loop-index.w ++ run_bytes names run.from run.count) c.write_run.new.w _ (omega arith) c.in_ok-write_run.ensures.ok c.loop-index.invariant.written
