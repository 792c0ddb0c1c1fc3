use Rattle.std.proofs.Common.{◌-◌, arith}
use Rattle.subsetter.specs.Common.Post.Marks.{run_bytes}
use Rattle.subsetter.proofs.CommonLaws.PostLaws.Runs.{run_stays, run_follows, run_begins}
use Rattle.subsetter.proofs.common.post.write.go_on.Goals as goal

pub returns-then-index-lt-STANDARD_NAMES-clause-ok : goal.returns-then-index-lt-STANDARD_NAMES-clause-ok
returns-then-index-lt-STANDARD_NAMES-clause-ok c =
    let names = c.args.names.now in
    run_stays c.args.w.now (run_bytes names c.args.run.from c.args.run.count) names c.args.index (omega arith)

pub returns-then-number-next-clause-ok : goal.returns-then-number-next-clause-ok
returns-then-number-next-clause-ok c = run_follows c.args.w.now c.args.names.now c.args.run.from c.args.run.count c.args.index (omega arith) (omega (arith, c.from-number.ensures))

pub returns-clause-ok : goal.returns-clause-ok
returns-clause-ok c =
    let names = c.args.names.now in
    run_begins c.write_run.new.w c.args.w.now (run_bytes names c.args.run.from c.args.run.count) names (c.from-number.result - 258) c.args.index (omega arith) (omega (arith, c.from-number.ensures)) c.in_ok-write_run.ensures.ok
