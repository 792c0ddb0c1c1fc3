use Rattle.subsetter.proofs.CommonLaws.PostLaws.Runs.{none_at_end, none_cut, is_name}
use Rattle.subsetter.proofs.common.post.marks.name_end.Goals as goal

pub returns-then-at-bytes-clause-none : goal.returns-then-at-bytes-clause-none
returns-then-at-bytes-clause-none c = none_at_end c.args.bytes.now c.args.at c.if-at-bytes.true

pub returns-then-end-bytes-clause-none : goal.returns-then-end-bytes-clause-none
returns-then-end-bytes-clause-none c = none_cut c.args.bytes.now c.args.at c.from-len.result c.if-at-bytes.false c.from-len.ensures c.if-end-bytes.true

pub returns-clause-there : goal.returns-clause-there
returns-clause-there c = is_name c.args.bytes.now c.args.at c.from-len.result c.if-at-bytes.false c.from-len.ensures c.if-end-bytes.false
