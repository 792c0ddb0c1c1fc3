use Rattle.std.specs.HashMap.{get}
use Rattle.pdf_glyphs.specs.Keys.{same_key}
use Rattle.pdf_glyphs.proofs.KeySteps.{one_more}
use Rattle.pdf_glyphs.proofs.frequent.count_one.Goals as goal

pub returns-clause-more : goal.returns-clause-more
returns-clause-more c = λ q.
    one_more (get same_key c.args.counts.now) (get same_key c.insert.new.self) c.args.key c.count_of-count.result c.count_of-count.ensures q (c.in_ok-insert.ensures.updates.0 q)
