use Rattle.pdf_runs.specs.Clusters.{lists}
use Rattle.pdf_runs.specs.Words.{words}
use Rattle.pdf_runs.proofs.WordLaws.{words_more}
use Rattle.pdf_runs.proofs.words.words_of_run.Goals as goal

pub loop-rest-preserved : goal.loop-rest-preserved
loop-rest-preserved c =
    words_more c.loop-rest.found.items c.push.new.self.items c.front-first.result c.loop-rest.rest.now c.following-after.result.now c.word_count-count.result (words (lists c.args.clusters.now)) c.word_count-count.ensures.first
    c.front-first.ensures c.following-after.ensures c.in_ok-push.ensures.items c.loop-rest.invariant
