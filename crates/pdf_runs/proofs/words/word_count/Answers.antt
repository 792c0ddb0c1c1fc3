use Rattle.std.proofs.Common.{sym, ◌∙◌}
use Rattle.pdf_runs.proofs.WordLaws.{blank_first, long_first}
use Rattle.pdf_runs.proofs.words.word_count.Goals as goal

pub returns-then-is_blank-clause-first : goal.returns-then-is_blank-clause-first
returns-then-is_blank-clause-first c = blank_first c.args.clusters.now _ c.requires (sym c.is_blank.ensures ∙ c.if-is_blank.true)

pub returns-clause-first : goal.returns-clause-first
returns-clause-first c = long_first c.args.clusters.now c.following.result.now _ c.word_rest.result c.requires (sym c.is_blank.ensures ∙ c.if-is_blank.false) c.following.ensures c.word_rest.ensures.value
