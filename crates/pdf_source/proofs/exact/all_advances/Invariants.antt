use Rattle.std.proofs.Common.{◌≡◌, ◌-◌}
use Rattle.subsetter_base.proofs.Results.{with_front}
use Rattle.cid_embed.specs.Afresh.{measures_seen}
use Rattle.pdf_source.specs.Exact.{advances_from}
use Rattle.pdf_source.proofs.exact.all_advances.Given as goal

abbrev pub invariant-loop-glyph : goal.invariant-loop-glyph
invariant-loop-glyph l = with_front l.advances.items (advances_from (measures_seen l.metrics) l.glyph (l.count - l.glyph)) ≡ advances_from (measures_seen l.metrics) 0 l.count
