use Rattle.std.proofs.Common.{◌≡◌, drop}
use Rattle.pdf_runs.specs.Items.{are_known}
use Rattle.pdf_runs.proofs.items.are_known.Given as goal

abbrev pub invariant-loop-item : goal.invariant-loop-item
invariant-loop-item l = are_known l.glyph_count (drop l.item-index l.items) ≡ are_known l.glyph_count l.items
