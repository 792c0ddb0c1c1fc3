use Rattle.std.proofs.Common.{◌≡◌, ◌-◌, ◌++◌}
use Rattle.subset_args.specs.Listing.Lists.{counting}
use Rattle.subset_task.proofs.making.requested.first_glyphs.Given as goal

abbrev pub invariant-loop-glyph : goal.invariant-loop-glyph
invariant-loop-glyph l = l.glyphs.items ++ counting l.glyph (l.count - l.glyph) ≡ counting 0 l.count
