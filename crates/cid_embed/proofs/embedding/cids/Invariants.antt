use Rattle.std.proofs.Common.{◌≡◌, ◌++◌, map, drop, Some}
use Rattle.subsetter_base.specs.Indexes.{index_of}
use Rattle.cid_embed.proofs.embedding.cids.Given as goal

abbrev pub invariant-loop-glyph : goal.invariant-loop-glyph
invariant-loop-glyph l = map Some l.cids.items ++ map (index_of l.mapper) (drop l.glyph-index l.glyphs) ≡ map (index_of l.mapper) l.glyphs
