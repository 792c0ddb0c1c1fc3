use Rattle.glyph_names.proofs.Read.{named}
use Rattle.glyph_names.proofs.names.name_of.Goals as goal

pub returns : goal.returns
returns c = named c.args.post.now c.args.cff.now c.args.sources.now c.args.glyph c.deref.result.now c.deref-3.result.now c.deref-2.result.now c.post_name-name.result.now c.name.result.now c.or_name.result.now c.requires c.or_name.ensures c.post_name-name.ensures c.name.ensures c.deref.ensures.value c.deref-2.ensures.value c.deref-3.ensures.value
