use Rattle.subsetter_instance.proofs.GlyphsLaws.Phantoms.{is_simple_advance_at_default}
use Rattle.subsetter_instance.proofs.laws.is_simple_advance_at_default.Goals as goal

pub returns : goal.returns
returns c = is_simple_advance_at_default
