use Rattle.text_glyphs.proofs.HalfLaws.{last_is_found}
use Rattle.text_glyphs.proofs.laws.last_is_found.Goals as goal

pub returns : goal.returns
returns c = last_is_found
