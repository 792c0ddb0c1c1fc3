use Rattle.text_glyphs.specs.Encodings.{roman_place}
use Rattle.text_glyphs.proofs.encodings.roman_place.Goals as goal

pub returns-clause-value : goal.returns-clause-value
unfolding roman_place
returns-clause-value c = c.place_in.ensures.value

pub returns-clause-within : goal.returns-clause-within
returns-clause-within c = c.place_in.ensures.within
