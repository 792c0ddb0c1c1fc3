use Rattle.subsetter.proofs.TwoLimits.{one_answer}
use Rattle.subsetter.proofs.laws.answers_are_one.Goals as goal

pub returns : goal.returns
returns c = λ tokens depth font glyphs out a more deeper other b. one_answer font glyphs tokens depth more deeper out other a b
