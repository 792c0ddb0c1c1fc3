use Rattle.subsetter_cff_instance.proofs.laws.cff_answers_are_clean.Goals as goal

pub returns : goal.returns
returns c = λ font settings glyphs tokens depth out a. (a.instance, a.clean)
