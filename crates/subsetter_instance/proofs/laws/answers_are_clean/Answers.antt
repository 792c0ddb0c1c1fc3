use Rattle.subsetter_instance.proofs.laws.answers_are_clean.Goals as goal

pub returns : goal.returns
returns c = λ font settings glyphs steps out a. (a.instance, a.clean)
