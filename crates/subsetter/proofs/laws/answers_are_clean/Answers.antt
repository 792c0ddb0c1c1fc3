use Rattle.subsetter.proofs.laws.answers_are_clean.Goals as goal

pub returns : goal.returns
returns c = λ tokens depth font glyphs out a. (a.subset, a.clean)
