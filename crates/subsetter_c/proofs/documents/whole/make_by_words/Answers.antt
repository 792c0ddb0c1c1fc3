use Rattle.subsetter_c.proofs.documents.whole.make_by_words.Goals as goal

pub returns-in-Some-clause-unknown : goal.returns-in-Some-clause-unknown
returns-in-Some-clause-unknown c = λ no. absurd (no c.in-Some.ensures.0)

pub returns-in-Some-clause-made : goal.returns-in-Some-clause-made
returns-in-Some-clause-made c = λ known h. record { options = c.in-Some.options; chosen = c.in-Some.ensures.1; handed = c.make_whole.ensures.made h }

pub returns-in-None-clause-no_texts : goal.returns-in-None-clause-no_texts
returns-in-None-clause-no_texts c = λ known h. absurd (c.in-None.ensures known)

pub returns-in-None-clause-made : goal.returns-in-None-clause-made
returns-in-None-clause-made c = λ known h. absurd (c.in-None.ensures known)
