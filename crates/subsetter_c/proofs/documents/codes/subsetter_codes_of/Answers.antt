use Rattle.subsetter_c.proofs.documents.codes.subsetter_codes_of.Goals as goal

pub returns-in-Some-clause-codes : goal.returns-in-Some-clause-codes
returns-in-Some-clause-codes c = λ less h. rw (← c.in-Some.ensures.1) (c.hand_codes.ensures.codes h)
