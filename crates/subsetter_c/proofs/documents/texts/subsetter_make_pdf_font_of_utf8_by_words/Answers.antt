use Rattle.subsetter_c.proofs.documents.texts.subsetter_make_pdf_font_of_utf8_by_words.Goals as goal

pub returns-in-Some-clause-unknown : goal.returns-in-Some-clause-unknown
returns-in-Some-clause-unknown c = λ own no. absurd (no c.in-Some.ensures.0)

pub returns-in-Some-clause-made : goal.returns-in-Some-clause-made
returns-in-Some-clause-made c = λ own known utf. record { options = c.in-Some.options; chosen = c.in-Some.ensures.1; handed = c.make_of_bytes.ensures.made utf }

pub returns-in-None-clause-no_text : goal.returns-in-None-clause-no_text
returns-in-None-clause-no_text c = λ own known no. absurd (c.in-None.ensures known)

pub returns-in-None-clause-made : goal.returns-in-None-clause-made
returns-in-None-clause-made c = λ own known utf. absurd (c.in-None.ensures known)
