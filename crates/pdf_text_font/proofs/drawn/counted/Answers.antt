use Rattle.std.proofs.Common.{refl, inr}
use Rattle.pdf_text_font.proofs.DrawnSteps.{count_found}
use Rattle.pdf_text_font.proofs.drawn.counted.Goals as goal

pub returns-in-Some-clause-ok : goal.returns-in-Some-clause-ok
returns-in-Some-clause-ok c = count_found c.args.file.now c.in_ok-face.face.records.now c.in_ok-face.face.«data».now _ c.in_ok-face.ensures.ok.1 c.in_ok-face.ensures.ok.0 c.in-Some.ensures

pub returns-in-None-clause-err : goal.returns-in-None-clause-err
returns-in-None-clause-err c = inr (refl, count_found c.args.file.now c.in_ok-face.face.records.now c.in_ok-face.face.«data».now _ c.in_ok-face.ensures.ok.1 c.in_ok-face.ensures.ok.0 c.in-None.ensures)
