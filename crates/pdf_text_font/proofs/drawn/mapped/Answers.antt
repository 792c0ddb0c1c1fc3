use Rattle.std.proofs.Common.{arith}
use Rattle.pdf_text_font.proofs.DrawnSteps.{others_refused, with_others}
use Rattle.pdf_text_font.proofs.drawn.mapped.Goals as goal

pub returns-then-others-ne0-clause-ok : goal.returns-then-others-ne0-clause-ok
returns-then-others-ne0-clause-ok c = with_others c.args.others.now c.args.owns c.args.drawings.now c.deref.result.now c.args.file.items c.with_more.result (omega (arith, c.if-others-ne0.true)) c.deref.ensures.value c.with_more.ensures.ok

pub returns-then-others-ne0-clause-err : goal.returns-then-others-ne0-clause-err
returns-then-others-ne0-clause-err c = others_refused c.args.others.now c.args.owns c.deref.result.now c.args.file.items c.with_more.result (omega (arith, c.if-others-ne0.true)) c.deref.ensures.value c.with_more.ensures.err
