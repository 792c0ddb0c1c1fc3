use Rattle.std.proofs.Common.{length, arith}
use Rattle.pdf_text_font.proofs.CallSteps.{all_drawn}
use Rattle.pdf_text_font.proofs.font.font_by_code.Goals as goal

pub filled-requires-clause-drawings : goal.filled-requires-clause-drawings
filled-requires-clause-drawings c =
    all_drawn c.args.count (length c.args.own.now) c.args.pairs.now c.args.subset.cids.items c.deref.result.now c.in_ok-drawings.drawings.items c.deref-5.result.now (omega (arith, c.requires.cids)) c.deref.ensures.value c.in_ok-drawings.ensures.ok c.deref-5.ensures.value
