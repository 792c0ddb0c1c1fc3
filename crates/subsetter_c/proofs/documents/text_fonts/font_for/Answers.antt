use Rattle.std.proofs.Common.{ap, ◌∙◌}
use Rattle.pdf_figures.specs.View.{inks_of}
use Rattle.subsetter_c.proofs.DocumentsLaws.Runs.{no_text_font_of, text_font_of}
use Rattle.subsetter_c.proofs.documents.text_fonts.font_for.Goals as goal

pub returns-clause-ok : goal.returns-clause-ok
returns-clause-ok c =
    text_font_of c.args.text.now c.args.options.now c.deref.result.now c.in-Ok-pairs_of.pairs c.count_of.result c.deref-2.result.now (c.deref.ensures.value ∙ c.in-Ok.ensures.ok) c.in-Ok-pairs_of.ensures.ok c.count_of.ensures (ap inks_of c.deref-2.ensures.value ∙ c.in-Ok-own_of.ensures.ok) c.text_font.result c.text_font.ensures.ok

pub returns-clause-err : goal.returns-clause-err
returns-clause-err c =
    no_text_font_of c.args.text.now c.args.options.now c.deref.result.now c.in-Ok-pairs_of.pairs c.count_of.result c.deref-2.result.now (c.deref.ensures.value ∙ c.in-Ok.ensures.ok) c.in-Ok-pairs_of.ensures.ok c.count_of.ensures (ap inks_of c.deref-2.ensures.value ∙ c.in-Ok-own_of.ensures.ok) c.text_font.result c.text_font.ensures.err
