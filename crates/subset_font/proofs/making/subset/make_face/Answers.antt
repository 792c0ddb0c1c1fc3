use Rattle.subsetter_sfnt.specs.FontAt.{font_at}
use Rattle.subset_font.specs.declared.making.subset.Made.{Made}
use Rattle.subset_font.proofs.MakingLaws.Making.{made_with_widths, made_plain, refused_plain, refused_widths}
use Rattle.subset_font.proofs.making.subset.make_face.Goals as goal

pub returns-in-Ok-clause-ok : goal.returns-in-Ok-clause-ok
returns-in-Ok-clause-ok c =
    let made : Made = record { font = c.in-Ok.font; mapper = c.in-Ok.mapper; picked = c.args.picked; text = c.in-Ok.text } in
    made_with_widths c.args.task.now (font_at c.args.font.now c.args.index c.args.task.now.options.extras) c.deref.result.now c.args.picked.glyphs.items made c.deref.ensures.value c.in-Ok.ensures.mapper c.if-task.true c.in-Ok.ensures.clean c.in-Ok.ensures.within c.in-Ok.ensures.text

pub returns-in-Err-clause-err : goal.returns-in-Err-clause-err
returns-in-Err-clause-err c = refused_widths c.args.task.now (font_at c.args.font.now c.args.index c.args.task.now.options.extras) c.deref.result.now c.args.picked.glyphs.items c.in-Err.error c.deref.ensures.value c.if-task.true c.in-Err.ensures.err

pub returns-in-Ok-make_plain-clause-ok : goal.returns-in-Ok-make_plain-clause-ok
returns-in-Ok-make_plain-clause-ok c =
    let made : Made = record { font = c.in-Ok-make_plain.font; mapper = c.in-Ok-make_plain.mapper; picked = c.args.picked; text = c.new.result } in
    made_plain c.args.task.now (font_at c.args.font.now c.args.index c.args.task.now.options.extras) c.deref-2.result.now c.args.picked.glyphs.items made c.deref-2.ensures.value c.in-Ok-make_plain.ensures.mapper c.if-task.false c.in-Ok-make_plain.ensures.clean c.in-Ok-make_plain.ensures.within c.new.ensures.items

pub returns-in-Err-make_plain-clause-err : goal.returns-in-Err-make_plain-clause-err
returns-in-Err-make_plain-clause-err c = refused_plain c.args.task.now (font_at c.args.font.now c.args.index c.args.task.now.options.extras) c.deref-2.result.now c.args.picked.glyphs.items c.in-Err-make_plain.error c.deref-2.ensures.value c.if-task.false c.in-Err-make_plain.ensures.err
