use Rattle.std.proofs.Common.{◌++◌, ◌∙◌, ap, sym, subst, List, ℕ}
use Rattle.std.specs.Global.{Vec}
use Rattle.subsetter_cffdata.specs.Indexes.Index.{index}
use Rattle.subsetter_cffdata.specs.Indexes.Owned.{views, FitIndex}
use Rattle.subsetter_cff.specs.Write.NewDicts.TopDictView.{offsets_of}
use Rattle.subsetter_cff.proofs.WriteLaws.LayingLaws.TablesWritten.{laid_written}
use Rattle.subsetter_cff.proofs.write.laying.writing.write_laid.Goals as goal

pub returns-clause-value : goal.returns-clause-value
returns-clause-value c =
    laid_written c.args.table.now c.args.remapper.now.texts c.args.glyphs c.args.draft.now c.in_ok-pieces.pieces (offsets_of c.in_ok-offsets.offsets)
    c.in_ok-w.w c.write_front.new.w c.rewrite_charset.new.w c.extend.new.self c.write_select.new.w c.put_index.new.w
    c.requires c.in_ok-pieces.ensures.value c.in_ok-offsets.ensures.value c.in_ok-w.ensures.ok c.in_ok-write_front.ensures.ok c.in_ok-rewrite_charset.ensures.ok
    (c.in_ok-extend.ensures.ok ∙ ap (λ (l : List ℕ). c.rewrite_charset.new.w ++ l) c.as_slice.ensures)
    c.in_ok-write_select.ensures.ok
    (c.in_ok-put_index.ensures.ok ∙ ap (λ (l : List (Vec ℕ)). c.write_select.new.w ++ index (views l)) c.deref.ensures.value)

pub put_index-requires : goal.put_index-requires
put_index-requires c = subst (λ (l : List (Vec ℕ)). FitIndex (views l)) (sym c.deref.ensures.value) c.in_ok-pieces.ensures.value.fits
