use Rattle.std.proofs.Common.{refl, ap, inl, inr, ◌∙◌}
use Rattle.pdf_font.specs.declared.error.FontError.TheVariants.{Subset}
use Rattle.subsetter_c.specs.Documents.Whole.{whole, refused}
use Rattle.subsetter_c.proofs.documents.whole.hand_whole.Goals as goal

pub returns-in-Err : goal.returns-in-Err
returns-in-Err c = refused c.in-Err.error (inl c.in-Err.is) c.no_whole.ensures c.refusal_status.ensures

pub returns-in-Ok-further_of : goal.returns-in-Ok-further_of
returns-in-Ok-further_of c =
    let w = c.whole_laid_out.ensures in
    let e = c.in-Ok-further_of.ensures in
    whole c.in-Ok.font c.in-Ok.is (record {
      size = w.size;
      units_per_em = w.units_per_em;
      pdf = w.pdf;
      exact_widths = w.exact_widths;
      unknown_axes = w.unknown_axes;
      glyphs_are = w.glyphs_are ∙ e.glyphs;
      text_is = w.text_is ∙ e.text;
      ends_are = w.ends_are ∙ e.ends;
      cid_to_gid_map = w.cid_to_gid_map;
    }) refl

pub returns-in-Err-further_of : goal.returns-in-Err-further_of
returns-in-Err-further_of c = refused (Subset c.in-Err-further_of.error) (inr (c.in-Ok.font, c.in-Ok.is, ap Subset c.in-Err-further_of.ensures.err)) c.no_whole-in-Err-further_of.ensures c.status_of.ensures
