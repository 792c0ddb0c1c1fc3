-- Where FontBBox is to hold the kept glyphs, the `head` of a program that is a file has their box.
use Rattle.std.proofs.Common.{◌≡◌, ℕ, List, Option, sym, ap, subst, ◌∙◌}
use Rattle.subsetter_sfnt.specs.Read.{as_font, stored, table}
use Rattle.subsetter_sfnt.specs.Laying.Rows.{tags_of}
use Rattle.cid_embed.specs.Embed.{numbering}
use Rattle.pdf_codes.specs.Codes.{glyphs_of}
use Rattle.pdf_values.specs.declared.looks.bounds.GlyphBox.{GlyphBox}
use Rattle.pdf_source.specs.Boxed.{IsBoxed, boxed, boxed_if}
use Rattle.pdf_source.specs.Moved.{program_box}
use Rattle.pdf_source.specs.Widened.{widened}
use Rattle.pdf_source.proofs.Boxes.{is_boxed}
use Rattle.pdf_font.specs.Laws.{KeptBoxes}
use Rattle.pdf_font.proofs.Fresh.{new_opens}
use Rattle.pdf_font.proofs.KeptBoxes.{is_laid, program_is}
use Rattle.pdf_font.proofs.Wide.{wide_laid}

pub kept_boxes : KeptBoxes
kept_boxes font settings options us f p b not is =
    let file = p.made.new.font.items in
    let wide = widened f.exact_widths.items file in
    let subset = p.made.embedded.answer.embedded.subset in
    let laid = is_laid options.limits.tokens options.limits.depth p.made.embedded.static (numbering (glyphs_of us)) file subset in
    let opens = new_opens subset.keeps.kind (tags_of subset.keeps.kind (table p.made.embedded.static)) file subset.keeps.container in
    let anew = wide_laid f.exact_widths.items file subset.keeps.kind opens laid in
    let l = anew.1 in
    let program = program_is f.kind (program_box (stored font) (stored (as_font file)) f.glyph_count options.bounds) wide f.program.items p.made.program not in
    let boxed_program : boxed b wide ≡ f.program.items = sym (ap (λ (o : Option GlyphBox). boxed_if o wide) is) ∙ program in
    let there : IsBoxed b wide (boxed b wide) = subst (λ (x : List ℕ). IsBoxed b x (boxed b x)) (sym l.is) (is_boxed anew.0 l.tables l.room l.fit b l.some) in
    subst (IsBoxed b wide) boxed_program there
