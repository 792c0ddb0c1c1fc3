use Rattle.std.proofs.Common.{◌≡◌, false, true, refl, inl, inr}
use Rattle.subsetter_sfnt.specs.Extras.{all_extras}
use Rattle.subsetter_sfnt.specs.FontAt.{font_at}
use Rattle.subsetter_sfnt.specs.Read.{Font}
use Rattle.subsetter_pdf_c.specs.Entries.{are_scalars}
use Rattle.subsetter_c.specs.Answers.Handed.{refused}
use Rattle.subsetter_c.proofs.DocumentsLaws.PdfGlyphs.{handed}
use Rattle.subsetter_c.proofs.documents.pdf_calls.subsetter_glyphs_of.Goals as goal

pub returns-then-not-are_scalars : goal.returns-then-not-are_scalars
returns-then-not-are_scalars c =
    let no : are_scalars c.args.text.now ≡ false = cc in
    inl (no, record { unchanged = refl; none = refl; status_is = refl })

pub returns-in-Ok : goal.returns-in-Ok
returns-in-Ok c =
    let font : Font = font_at c.args.font.now c.args.index all_extras in
    let yes : are_scalars c.args.text.now ≡ true = cc in
    inr (yes, handed font c.in-Ok.ensures.opens c.args.text.now c.args.glyphs.now c.hand_glyphs_by.new.glyphs c.hand_glyphs_by.new.length c.hand_glyphs_by.result c.in-Ok.source c.in-Ok.ensures.ok c.hand_glyphs_by.ensures.none c.hand_glyphs_by.ensures.some)

pub returns-in-Err : goal.returns-in-Err
returns-in-Err c =
    let yes : are_scalars c.args.text.now ≡ true = cc in
    inr (yes, inr (refused c.in-Err.error (inr c.in-Err.ensures.err) refl refl c.status_of.ensures))
