use Rattle.subsetter_sfnt.specs.Extras.{all_extras}
use Rattle.subsetter_sfnt.specs.FontAt.{font_at}
use Rattle.subsetter_sfnt.specs.Read.{Font}
use Rattle.subsetter_c.proofs.DocumentsLaws.PdfGlyphs.{found, read_clean}
use Rattle.subsetter_c.proofs.characters.source_for.Goals as goal

pub returns-clause-ok : goal.returns-clause-ok
returns-clause-ok c =
    let font : Font = font_at c.args.font.now c.args.index all_extras in
    found font c.in_ok-face.face c.in_ok-face.ensures.ok c.source_by.result c.source_by.ensures

pub returns-clause-opens : goal.returns-clause-opens
returns-clause-opens c =
    let font : Font = font_at c.args.font.now c.args.index all_extras in
    read_clean font c.in_ok-face.face c.in_ok-face.ensures.ok
