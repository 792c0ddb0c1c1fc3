-- What is borrowed of a font that was laid out for C is what `pdf_objects` borrows of the font itself.
use Rattle.std.specs.Prelude.{[], List, ℤ}
use Rattle.subsetter_base.specs.declared.tag.Tag.{Tag}
use Rattle.subsetter_sfnt.specs.Read.{Font}
use Rattle.pdf_codes.specs.Codes.{Used}
use Rattle.pdf_font.specs.PdfFont.{IsPdfFont}
use Rattle.pdf_font.specs.declared.font.PdfFont.{PdfFont}
use Rattle.pdf_objects.specs.View.{IsViewOf as IsViewOfFont}
use Rattle.pdf_objects.specs.declared.view.FontView.{FontView}
use Rattle.pdf_source.specs.declared.choice.FontOptions.{FontOptions}
use Rattle.subsetter_pdf_c.specs.Made.{IsViewOf}
use Rattle.subsetter_pdf_c.specs.declared.made.PdfMade.{PdfMade}
use Rattle.subsetter_c.specs.Documents.PdfFonts.{IsLaidOut}

abbrev pub ViewsAreOfTheFont : Type 0
ViewsAreOfTheFont =
    (font : Font) (settings : List (Tag × ℤ)) (options : FontOptions) (us : List Used) (f : PdfFont) (made : PdfMade)
    → IsPdfFont font settings options us f → IsLaidOut f made → (w : FontView) → IsViewOf made [] w
    → IsViewOfFont f w
