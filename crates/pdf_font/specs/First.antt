-- What is found before memory is taken, in this order.
use Rattle.std.specs.Prelude.{◌≡◌, List, true, false, codes, Result, Err}
use Rattle.subsetter_base.specs.declared.error.Error.{Error}
use Rattle.subsetter_variable.specs.Subset.{HasOpeningFaultAt}
use Rattle.subsetter_sfnt.specs.Read.{Font, stored}
use Rattle.pdf_codes.specs.Codes.{Used}
use Rattle.pdf_codes.specs.Shown.{has_long_text}
use Rattle.pdf_values.specs.Permission.{is_permitted, permission}
use Rattle.pdf_source.specs.declared.choice.FontOptions.{FontOptions}
use Rattle.pdf_font.specs.PdfFont.{lacks_outlines}
use Rattle.pdf_font.specs.declared.error.FontError.{FontError}
use Rattle.pdf_font.specs.declared.error.FontError.TheVariants.{Subset, NotPermitted, TextTooLong, BitmapsAlone}
use Rattle.pdf_font.specs.declared.font.PdfFont.{PdfFont}

abbrev pub CanBeOpened : Font → Type 0
CanBeOpened font = (e : Error) → ¬ (HasOpeningFaultAt font e)

pub record IsFoundFirst (font : Font) (options : FontOptions) (us : List Used) (r : Result PdfFont FontError)
    : Type 0 where
  -- that the face has no outlines
  pub bare : lacks_outlines font ≡ true → r ≡ Err BitmapsAlone
  -- then a fault of opening it, with its error
  pub unopened : lacks_outlines font ≡ false → (e : Error) → HasOpeningFaultAt font e
      → (d : Error) × (r ≡ Err (Subset d)) × HasOpeningFaultAt font d
  -- then that `fsType` forbids it, and the caller holds no rights
  pub forbidden : CanBeOpened font → is_permitted (permission (stored font (codes "OS/2"))) options.rights ≡ false
      → r ≡ Err (NotPermitted (permission (stored font (codes "OS/2"))))
  -- then a text that is too long
  pub long : CanBeOpened font → is_permitted (permission (stored font (codes "OS/2"))) options.rights ≡ true
      → has_long_text us ≡ true
      → r ≡ Err TextTooLong
