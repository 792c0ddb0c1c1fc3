-- What is answered for glyphs in use, and for glyphs and their texts.
use Rattle.std.proofs.Common.{◌≡◌, ◌≢◌, ◌⊎◌, inl, inr, ℕ, ℤ, List, [], ◌∷◌, Bool, false, length, map, Result, Ok, Err, sym, ap, subst, ◌∙◌}
use Rattle.std.specs.Prelude.{IfOk, IfErr, Option}
use Rattle.std.specs.Option.{option_map}
use Rattle.subsetter_base.specs.declared.tag.Tag.{Tag}
use Rattle.subsetter_base.specs.declared.error.Error.{Error}
use Rattle.subsetter_base.specs.declared.error.Error.TheVariants.{OutOfMemory, OverflowError, UnknownKind}
use Rattle.subsetter_sfnt.specs.Read.{Font}
use Rattle.pdf_codes.specs.Codes.{Used}
use Rattle.pdf_codes.specs.Shown.{texts_of, uses_of}
use Rattle.pdf_codes.specs.declared.shown.Shown.{Shown}
use Rattle.pdf_source.specs.declared.choice.FontOptions.{FontOptions}
use Rattle.pdf_font.specs.PdfFont.{HasFontFault, IsPdfFont, bare, font_of}
use Rattle.pdf_font.proofs.Bare.{bare_unopened}
use Rattle.pdf_font.proofs.Refused.{unopened}
use Rattle.pdf_font.specs.declared.error.FontError.{FontError}
use Rattle.pdf_font.specs.declared.error.FontError.TheVariants.{Subset, NotPermitted, TextTooLong, BitmapsAlone}
use Rattle.pdf_font.specs.declared.font.PdfFont.{PdfFont}
use Rattle.pdf_objects.specs.Glyphs.{IsSheetOf, IsSheetOfFont, IsTooLargeFor}
use Rattle.pdf_objects.specs.View.{IsViewOf, IsViewWith}
use Rattle.pdf_objects.specs.declared.view.FontView.{FontView}
use Rattle.pdf_sheet.specs.File.{AreInTable, body_of, file_of}
use Rattle.pdf_sheet.specs.Lines.{AreTooLarge, lines_values}
use Rattle.pdf_sheet.specs.declared.frame.Layout.{Layout}
use Rattle.pdf_sheet.specs.declared.lines.SheetLine.{SheetLine}
use Rattle.pdf_runs.specs.declared.codes.Pair.{Pair}
use Rattle.pdf_text_font.specs.Pairs.{by_code}
use Rattle.pdf_text_font.specs.TextFont.{HasTextFault, IsTextFont, in_drawing, in_subset, subset_options}
use Rattle.pdf_text_font.specs.declared.font.TextFont.{TextFont}
use Rattle.subset_pdf.specs.Cells.{are_single}
use Rattle.subset_pdf.specs.Line.{HasLineFault, IsLineFor}
use Rattle.subset_pdf.specs.Options.{options_of}
use Rattle.subset_pdf.specs.Shown.{entries_of, entry_of}
use Rattle.subset_pdf.specs.Sheet.{HasCodedFault, HasFaultFor, HasNoPage, HasSheetFault, HasSheetFaultAs, HasSheetFaultBy, HasTextFaultFor, HasTextSheetFault, IsCodedSheet, IsFontFor, IsGrid, IsPage, IsSheetAs, IsSheetBy, IsSheetFor, IsShownAs, IsTextFor, IsTextSheet, IsTooLargeAs, IsUnshownAs, IsViewOfLine, fault_of, in_font, instead, is_coded, named, no_line, no_page, no_text, several, too_large}
use Rattle.subset_pdf.specs.declared.line.Line.{Line}
use Rattle.subset_pdf.specs.declared.options.PdfRequest.{PdfRequest}
use Rattle.subset_pdf.specs.declared.sheet.Sheet.{Sheet}
use Rattle.subset_pdf.specs.declared.sheet.SheetError.{SheetError}
use Rattle.subset_pdf.specs.declared.sheet.SheetError.TheVariants.{Font as RefusedFont}

-- a fault by the name of its error
fault_named : (font : Font) (settings : List (Tag × ℤ)) (options : FontOptions) (us : List Used) (order : List ℕ) (e : FontError) → HasFontFault font settings options us order e → (o : List ℕ) × HasFontFault font settings options us o (fault_of (named e))
fault_named font settings options us order (Subset e) fault = (order, fault)
fault_named font settings options us order (NotPermitted p) fault = (order, fault)
fault_named font settings options us order TextTooLong fault = (order, fault)
fault_named font settings options us order BitmapsAlone (bare is) = unopened font settings options us UnknownKind (bare_unopened font is)

text_fault_named : (font : Font) (settings : List (Tag × ℤ)) (options : FontOptions) (count : ℕ) (ps : List Pair) (e : FontError) → HasTextFault font settings options count [] ps e → HasTextFault font settings options count [] ps (fault_of (named e))
text_fault_named font settings options count ps e (in_subset lacking) = let f = fault_named font settings (subset_options options) _ lacking.order e lacking.fault in in_subset (record { order = f.0; fault = f.1 })
text_fault_named font settings options count ps _ (in_drawing subset made fault) = in_drawing subset made fault

module _ (bytes : List ℕ) (request : PdfRequest) (shown : List Shown) where
  -- a fault for which `pdf_font` returns nothing, by the options that it gets
  abbrev FaultBy : FontOptions → FontError → Type 0
  FaultBy options e = (e ≡ Subset OutOfMemory) ⊎ ((order : List ℕ) × HasFontFault (font_of bytes request.index options) request.at.now options (uses_of shown) order e)

  pub font_made : (options : FontOptions) (f : PdfFont) → options ≡ options_of request → IsPdfFont (font_of bytes request.index options) request.at.now options (uses_of shown) f → IsFontFor bytes request shown f
  font_made options f is h = subst (λ (o : FontOptions). IsPdfFont (font_of bytes request.index o) request.at.now o (uses_of shown) f) is h

  refused_by : (e : FontError) → FaultBy (options_of request) e → (named e ≡ RefusedFont OutOfMemory) ⊎ HasFaultFor bytes request shown (named e)
  refused_by e (inl memory) = inl (ap named memory)
  refused_by e (inr fault) = inr (fault_named (font_of bytes request.index (options_of request)) request.at.now (options_of request) (uses_of shown) fault.0 e fault.1)

  pub font_refused : (options : FontOptions) (e : FontError) (why : SheetError) → options ≡ options_of request → FaultBy options e → why ≡ named e → (why ≡ RefusedFont OutOfMemory) ⊎ HasFaultFor bytes request shown why
  font_refused options e why is h name = subst (λ (w : SheetError). (w ≡ RefusedFont OutOfMemory) ⊎ HasFaultFor bytes request shown w) (sym name) (refused_by e (subst (λ (o : FontOptions). FaultBy o e) is h))

  -- ---- its sheet

  pub sheet_by : (font : PdfFont) (r : Result Sheet SheetError) → IsFontFor bytes request shown font → IfOk r (λ s. s.font ≡ font) → IfOk r (λ s. IsSheetOfFont s.font shown request.layout s.file.items) → IfOk r (IsCodedSheet bytes request shown)
  sheet_by font (Ok s) is same sheet = record { font = subst (λ (f : PdfFont). IsFontFor bytes request shown f) (sym same) is; file = sheet }
  sheet_by font (Err e) is same sheet = tt

  too_large_by : (font : PdfFont) (e : SheetError) → IsFontFor bytes request shown font → (e ≡ RefusedFont OutOfMemory) ⊎ IsTooLargeAs font shown request.layout e → (e ≡ RefusedFont OutOfMemory) ⊎ HasCodedFault bytes request shown e
  too_large_by font e is (inl memory) = inl memory
  too_large_by font e is (inr large) = inr (too_large font is large)

  pub no_sheet_by : (font : PdfFont) (r : Result Sheet SheetError) → IsFontFor bytes request shown font → IfErr r (λ e. (e ≡ RefusedFont OutOfMemory) ⊎ IsTooLargeAs font shown request.layout e) → IfErr r (λ e. (e ≡ RefusedFont OutOfMemory) ⊎ HasCodedFault bytes request shown e)
  no_sheet_by font (Ok s) is h = tt
  no_sheet_by font (Err e) is h = too_large_by font e is h

  pub no_font_by : (e : SheetError) → (e ≡ RefusedFont OutOfMemory) ⊎ HasFaultFor bytes request shown e → (e ≡ RefusedFont OutOfMemory) ⊎ HasCodedFault bytes request shown e
  no_font_by e (inl memory) = inl memory
  no_font_by e (inr fault) = inr (in_font fault)

  -- ---- the line of a text

  abbrev TextFaultBy : Line → FontOptions → FontError → Type 0
  TextFaultBy line o e = (e ≡ Subset OutOfMemory) ⊎ HasTextFault (font_of bytes request.index o) request.at.now o line.glyph_count [] (by_code line.pairs) e

  pub text_made : (line : Line) (options : FontOptions) (t : TextFont) → options ≡ options_of request → IsTextFont (font_of bytes request.index options) request.at.now options line.glyph_count [] (by_code line.pairs) t → IsTextFor bytes request line t
  text_made line options t is h = subst (λ (o : FontOptions). IsTextFont (font_of bytes request.index o) request.at.now o line.glyph_count [] (by_code line.pairs) t) is h

  unmade_by : (line : Line) (e : FontError) → TextFaultBy line (options_of request) e → (named e ≡ RefusedFont OutOfMemory) ⊎ HasTextFaultFor bytes request line (named e)
  unmade_by line e (inl memory) = inl (ap named memory)
  unmade_by line e (inr fault) = inr (text_fault_named (font_of bytes request.index (options_of request)) request.at.now (options_of request) line.glyph_count (by_code line.pairs) e fault)

  pub text_refused : (line : Line) (options : FontOptions) (e : FontError) (why : SheetError) → options ≡ options_of request → TextFaultBy line options e → why ≡ named e → (why ≡ RefusedFont OutOfMemory) ⊎ HasTextFaultFor bytes request line why
  text_refused line options e why is h name = subst (λ (w : SheetError). (w ≡ RefusedFont OutOfMemory) ⊎ HasTextFaultFor bytes request line w) (sym name) (unmade_by line e (subst (λ (o : FontOptions). TextFaultBy line o e) is h))

  pub text_drawn : (line : Line) (text : TextFont) (sheet : Sheet) → IsLineFor bytes request shown line → IsTextFor bytes request line text → sheet.font ≡ record text.font { codes = line.codes } → IsShownAs request.layout text line shown sheet.file.items → IsTextSheet bytes request shown sheet
  text_drawn line text sheet is made font page = record { line = line; text = text; is_line = is; is_text = made; font = font; page = page }

  pub no_line_for : (e : Error) (why : SheetError) → (e ≡ OutOfMemory) ⊎ HasLineFault bytes request shown e → why ≡ RefusedFont e → (why ≡ RefusedFont OutOfMemory) ⊎ HasTextSheetFault bytes request shown why
  no_line_for e why (inl memory) name = inl (name ∙ ap RefusedFont memory)
  no_line_for e why (inr fault) name = inr (no_line e name fault)

  pub no_text_for : (line : Line) (why : SheetError) → IsLineFor bytes request shown line → (why ≡ RefusedFont OutOfMemory) ⊎ HasTextFaultFor bytes request line why → (why ≡ RefusedFont OutOfMemory) ⊎ HasTextSheetFault bytes request shown why
  no_text_for line why is (inl memory) = inl memory
  no_text_for line why is (inr fault) = inr (no_text line is fault)

  pub no_page_for : (line : Line) (text : TextFont) (e : Error) (why : SheetError) → IsLineFor bytes request shown line → IsTextFor bytes request line text → (e ≡ OutOfMemory) ⊎ ((e ≡ OverflowError) × IsUnshownAs request.layout text line shown) → why ≡ RefusedFont e → (why ≡ RefusedFont OutOfMemory) ⊎ HasTextSheetFault bytes request shown why
  no_page_for line text e why is made (inl memory) name = inl (name ∙ ap RefusedFont memory)
  no_page_for line text e why is made (inr (over, large)) name = inr (no_page line text is made (name ∙ ap RefusedFont over) large)

  -- ---- both

  -- the reason of a refusal that isn't want of memory
  pub is_fault : (e : SheetError) → e ≢ RefusedFont OutOfMemory → (e ≡ RefusedFont OutOfMemory) ⊎ HasTextSheetFault bytes request shown e → HasTextSheetFault bytes request shown e
  is_fault e ne (inl memory) = absurd (ne memory)
  is_fault e ne (inr fault) = fault

  pub grid_by : (why : SheetError) (r : Result Sheet SheetError) → HasTextSheetFault bytes request shown why → IfOk r (IsCodedSheet bytes request shown) → IfOk r (IsGrid bytes request shown)
  grid_by why (Ok s) fault h = instead why fault h
  grid_by why (Err e) fault h = tt

  pub several_by : (r : Result Sheet SheetError) → are_single shown ≡ false → IfOk r (IsCodedSheet bytes request shown) → IfOk r (IsGrid bytes request shown)
  several_by (Ok s) is h = several is h
  several_by (Err e) is h = tt

  pub sheet_as : (b : Bool) (r : Result Sheet SheetError) → b ≡ is_coded request → IfOk r (IsSheetAs b request.layout bytes request shown) → IfOk r (IsSheetBy bytes request shown)
  sheet_as b r is h = subst (λ (c : Bool). IfOk r (IsSheetAs c request.layout bytes request shown)) is h

  pub no_sheet_as : (b : Bool) (r : Result Sheet SheetError) → b ≡ is_coded request → IfErr r (λ e. (e ≡ RefusedFont OutOfMemory) ⊎ HasSheetFaultAs b request.layout bytes request shown e) → IfErr r (λ e. (e ≡ RefusedFont OutOfMemory) ⊎ HasSheetFaultBy bytes request shown e)
  no_sheet_as b r is h = subst (λ (c : Bool). IfErr r (λ e. (e ≡ RefusedFont OutOfMemory) ⊎ HasSheetFaultAs c request.layout bytes request shown e)) is h

  -- ---- for glyphs and their texts

  pub sheet_for : (text lengths glyphs : List ℕ) (r : Result Sheet SheetError) → map entry_of shown ≡ entries_of text lengths glyphs → IfOk r (IsSheetBy bytes request shown) → IfOk r (IsSheetFor bytes request text lengths glyphs)
  sheet_for text lengths glyphs (Ok s) are h = record { shown = shown; are_shown = are; is_sheet = h }
  sheet_for text lengths glyphs (Err e) are h = tt

  fault_for : (text lengths glyphs : List ℕ) (e : SheetError) → map entry_of shown ≡ entries_of text lengths glyphs → (e ≡ RefusedFont OutOfMemory) ⊎ HasSheetFaultBy bytes request shown e → (e ≡ RefusedFont OutOfMemory) ⊎ HasSheetFault bytes request text lengths glyphs e
  fault_for text lengths glyphs e are (inl memory) = inl memory
  fault_for text lengths glyphs e are (inr fault) = inr (record { shown = shown; are_shown = are; fault = fault })

  pub no_sheet_for : (text lengths glyphs : List ℕ) (r : Result Sheet SheetError) → map entry_of shown ≡ entries_of text lengths glyphs → IfErr r (λ e. (e ≡ RefusedFont OutOfMemory) ⊎ HasSheetFaultBy bytes request shown e) → IfErr r (λ e. (e ≡ RefusedFont OutOfMemory) ⊎ HasSheetFault bytes request text lengths glyphs e)
  no_sheet_for text lengths glyphs (Ok s) are h = tt
  no_sheet_for text lengths glyphs (Err e) are h = fault_for text lengths glyphs e are h

-- the answers of `write_lines` and `write_sheet` under their names
viewed : (text : TextFont) (line : Line) (view : FontView) (shown : SheetLine) (m : Option (List ℕ)) → m ≡ option_map (λ v. v.items) text.cid_to_gid_map → IsViewWith text.font m view → shown.operators.now ≡ line.operators.items → shown.advance ≡ line.advance → IsViewOfLine text line view shown
viewed text line view shown m is seen operators advance = record { font = subst (λ (l : Option (List ℕ)). IsViewWith text.font l view) is seen; operators = operators; advance = advance }

pub page_made : (text : TextFont) (line : Line) (view : FontView) (shown : SheetLine) (file : List ℕ) (m : Option (List ℕ)) → m ≡ option_map (λ v. v.items) text.cid_to_gid_map → IsViewWith text.font m view → shown.operators.now ≡ line.operators.items → shown.advance ≡ line.advance
    → file ≡ file_of (lines_values view.values (shown ∷ [])) → AreInTable file (length (body_of (lines_values view.values (shown ∷ [])))) (lines_values view.values (shown ∷ [])) → IsPage text line file
page_made text line view shown file m is seen operators advance whole at = record { view = view; shown = shown; is = viewed text line view shown m is seen operators advance; whole = whole; at = at }

pub page_unmade : (text : TextFont) (line : Line) (view : FontView) (shown : SheetLine) (e : Error) (m : Option (List ℕ)) → m ≡ option_map (λ v. v.items) text.cid_to_gid_map → IsViewWith text.font m view → shown.operators.now ≡ line.operators.items → shown.advance ≡ line.advance
    → (e ≡ OutOfMemory) ⊎ ((e ≡ OverflowError) × AreTooLarge view.values (shown ∷ [])) → (e ≡ OutOfMemory) ⊎ ((e ≡ OverflowError) × HasNoPage text line)
page_unmade text line view shown e m is seen operators advance (inl memory) = inl memory
page_unmade text line view shown e m is seen operators advance (inr (over, large)) = inr (over, record { view = view; shown = shown; is = viewed text line view shown m is seen operators advance; large = large })

pub sheet_of_font : (font : PdfFont) (view : FontView) (shown : List Shown) (layout : Layout) (file : List ℕ) → IsViewOf font view → IsSheetOf view (texts_of shown) layout file → IsSheetOfFont font shown layout file
sheet_of_font font view shown layout file is h = record { view = view; is = is; sheet = h }

pub too_large_as : (font : PdfFont) (view : FontView) (shown : List Shown) (layout : Layout) (e : Error) (why : SheetError) → IsViewOf font view → (e ≡ OutOfMemory) ⊎ ((e ≡ OverflowError) × IsTooLargeFor view (texts_of shown) layout) → why ≡ RefusedFont e → (why ≡ RefusedFont OutOfMemory) ⊎ IsTooLargeAs font shown layout why
too_large_as font view shown layout e why is (inl memory) name = inl (name ∙ ap RefusedFont memory)
too_large_as font view shown layout e why is (inr large) name = inr (name ∙ ap RefusedFont large.0, record { view = view; is = is; large = large.1 })
