-- What is said of runs of text, of a text and of its font that are handed over, in other words.
use Rattle.std.proofs.Common.{◌≡◌, ℕ, Bool, List, map, sym, ap, subst, ◌∙◌, ◌⊎◌, inl, inr, Result, Ok, Err, ℤ}
use Rattle.std.specs.Prelude.{IfOk, IfErr}
use Rattle.subsetter_base.specs.Bytes.{◌>>=◌}
use Rattle.subsetter_base.specs.Gives.{Fails, Gives}
use Rattle.subsetter_base.specs.declared.error.Error.{Error}
use Rattle.subsetter_base.specs.declared.error.Error.TheVariants.{CFFError, MalformedFont, OutOfMemory, OverflowError, SubsetError, Unimplemented, UnknownKind}
use Rattle.subsetter_base.specs.declared.tag.Tag.{Tag}
use Rattle.pdf_source.specs.declared.choice.FontOptions.{FontOptions}
use Rattle.pdf_runs.specs.declared.codes.Pair.{Pair}
use Rattle.pdf_text_font.specs.Pairs.{by_code}
use Rattle.pdf_text_font.specs.TextFont.{HasTextFault, IsTextFont}
use Rattle.pdf_figures.specs.declared.ink.OwnInk.{OwnInk}
use Rattle.pdf_figures.specs.View.{inks_of}
use Rattle.pdf_font.specs.PdfFont.{font_of}
use Rattle.pdf_font.specs.declared.error.FontError.{FontError}
use Rattle.pdf_font.specs.declared.error.FontError.TheVariants.{Subset}
use Rattle.pdf_figures.specs.declared.choice.Choice.{Choice}
use Rattle.pdf_operators.specs.declared.order.Order.{Order}
use Rattle.pdf_operators.specs.declared.places.Font.{Font}
use Rattle.pdf_operators.specs.declared.places.GlyphMetrics.{GlyphMetrics}
use Rattle.pdf_runs.specs.declared.error.RunError.{RunError}
use Rattle.pdf_runs.specs.declared.items.Direction.{Direction as Way}
use Rattle.pdf_source.specs.declared.choice.Direction.{Direction}
use Rattle.pdf_runs.specs.declared.shaped.Shaped.{Shaped}
use Rattle.pdf_text_font.specs.declared.font.TextFont.{TextFont}
use Rattle.text_metrics.specs.Metrics.{Metrics}
use Rattle.own_choice.specs.Choosing.{Chosen}
use Rattle.subsetter_text_c.specs.declared.items.TextItem.{TextItem}
use Rattle.subsetter_text_c.specs.declared.own.TextOwn.{TextOwn}
use Rattle.subsetter_text_c.specs.declared.own.TextPart.{TextPart}
use Rattle.subsetter_text_c.specs.declared.pairs.TextPair.{TextPair}
use Rattle.subsetter_text_c.specs.declared.shown.ShownRun.{ShownRun}
use Rattle.subsetter_text_c.specs.declared.units.Units.{Units}
use Rattle.subsetter_text_c.specs.Items.{labelled_in}
use Rattle.subsetter_text_c.specs.Own.{inks_in}
use Rattle.subsetter_text_c.specs.Pairs.{pairs_in}
use Rattle.subsetter_text_c.specs.Shown.{AreUnshown, IsOneShown, IsTextShown, IsTextUnshown, Lists, are_one, lists_shown}
use Rattle.subsetter_c.specs.Documents.Runs.{AreUnits, IsChoiceOf, IsFontOf, IsRunHanded, IsRunShownIn, IsRunUnshownIn, IsTextShownIn, IsTextUnshownIn, lists_of, refused, run_direction, run_order, shown}
use Rattle.subsetter_c.specs.Documents.TextFonts.{HasNoTextFont, IsTextFontHandedBy, IsTextFontOf, IsTextHanded, IsTextOf, IsTextRead, count_of, kept, kept_seen, no_font, no_text, text, unkept, whole_font, without_own}
use Rattle.subsetter_c.specs.Settings.{settings_of}
use Rattle.subsetter_c.specs.declared.documents.pdf_files.ObjectsMade.{ObjectsMade}
use Rattle.subsetter_c.specs.declared.documents.runs.PairsLeft.{PairsLeft}
use Rattle.subsetter_c.specs.declared.documents.runs.TextMade.{TextMade}
use Rattle.subsetter_c.specs.declared.documents.text_kept.TextKept.{TextKept}
use Rattle.subsetter_c.specs.declared.documents.whole.FontMade.{FontMade}
use Rattle.subsetter_c.specs.declared.settings.Coordinate.{Coordinate}

-- ---- runs

abbrev pub lists_as : List TextPair → List TextOwn → List TextPart → Lists
lists_as ps os qs = record { pairs = ps; own = os; parts = qs }

pub lists_are : (ps : List TextPair) (os : List TextOwn) (qs : List TextPart) (s : ShownRun) → ps ≡ s.pairs.items → os ≡ s.own.items → qs ≡ s.parts.items → lists_as ps os qs ≡ lists_shown s
lists_are ps os qs s p q r = ap (λ (l : List TextPair). lists_as l os qs) p ∙ ap (λ (l : List TextOwn). lists_as s.pairs.items l qs) q ∙ ap (λ (l : List TextPart). lists_as s.pairs.items s.own.items l) r

-- an answer is handed over: then what is known of it
pub run_handed : (Is : ShownRun → Type 0) (Why : RunError → Type 0) (answer : Result ShownRun RunError) (before after : TextMade) (made : ObjectsMade) (left : PairsLeft) (status : ℕ) → IfOk answer Is → IfErr answer Why → IsRunHanded (λ s. answer ≡ Ok s) (λ e. answer ≡ Err e) before after made left status → IsRunHanded Is Why before after made left status
run_handed Is Why answer before after made left status ok err (shown s is same lists bytes offsets gone st) = shown s (subst (λ (r : Result ShownRun RunError). IfOk r Is) is ok) same lists bytes offsets gone st
run_handed Is Why answer before after made left status ok err (refused e w same nothing none st) = refused e (subst (λ (r : Result ShownRun RunError). IfErr r Why) w err) same nothing none st

module _ (t : TextMade) (d o : ℕ) (f : Font) (ch : Choice) (dir : Way) (ord : Order) (of_text : IsFontOf t f) (choice_is : IsChoiceOf t ch) (is_dir : dir ≡ run_direction d) (is_ord : ord ≡ run_order o) where
  there : (P : Way → Order → Type 0) → P dir ord → P (run_direction d) (run_order o)
  there P p = subst (λ (x : Order). P (run_direction d) x) is_ord (subst (λ (x : Way). P x ord) is_dir p)

  module _ (items : List TextItem) (characters : List ℕ) where
    pub items_shown : (size : ℕ) (r : Result ShownRun RunError) → IfOk r (λ s. IsOneShown f ch dir ord size (lists_of t) (lists_shown s) (are_one characters items) (map (labelled_in characters) items) s.operators.items) → IfOk r (IsRunShownIn t items characters d o size)
    items_shown size (Ok s) h = record { font = f; of_text = of_text; choice = ch; choice_is = choice_is; is = there (λ x y. IsOneShown f ch x y size (lists_of t) (lists_shown s) (are_one characters items) (map (labelled_in characters) items) s.operators.items) h }
    items_shown size (Err e) h = tt

    pub items_unshown : (r : Result ShownRun RunError) → IfErr r (λ e. AreUnshown f ch dir ord (lists_of t) (are_one characters items) (map (labelled_in characters) items) e) → IfErr r (IsRunUnshownIn t items characters d o)
    items_unshown (Ok s) h = tt
    items_unshown (Err e) h = record { font = f; of_text = of_text; choice = ch; choice_is = choice_is; why = there (λ x y. AreUnshown f ch x y (lists_of t) (are_one characters items) (map (labelled_in characters) items) e) h }

  module _ (width : ℕ) (utf8 utf16 utf32 : List ℕ) (units : Units) (units_are : AreUnits width utf8 utf16 utf32 units) (glyphs : List Shaped) where
    pub text_shown : (size : ℕ) (r : Result ShownRun RunError) → IfOk r (λ s. IsTextShown f ch dir ord size (lists_of t) (lists_shown s) units glyphs s.operators.items) → IfOk r (IsTextShownIn t width utf8 utf16 utf32 glyphs d o size)
    text_shown size (Ok s) h = record { font = f; of_text = of_text; choice = ch; choice_is = choice_is; units = units; units_are = units_are; is = there (λ x y. IsTextShown f ch x y size (lists_of t) (lists_shown s) units glyphs s.operators.items) h }
    text_shown size (Err e) h = tt

    pub text_unshown : (r : Result ShownRun RunError) → IfErr r (λ e. IsTextUnshown f ch dir ord (lists_of t) units glyphs e) → IfErr r (IsTextUnshownIn t width utf8 utf16 utf32 glyphs d o)
    text_unshown (Ok s) h = tt
    text_unshown (Err e) h = record { font = f; of_text = of_text; choice = ch; choice_is = choice_is; units = units; units_are = units_are; why = there (λ x y. IsTextUnshown f ch x y (lists_of t) units glyphs e) h }

-- ---- a text

pub text_read : (answer : Result TextKept Error) (reading : Result Chosen Error) (font : List ℕ) (index : ℕ) (coordinates : List Coordinate) (direction : Direction) (made : TextMade) (status : ℕ) → Gives kept_seen answer reading → IfOk answer (λ k. k.coordinates.items ≡ coordinates) → IsTextHanded (λ k. answer ≡ Ok k) (λ e. answer ≡ Err e) font index direction made status
    → IsTextRead reading font index coordinates direction made status
text_read answer reading font index coordinates direction made status gives at (kept k is laid s) =
    text (kept_seen k) (subst (λ (r : Result TextKept Error). Gives kept_seen r reading) is gives)
    (subst (λ (l : List Coordinate). IsTextOf (kept_seen k) font index l direction made) (subst (λ (r : Result TextKept Error). IfOk r (λ k. k.coordinates.items ≡ coordinates)) is at) laid) s
text_read answer reading font index coordinates direction made status gives at (unkept e is none s) = no_text e (subst (λ (r : Result TextKept Error). Gives kept_seen r reading) is gives) none s

abbrev pub metrics_as : ℕ → List GlyphMetrics → List Bool → Metrics
metrics_as u ms is = record { units = u; metrics = ms; inked = is }

pub kept_as : (m : Metrics) (u : ℕ) (ms : List GlyphMetrics) (is : List Bool) → u ≡ m.units → ms ≡ m.metrics → is ≡ m.inked → metrics_as u ms is ≡ m
kept_as m u ms is p q r = ap (λ (n : ℕ). metrics_as n ms is) p ∙ ap (λ (l : List GlyphMetrics). metrics_as m.units l is) q ∙ ap (λ (l : List Bool). metrics_as m.units m.metrics l) r

abbrev pub chosen_as : Metrics → List ℕ → List Bool → ℕ → Bool → Chosen
chosen_as m ws ps n b = record { lines = m; advances = ws; can_be_part = ps; most_parts = n; is_still = b }

pub all_as : (c : Chosen) (m : Metrics) (ws : List ℕ) (ps : List Bool) (n : ℕ) (b : Bool) → m ≡ c.lines → ws ≡ c.advances → ps ≡ c.can_be_part → n ≡ c.most_parts → b ≡ c.is_still → chosen_as m ws ps n b ≡ c
all_as c m ws ps n b p q r s t =
    ap (λ (x : Metrics). chosen_as x ws ps n b) p ∙ ap (λ (x : List ℕ). chosen_as c.lines x ps n b) q ∙ ap (λ (x : List Bool). chosen_as c.lines c.advances x n b) r ∙ ap (λ (x : ℕ). chosen_as c.lines c.advances c.can_be_part x b) s
    ∙ ap (λ (x : Bool). chosen_as c.lines c.advances c.can_be_part c.most_parts x) t

-- where there are no metrics, there is nothing to be kept
abbrev plain_of : Result Metrics Error → Result Chosen Error
plain_of r = r >>= (λ m. Ok (without_own m))

pub fails_plain : (e : Error) (r : Result Metrics Error) → Fails e r → Fails e (r >>= (λ m. Ok (without_own m)))
fails_plain OutOfMemory r f = tt
fails_plain UnknownKind r f = ap plain_of f
fails_plain MalformedFont r f = ap plain_of f
fails_plain Unimplemented r f = ap plain_of f
fails_plain SubsetError r f = ap plain_of f
fails_plain OverflowError r f = ap plain_of f
fails_plain CFFError r f = ap plain_of f

-- what is kept of metrics that a reading gives
pub gives_kept : (reading : Result Chosen Error) (m : Chosen) (r : Result TextKept Error) → reading ≡ Ok m → IfOk r (λ k. kept_seen k ≡ m) → IfErr r (λ e. e ≡ OutOfMemory) → Gives kept_seen r reading
gives_kept reading m (Ok k) is same err = is ∙ ap Ok (sym same)
gives_kept reading m (Err e) is same err = subst (λ (x : Error). Fails x reading) (sym err) tt

-- ---- the font of a text

pub text_font_handed : (Is : TextFont → Type 0) (Why : FontError → Type 0) (answer : Result TextFont FontError) (made : FontMade) (status : ℕ) → IfOk answer Is → IfErr answer Why → Why (Subset OutOfMemory) → IsTextFontHandedBy (λ t. answer ≡ Ok t) (λ e. (answer ≡ Err e) ⊎ (e ≡ Subset OutOfMemory)) made status
    → IsTextFontHandedBy Is Why made status
text_font_handed Is Why answer made status ok err memory (whole_font t is laid s) = whole_font t (subst (λ (r : Result TextFont FontError). IfOk r Is) is ok) laid s
text_font_handed Is Why answer made status ok err memory (no_font e (inl w) empty s) = no_font e (subst (λ (r : Result TextFont FontError). IfErr r Why) w err) empty s
text_font_handed Is Why answer made status ok err memory (no_font e (inr w) empty s) = no_font e (subst Why (sym w) memory) empty s

-- what is answered at lists that equal others
module _ (t : TextMade) (o : FontOptions) (given : List (Tag × ℤ)) (ps : List Pair) (count : ℕ) (own : List OwnInk) (settings_are : given ≡ settings_of t.coordinates.now) (pairs_are : ps ≡ pairs_in t.pairs.now) (count_is : count ≡ count_of t) (own_are : inks_of own ≡ inks_in t.own.now t.parts.now) where
  there_too : (P : List (Tag × ℤ) → ℕ → List Pair → Type 0) → P given count ps → P (settings_of t.coordinates.now) (count_of t) (pairs_in t.pairs.now)
  there_too P p = subst (λ (l : List Pair). P (settings_of t.coordinates.now) (count_of t) l) pairs_are (subst (λ (n : ℕ). P (settings_of t.coordinates.now) n ps) count_is (subst (λ (s : List (Tag × ℤ)). P s count ps) settings_are p))

  pub text_font_of : (r : Result TextFont FontError) → IfOk r (λ f. IsTextFont (font_of t.font.now t.index o) given o count own (by_code ps) f) → IfOk r (IsTextFontOf t o)
  text_font_of (Ok f) h = record { own = own; own_are = own_are; is = there_too (λ s n l. IsTextFont (font_of t.font.now t.index o) s o n own (by_code l) f) h }
  text_font_of (Err e) h = tt

  pub no_text_font_of : (r : Result TextFont FontError) → IfErr r (λ e. (e ≡ Subset OutOfMemory) ⊎ HasTextFault (font_of t.font.now t.index o) given o count own (by_code ps) e) → IfErr r (HasNoTextFont t o)
  no_text_font_of (Ok f) h = tt
  no_text_font_of (Err e) (inl none) = inl none
  no_text_font_of (Err e) (inr fault) = inr (inr (inr (record { own = own; own_are = own_are; why = there_too (λ s n l. HasTextFault (font_of t.font.now t.index o) s o n own (by_code l) e) fault })))
