-- How runs of text are handed to C: by operators, the pairs and own glyphs that the text then has, and a status.
use Rattle.std.specs.Prelude.{◌≡◌, ◌<◌, ℕ, ◌==◌, ◌&&◌, ◌||◌, not, nat_lt, Bool, if◌then◌else◌, List, [], map}
use Rattle.pdf_figures.specs.declared.choice.Choice.{Choice}
use Rattle.pdf_operators.specs.declared.order.Order.{Order}
use Rattle.pdf_operators.specs.declared.order.Order.TheVariants.{Visual, Logical}
use Rattle.pdf_operators.specs.declared.places.Font.{Font}
use Rattle.pdf_runs.specs.declared.error.RunError.{RunError}
use Rattle.pdf_runs.specs.declared.error.RunError.TheVariants.{InvalidText, Overfull, OutOfMemory}
use Rattle.pdf_runs.specs.declared.items.Direction.{Direction}
use Rattle.pdf_runs.specs.declared.items.Direction.TheVariants.{LeftToRight, RightToLeft, TopToBottom}
use Rattle.pdf_runs.specs.declared.shaped.Shaped.{Shaped}
use Rattle.subsetter_text_c.specs.declared.items.TextItem.{TextItem}
use Rattle.subsetter_text_c.specs.declared.shown.ShownRun.{ShownRun}
use Rattle.subsetter_text_c.specs.declared.units.Units.{Units}
use Rattle.subsetter_text_c.specs.declared.units.Units.TheVariants.{Utf8, Utf16, Utf32}
use Rattle.subsetter_text_c.specs.Items.{labelled_in}
use Rattle.subsetter_text_c.specs.Shown.{AreUnshown, IsOneShown, IsTextShown, IsTextUnshown, Lists, are_one}
use Rattle.subsetter_text_c.specs.Shown.{lists_shown}
use Rattle.subsetter_c.specs.Answers.Status.{invalid_text, out_of_memory, overfull}
use Rattle.subsetter_c.specs.Documents.PdfObjects.{IsNothing}
use Rattle.subsetter_c.specs.declared.documents.pdf_files.ObjectsMade.{ObjectsMade}
use Rattle.subsetter_c.specs.declared.documents.runs.PairsLeft.{PairsLeft}
use Rattle.subsetter_c.specs.declared.documents.runs.TextMade.{TextMade}

-- ---- what is requested

-- the one size that is known: that of the struct in bytes, where a pointer has 8
abbrev pub text_size : ℕ
text_size = 168

-- there is a text: unitsPerEm has 16 bits and isn't 0, and own glyphs can have at most 65,535 parts
abbrev pub is_text : TextMade → Bool
is_text t =
    t.size == text_size && (nat_lt 0 t.units_per_em && (nat_lt t.units_per_em 65536 && nat_lt t.most_parts 65536))

-- a vertical text has runs from top to bottom alone, and another has none
abbrev pub is_direction : ℕ → ℕ → Bool
is_direction vertical d = if vertical == 0 then nat_lt d 2 else (d == 2)

abbrev pub is_known : TextMade → ℕ → ℕ → Bool
is_known t d o = is_text t && (is_direction t.is_vertical d && nat_lt o 2)

abbrev pub is_width : ℕ → Bool
is_width n = n == 8 || (n == 16 || n == 32)

abbrev pub run_direction : ℕ → Direction
run_direction n = if n == 0 then LeftToRight else if n == 1 then RightToLeft else TopToBottom

abbrev pub run_order : ℕ → Order
run_order n = if n == 0 then Visual else Logical

-- what a run needs of the font
pub record IsFontOf (t : TextMade) (f : Font) : Type 0 where
  pub units : f.units ≡ t.units_per_em
  pub divides : 0 < f.units
  pub metrics : f.metrics.now ≡ t.metrics.now
  pub inked : f.inked.now ≡ t.inked.now

-- which own glyphs it can make
pub record IsChoiceOf (t : TextMade) (c : Choice) : Type 0 where
  pub units : c.units ≡ t.units_per_em
  pub advances : c.advances.now ≡ t.advances.now
  pub inked : c.inked.now ≡ t.inked.now
  pub can_be_part : c.can_be_part.now ≡ t.partable.now
  pub most_parts : c.most_parts ≡ t.most_parts
  pub is_still : c.is_still ≡ not (t.is_still == 0)

-- the lists of a text that runs make longer
abbrev pub lists_of : TextMade → Lists
lists_of t = record { pairs = t.pairs.now; own = t.own.now; parts = t.parts.now }

-- the units of a text are those of three lists that have this width
abbrev pub AreUnits : ℕ → List ℕ → List ℕ → List ℕ → Units → Type 0
AreUnits width utf8 utf16 utf32 (Utf8 u) = (width ≡ 8) × (u.now ≡ utf8)
AreUnits width utf8 utf16 utf32 (Utf16 u) = (width ≡ 16) × (u.now ≡ utf16)
AreUnits width utf8 utf16 utf32 (Utf32 u) = (width ≡ 32) × (u.now ≡ utf32)

-- ---- what is handed over

abbrev pub run_status : RunError → ℕ
run_status InvalidText = invalid_text
run_status Overfull = overfull
run_status OutOfMemory = out_of_memory

-- the lists that a text has no more are those that it had
pub record AreLeft (before : TextMade) (left : PairsLeft) : Type 0 where
  pub pairs : left.pairs.now ≡ before.pairs.now
  pub own : left.own.now ≡ before.own.now
  pub parts : left.parts.now ≡ before.parts.now

pub record IsNoneLeft (left : PairsLeft) : Type 0 where
  pub pairs : left.pairs.now ≡ []
  pub own : left.own.now ≡ []
  pub parts : left.parts.now ≡ []

-- a run of which `Is` holds, or an error of which `Why` holds, is handed over: the text before and after, the
-- operators, the lists that the text has no more, and the status
pub data IsRunHanded (Is : ShownRun → Type 0) (Why : RunError → Type 0) (before after : TextMade) (made : ObjectsMade)
    (left : PairsLeft) (status : ℕ) : Type 0 where
  -- of the text these lists alone are other ones
  shown : (s : ShownRun) → Is s → after ≡ record before { pairs = after.pairs; own = after.own; parts = after.parts }
      → lists_of after ≡ lists_shown s → made.bytes.now ≡ s.operators.items → made.offsets.now ≡ []
      → AreLeft before left → status ≡ 0
      → IsRunHanded Is Why before after made left status
  refused : (e : RunError) → Why e → after ≡ before → IsNothing made → IsNoneLeft left → status ≡ run_status e
      → IsRunHanded Is Why before after made left status

-- nothing is handed over, for the reason of a status
pub record IsNoRunMade (why : ℕ) (before after : TextMade) (made : ObjectsMade) (left : PairsLeft) (status : ℕ)
    : Type 0 where
  pub same : after ≡ before
  pub nothing : IsNothing made
  pub none_left : IsNoneLeft left
  pub status_is : status ≡ why

-- ---- a run of items

pub record IsRunShownIn (t : TextMade) (items : List TextItem) (characters : List ℕ) (d o size : ℕ) (s : ShownRun)
    : Type 0 where
  pub font : Font
  pub of_text : IsFontOf t font
  pub choice : Choice
  pub choice_is : IsChoiceOf t choice
  pub is : IsOneShown font choice (run_direction d) (run_order o) size (lists_of t) (lists_shown s)
      (are_one characters items) (map (labelled_in characters) items) s.operators.items

pub record IsRunUnshownIn (t : TextMade) (items : List TextItem) (characters : List ℕ) (d o : ℕ) (e : RunError)
    : Type 0 where
  pub font : Font
  pub of_text : IsFontOf t font
  pub choice : Choice
  pub choice_is : IsChoiceOf t choice
  pub why : AreUnshown font choice (run_direction d) (run_order o) (lists_of t)
      (are_one characters items) (map (labelled_in characters) items) e

-- ---- a run of glyphs with cluster numbers

pub record IsTextShownIn (t : TextMade) (width : ℕ) (utf8 utf16 utf32 : List ℕ) (glyphs : List Shaped) (d o size : ℕ)
    (s : ShownRun) : Type 0 where
  pub font : Font
  pub of_text : IsFontOf t font
  pub choice : Choice
  pub choice_is : IsChoiceOf t choice
  pub units : Units
  pub units_are : AreUnits width utf8 utf16 utf32 units
  pub is : IsTextShown font choice (run_direction d) (run_order o)
      size (lists_of t) (lists_shown s) units glyphs s.operators.items

pub record IsTextUnshownIn (t : TextMade) (width : ℕ) (utf8 utf16 utf32 : List ℕ) (glyphs : List Shaped) (d o : ℕ)
    (e : RunError) : Type 0 where
  pub font : Font
  pub of_text : IsFontOf t font
  pub choice : Choice
  pub choice_is : IsChoiceOf t choice
  pub units : Units
  pub units_are : AreUnits width utf8 utf16 utf32 units
  pub why : IsTextUnshown font choice (run_direction d) (run_order o) (lists_of t) units glyphs e
