-- How a text before its first run, and the font of one, are handed to C.
use Rattle.std.specs.Prelude.{◌≡◌, ◌⊎◌, ◌<◌, ℕ, ◌==◌, ◌&&◌, Bool, true, false, if◌then◌else◌, List, [], length, Result}
use Rattle.std.specs.Prelude.{Ok, ℤ}
use Rattle.subsetter_base.specs.Bytes.{◌>>=◌}
use Rattle.subsetter_base.specs.Gives.{Fails}
use Rattle.subsetter_base.specs.declared.error.Error.{Error}
use Rattle.subsetter_base.specs.declared.tag.Tag.{Tag}
use Rattle.subsetter_sfnt.specs.Extras.{all_extras}
use Rattle.subsetter_sfnt.specs.FontAt.{font_at}
use Rattle.subsetter_sfnt.specs.Read.{Font}
use Rattle.subsetter_type2.specs.declared.limits.Limits.{Limits}
use Rattle.subsetter_base.specs.declared.error.Error.TheVariants.{OutOfMemory, OverflowError}
use Rattle.own_choice.specs.Choosing.{Chosen, own_choice}
use Rattle.pdf_figures.specs.declared.ink.OwnInk.{OwnInk}
use Rattle.pdf_figures.specs.View.{inks_of}
use Rattle.pdf_font.specs.PdfFont.{font_of}
use Rattle.pdf_font.specs.declared.error.FontError.{FontError}
use Rattle.pdf_font.specs.declared.error.FontError.TheVariants.{Subset, TextTooLong}
use Rattle.pdf_source.specs.declared.choice.Direction.{Direction}
use Rattle.pdf_source.specs.declared.choice.Direction.TheVariants.{Horizontal, Vertical}
use Rattle.pdf_source.specs.declared.choice.FontOptions.{FontOptions}
use Rattle.pdf_text_font.specs.Pairs.{by_code}
use Rattle.pdf_text_font.specs.TextFont.{HasTextFault, IsTextFont}
use Rattle.pdf_text_font.specs.declared.font.TextFont.{TextFont}
use Rattle.text_metrics.specs.Columns.{column_metrics}
use Rattle.text_metrics.specs.Metrics.{Metrics, text_metrics}
use Rattle.subsetter_text_c.specs.Own.{are_own, inks_in}
use Rattle.subsetter_text_c.specs.Pairs.{pairs_in}
use Rattle.subsetter_c.specs.Answers.Status.{status_of}
use Rattle.subsetter_c.specs.Documents.PdfFonts.{bytes_of, number_of, refusal_status}
use Rattle.subsetter_c.specs.Documents.PdfOptions.{AreFontOptionsChosen, direction_chosen}
use Rattle.subsetter_c.specs.Documents.Runs.{text_size}
use Rattle.subsetter_c.specs.Documents.Whole.{IsWholeEmpty, IsWholeLaidOut}
use Rattle.subsetter_c.specs.Options.{word}
use Rattle.subsetter_c.specs.Settings.{settings_of}
use Rattle.subsetter_c.specs.declared.documents.runs.TextMade.{TextMade}
use Rattle.subsetter_c.specs.declared.documents.text_kept.TextKept.{TextKept}
use Rattle.subsetter_c.specs.declared.documents.whole.FontMade.{FontMade}
use Rattle.subsetter_c.specs.declared.settings.Coordinate.{Coordinate}

-- ---- a text

abbrev pub vertical_number : Direction → ℕ
vertical_number Horizontal = 0
vertical_number Vertical = 1

-- what runs of text need of a font at settings, in a direction
abbrev pub metrics_by : Direction → Limits → Font → List (Tag × ℤ) → Result Metrics Error
metrics_by Horizontal limits font settings = text_metrics font settings limits.tokens
metrics_by Vertical limits font settings = column_metrics font settings limits

-- own glyphs are made in horizontal texts, unless the words say otherwise
abbrev pub is_horizontal : Direction → Bool
is_horizontal Horizontal = true
is_horizontal Vertical = false

abbrev pub makes_own : List ℕ → Bool
makes_own words = word words 13 == 0

-- a text that makes none
abbrev pub without_own : Metrics → Chosen
without_own m = record { lines = m; advances = []; can_be_part = []; most_parts = 0; is_still = false }

abbrev pub plain_by : Direction → Limits → Font → List (Tag × ℤ) → Result Chosen Error
plain_by direction limits font settings = metrics_by direction limits font settings >>= (λ m. Ok (without_own m))

-- and own glyphs, where they are made
abbrev pub chosen_by : Bool → Direction → Limits → Font → List (Tag × ℤ) → Result Chosen Error
chosen_by true direction limits font settings = own_choice font settings limits.tokens
chosen_by false direction limits font settings = plain_by direction limits font settings

abbrev pub kept_seen : TextKept → Chosen
kept_seen k =
    record {
      lines = record { units = k.units; metrics = k.metrics.items; inked = k.inked.items };
      advances = k.advances.items;
      can_be_part = k.partable.items;
      most_parts = k.most_parts;
      is_still = k.is_still;
    }

-- the text of a font at coordinates, before its first run
pub record IsTextOf (m : Chosen) (font : List ℕ) (index : ℕ) (coordinates : List Coordinate) (direction : Direction)
    (made : TextMade) : Type 0 where
  pub size : made.size ≡ text_size
  pub units : made.units_per_em ≡ m.lines.units
  pub divides : 0 < made.units_per_em
  pub font_is : made.font.now ≡ font
  pub coordinates_are : made.coordinates.now ≡ coordinates
  pub metrics : made.metrics.now ≡ m.lines.metrics
  pub inked : made.inked.now ≡ m.lines.inked
  pub pairs : made.pairs.now ≡ []
  pub index_is : made.index ≡ index
  pub is_vertical : made.is_vertical ≡ vertical_number direction
  pub advances : made.advances.now ≡ m.advances
  pub partable : made.partable.now ≡ m.can_be_part
  pub most_parts : made.most_parts ≡ m.most_parts
  pub is_still : made.is_still ≡ number_of m.is_still
  pub own : made.own.now ≡ []
  pub parts : made.parts.now ≡ []

-- all lists are empty, and all numbers 0, but for the size
pub record IsNoText (made : TextMade) : Type 0 where
  pub size : made.size ≡ text_size
  pub units : made.units_per_em ≡ 0
  pub font : made.font.now ≡ []
  pub coordinates : made.coordinates.now ≡ []
  pub metrics : made.metrics.now ≡ []
  pub inked : made.inked.now ≡ []
  pub pairs : made.pairs.now ≡ []
  pub index : made.index ≡ 0
  pub is_vertical : made.is_vertical ≡ 0
  pub advances : made.advances.now ≡ []
  pub partable : made.partable.now ≡ []
  pub most_parts : made.most_parts ≡ 0
  pub is_still : made.is_still ≡ 0
  pub own : made.own.now ≡ []
  pub parts : made.parts.now ≡ []

-- a text that keeps what `Is` holds of, or an error of which `Why` holds, is handed over
pub data IsTextHanded (Is : TextKept → Type 0) (Why : Error → Type 0) (font : List ℕ) (index : ℕ)
    (direction : Direction) (made : TextMade) (status : ℕ) : Type 0 where
  kept : (k : TextKept) → Is k → IsTextOf (kept_seen k) font index k.coordinates.items direction made → status ≡ 0
      → IsTextHanded Is Why font index direction made status
  unkept : (e : Error) → Why e → IsNoText made → status ≡ status_of e
      → IsTextHanded Is Why font index direction made status

-- it has what a reading of the font gives, or the error is the reading's, unless memory ran out
pub data IsTextRead (reading : Result Chosen Error) (font : List ℕ) (index : ℕ) (coordinates : List Coordinate)
    (direction : Direction) (made : TextMade) (status : ℕ) : Type 0 where
  text : (m : Chosen) → reading ≡ Ok m → IsTextOf m font index coordinates direction made → status ≡ 0
      → IsTextRead reading font index coordinates direction made status
  no_text : (e : Error) → Fails e reading → IsNoText made → status ≡ status_of e
      → IsTextRead reading font index coordinates direction made status

-- a text is handed over, for options that the words choose
pub record IsTextMade (font : List ℕ) (index : ℕ) (coordinates : List Coordinate) (words : List ℕ) (made : TextMade)
    (status : ℕ) : Type 0 where
  pub options : FontOptions
  pub chosen : AreFontOptionsChosen words options
  pub handed : IsTextRead
      (chosen_by (makes_own words && is_horizontal options.direction) options.direction
      options.limits (font_at font index all_extras) (settings_of coordinates))
      font index coordinates options.direction made status

-- ---- the font of a text

-- with the direction of a text
abbrev pub directed : TextMade → FontOptions → FontOptions
directed t o = record o { direction = direction_chosen t.is_vertical }

-- how many glyphs are the font's; without own ones glyphs have 16 bits
abbrev pub count_of : TextMade → ℕ
count_of t = if length t.own.now == 0 then 65536 else length t.metrics.now

pub record IsTextFontOf (t : TextMade) (options : FontOptions) (made : TextFont) : Type 0 where
  pub own : List OwnInk
  pub own_are : inks_of own ≡ inks_in t.own.now t.parts.now
  pub is : IsTextFont (font_of t.font.now t.index options) (settings_of t.coordinates.now)
      options (count_of t) own (by_code (pairs_in t.pairs.now)) made

-- the font or the codes have a fault
pub record IsTextAtFault (t : TextMade) (options : FontOptions) (e : FontError) : Type 0 where
  pub own : List OwnInk
  pub own_are : inks_of own ≡ inks_in t.own.now t.parts.now
  pub why : HasTextFault (font_of t.font.now t.index options) (settings_of t.coordinates.now)
      options (count_of t) own (by_code (pairs_in t.pairs.now)) e

-- memory ran out, there are more codes than a font can have, the own glyphs aren't such, or the font or the codes have
-- a fault
abbrev pub HasNoTextFont : TextMade → FontOptions → FontError → Type 0
HasNoTextFont t options e =
    (e ≡ Subset OutOfMemory)
    ⊎ (((e ≡ Subset OverflowError) × (65535 < length (pairs_in t.pairs.now)))
    ⊎ (((e ≡ TextTooLong) × (are_own t.own.now t.parts.now ≡ false)) ⊎ IsTextAtFault t options e))

-- a font of which `Is` holds, or an error of which `Why` holds, is handed over: it has no entries
pub data IsTextFontHandedBy (Is : TextFont → Type 0) (Why : FontError → Type 0) (made : FontMade) (status : ℕ)
    : Type 0 where
  whole_font : (t : TextFont) → Is t → IsWholeLaidOut t.font [] [] [] (bytes_of t.cid_to_gid_map) made → status ≡ 0
      → IsTextFontHandedBy Is Why made status
  no_font : (e : FontError) → Why e → IsWholeEmpty made → status ≡ refusal_status e
      → IsTextFontHandedBy Is Why made status

-- the font of a text is handed over, for options that the words choose
pub record IsTextFontMade (t : TextMade) (words : List ℕ) (made : FontMade) (status : ℕ) : Type 0 where
  pub options : FontOptions
  pub chosen : AreFontOptionsChosen words options
  pub handed :
      IsTextFontHandedBy (IsTextFontOf t (directed t options)) (HasNoTextFont t (directed t options)) made status
