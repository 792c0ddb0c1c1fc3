-- What is wrong with a table `CFF ` (Technical Note 5176) or `CFF2` (OpenType, "CFF2"), or with the charstring of one
-- of its glyphs.
use Rattle.std.specs.Prelude.{ℕ, ◌==◌, if◌then◌else◌, List, [], ◌∷◌, length, slice_get, Option, Some, None, Result}
use Rattle.std.specs.Prelude.{Ok, Err, ℤ, pos, codes}
use Rattle.std.specs.Option.{ok_or, option_and_then}
use Rattle.subsetter_base.specs.Bytes.{◌>>=◌, number}
use Rattle.subsetter_base.specs.declared.error.Error.{Error as Refusal}
use Rattle.subsetter_base.specs.declared.error.Error.TheVariants.{MalformedFont, Unimplemented, CFFError}
use Rattle.subsetter_base.specs.declared.error.Error.TheVariants.{SubsetError, OverflowError}
use Rattle.subsetter_base.specs.declared.tag.Tag.{Tag}
use Rattle.subsetter_blend.specs.Resolved.{resolved}
use Rattle.subsetter_blend.specs.Runs.Machine.{Setting}
use Rattle.subsetter_sfnt.specs.Read.{Font, stored}
use Rattle.subsetter_cff.specs.Read.Cff.{Cff}
use Rattle.subsetter_cff.specs.Read.Opened.{opened}
use Rattle.subsetter_cff.specs.Write.Plain.{cff_subset, kept_glyph}
use Rattle.subsetter_cff2.specs.Cff2.{Cff2, cff2_parts}
use Rattle.subsetter_cff2.specs.Made2.{NewDict, new_dicts}
use Rattle.subsetter_cff2.specs.PrivateDicts.Private2.{font_dict_number, char_string}
use Rattle.subsetter_cff2.specs.Variation.{Variation, font_scalars, optional_variation}
use Rattle.font_reasons.specs.File.{or_else}
use Rattle.font_reasons.specs.declared.reason.Reason.{Reason}
use Rattle.font_reasons.specs.declared.reason.Reason.TheVariants.{OtherVersion, Unread, NoCharstring, WrongCharstring}
use Rattle.font_reasons.specs.declared.reason.Reason.TheVariants.{Composed, Cff2Version, LargeCff, LostString}

abbrev pub cff_tag : Tag
cff_tag = record { 0 = codes "CFF " }

abbrev pub cff2_tag : Tag
cff2_tag = record { 0 = codes "CFF2" }

-- what the error of a glyph says of it: its charstring or its private dict isn't there, or it can't be run, or puts two
-- others together
abbrev pub glyph_reason : Tag → ℕ → Refusal → Option Reason
glyph_reason tag g MalformedFont = Some (NoCharstring tag g)
glyph_reason tag g CFFError = Some (WrongCharstring tag g)
glyph_reason tag g Unimplemented = Some (Composed g)
glyph_reason tag g other = None

-- of the first of these glyphs that isn't taken, as one call or another takes them
abbrev pub refusal_by : {X : Type 0} → Tag → ℕ → Result X Refusal → Option Reason → Option Reason
refusal_by tag g (Err e) others = glyph_reason tag g e
refusal_by tag g (Ok taken) others = others

abbrev pub first_refusal : {X : Type 0} → Tag → (ℕ → Result X Refusal) → List ℕ → Option Reason
first_refusal tag take [] = None
first_refusal tag take (g ∷ glyphs) = refusal_by tag g (take g) (first_refusal tag take glyphs)

-- what the error of a table that isn't opened says of it
abbrev pub table_reason : Refusal → Option Reason
table_reason CFFError = Some (OtherVersion cff_tag)
table_reason MalformedFont = Some (Unread cff_tag)
table_reason other = None

-- of glyphs that are kept within limits on a run
abbrev pub opened_reason : ℕ → ℕ → List ℕ → Result Cff Refusal → Option Reason
opened_reason tokens depth glyphs (Err e) = table_reason e
opened_reason tokens depth glyphs (Ok cff) = first_refusal cff_tag (kept_glyph cff tokens depth) glyphs

-- a face with `glyf` has its outlines there
abbrev pub cff_reason_by : ℕ → ℕ → List ℕ → Option (List ℕ) → Option (List ℕ) → Option Reason
cff_reason_by tokens depth glyphs (Some glyf) cff = None
cff_reason_by tokens depth glyphs None None = None
cff_reason_by tokens depth glyphs None (Some cff) = opened_reason tokens depth glyphs (opened cff)

abbrev pub cff_reason : Font → ℕ → ℕ → List ℕ → Option Reason
cff_reason font tokens depth glyphs =
    cff_reason_by tokens depth glyphs (stored font (codes "glyf")) (stored font (codes "CFF "))

-- ---- a new `CFF ` table

-- what the error of the new table says, where it is the error that came
abbrev pub made_by : Refusal → Refusal → Option Reason
made_by SubsetError SubsetError = Some LostString
made_by OverflowError OverflowError = Some LargeCff
made_by e found = None

abbrev pub made_reason : Refusal → Result (List ℕ) Refusal → Option Reason
made_reason e (Ok made) = None
made_reason e (Err found) = made_by e found

abbrev pub new_cff_by : Refusal → ℕ → ℕ → List ℕ → Option (List ℕ) → Option (List ℕ) → Option Reason
new_cff_by e tokens depth glyphs None (Some cff) = made_reason e (cff_subset cff tokens depth glyphs)
new_cff_by e tokens depth glyphs glyf cff = None

abbrev pub new_cff_reason : Refusal → Font → ℕ → ℕ → List ℕ → Option Reason
new_cff_reason e font tokens depth glyphs =
    new_cff_by e tokens depth glyphs (stored font (codes "glyf")) (stored font (codes "CFF "))

-- ---- `CFF2` at a location

-- a table that is opened, and what varies in it
pub record Opened2 : Type 0 where
  pub cff : Cff2
  pub variation : Option Variation

unfoldable pub open2 : List ℕ → List ℤ → Result Opened2 Refusal
open2 bytes at = do
  cff ← ok_or (cff2_parts bytes (length at)) MalformedFont
  variation ← ok_or (optional_variation cff.store at) MalformedFont
  Ok (record { cff = cff; variation = variation })

-- a glyph's private dict there
unfoldable pub dict_of : Opened2 → ℕ → Result NewDict Refusal
dict_of o g = do
  number ← ok_or (font_dict_number o.cff g) MalformedFont
  dicts ← new_dicts o.cff o.variation (number ∷ [])
  ok_or (slice_get dicts 0) MalformedFont

abbrev pub setting : Opened2 → NewDict → Setting
setting o dict =
    record {
      library = record { global = o.cff.subroutines; local = dict.subroutines };
      scalars = font_scalars o.variation;
    }

-- a glyph's charstring there, run within limits; its width doesn't count
unfoldable pub run2 : Opened2 → ℕ → ℕ → ℕ → Result (List ℕ) Refusal
run2 o tokens depth g = do
  dict ← dict_of o g
  charstring ← ok_or (char_string o.cff g) MalformedFont
  resolved (setting o dict) tokens depth dict.data_index (pos 0) charstring

-- majorVersion, at byte 0, isn't 2
abbrev pub other_cff2 : List ℕ → Option Reason
other_cff2 bytes =
    option_and_then (λ version. if version == 2 then None else Some (Cff2Version version)) (number bytes 0 1)

abbrev pub opened2_reason : ℕ → ℕ → List ℕ → List ℕ → Result Opened2 Refusal → Option Reason
opened2_reason tokens depth glyphs bytes (Err e) = or_else (other_cff2 bytes) (Some (Unread cff2_tag))
opened2_reason tokens depth glyphs bytes (Ok o) = first_refusal cff2_tag (run2 o tokens depth) glyphs

abbrev pub cff2_reason : List ℤ → ℕ → ℕ → List ℕ → List ℕ → Option Reason
cff2_reason at tokens depth glyphs bytes = opened2_reason tokens depth glyphs bytes (open2 bytes at)
