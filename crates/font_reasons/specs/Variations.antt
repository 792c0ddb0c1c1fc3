-- What is wrong with the tables of a variable font (OpenType, "fvar", "avar", "gvar", "HVAR" and "MVAR").
use Rattle.std.specs.Prelude.{ℕ, ◌+◌, ◌*◌, ◌==◌, nat_lt, if◌then◌else◌, List, Option, Some, None, codes}
use Rattle.std.specs.Option.{option_and_then}
use Rattle.subsetter_base.specs.Bytes.{number}
use Rattle.subsetter_base.specs.declared.tag.Tag.{Tag}
use Rattle.subsetter_sfnt.specs.Read.{Font, stored}
use Rattle.subsetter_variation.specs.Glyphs.Tuples.{Gvar, gvar_table}
use Rattle.subsetter_variation.specs.Locations.Coordinates.{is_other_version}
use Rattle.font_reasons.specs.File.{or_else}
use Rattle.font_reasons.specs.Short.{short}
use Rattle.font_reasons.specs.declared.reason.Reason.{Reason}
use Rattle.font_reasons.specs.declared.reason.Reason.TheVariants.{OtherVersion, AxisSize, AxisCount, Unread}

abbrev pub fvar_tag : Tag
fvar_tag = record { 0 = codes "fvar" }

abbrev pub avar_tag : Tag
avar_tag = record { 0 = codes "avar" }

abbrev pub gvar_tag : Tag
gvar_tag = record { 0 = codes "gvar" }

abbrev pub hvar_tag : Tag
hvar_tag = record { 0 = codes "HVAR" }

abbrev pub mvar_tag : Tag
mvar_tag = record { 0 = codes "MVAR" }

-- ---- versions

-- a table of another major version than 1
abbrev pub other_version : Font → Tag → Option Reason
other_version font tag = if is_other_version (stored font tag.0) then Some (OtherVersion tag) else None

-- `avar` is read by the axes of `fvar`
abbrev pub other_avar : Font → Option Reason
other_avar font = option_and_then (λ fvar. other_version font avar_tag) (stored font fvar_tag.0)

unfoldable pub other_axes : Font → Option Reason
other_axes font = or_else (other_version font fvar_tag) (other_avar font)

unfoldable pub other_metrics : Font → Option Reason
other_metrics font = or_else (other_version font hvar_tag) (other_version font mvar_tag)

-- `gvar` is read with outlines in `glyf`
abbrev pub other_gvar : Font → Option Reason
other_gvar font = option_and_then (λ glyf. other_version font gvar_tag) (stored font (codes "glyf"))

unfoldable pub other_deltas : Font → Option Reason
other_deltas font = or_else (other_gvar font) (other_metrics font)

-- ---- axes

-- the records of axes begin at axesArrayOffset, axisCount of axisSize bytes each
abbrev pub axes_end : Option ℕ → Option ℕ → ℕ → ℕ
axes_end (Some at) (Some count) size = if count == 0 then 12 else at + count * size
axes_end (Some at) None size = 12
axes_end None count size = 12

-- axisSize is 20 at least
abbrev pub wrong_axes : List ℕ → ℕ → Option Reason
wrong_axes fvar size =
    if nat_lt size 20 then Some (AxisSize size)
    else short fvar_tag (axes_end (number fvar 4 2) (number fvar 8 2) size) fvar

-- axisSize ends at byte 12 of `fvar`
abbrev pub wrong_fvar_by : List ℕ → Option ℕ → Option Reason
wrong_fvar_by fvar None = short fvar_tag 12 fvar
wrong_fvar_by fvar (Some size) = wrong_axes fvar size

abbrev pub wrong_fvar_of : List ℕ → Option Reason
wrong_fvar_of fvar = wrong_fvar_by fvar (number fvar 10 2)

abbrev pub wrong_fvar : Font → Option Reason
wrong_fvar font = option_and_then wrong_fvar_of (stored font fvar_tag.0)

-- axisCount of a table isn't that of `fvar`, which is at byte 8
abbrev pub other_count : Tag → ℕ → Option ℕ → Option Reason
other_count tag count None = None
other_count tag count (Some axes) = if count == axes then None else Some (AxisCount tag count axes)

-- axisCount is at byte 6 of `avar`
abbrev pub wrong_avar_by : List ℕ → Option ℕ → Option ℕ → Option Reason
wrong_avar_by avar None axes = short avar_tag 8 avar
wrong_avar_by avar (Some count) axes = other_count avar_tag count axes

abbrev pub wrong_avar_of : List ℕ → List ℕ → Option Reason
wrong_avar_of fvar avar = wrong_avar_by avar (number avar 6 2) (number fvar 8 2)

abbrev pub wrong_avar : Font → Option Reason
wrong_avar font =
    option_and_then (λ fvar. option_and_then (wrong_avar_of fvar) (stored font avar_tag.0)) (stored font fvar_tag.0)

unfoldable pub wrong_location : Font → Option Reason
wrong_location font = or_else (wrong_fvar font) (wrong_avar font)

-- ---- outlines

-- the header of `gvar` is cut or leads past its end
abbrev pub wrong_gvar_by : Option Gvar → Option ℕ → Option Reason
wrong_gvar_by None axes = Some (Unread gvar_tag)
wrong_gvar_by (Some table) axes = other_count gvar_tag table.axis_count axes

abbrev pub wrong_gvar_of : List ℕ → List ℕ → Option Reason
wrong_gvar_of fvar gvar = wrong_gvar_by (gvar_table gvar) (number fvar 8 2)

abbrev pub wrong_gvar : Font → Option Reason
wrong_gvar font =
    option_and_then (λ glyf.
    option_and_then (λ fvar. option_and_then (wrong_gvar_of fvar) (stored font gvar_tag.0)) (stored font fvar_tag.0))
    (stored font (codes "glyf"))
