-- What a face is, and what is written of it.
use Rattle.std.specs.Prelude.{◌≡◌, ◌≢◌, ℕ, nat_lt, Bool, true, false, List, [], filter, length, Option, None, is_some}
use Rattle.std.specs.Prelude.{codes, Result, Ok, Err}
use Rattle.std.specs.Io.KnownBytes.{Appends}
use Rattle.std.specs.Option.{option_and_then, option_copied, unwrap_or}
use Rattle.subsetter_base.specs.Bytes.{number}
use Rattle.subsetter_base.specs.declared.error.Error.{Error as Refusal}
use Rattle.subsetter_base.specs.declared.error.Error.TheVariants.{UnknownKind}
use Rattle.subsetter_sfnt.specs.Read.{Font, header_offset, records, stored}
use Rattle.glyph_kinds.specs.Counts.{kind_counts}
use Rattle.glyph_kinds.specs.Kinds.{kinds_of}
use Rattle.subset_args.specs.Listing.Lists.{counting}
use Rattle.subset_lines.specs.Faces.Info.{info_lines, info_json}
use Rattle.subset_lines.specs.declared.faces.info.face.Info.{Info}
use Rattle.subset_font.specs.Faces.Accepted.{IsAnswer}
use Rattle.font_reasons.specs.File.{face_count}
use Rattle.subset_task.specs.Faces.Outlines.{outlines_of}
use Rattle.font_reasons.specs.Directory.{bytes_or_none, records_in}
use Rattle.subset_task.specs.Faces.Tables.{tables_of}
use Rattle.subset_task.specs.Making.Requested.{face_glyphs}
use Rattle.subset_task.specs.declared.refusals.failure.Failure.{Failure}
use Rattle.subset_task.specs.declared.refusals.failure.Failure.TheVariants.{Error}

-- fsType, at byte 8 (OpenType, "OS/2")
abbrev pub permission_of : Font → Option ℕ
permission_of font = option_and_then (λ table. number table 8 2) (stored font (codes "OS/2"))

-- the kinds of pictures of glyphs; none where the directory can't be read
abbrev pub kinds_or_none : Result (List ℕ) Refusal → List ℕ
kinds_or_none (Ok kinds) = kinds
kinds_or_none (Err e) = []

abbrev pub known_kinds : Font → List ℕ → List ℕ
known_kinds font glyphs = kinds_or_none (kinds_of font glyphs)

-- each kind that glyphs have, with how many have it
abbrev pub pictures_of : Font → List (ℕ × ℕ)
pictures_of font =
    filter (λ k. nat_lt 0 k.1) (kind_counts (known_kinds font (counting 0 (unwrap_or (face_glyphs font) 0))))

-- what a face is
pub record IsInfo (font : Font) (info : Info) : Type 0 where
  pub outlines_are : info.outlines ≡ outlines_of font
  pub varies : info.is_variable ≡ is_some (stored font (codes "fvar"))
  -- a file that isn't a collection has one face
  pub faces_are : info.faces ≡ unwrap_or (face_count font.bytes) 1
  pub glyphs_are : info.glyphs ≡ face_glyphs font
  pub pictures_are : info.pictures.now ≡ pictures_of font
  pub bytes_are : info.bytes ≡ length font.bytes
  pub is_permitted : info.permission ≡ permission_of font
  pub is_answered : IsAnswer font (option_copied info.refusal) (option_copied info.reason)
  pub tables_are : info.tables.now ≡ tables_of (records_in (bytes_or_none (records font)))

-- lines, or one JSON object
abbrev pub info_text : Bool → Info → List ℕ
info_text false info = info_lines info
info_text true info = info_json info

-- what a face is was written
pub record ShowsInfo (json : Bool) (font : Font) (old new : Option (List ℕ)) : Type 0 where
  pub has_header : header_offset font ≢ None
  pub info : Info
  pub is_info : IsInfo font info
  pub is_written : Appends old new (info_text json info)

-- why nothing is written of a font: it has no header at its index
abbrev pub IsInfoFault : Font → Failure → Type 0
IsInfoFault font failure = (failure ≡ Error UnknownKind) × (header_offset font ≡ None)
