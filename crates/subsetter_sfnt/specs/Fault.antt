-- Why a font can't be opened (OpenType, "Organization of an OpenType Font", "Font Collections").
use Rattle.std.specs.Prelude.{◌≡◌, ℕ, ◌<◌, codes, length, Some, None, IsSome}
use Rattle.subsetter_base.specs.declared.error.Error.{Error}
use Rattle.subsetter_base.specs.declared.error.Error.TheVariants.{UnknownKind, MalformedFont, Unimplemented}
use Rattle.subsetter_sfnt.specs.declared.face.FontKind.TheVariants.{Collection}
use Rattle.subsetter_sfnt.specs.Read.{Font, kind_at, collection_entry, header_offset, records_at, records, table}

pub data HasOpeningFault (font : Font) : Error → Type 0 where
  -- the first word is missing or names no kind
  no_kind : kind_at font.bytes 0 ≡ None → HasOpeningFault font UnknownKind
  -- a collection whose bytes end before the entry of the index
  no_entry : kind_at font.bytes 0 ≡ Some Collection → collection_entry font ≡ None → HasOpeningFault font MalformedFont
  -- the entry points past the end
  entry_outside : (at : ℕ) → kind_at font.bytes 0 ≡ Some Collection → collection_entry font ≡ Some at
      → length font.bytes < at
      → HasOpeningFault font MalformedFont
  -- the word there is missing or names no kind
  no_face : (at : ℕ) → kind_at font.bytes 0 ≡ Some Collection → collection_entry font ≡ Some at
      → kind_at font.bytes at ≡ None
      → HasOpeningFault font MalformedFont
  -- the word there names a collection
  nested : (at : ℕ) → kind_at font.bytes 0 ≡ Some Collection → collection_entry font ≡ Some at
      → kind_at font.bytes at ≡ Some Collection
      → HasOpeningFault font MalformedFont
  -- the header or the records are cut
  cut_directory : (at : ℕ) → header_offset font ≡ Some at → records_at font.bytes at ≡ None
      → HasOpeningFault font MalformedFont
  -- no outlines
  no_outlines : IsSome (records font) → table font (codes "glyf") ≡ None → table font (codes "CFF ") ≡ None
      → table font (codes "CFF2") ≡ None
      → HasOpeningFault font UnknownKind
  -- outlines of `CFF2` alone
  lone_cff2 : table font (codes "glyf") ≡ None → table font (codes "CFF ") ≡ None → IsSome (table font (codes "CFF2"))
      → HasOpeningFault font Unimplemented
