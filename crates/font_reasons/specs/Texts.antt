-- The texts of reasons.
use Rattle.std.specs.Prelude.{ℕ, ◌+◌, ◌-◌, ◌*◌, ◌/◌, ◌%◌, ◌==◌, ◌&&◌, nat_le, nat_lt, Bool, true, false, if◌then◌else◌}
use Rattle.std.specs.Prelude.{List, [], ◌++◌, get_or, take, codes, decimal}
use Rattle.std.specs.Fmt.{radix_digits}
use Rattle.pdf_values.specs.Permission.{is_usable}
use Rattle.pdf_values.specs.declared.permission.Permission.{Permission}
use Rattle.subsetter_base.specs.Texts.{tag_text}
use Rattle.subsetter_base.specs.declared.tag.Tag.{Tag}
use Rattle.font_reasons.specs.declared.reason.Reason.{Reason}
use Rattle.font_reasons.specs.declared.reason.Reason.TheVariants.{Woff, Woff2, Type1, Eot, Pdf, Begins, NotFont, Empty}
use Rattle.font_reasons.specs.declared.reason.Reason.TheVariants.{NoFace, NoHeader, CutDirectory, Cut, NoOutlines}
use Rattle.font_reasons.specs.declared.reason.Reason.TheVariants.{BitmapsAlone, NoGlyph, NoTable, NoEntries, LocFormat}
use Rattle.font_reasons.specs.declared.reason.Reason.TheVariants.{Descends, Outside, CutHeader, CutComponent}
use Rattle.font_reasons.specs.declared.reason.Reason.TheVariants.{ByComponent, NoMetrics, FewMetrics, NoMetric, NoUnits}
use Rattle.font_reasons.specs.declared.reason.Reason.TheVariants.{Short, LostName, NoUnicode, ShortMap, OnlyCff2}
use Rattle.font_reasons.specs.declared.reason.Reason.TheVariants.{Forbidden, Cff2Version, OtherVersion, AxisSize}
use Rattle.font_reasons.specs.declared.reason.Reason.TheVariants.{AxisCount, Unread, NoCharstring, WrongCharstring}
use Rattle.font_reasons.specs.declared.reason.Reason.TheVariants.{Composed, WrongOutline, Deep, Unvaried, WrongMetric}
use Rattle.font_reasons.specs.declared.reason.Reason.TheVariants.{AllGlyphs, TightLimits}
use Rattle.font_reasons.specs.declared.reason.Reason.TheVariants.{LargeAdvance, LargeCff, LostString, NoIndex}

-- a number between two texts
abbrev pub between : List ℕ → ℕ → List ℕ → List ℕ
between front n back = front ++ (decimal n ++ back)

-- the name of a table, without a blank at its end
abbrev pub table_name : Tag → List ℕ
table_name tag = tag_text (if get_or tag.0 3 0 == 32 then take 3 tag.0 else tag.0)

-- a glyph, and a table between two texts
abbrev pub in_table : ℕ → List ℕ → Tag → List ℕ → List ℕ
in_table glyph front tag back = codes "glyph " ++ (decimal glyph ++ (front ++ (table_name tag ++ back)))

-- the faces of a collection, and the glyphs of a face, are numbered from 0 on
abbrev pub no_face_text : ℕ → ℕ → List ℕ
no_face_text index count =
    if count == 0 then codes "face " ++ (decimal index ++ codes ": the collection has no face")
    else codes "face " ++ (decimal index ++ (codes ": the collection's faces are 0 to " ++ decimal (count - 1)))

abbrev pub no_glyph_text : ℕ → ℕ → List ℕ
no_glyph_text glyph count =
    if count == 0 then codes "glyph " ++ (decimal glyph ++ codes ": the font has no glyph")
    else codes "glyph " ++ (decimal glyph ++ (codes ": the font's glyphs are 0 to " ++ decimal (count - 1)))

abbrev pub cut_text : Tag → ℕ → ℕ → List ℕ
cut_text tag end size =
    codes "the file is cut: table "
    ++ (table_name tag ++ (codes " ends at byte " ++ (decimal end ++ (codes ", the file at " ++ decimal size))))

abbrev pub component_text : ℕ → ℕ → List ℕ
component_text glyph component =
    codes "glyph "
    ++ (decimal glyph
    ++ (codes ": its component is glyph " ++ (decimal component ++ codes ", whose outline isn't in the font")))

abbrev pub short_text : Tag → ℕ → ℕ → List ℕ
short_text tag size needed =
    table_name tag ++ (codes ": " ++ (decimal size ++ (codes " bytes, needs " ++ decimal needed)))

abbrev pub short_map_text : ℕ → ℕ → ℕ → List ℕ
short_map_text format size needed =
    codes "cmap: its table in format "
    ++ (decimal format ++ (codes " has " ++ (decimal size ++ (codes " bytes, needs " ++ decimal needed))))

abbrev pub axes_text : Tag → ℕ → ℕ → List ℕ
axes_text tag count axes =
    table_name tag ++ (codes ": axisCount is " ++ (decimal count ++ (codes ", that of fvar " ++ decimal axes)))

-- four hexadecimal digits
abbrev pub hex_text : ℕ → List ℕ
hex_text n =
    radix_digits 16 false (n / 4096)
    ++ (radix_digits 16 false (n / 256 % 16) ++ (radix_digits 16 false (n / 16 % 16) ++ radix_digits 16 false (n % 16)))

-- what the bits of fsType forbid (OpenType, "OS/2"): whether embedding is allowed, subsets are, outlines are
abbrev pub forbidden_words : Bool → Bool → Bool → List ℕ
forbidden_words true true true = []
forbidden_words true true false = codes "outlines (bit 9)"
forbidden_words true false true = codes "subsets (bit 8)"
forbidden_words true false false = codes "subsets (bit 8), outlines (bit 9)"
forbidden_words false true true = codes "embedding (bit 1)"
forbidden_words false true false = codes "embedding (bit 1), outlines (bit 9)"
forbidden_words false false true = codes "embedding (bit 1), subsets (bit 8)"
forbidden_words false false false = codes "embedding (bit 1), subsets (bit 8), outlines (bit 9)"

abbrev pub forbidden_by : Permission → List ℕ
forbidden_by p = forbidden_words (is_usable p.usage) p.subsetting p.outlines

abbrev pub forbidden_text : ℕ → Permission → List ℕ
forbidden_text fs_type p = codes "OS/2: fsType 0x" ++ (hex_text fs_type ++ (codes " forbids " ++ forbidden_by p))

-- a character of ASCII that can be seen, or a space
abbrev pub is_printable : ℕ → Bool
is_printable b = nat_le 32 b && nat_lt b 127

-- four of these
abbrev pub is_text : Tag → Bool
is_text tag =
    is_printable (get_or tag.0 0 0)
    && (is_printable (get_or tag.0 1 0) && (is_printable (get_or tag.0 2 0) && is_printable (get_or tag.0 3 0)))

-- the first bytes of a file in hexadecimal digits, and as a text where they are one
abbrev pub front_digits : Tag → List ℕ
front_digits tag =
    hex_text (256 * get_or tag.0 0 0 + get_or tag.0 1 0) ++ hex_text (256 * get_or tag.0 2 0 + get_or tag.0 3 0)

abbrev pub front_text : Tag → List ℕ
front_text tag = if is_text tag then codes " (" ++ (tag_text tag.0 ++ codes ")") else []

abbrev pub begin_text : Tag → List ℕ
begin_text tag =
    codes "not a font: its first bytes are "
    ++ (front_digits tag ++ (front_text tag ++ codes ", none of TrueType, OpenType, a collection"))

abbrev pub large_text : ℕ → ℕ → List ℕ
large_text glyph limit = codes "glyph " ++ (decimal glyph ++ (codes ": its advance is more than " ++ decimal limit))

abbrev pub reason_text : Reason → List ℕ
reason_text Woff = codes "a WOFF file: unpack it first"
reason_text Woff2 = codes "a WOFF2 file: unpack it first"
reason_text Type1 = codes "a Type 1 font: convert it to OpenType first"
reason_text Eot = codes "an EOT file: convert it to OpenType first"
reason_text Pdf = codes "not a font: a PDF file"
reason_text (Begins tag) = begin_text tag
reason_text NotFont = codes "not a font: its first bytes are none of TrueType, OpenType, a collection"
reason_text Empty = codes "the file is empty"
reason_text (NoFace index count) = no_face_text index count
reason_text (NoHeader index) = between (codes "face ") index (codes ": no font begins where the collection says")
reason_text CutDirectory = codes "the file is cut in its table directory"
reason_text (Cut tag end size) = cut_text tag end size
reason_text NoOutlines =
    codes "the face has no outlines (glyf, CFF, CFF2) and no bitmaps (sbix, CBDT with CBLC, EBDT with EBLC)"
reason_text (BitmapsAlone tag) = table_name tag ++ codes ": the face has bitmaps and no outlines"
reason_text (NoGlyph glyph count) = no_glyph_text glyph count
reason_text (NoTable tag) = codes "the face has no table " ++ table_name tag
reason_text (NoEntries glyph) = between (codes "glyph ") glyph (codes ": loca has no entries for it")
reason_text (LocFormat format) =
    between (codes "head: indexToLocFormat is ") format (codes ", neither 0 nor 1")
reason_text (Descends glyph) = between (codes "glyph ") glyph (codes ": its loca entries descend")
reason_text (Outside glyph) = between (codes "glyph ") glyph (codes ": its outline isn't inside glyf")
reason_text (CutHeader glyph) = between (codes "glyph ") glyph (codes ": the header of its outline is cut")
reason_text (CutComponent glyph) = between (codes "glyph ") glyph (codes ": a component is cut")
reason_text (ByComponent glyph component) = component_text glyph component
reason_text NoMetrics = codes "hhea: numberOfHMetrics is 0"
reason_text (FewMetrics count) = between (codes "hhea: numberOfHMetrics is ") count (codes ", and hmtx is shorter")
reason_text (NoMetric glyph) = between (codes "glyph ") glyph (codes ": hmtx ends before its metrics")
reason_text NoUnits = codes "head: unitsPerEm is 0"
reason_text (Short tag size needed) = short_text tag size needed
reason_text (LostName id) = between (codes "name: the string of name ") id (codes " isn't inside the table")
reason_text NoUnicode = codes "cmap: no table for Unicode, symbols or Mac Roman in format 0, 4, 6, 12 or 13"
reason_text (ShortMap format size needed) = short_map_text format size needed
reason_text OnlyCff2 = codes "CFF2: its outlines are taken at coordinates alone"
reason_text (Forbidden fs_type p) = forbidden_text fs_type p
reason_text (LargeAdvance glyph limit) = large_text glyph limit
reason_text (NoIndex glyph) = between (codes "glyph ") glyph (codes ": post has no index of a name for it")
reason_text LostString = codes "CFF: Copyright, Notice or FontName is a string that isn't in the table"
reason_text LargeCff = codes "CFF: more than 255 font dicts, a number of more than 64 characters, or offsets past 31 bits"
reason_text (Cff2Version version) = between (codes "CFF2: its major version is ") version (codes ", not 2")
reason_text (OtherVersion tag) = table_name tag ++ codes ": its major version isn't 1"
reason_text (AxisSize size) = between (codes "fvar: axisSize is ") size (codes ", needs 20")
reason_text (AxisCount tag count axes) = axes_text tag count axes
reason_text (Unread tag) = table_name tag ++ codes ": the table can't be read"
reason_text (NoCharstring tag glyph) =
    in_table glyph (codes ": ") tag (codes " has no charstring or private dict for it")
reason_text (WrongCharstring tag glyph) =
    in_table glyph (codes ": its charstring in ") tag (codes " is wrong, or passes the limits")
reason_text (Composed glyph) = between (codes "glyph ") glyph (codes ": its charstring puts two others together")
reason_text (WrongOutline glyph) = between (codes "glyph ") glyph (codes ": its outline can't be read")
reason_text (Deep glyph) = between (codes "glyph ") glyph (codes ": a component more than 64 levels deep")
reason_text (Unvaried tag glyph) = in_table glyph (codes ": its variation data in ") tag (codes " can't be read")
reason_text (WrongMetric tag) = codes "MVAR: the value of " ++ (table_name tag ++ codes " can't be read")
reason_text AllGlyphs = codes "glyphs 1 to 65535 are all requested: with glyph 0 that is one more than a font can have"
reason_text (TightLimits bytes tokens) =
    codes "more than the "
    ++ (decimal bytes
    ++ (codes " bytes or " ++ (decimal tokens ++ codes " tokens of the limits, or a number that is too large")))
