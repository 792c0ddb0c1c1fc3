-- A composite font and its CIDFont (ISO 32000-1, 9.7.4 and 9.7.6), as texts.
use Rattle.std.specs.Prelude.{ℕ, Bool, true, false, List, [], ◌++◌, Option, Some, None, is_some, codes}
use Rattle.pdf_text.specs.declared.values.ProgramKind.{ProgramKind}
use Rattle.pdf_text.specs.declared.values.ProgramKind.TheVariants.{TrueType, BareCff, OpenType}
use Rattle.pdf_text.specs.declared.values.OwnCmap.{OwnCmap}
use Rattle.pdf_text.specs.declared.values.FontValues.{FontValues}
use Rattle.pdf_text.specs.declared.values.References.{References}
use Rattle.pdf_text.specs.Dictionaries.Entries.{reference, entry, system_info}
use Rattle.pdf_text.specs.Dictionaries.Widths.{metric_entries}

-- ---- the font (Table 121)

-- the predefined CMaps of two bytes that lead each code to the CID of its number (9.7.5.2)
abbrev pub identity_name : Bool → List ℕ
identity_name true = codes "Identity-V"
identity_name false = codes "Identity-H"

abbrev pub cmap_name : Option OwnCmap → Bool → List ℕ
cmap_name (Some cmap) vertical = cmap.name.now
cmap_name None vertical = identity_name vertical

-- after the name of a font with CFF outlines: a hyphen, and the name of its CMap (9.7.6.1)
abbrev pub name_end : ProgramKind → List ℕ → List ℕ
name_end TrueType cmap = []
name_end BareCff cmap = codes "-" ++ cmap
name_end OpenType cmap = codes "-" ++ cmap

abbrev pub base_font : FontValues → List ℕ
base_font v = v.descriptor.font_name.now ++ name_end v.kind (cmap_name v.encoding (is_some v.columns))

-- the CMap's stream, or the name of a predefined one
abbrev pub encoding_value : Option OwnCmap → Bool → ℕ → List ℕ
encoding_value (Some cmap) vertical n = reference n
encoding_value None vertical n = codes "/" ++ identity_name vertical

abbrev pub font_entries : FontValues → References → List ℕ
font_entries v r = entry (codes "Type") (codes "/Font") ++ (entry (codes "Subtype") (codes "/Type0")
    ++ (entry (codes "BaseFont") (codes "/" ++ base_font v)
    ++ (entry (codes "Encoding") (encoding_value v.encoding (is_some v.columns) r.encoding)
    ++ (entry (codes "DescendantFonts") (codes "[" ++ (reference r.cid_font ++ codes "]"))
    ++ entry (codes "ToUnicode") (reference r.to_unicode)))))

-- ---- the CIDFont (Table 117)

abbrev pub cid_font_kind : ProgramKind → List ℕ
cid_font_kind TrueType = codes "/CIDFontType2"
cid_font_kind BareCff = codes "/CIDFontType0"
cid_font_kind OpenType = codes "/CIDFontType0"

-- a stream of glyphs, or else each CID is the number of a glyph
abbrev pub map_value : Bool → ℕ → List ℕ
map_value true n = reference n
map_value false n = codes "/Identity"

-- CIDToGIDMap, which only a CIDFont with TrueType outlines has
abbrev pub glyph_map : ProgramKind → Bool → ℕ → List ℕ
glyph_map TrueType has_map n = entry (codes "CIDToGIDMap") (map_value has_map n)
glyph_map BareCff has_map n = []
glyph_map OpenType has_map n = []

abbrev pub cid_heading : ProgramKind → List ℕ → List ℕ
cid_heading kind name =
    entry (codes "Type") (codes "/Font")
    ++ (entry (codes "Subtype") (cid_font_kind kind) ++ entry (codes "BaseFont") (codes "/" ++ name))

abbrev pub cid_font_entries : FontValues → References → List ℕ
cid_font_entries v r = cid_heading v.kind v.descriptor.font_name.now ++ (entry (codes "CIDSystemInfo") system_info
    ++ (entry (codes "FontDescriptor") (reference r.descriptor)
    ++ (glyph_map v.kind (is_some v.cid_to_gid_map) r.cid_to_gid_map ++ metric_entries v)))
