-- A font descriptor (ISO 32000-1, 9.8, Tables 122 and 124), as text.
use Rattle.std.specs.Prelude.{ℕ, Bool, true, false, List, [], ◌++◌, Option, Some, None, is_some, codes, decimal, ℤ}
use Rattle.std.specs.Fmt.{signed_decimal}
use Rattle.pdf_text.specs.declared.values.ProgramKind.{ProgramKind}
use Rattle.pdf_text.specs.declared.values.ProgramKind.TheVariants.{TrueType, BareCff, OpenType}
use Rattle.pdf_text.specs.declared.values.Descriptor.{Descriptor}
use Rattle.pdf_text.specs.declared.values.FontValues.{FontValues}
use Rattle.pdf_text.specs.declared.values.References.{References}
use Rattle.pdf_text.specs.Numbers.{thousandths}
use Rattle.pdf_text.specs.Dictionaries.Entries.{reference, array, entry}

abbrev pub x_height_entry : Option ℤ → List ℕ
x_height_entry (Some z) = entry (codes "XHeight") (signed_decimal z)
x_height_entry None = []

-- the key of the font program, by its kind (Table 126)
abbrev pub program_key : ProgramKind → List ℕ
program_key TrueType = codes "FontFile2"
program_key BareCff = codes "FontFile3"
program_key OpenType = codes "FontFile3"

-- CIDSet, if there is one
abbrev pub cid_set_entry : Bool → ℕ → List ℕ
cid_set_entry true n = entry (codes "CIDSet") (reference n)
cid_set_entry false n = []

abbrev pub heading_entries : Descriptor → List ℕ
heading_entries d =
    entry (codes "Type") (codes "/FontDescriptor") ++ (entry (codes "FontName") (codes "/" ++ d.font_name.now)
    ++ (entry (codes "Flags") (decimal d.flags)
    ++ (entry (codes "FontBBox") (array d.bounds) ++ entry (codes "ItalicAngle") (thousandths d.italic_angle))))

abbrev pub line_entries : Descriptor → List ℕ
line_entries d = entry (codes "Ascent") (signed_decimal d.ascent) ++ entry (codes "Descent") (signed_decimal d.descent)

abbrev pub letter_entries : Descriptor → List ℕ
letter_entries d = entry (codes "CapHeight") (signed_decimal d.cap_height) ++ x_height_entry d.x_height

abbrev pub height_entries : Descriptor → List ℕ
height_entries d = line_entries d ++ letter_entries d

abbrev pub weight_entries : Descriptor → List ℕ
weight_entries d = entry (codes "StemV") (decimal d.stem_v) ++ entry (codes "FontWeight") (decimal d.font_weight)

abbrev pub descriptor_entries : FontValues → References → List ℕ
descriptor_entries v r = heading_entries v.descriptor ++ (height_entries v.descriptor ++ (weight_entries v.descriptor
    ++ (entry (program_key v.kind) (reference r.program) ++ cid_set_entry (is_some v.cid_set) r.cid_set)))
