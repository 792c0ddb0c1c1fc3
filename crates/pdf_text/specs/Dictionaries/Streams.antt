-- What is in the dictionaries of a font program and of a CMap (ISO 32000-1, 9.9 and 9.7.5.3), as texts.
use Rattle.std.specs.Prelude.{ℕ, Bool, true, false, List, [], ◌++◌, Option, Some, None, codes, decimal}
use Rattle.pdf_text.specs.declared.values.ProgramKind.{ProgramKind}
use Rattle.pdf_text.specs.declared.values.ProgramKind.TheVariants.{TrueType, BareCff, OpenType}
use Rattle.pdf_text.specs.declared.values.OwnCmap.{OwnCmap}
use Rattle.pdf_text.specs.Dictionaries.Entries.{entry, system_info}

-- of the font program (Table 127)
abbrev pub program_entries : ProgramKind → ℕ → List ℕ
program_entries TrueType size = entry (codes "Length1") (decimal size)
program_entries BareCff size = entry (codes "Subtype") (codes "/CIDFontType0C")
program_entries OpenType size = entry (codes "Subtype") (codes "/OpenType")

abbrev pub mode_entry : Bool → List ℕ
mode_entry true = entry (codes "WMode") (codes "1")
mode_entry false = []

-- of a CMap (Table 120)
abbrev pub own_cmap_entries : List ℕ → Bool → List ℕ
own_cmap_entries name vertical =
    entry (codes "Type") (codes "/CMap")
    ++ (entry (codes "CMapName") (codes "/" ++ name)
    ++ (entry (codes "CIDSystemInfo") system_info ++ mode_entry vertical))

-- of the CMap that a font has of its own
abbrev pub cmap_entries : Option OwnCmap → Bool → List ℕ
cmap_entries (Some cmap) vertical = own_cmap_entries cmap.name.now vertical
cmap_entries None vertical = []
