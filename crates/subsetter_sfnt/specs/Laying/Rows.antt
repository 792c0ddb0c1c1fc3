-- The tables of a new font as rows: a tag, and the bytes of its table if it is there.
use Rattle.std.specs.Prelude.{ℕ, List, [], ◌∷◌, ◌++◌, map, find, codes, Option, Some, None, if◌then◌else◌}
use Rattle.std.specs.Option.{option_map}
use Rattle.std.specs.Str.{bytes_eq}
use Rattle.subsetter_sfnt.specs.Laying.Written.{Table}
use Rattle.subsetter_sfnt.specs.declared.flavor.FontFlavor.{FontFlavor}
use Rattle.subsetter_sfnt.specs.declared.flavor.FontFlavor.TheVariants.{TrueType, Cff}

-- ---- rows

pub record Row : Type 0 where
  pub tag : List ℕ
  pub bytes : Option (List ℕ)

abbrev pub row_tags : List Row → List (List ℕ)
row_tags rows = map (λ (r : Row). r.tag) rows

-- the bytes of the first row with a tag
abbrev pub bytes_of : List ℕ → List Row → Option (List ℕ)
bytes_of tag [] = None
bytes_of tag (r ∷ rows) = if bytes_eq r.tag tag then r.bytes else bytes_of tag rows

-- a table that may be missing
abbrev pub opt : List ℕ → Option (List ℕ) → List Table
opt tag None = []
opt tag (Some bytes) = record { tag = tag; bytes = bytes } ∷ []

-- the tables that are there
abbrev pub present : List Row → List Table
present [] = []
present (r ∷ rows) = opt r.tag r.bytes ++ present rows

-- the bytes of the first table with a tag
abbrev pub lookup : List ℕ → List Table → Option (List ℕ)
lookup tag ts = option_map (λ (t : Table). t.bytes) (find (λ (t : Table). bytes_eq t.tag tag) ts)

abbrev pub tags : List Table → List (List ℕ)
tags ts = map (λ (t : Table). t.tag) ts

-- ---- the rows of a font

-- the tables that a new font can have, whichever its kind of outlines is
pub record FontTables : Type 0 where
  pub cff : Option (List ℕ)
  pub cvt : Option (List ℕ)
  pub fpgm : Option (List ℕ)
  pub glyf : Option (List ℕ)
  pub head : Option (List ℕ)
  pub hhea : Option (List ℕ)
  pub hmtx : Option (List ℕ)
  pub loca : Option (List ℕ)
  pub maxp : Option (List ℕ)
  pub name : Option (List ℕ)
  pub post : Option (List ℕ)
  pub prep : Option (List ℕ)

-- their rows, in ascending order of their tags
abbrev pub rows : FontTables → List Row
rows t =
    record { tag = codes "CFF "; bytes = t.cff } ∷ record { tag = codes "cvt "; bytes = t.cvt }
    ∷ record { tag = codes "fpgm"; bytes = t.fpgm } ∷ record { tag = codes "glyf"; bytes = t.glyf }
    ∷ record { tag = codes "head"; bytes = t.head } ∷ record { tag = codes "hhea"; bytes = t.hhea }
    ∷ record { tag = codes "hmtx"; bytes = t.hmtx }
    ∷ record { tag = codes "loca"; bytes = t.loca } ∷ record { tag = codes "maxp"; bytes = t.maxp }
    ∷ record { tag = codes "name"; bytes = t.name } ∷ record { tag = codes "post"; bytes = t.post }
    ∷ record { tag = codes "prep"; bytes = t.prep } ∷ []

-- of which tables that all fonts share there is one in the source: only whether each is there counts, not its bytes;
-- hhea goes with hmtx
abbrev pub shared_in : (List ℕ → Option (List ℕ)) → FontTables
shared_in find = record {
  cff = None;
  cvt = None;
  fpgm = None;
  glyf = None;
  head = find (codes "head");
  hhea = find (codes "hmtx");
  hmtx = find (codes "hmtx");
  loca = None;
  maxp = find (codes "maxp");
  name = find (codes "name");
  post = find (codes "post");
  prep = None;
}

-- the tables that a subset calls for: those of every font, and those of its kind of outlines
abbrev pub called_for : FontFlavor → (List ℕ → Option (List ℕ)) → FontTables
called_for TrueType find =
    record (shared_in find) {
      cvt = find (codes "cvt ");
      fpgm = find (codes "fpgm");
      glyf = find (codes "glyf");
      loca = find (codes "loca");
      prep = find (codes "prep");
    }
called_for Cff find = record (shared_in find) { cff = find (codes "CFF ") }

-- the tags of the tables of a new font
abbrev pub tags_of : FontFlavor → (List ℕ → Option (List ℕ)) → List (List ℕ)
tags_of flavor find = tags (present (rows (called_for flavor find)))
