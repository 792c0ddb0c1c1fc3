-- What a subset keeps of outlines in a CFF table, read afresh (Technical Notes 5176 and 5177).
use Rattle.std.specs.Prelude.{◌≡◌, ℕ, List, codes, Some}
use Rattle.subsetter_cff.specs.Write.Headline.{IsSubsetTable}
use Rattle.subsetter_sfnt.specs.Read.{Font, table}

-- both fonts have the table, and one is a subset of the other: each glyph draws as its source within the two limits
pub record KeepsCharStrings (tokens depth : ℕ) (font : Font) (order : List ℕ) (out : Font) : Type 0 where
  pub source : List ℕ
  pub source_is : table font (codes "CFF ") ≡ Some source
  pub copy : List ℕ
  pub copy_is : table out (codes "CFF ") ≡ Some copy
  pub kept : IsSubsetTable source tokens depth order copy
