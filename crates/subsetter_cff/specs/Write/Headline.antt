-- The promise of the plain way: where it returns a table, that table read afresh is a subset of the source.
use Rattle.std.specs.Prelude.{◌≡◌, ◌≤◌, ℕ, List, length, Some, Ok}
use Rattle.subsetter_cff.specs.Read.Cff.{Cff, cff_parts}
use Rattle.subsetter_cff.specs.Write.Subset.{IsCffSubset}
use Rattle.subsetter_cff.specs.Write.Plain.{cff_subset}

-- both tables can be read, and one is a subset of the other
pub record IsSubsetTable (bytes : List ℕ) (tokens depth : ℕ) (glyphs out : List ℕ) : Type 0 where
  pub source : Cff
  pub source_is : cff_parts bytes ≡ Some source
  pub copy : Cff
  pub copy_is : cff_parts out ≡ Some copy
  pub kept : IsCffSubset source tokens depth glyphs copy

-- the table that is returned: a subset of the source, and byte for byte the table that is laid out for these glyphs
pub record IsSubsetLaidOut (bytes : List ℕ) (tokens depth : ℕ) (glyphs out : List ℕ) : Type 0 where
  pub subset : IsSubsetTable bytes tokens depth glyphs out
  pub layout : cff_subset bytes tokens depth glyphs ≡ Ok out

-- what is returned is a subset, for every list of numbers, a depth of 1 or more, and 1 to 65535 glyphs
abbrev pub AnsweredIsSubset : Type 0
AnsweredIsSubset =
    (bytes : List ℕ) (tokens depth : ℕ) (glyphs out : List ℕ) → 1 ≤ depth → 1 ≤ length glyphs → length glyphs ≤ 65535
    → cff_subset bytes tokens depth glyphs ≡ Ok out → IsSubsetTable bytes tokens depth glyphs out
