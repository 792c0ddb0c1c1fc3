-- A subset of a subset of a CFF table: the laws of doing it twice.
use Rattle.std.specs.Prelude.{◌≡◌, ◌≤◌, ◌<◌, ℕ, true, List, length, map, slice_index, Some, Ok}
use Rattle.std.specs.List.{AllByRecursion}
use Rattle.subsetter_base.specs.declared.error.Error.{Error}
use Rattle.subsetter_base.specs.declared.error.Error.TheVariants.{MalformedFont}
use Rattle.subsetter_cff.specs.Read.Cff.{Cff, cff_parts, char_strings, is_cid_keyed}
use Rattle.subsetter_cff.specs.Write.Subset.{IsCffSubset}
use Rattle.subsetter_cff.specs.Write.Headline.{IsSubsetTable}
use Rattle.subsetter_cff.specs.Read.Fault.{HasGlyphFault}
use Rattle.subsetter_cff.specs.Write.Refusals.CffFault.{HasCffFault}
use Rattle.subsetter_cff.specs.Write.Plain.{cff_subset}

-- the glyphs of the first font: glyph i of the second subset is glyph first[second[i]]
abbrev pub composed : List ℕ → List ℕ → List ℕ
composed first second = map (slice_index first) second

-- numbers of glyphs that a subset has which was made for the glyphs `first`
abbrev pub AreGlyphs : List ℕ → List ℕ → Type 0
AreGlyphs first second = AllByRecursion (λ g. g < length first) second

-- all of n glyphs in order: 0, 1, up to n - 1
pub record AreAll (n : ℕ) (all : List ℕ) : Type 0 where
  pub count : length all ≡ n
  pub each : (i : ℕ) → i < n → slice_index all i ≡ i

-- ---- read afresh, of any font, without any layout
-- a subset of a subset is a subset of the first font
abbrev pub IsComposed : Type 0
IsComposed =
    (font copy again : Cff) (tokens depth : ℕ) (first second : List ℕ) → IsCffSubset font tokens depth first copy
    → IsCffSubset copy tokens depth second again
    → AreGlyphs first second × IsCffSubset font tokens depth (composed first second) again

-- the same of the bytes of three tables
abbrev pub TablesCompose : Type 0
TablesCompose =
    (bytes out again : List ℕ) (tokens depth : ℕ) (first second : List ℕ) → IsSubsetTable bytes tokens depth first out
    → IsSubsetTable out tokens depth second again
    → AreGlyphs first second × IsSubsetTable bytes tokens depth (composed first second) again

-- a subset of all glyphs in order has the same charstrings
abbrev pub KeepsAllCharStrings : Type 0
KeepsAllCharStrings =
    (font copy again : Cff) (tokens depth : ℕ) (first all : List ℕ) → IsCffSubset font tokens depth first copy
    → AreAll (length first) all → IsCffSubset copy tokens depth all again
    → char_strings again ≡ char_strings copy

-- both tables can be read, and have the same charstrings
pub record HaveSameCharStrings (a b : List ℕ) : Type 0 where
  pub one : Cff
  pub one_is : cff_parts a ≡ Some one
  pub other : Cff
  pub other_is : cff_parts b ≡ Some other
  pub same : char_strings other ≡ char_strings one

-- the same of the bytes of three tables
abbrev pub TablesKeepAllCharStrings : Type 0
TablesKeepAllCharStrings =
    (bytes out again : List ℕ) (tokens depth : ℕ) (first all : List ℕ) → IsSubsetTable bytes tokens depth first out
    → AreAll (length first) all → IsSubsetTable out tokens depth all again
    → HaveSameCharStrings out again

-- ---- the table that is returned, of a CID-keyed font
-- 1 to 65535 glyphs, and a depth of 1 or more
pub record IsRequested (depth : ℕ) (glyphs : List ℕ) : Type 0 where
  pub deep : 1 ≤ depth
  pub some : 1 ≤ length glyphs
  pub few : length glyphs ≤ 65535

-- the subset of the subset is that of the first font, byte for byte, and is refused where that is, by the same error
abbrev pub IsSameTable : Type 0
IsSameTable =
    (bytes : List ℕ) (cff : Cff) (tokens depth : ℕ) (first second out : List ℕ) → IsRequested depth first
    → cff_parts bytes ≡ Some cff → is_cid_keyed cff ≡ true
    → cff_subset bytes tokens depth first ≡ Ok out → AreGlyphs first second
    → cff_subset out tokens depth second ≡ cff_subset bytes tokens depth (composed first second)

-- all glyphs in order give the table back: none is refused, and no byte is another
abbrev pub IsGivenBack : Type 0
IsGivenBack =
    (bytes : List ℕ) (cff : Cff) (tokens depth : ℕ) (first all out : List ℕ) → IsRequested depth first
    → cff_parts bytes ≡ Some cff → is_cid_keyed cff ≡ true
    → cff_subset bytes tokens depth first ≡ Ok out → AreAll (length first) all
    → cff_subset out tokens depth all ≡ Ok out

-- the table has no fault, for all its glyphs
abbrev pub HasNoFaultAgain : Type 0
HasNoFaultAgain =
    (bytes : List ℕ) (cff : Cff) (tokens depth : ℕ) (first all out : List ℕ) (e : Error) → IsRequested depth first
    → cff_parts bytes ≡ Some cff → is_cid_keyed cff ≡ true
    → cff_subset bytes tokens depth first ≡ Ok out → AreAll (length first) all → HasCffFault out tokens depth all e → ⊥

-- ---- of any font, so also of one that isn't CID-keyed
-- what is returned for all glyphs of a subset is given back from then on
abbrev pub StaysFromThenOn : Type 0
StaysFromThenOn = (bytes : List ℕ) (tokens depth : ℕ) (first all out again : List ℕ) → IsRequested depth first
    → cff_subset bytes tokens depth first ≡ Ok out → AreAll (length first) all
    → cff_subset out tokens depth all ≡ Ok again
    → cff_subset again tokens depth all ≡ Ok again

-- what is returned for all glyphs of a subset has its charstrings, and is given back from then on
abbrev pub AnsweredAgain : Type 0
AnsweredAgain = (bytes : List ℕ) (tokens depth : ℕ) (first all out again : List ℕ) → IsRequested depth first
    → cff_subset bytes tokens depth first ≡ Ok out → AreAll (length first) all
    → cff_subset out tokens depth all ≡ Ok again
    → HaveSameCharStrings out again × (cff_subset again tokens depth all ≡ Ok again)

-- a glyph that a subset hasn't is a fault in it
abbrev pub UnknownIsFault : Type 0
UnknownIsFault =
    (font copy : Cff) (tokens depth glyph : ℕ) (glyphs : List ℕ) → IsCffSubset font tokens depth glyphs copy
    → length glyphs ≤ glyph
    → HasGlyphFault copy tokens depth glyph MalformedFont
