-- The faults that stop a subset in a CFF table, each with its error; and its laws.
use Rattle.std.specs.Prelude.{◌≡◌, ℕ, Contains, List, Some, Ok, Err}
use Rattle.subsetter_base.specs.declared.error.Error.{Error}
use Rattle.subsetter_base.specs.declared.error.Error.TheVariants.{UnknownKind, MalformedFont, Unimplemented}
use Rattle.subsetter_base.specs.declared.error.Error.TheVariants.{SubsetError, OverflowError, CFFError, OutOfMemory}
use Rattle.subsetter_cff.specs.Read.Cff.{Cff, cff_parts}
use Rattle.subsetter_cff.specs.Read.Fault.{HasCffOpeningFault, HasGlyphFault, HasStringFault}
use Rattle.subsetter_cff.specs.Write.Refusals.LimitFault.{HasLimitFault}
use Rattle.subsetter_cff.specs.Write.Plain.{cff_subset}

pub data HasCffFault (bytes : List ℕ) (tokens depth : ℕ) (glyphs : List ℕ) : Error → Type 0 where
  -- the front, the top dict, and what it leads to
  in_opening : {e : Error} → HasCffOpeningFault bytes e → HasCffFault bytes tokens depth glyphs e
  -- a kept glyph
  in_glyph : {e : Error} (cff : Cff) (g : ℕ) → cff_parts bytes ≡ Some cff → Contains glyphs g
      → HasGlyphFault cff tokens depth g e
      → HasCffFault bytes tokens depth glyphs e
  -- the strings of the top dict
  in_strings : {e : Error} (cff : Cff) → cff_parts bytes ≡ Some cff → HasStringFault cff e
      → HasCffFault bytes tokens depth glyphs e
  -- what is too much
  in_limits : {e : Error} (cff : Cff) → cff_parts bytes ≡ Some cff → HasLimitFault cff tokens depth glyphs e
      → HasCffFault bytes tokens depth glyphs e

-- what is refused has a fault with the error that is returned
abbrev pub RefusedHasFault : Type 0
RefusedHasFault =
    (bytes : List ℕ) (tokens depth : ℕ) (glyphs : List ℕ) (e : Error) → cff_subset bytes tokens depth glyphs ≡ Err e
    → HasCffFault bytes tokens depth glyphs e

-- where a table is returned, there is no fault
abbrev pub AnsweredExcludes : Type 0
AnsweredExcludes =
    (bytes : List ℕ) (tokens depth : ℕ) (glyphs out : List ℕ) (e : Error)
    → cff_subset bytes tokens depth glyphs ≡ Ok out → HasCffFault bytes tokens depth glyphs e
    → ⊥

-- the five names of faults; want of memory is none
abbrev pub IsCffError : Error → Type 0
IsCffError MalformedFont = Unit {0}
IsCffError CFFError = Unit {0}
IsCffError Unimplemented = Unit {0}
IsCffError SubsetError = Unit {0}
IsCffError OverflowError = Unit {0}
IsCffError UnknownKind = ⊥
IsCffError OutOfMemory = ⊥

abbrev pub FaultIsNamed : Type 0
FaultIsNamed =
    (bytes : List ℕ) (tokens depth : ℕ) (glyphs : List ℕ) (e : Error) → HasCffFault bytes tokens depth glyphs e
    → IsCffError e
