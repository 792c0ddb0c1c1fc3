-- The plain functions make what a subset keeps.
use Rattle.std.specs.Prelude.{◌≡◌, ℕ, List, Ok}
use Rattle.subsetter_cff.specs.Read.Cff.{Cff}
use Rattle.subsetter_cff.specs.Write.Made.{IsMade}
use Rattle.subsetter_cff.specs.Write.Laying.Layout.{Parts}
use Rattle.subsetter_cff.specs.Write.Plain.{parts_of}

-- the parts that are returned are made of the source
abbrev pub PartsAreMade : Type 0
PartsAreMade =
    (cff : Cff) (tokens depth : ℕ) (glyphs : List ℕ) (p : Parts) → parts_of cff tokens depth glyphs ≡ Ok p
    → IsMade cff tokens depth glyphs p
