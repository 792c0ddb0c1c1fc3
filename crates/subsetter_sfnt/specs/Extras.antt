-- What of a font is asked for besides its outlines and its metrics.
use Rattle.std.specs.Prelude.{ℕ, List, [], ◌∷◌, ◌++◌, length, take, drop, codes, Bool, true, false, ◌||◌, Option, None}
use Rattle.std.specs.Prelude.{nat_le, if◌then◌else◌}
use Rattle.std.specs.Option.{option_map}
use Rattle.std.specs.Str.{bytes_eq}
use Rattle.std.specs.Int.{w32, to_be_bytes}
use Rattle.subsetter_sfnt.specs.declared.extras.Extras.{Extras}

-- hints, names and glyph names
abbrev pub all_extras : Extras
all_extras = record { hinting = true; names = true; glyph_names = true }

-- the programs that instructions of outlines call
abbrev pub is_hinting_table : List ℕ → Bool
is_hinting_table tag = bytes_eq tag (codes "cvt ") || (bytes_eq tag (codes "fpgm") || bytes_eq tag (codes "prep"))

-- `post` without the names of glyphs: its header of 32 bytes under version 3.0, which has nothing else (OpenType,
-- "post"); a table that is shorter stays
abbrev pub without_glyph_names : List ℕ → List ℕ
without_glyph_names bytes =
    if nat_le 32 (length bytes) then to_be_bytes w32 0x00030000 ++ take 28 (drop 4 bytes) else bytes

-- maxZones 1, and 0 for maxTwilightPoints, maxStorage, maxFunctionDefs, maxInstructionDefs, maxStackElements and
-- maxSizeOfInstructions
abbrev pub no_instructions : List ℕ
no_instructions = 0 ∷ 1 ∷ 0 ∷ 0 ∷ 0 ∷ 0 ∷ 0 ∷ 0 ∷ 0 ∷ 0 ∷ 0 ∷ 0 ∷ 0 ∷ 0 ∷ []

-- the fields of `maxp` after numGlyphs, for outlines without instructions (OpenType, "maxp"): of version 1.0 those that
-- bound instructions are 0, and there is one zone; fields that end before these do stay
abbrev pub bare_fields : List ℕ → List ℕ
bare_fields fields = if nat_le 22 (length fields) then take 8 fields ++ no_instructions ++ drop 22 fields else fields

-- `maxp` for outlines without instructions
abbrev pub without_instructions : List ℕ → List ℕ
without_instructions maxp = take 6 maxp ++ bare_fields (drop 6 maxp)

-- a table of a tag, where hinting is asked for or not
abbrev pub by_hinting : Bool → List ℕ → Option (List ℕ) → Option (List ℕ)
by_hinting true tag found = found
by_hinting false tag found =
    if is_hinting_table tag then None
    else if bytes_eq tag (codes "maxp") then option_map without_instructions found
    else found

-- `name` only where names are asked for
abbrev pub by_names : Bool → List ℕ → Option (List ℕ) → Option (List ℕ)
by_names true tag found = found
by_names false tag found = if bytes_eq tag (codes "name") then None else found

-- and the names of glyphs
abbrev pub by_glyph_names : Bool → List ℕ → Option (List ℕ) → Option (List ℕ)
by_glyph_names true tag found = found
by_glyph_names false tag found = if bytes_eq tag (codes "post") then option_map without_glyph_names found else found

-- the tables that a look-up finds, as far as they are asked for
abbrev pub requested : Extras → (List ℕ → Option (List ℕ)) → List ℕ → Option (List ℕ)
requested x find tag = by_glyph_names x.glyph_names tag (by_names x.names tag (by_hinting x.hinting tag (find tag)))
