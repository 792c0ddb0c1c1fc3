-- Outlines without their instructions (OpenType, "glyf": simple glyph description, composite glyph description).
use Rattle.std.specs.Prelude.{ℕ, ◌+◌, ◌*◌, Bool, true, false, List, [], ◌∷◌, ◌++◌, take, map, Option, Some, bit_and}
use Rattle.std.specs.Option.{option_and_then, option_map, unwrap_or}
use Rattle.subsetter_base.specs.Bytes.{number, from_offset}
use Rattle.subsetter_base.specs.Options.{◌>>=◌}
use Rattle.subsetter_sfnt.specs.Read.{Font}
use Rattle.subsetter.specs.Glyf.Read.{outline}
use Rattle.subsetter.specs.Glyf.Parts.{Component, Chain, Parts, Empty, Simple, Composite, outline_parts}

-- the bytes before a place, the length 0, and what is after the instructions whose length is at that place
abbrev pub bare_at : List ℕ → ℕ → Option (List ℕ)
bare_at bytes at = do
  size ← number bytes at 2
  following ← from_offset bytes (at + 2 + size)
  Some (take at bytes ++ 0 ∷ 0 ∷ following)

-- a simple outline: its number of contours is at its start, and the length of its instructions after ten bytes of head
-- and two for each contour
abbrev pub bare_found : List ℕ → Option (List ℕ)
bare_found bytes = do
  contours ← number bytes 0 2
  bare_at bytes (10 + 2 * contours)

-- without its instructions; as it is where these aren't all there
unfoldable pub bare_simple : List ℕ → List ℕ
bare_simple bytes = unwrap_or (bare_found bytes) bytes

-- a simple outline as far as it is asked for
abbrev pub requested_simple : Bool → List ℕ → List ℕ
requested_simple true bytes = bytes
requested_simple false bytes = bare_simple bytes

-- flags, without WE_HAVE_INSTRUCTIONS where instructions aren't asked for
abbrev pub requested_flags : Bool → ℕ → ℕ
requested_flags true flags = flags
requested_flags false flags = bit_and flags 0xFEFF

abbrev pub requested_component : Bool → Component → Component
requested_component hinting c = record { flags = requested_flags hinting c.flags; glyph = c.glyph; rest = c.rest }

-- the bytes after the last component are instructions
abbrev pub requested_tail : Bool → List ℕ → List ℕ
requested_tail true tail = tail
requested_tail false tail = []

abbrev pub requested_chain : Bool → Chain → Chain
requested_chain hinting chain =
    record { components = map (requested_component hinting) chain.components; tail = requested_tail hinting chain.tail }

-- parts without instructions
abbrev pub bare : Parts → Parts
bare Empty = Empty
bare (Simple bytes) = Simple (bare_simple bytes)
bare (Composite head chain) = Composite head (requested_chain false chain)

-- parts as far as they are asked for
abbrev pub requested_parts : Bool → Option Parts → Option Parts
requested_parts true found = found
requested_parts false found = option_map bare found

-- the parts of a glyph's outline, as far as they are asked for
abbrev pub glyph_parts : Font → ℕ → Option Parts
glyph_parts font g = requested_parts font.extras.hinting (option_and_then outline_parts (outline font g))
