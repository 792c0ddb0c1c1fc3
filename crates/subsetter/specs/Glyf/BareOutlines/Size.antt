-- How many bytes outlines take in a new `glyf`.
use Rattle.std.specs.Prelude.{ℕ, ◌<◌, Bool, List, [], Option, Contains, length, sum_by}
use Rattle.std.specs.Option.{option_and_then, option_map, unwrap_or}
use Rattle.subsetter_base.specs.Indexes.{IsWithoutRepeats}
use Rattle.subsetter.specs.Glyf.BareOutlines.Bare.{requested_parts}
use Rattle.subsetter.specs.Glyf.Parts.{outline_parts, parts_bytes}
use Rattle.subsetter.specs.Glyf.Reaching.Reach.{IsReachableBy}

-- the bytes of an outline's parts, with instructions if they are asked for; 0 where it has no parts. New numbers of
-- components take as many bytes as the old ones
abbrev pub requested_size : Bool → Option (List ℕ) → ℕ
requested_size hinting outline =
    length (unwrap_or (option_map parts_bytes (requested_parts hinting (option_and_then outline_parts outline))) [])

-- the outlines of glyphs together
abbrev pub requested_sizes : Bool → (ℕ → Option (List ℕ)) → List ℕ → ℕ
requested_sizes hinting outline_of glyphs = sum_by (λ g. requested_size hinting (outline_of g)) glyphs

-- the outlines of some of the reached glyphs, each counted once, take more than `most` bytes
pub record AreLonger (hinting : Bool) (outline_of : ℕ → Option (List ℕ)) (glyphs : List ℕ) (most : ℕ) : Type 0 where
  pub part : List ℕ
  pub once : IsWithoutRepeats part
  pub reached : (g : ℕ) → Contains part g → IsReachableBy outline_of glyphs g
  pub longer : most < requested_sizes hinting outline_of part
