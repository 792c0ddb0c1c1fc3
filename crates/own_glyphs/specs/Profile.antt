-- `maxp` of more glyphs, of which some are composites (OpenType, "maxp").
use Rattle.std.specs.Prelude.{ℕ, ◌+◌, ◌*◌, List, ◌++◌, length, map, max, take, drop, slice_range, Result, Ok, Err}
use Rattle.std.specs.Prelude.{nat_lt, ◌==◌, if◌then◌else◌}
use Rattle.std.specs.List.{fold}
use Rattle.std.specs.Int.{w16, to_be_bytes}
use Rattle.subsetter_base.specs.Bytes.{be, ◌>>=◌}
use Rattle.subsetter_base.specs.declared.error.Error.{Error}
use Rattle.subsetter_base.specs.declared.error.Error.TheVariants.{MalformedFont, OverflowError}
use Rattle.own_glyphs.specs.declared.glyph.OwnGlyph.{OwnGlyph}
use Rattle.own_glyphs.specs.declared.profile.Limits.{Limits}

-- the most parts of a glyph
abbrev pub most_parts : List OwnGlyph → ℕ
most_parts own = fold max 0 (map (λ (o : OwnGlyph). length o.parts.now) own)

-- a limit has 16 bits
abbrev pub limit : ℕ → Result ℕ Error
limit n = if nat_lt n 65536 then Ok n else Err OverflowError

-- the field of two bytes at a place
abbrev pub field_at : List ℕ → ℕ → ℕ
field_at maxp at = be (take 2 (drop at maxp))

-- With glyphs of `parts` parts, each of which is a glyph of the font: maxCompositePoints (byte 10) and
-- maxCompositeContours (12) are this many times the most points (6, 10) and contours (8, 12) of a glyph,
-- maxComponentElements (28) is at least the parts, and maxComponentDepth (30) is one more.
unfoldable pub limits_of : ℕ → List ℕ → Result Limits Error
limits_of parts maxp = do
  few ← limit parts
  points ← limit (few * max (field_at maxp 6) (field_at maxp 10))
  contours ← limit (few * max (field_at maxp 8) (field_at maxp 12))
  depth ← limit (field_at maxp 30 + 1)
  Ok (record { points = points; contours = contours; elements = max few (field_at maxp 28); depth = depth })

-- `maxp` with another numGlyphs
abbrev pub counted : ℕ → List ℕ → List ℕ
counted n maxp = take 4 maxp ++ to_be_bytes w16 n ++ drop 6 maxp

-- and with these limits
abbrev pub limited : ℕ → Limits → List ℕ → List ℕ
limited n l maxp =
    take 4 maxp ++ to_be_bytes w16 n
    ++ (slice_range maxp 6 10 ++ (to_be_bytes w16 l.points ++ to_be_bytes w16 l.contours) ++ slice_range maxp 14 28)
    ++ (to_be_bytes w16 l.elements ++ to_be_bytes w16 l.depth) ++ drop 32 maxp

-- of version 1.0, which has 32 bytes, where a glyph has parts
unfoldable pub maxp_with : ℕ → ℕ → List ℕ → Result (List ℕ) Error
maxp_with n parts maxp =
    if parts == 0 then Ok (counted n maxp) else if nat_lt (length maxp) 32 then Err MalformedFont else do
      l ← limits_of parts maxp
      Ok (limited n l maxp)
