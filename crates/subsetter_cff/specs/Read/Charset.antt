-- The CID of a glyph (Technical Note 5176, section 13 "Charsets").
use Rattle.std.specs.Prelude.{ℕ, zero, suc, ◌+◌, ◌-◌, ◌*◌, ◌==◌, nat_le, if◌then◌else◌, List, drop, Option, Some, None}
use Rattle.subsetter_cffdata.specs.Bytes.{card}
use Rattle.subsetter_base.specs.Options.{◌>>=◌}
use Rattle.subsetter_base.specs.Bytes.{byte}
use Rattle.subsetter_cff.specs.Read.Cff.{Cff, at_offset}
use Rattle.subsetter_cff.specs.Read.Entries.Operators.{charset_operator}

-- Ranges, a first CID and how many glyphs follow its own: where the glyph lies in them. Each covers a glyph, so glyph +
-- 1 steps are enough.
unfoldable pub in_ranges : ℕ → ℕ → List ℕ → Option ℕ
in_ranges zero glyph bytes = None
in_ranges (suc steps) glyph bytes = do
  first ← card 2 bytes
  left ← card 2 first.1
  if nat_le glyph left.0 then Some (first.0 + glyph) else in_ranges steps (glyph - left.0 - 1) left.1

-- format 0 has the CID of each glyph, format 2 has ranges
unfoldable pub in_format : ℕ → ℕ → List ℕ → Option ℕ
in_format format glyph bytes =
    if format == 0 then (card 2 (drop (2 * glyph) bytes) >>= λ cid. Some cid.0)
    else (if format == 2 then in_ranges (suc glyph) glyph bytes else None)

-- glyph 0 has CID 0, and isn't in the charset
unfoldable pub in_charset : List ℕ → ℕ → Option ℕ
in_charset bytes zero = Some 0
in_charset bytes (suc glyph) = byte bytes >>= λ format. in_format format.0 glyph format.1

unfoldable pub cid_of : Cff → ℕ → Option ℕ
cid_of cff glyph = at_offset cff charset_operator >>= λ bytes. in_charset bytes glyph
