-- The outlines of a TrueType font (OpenType, "glyf" and "loca").
use Rattle.std.specs.Prelude.{ℕ, ◌+◌, ◌*◌, Bool, not, List, codes, Option, Some, ◌==◌, if◌then◌else◌}
use Rattle.std.specs.Option.{option_and_then, option_map}
use Rattle.subsetter_base.specs.Bytes.{number, between_offsets}
use Rattle.subsetter_base.specs.Options.{◌>>=◌}
use Rattle.subsetter_sfnt.specs.Read.{Font, table}

-- the tables that outlines are read from
pub record Outlines : Type 0 where
  pub loca : List ℕ
  pub glyf : List ℕ
  pub head : List ℕ
  pub long : Bool
  -- whether instructions are asked for
  pub hinting : Bool

-- loca is in the long format where the number at byte 50 of head is not 0
unfoldable pub outlines_in : Bool → (List ℕ → Option (List ℕ)) → Option Outlines
outlines_in hinting find = do
  loca ← find (codes "loca")
  glyf ← find (codes "glyf")
  head ← find (codes "head")
  format ← number head 50 2
  Some (record { loca = loca; glyf = glyf; head = head; long = not (format == 0); hinting = hinting })

abbrev pub outlines : Font → Option Outlines
outlines font = outlines_in font.extras.hinting (table font)

-- how many bytes an entry of loca has
abbrev pub entry_size : Bool → ℕ
entry_size long = if long then 4 else 2

-- an entry of loca: an offset, or half of it
abbrev pub offset : Outlines → ℕ → Option ℕ
offset t g = if t.long then number t.loca (4 * g) 4 else option_map (λ half. 2 * half) (number t.loca (2 * g) 2)

unfoldable pub outline_in : Outlines → ℕ → Option (List ℕ)
outline_in t g =
    option_and_then (λ from. option_and_then (λ to. between_offsets t.glyf from to) (offset t (g + 1))) (offset t g)

-- the outline of a glyph: the bytes of glyf between its entry of loca and the next
abbrev pub outline : Font → ℕ → Option (List ℕ)
outline font g = option_and_then (λ t. outline_in t g) (outlines font)
