-- Own glyphs as outlines (OpenType, "glyf": glyph header, composite glyph description).
use Rattle.std.specs.Prelude.{ℕ, Bool, true, List, [], ◌∷◌, ◌++◌, length, Option, Some, None, Result, Ok, Err, nat_lt}
use Rattle.std.specs.Prelude.{nat_le, if◌then◌else◌, ℤ, pos, ◌+ℤ◌}
use Rattle.std.specs.List.{fold}
use Rattle.std.specs.Option.{ok_or}
use Rattle.std.specs.Int.{int_max, int_min}
use Rattle.subsetter_base.specs.Bytes.{signed_at, ◌>>=◌}
use Rattle.subsetter_base.specs.declared.error.Error.{Error}
use Rattle.subsetter_base.specs.declared.error.Error.TheVariants.{MalformedFont, OverflowError}
use Rattle.subsetter_points.specs.Bounds.{bounds_bytes}
use Rattle.subsetter_points.specs.Simple.{has_16_bits, signed_word}
use Rattle.subsetter_points.specs.declared.bounds.Bounds.{Bounds}
use Rattle.subsetter.specs.Glyf.Read.{Outlines, outline_in}
use Rattle.subsetter.specs.Glyf.Parts.{Component, Composite, Empty, Parts}
use Rattle.own_glyphs.specs.declared.glyph.OwnGlyph.{OwnGlyph}
use Rattle.own_glyphs.specs.declared.glyph.Part.{Part}
use Rattle.own_glyphs.specs.Source.{Source}

-- ---- the box of a part

-- xMin, yMin, xMax and yMax of a header of ten bytes
abbrev pub header_box : List ℕ → Bounds
header_box bytes =
    record {
      x_min = signed_at bytes 2;
      y_min = signed_at bytes 4;
      x_max = signed_at bytes 6;
      y_max = signed_at bytes 8;
    }

-- an empty outline has no box
abbrev pub box_in : List ℕ → Option (Option Bounds)
box_in [] = Some None
box_in (b ∷ bytes) = if nat_le 10 (length (b ∷ bytes)) then Some (Some (header_box (b ∷ bytes))) else None

-- a side, moved, has 16 bits
abbrev pub moved : ℤ → ℤ → Result ℤ Error
moved side by = if has_16_bits (side +ℤ by) then Ok (side +ℤ by) else Err OverflowError

abbrev pub moved_box : Option Bounds → Part → Result (Option Bounds) Error
moved_box None p = Ok None
moved_box (Some b) p = do
  x_min ← moved b.x_min p.x
  y_min ← moved b.y_min p.y
  x_max ← moved b.x_max p.x
  y_max ← moved b.y_max p.y
  Ok (Some (record { x_min = x_min; y_min = y_min; x_max = x_max; y_max = y_max }))

-- the tables that outlines are read from
abbrev pub tables : Source → Outlines
tables s = record { loca = s.loca; glyf = s.glyf; head = s.head; long = s.long; hinting = true }

-- the outline of one of the font's glyphs
abbrev pub outline_of : Source → ℕ → Option (List ℕ)
outline_of s g = if nat_lt g s.count then outline_in (tables s) g else None

-- the box of a part, none where its glyph is empty
unfoldable pub part_box : Source → Part → Result (Option Bounds) Error
part_box s p = do
  bytes ← ok_or (outline_of s p.glyph) MalformedFont
  found ← ok_or (box_in bytes) MalformedFont
  moved_box found p

-- ---- the box of a glyph

-- the least box around two
abbrev pub both : Bounds → Bounds → Bounds
both a b =
    record {
      x_min = int_min a.x_min b.x_min;
      y_min = int_min a.y_min b.y_min;
      x_max = int_max a.x_max b.x_max;
      y_max = int_max a.y_max b.y_max;
    }

abbrev pub joined : Option Bounds → Option Bounds → Option Bounds
joined None b = b
joined (Some a) None = Some a
joined (Some a) (Some b) = Some (both a b)

abbrev pub part_boxes : Source → List Part → Result (List (Option Bounds)) Error
part_boxes s [] = Ok []
part_boxes s (p ∷ parts) = do
  first ← part_box s p
  rest ← part_boxes s parts
  Ok (first ∷ rest)

-- the least box around boxes and one before them
abbrev pub around : Option Bounds → Result (List (Option Bounds)) Error → Result (Option Bounds) Error
around before boxes = boxes >>= λ bs. Ok (fold joined before bs)

-- that of the parts, at 0 where none has one
abbrev pub box_or_zero : Option Bounds → Bounds
box_or_zero None = record { x_min = pos 0; y_min = pos 0; x_max = pos 0; y_max = pos 0 }
box_or_zero (Some b) = b

unfoldable pub own_box : Source → List Part → Result Bounds Error
own_box s parts = do
  found ← around None (part_boxes s parts)
  Ok (box_or_zero found)

-- the boxes of own glyphs
abbrev pub own_boxes : Source → List OwnGlyph → Result (List Bounds) Error
own_boxes s [] = Ok []
own_boxes s (o ∷ own) = do
  first ← own_box s o.parts.now
  rest ← own_boxes s own
  Ok (first ∷ rest)

-- ---- written

-- a part as a component: ARG_1_AND_2_ARE_WORDS, ARGS_ARE_XY_VALUES, and MORE_COMPONENTS where another follows
abbrev pub component_of : Bool → Part → Component
component_of more p =
    record { flags = if more then 0x0023 else 0x0003; glyph = p.glyph; rest = signed_word p.x ++ signed_word p.y }

abbrev pub components : List Part → List Component
components [] = []
components (p ∷ parts) = component_of (nat_lt 0 (length parts)) p ∷ components parts

-- numberOfContours is -1
abbrev pub header_bytes : Bounds → List ℕ
header_bytes b = 0xFF ∷ 0xFF ∷ bounds_bytes b

-- a glyph without parts is empty
abbrev pub own_parts : List Part → Bounds → Parts
own_parts [] b = Empty
own_parts (p ∷ parts) b = Composite (header_bytes b) (record { components = components (p ∷ parts); tail = [] })
