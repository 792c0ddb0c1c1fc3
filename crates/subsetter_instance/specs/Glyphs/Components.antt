-- The components of a composite glyph (OpenType, "glyf": "Composite glyph description").
use Rattle.std.specs.Prelude.{ℕ, zero, suc, ◌+◌, List, [], ◌∷◌, Option, Some, None, Result, Ok, Err, if◌then◌else◌, ℤ}
use Rattle.std.specs.Prelude.{pos, map}
use Rattle.std.specs.Int.{w8, w16, cast_signed}
use Rattle.std.specs.Option.{ok_or, option_map}
use Rattle.subsetter_base.specs.Bytes as bytes
use Rattle.subsetter_base.specs.Bytes.{number, has_flag}
use Rattle.subsetter_base.specs.declared.error.Error.{Error}
use Rattle.subsetter_base.specs.declared.error.Error.TheVariants.{MalformedFont, OverflowError}
use Rattle.subsetter_points.specs.Simple.{after}
use Rattle.subsetter_base.specs.Options.{◌>>=◌}
use Rattle.subsetter_instance.specs.declared.glyphs.components.Arguments.{Arguments}
use Rattle.subsetter_instance.specs.declared.glyphs.components.Arguments.TheVariants.{Offset, Points}
use Rattle.subsetter_instance.specs.declared.glyphs.components.Matrix.{Matrix}
use Rattle.subsetter_instance.specs.declared.glyphs.components.Component.{Component}

-- a number of one byte or of two, with its sign: int8, int16
abbrev pub signed_byte : List ℕ → ℕ → Option ℤ
signed_byte bytes at = option_map (cast_signed w8) (number bytes at 1)

abbrev pub signed_word : List ℕ → ℕ → Option ℤ
signed_word bytes at = option_map (cast_signed w16) (number bytes at 2)

-- ---- argument1 and argument2, after the flags and the glyph

abbrev pub byte_offset : List ℕ → Option Arguments
byte_offset bytes = do
  x ← signed_byte bytes 4
  y ← signed_byte bytes 5
  Some (Offset x y)

abbrev pub word_offset : List ℕ → Option Arguments
word_offset bytes = do
  x ← signed_word bytes 4
  y ← signed_word bytes 6
  Some (Offset x y)

abbrev pub byte_points : List ℕ → Option Arguments
byte_points bytes = do
  parent ← number bytes 4 1
  child ← number bytes 5 1
  Some (Points parent child)

abbrev pub word_points : List ℕ → Option Arguments
word_points bytes = do
  parent ← number bytes 4 2
  child ← number bytes 6 2
  Some (Points parent child)

-- two words where the flags have ARG_1_AND_2_ARE_WORDS, else two bytes; an offset where they have ARGS_ARE_XY_VALUES,
-- else two points
abbrev pub arguments_at : ℕ → List ℕ → Option Arguments
arguments_at flags bytes =
    if has_flag flags 0x0001
    then (if has_flag flags 0x0002 then word_offset bytes else word_points bytes)
    else (if has_flag flags 0x0002 then byte_offset bytes else byte_points bytes)

-- where the arguments of a component end: after two words (ARG_1_AND_2_ARE_WORDS) or two bytes
abbrev pub arguments_end : ℕ → ℕ
arguments_end flags = if has_flag flags 0x0001 then 8 else 6

-- ---- the matrix, of F2DOT14

-- WE_HAVE_A_SCALE: one scale
abbrev pub scale_at : List ℕ → ℕ → Option (Option Matrix)
scale_at bytes at = do
  scale ← signed_word bytes at
  Some (Some (record { xx = scale; yx = pos 0; xy = pos 0; yy = scale }))

-- WE_HAVE_AN_X_AND_Y_SCALE: xscale and yscale
abbrev pub scales_at : List ℕ → ℕ → Option (Option Matrix)
scales_at bytes at = do
  xx ← signed_word bytes at
  yy ← signed_word bytes (at + 2)
  Some (Some (record { xx = xx; yx = pos 0; xy = pos 0; yy = yy }))

-- xscale, scale01, scale10 and yscale
abbrev pub two_by_two_at : List ℕ → ℕ → Option (Option Matrix)
two_by_two_at bytes at = do
  xx ← signed_word bytes at
  yx ← signed_word bytes (at + 2)
  xy ← signed_word bytes (at + 4)
  yy ← signed_word bytes (at + 6)
  Some (Some (record { xx = xx; yx = yx; xy = xy; yy = yy }))

-- WE_HAVE_A_SCALE, WE_HAVE_AN_X_AND_Y_SCALE, WE_HAVE_A_TWO_BY_TWO, or no matrix
abbrev pub matrix_at : ℕ → List ℕ → ℕ → Option (Option Matrix)
matrix_at flags bytes at =
    if has_flag flags 0x0008 then scale_at bytes at
    else if has_flag flags 0x0040 then scales_at bytes at
    else if has_flag flags 0x0080 then two_by_two_at bytes at
    else Some None

-- where the transformation of a component ends
abbrev pub matrix_end : ℕ → ℕ → ℕ
matrix_end flags at =
    at
    + (if has_flag flags 0x0008 then 2 else if has_flag flags 0x0040 then 4 else if has_flag flags 0x0080 then 8 else 0)

-- ---- components

-- the component at the front, and the bytes after it
unfoldable pub component_at : List ℕ → Option (Component × List ℕ)
component_at bytes = do
  flags ← number bytes 0 2
  glyph ← number bytes 2 2
  arguments ← arguments_at flags bytes
  matrix ← matrix_at flags bytes (arguments_end flags)
  rest ← after (matrix_end flags (arguments_end flags)) bytes
  Some (record { flags = flags; glyph = glyph; arguments = arguments; matrix = matrix }, rest)

-- one after another, another one following exactly where the flags have MORE_COMPONENTS. Each takes a step before it is
-- read
unfoldable pub components_at : ℕ → List ℕ → Result (List Component × ℕ) Error
components_at zero rest = Err OverflowError
components_at (suc steps) rest = bytes.◌>>=◌ (ok_or (component_at rest) MalformedFont) (λ c.
    if has_flag c.0.flags 0x0020 then bytes.◌>>=◌ (components_at steps c.1) (λ more. Ok (c.0 ∷ more.0, more.1))
    else Ok (c.0 ∷ [], steps))

-- ---- offsets, as gvar varies them: 0 and 0 where points are matched

abbrev pub offset_x : Arguments → ℤ
offset_x (Offset x y) = x
offset_x (Points parent child) = pos 0

abbrev pub offset_y : Arguments → ℤ
offset_y (Offset x y) = y
offset_y (Points parent child) = pos 0

abbrev pub offset_xs : List Component → List ℤ
offset_xs components = map (λ c. offset_x c.arguments) components

abbrev pub offset_ys : List Component → List ℤ
offset_ys components = map (λ c. offset_y c.arguments) components
