-- The metrics of `hhea` and `post` that vary (OpenType, "MVAR", "hhea" and "post"), and the angle of `post` ("fvar").
use Rattle.std.specs.Prelude.{ℕ, Bool, ◌+◌, List, ◌++◌, length, take, drop, slice_range, codes, Option, Some, None}
use Rattle.std.specs.Prelude.{Result, Ok, nat_lt, if◌then◌else◌, ℤ, pos, ◌+ℤ◌}
use Rattle.std.specs.Int.{w32, cast_unsigned, to_be_bytes}
use Rattle.std.specs.List.{list_all}
use Rattle.std.specs.Option.{ok_or, option_and_then, option_map}
use Rattle.std.specs.Ordering.{int_eq}
use Rattle.std.specs.Str.{bytes_eq}
use Rattle.subsetter_base.specs.Bytes.{◌>>=◌, signed_at}
use Rattle.subsetter_base.specs.declared.error.Error.{Error}
use Rattle.subsetter_base.specs.declared.error.Error.TheVariants.{MalformedFont}
use Rattle.subsetter_base.specs.declared.tag.Tag.{Tag}
use Rattle.subsetter_points.specs.Simple.{signed_word}
use Rattle.subsetter_variation.specs.Items.FontMetrics.{metric_delta}
use Rattle.subsetter_variation.specs.Items.ItemVariations.{whole_or_fault}
use Rattle.subsetter_variation.specs.Locations.Axes.{axes, clamped, find_axis}
use Rattle.subsetter_instance.specs.Glyphs.Drawn.{word_or_fault}

-- a number with what MVAR varies the metric of a tag by, which has 16 bits
abbrev pub varied : List ℕ → List ℤ → List ℕ → ℤ → Result ℤ Error
varied mvar at tag before = whole_or_fault (metric_delta mvar at tag) >>= λ d. word_or_fault (before +ℤ d)

-- ---- hhea

-- three numbers from a place on, by their tags
unfoldable pub three_lines : List ℕ → List ℤ → List ℕ → ℕ → List ℕ → List ℕ → List ℕ → Result (ℤ × ℤ × ℤ) Error
three_lines mvar at hhea place a b c = do
  first ← varied mvar at a (signed_at hhea place)
  second ← varied mvar at b (signed_at hhea (place + 2))
  third ← varied mvar at c (signed_at hhea (place + 4))
  Ok (first, second, third)

abbrev pub line_bytes : ℤ × ℤ × ℤ → List ℕ
line_bytes l = signed_word l.0 ++ signed_word l.1 ++ signed_word l.2

abbrev pub moved_hhea : List ℕ → ℤ × ℤ × ℤ → ℤ × ℤ × ℤ → List ℕ
moved_hhea hhea lines caret =
    take 4 hhea ++ line_bytes lines ++ slice_range hhea 10 18 ++ line_bytes caret ++ drop 24 hhea

-- ascender, descender and lineGap, and caretSlopeRise, caretSlopeRun and caretOffset; without MVAR nothing varies
unfoldable pub varied_hhea : Option (List ℕ) → List ℤ → List ℕ → Result (List ℕ) Error
varied_hhea None at hhea = Ok hhea
varied_hhea (Some mvar) at hhea = do
  lines ← three_lines mvar at hhea 4 (codes "hasc") (codes "hdsc") (codes "hlgp")
  caret ← three_lines mvar at hhea 18 (codes "hcrs") (codes "hcrn") (codes "hcof")
  Ok (moved_hhea hhea lines caret)

-- ---- post

abbrev pub moved_post : List ℕ → ℤ → ℤ → List ℕ
moved_post post position thickness = take 8 post ++ signed_word position ++ signed_word thickness ++ drop 12 post

-- underlinePosition and underlineThickness
unfoldable pub varied_underline : List ℕ → List ℤ → List ℕ → Result (List ℕ) Error
varied_underline mvar at post = do
  position ← varied mvar at (codes "undo") (signed_at post 8)
  thickness ← varied mvar at (codes "unds") (signed_at post 10)
  Ok (moved_post post position thickness)

-- a table that ends before they do stays
abbrev pub varied_post : Option (List ℕ) → List ℤ → List ℕ → Result (List ℕ) Error
varied_post None at post = Ok post
varied_post (Some mvar) at post = if nat_lt (length post) 12 then Ok post else varied_underline mvar at post

abbrev pub varied_post_if : Option (List ℕ) → List ℤ → Option (List ℕ) → Result (Option (List ℕ)) Error
varied_post_if mvar at None = Ok None
varied_post_if mvar at (Some post) = varied_post mvar at post >>= λ new. Ok (Some new)

-- ---- the slant

-- italicAngle of post is the coordinate on `slnt`, whose scale is that of post.italicAngle (OpenType, "Registered
-- design-variation axis tag: 'slnt'"), where the font has this axis; in 65536ths of a degree
abbrev pub slant_by : Option (List ℕ) → List (Tag × ℤ) → Option ℤ
slant_by fvar settings =
    option_map (λ a. clamped a settings) (option_and_then (find_axis (codes "slnt")) (option_and_then axes fvar))

-- the default: each coordinate is 0
abbrev pub is_default : List ℤ → Bool
is_default at = list_all (λ c. int_eq c (pos 0)) at

-- italicAngle by `slnt`, off the default
abbrev pub slant : (List ℕ → Option (List ℕ)) → List (Tag × ℤ) → List ℤ → Option ℤ
slant find settings at = if is_default at then None else slant_by (find (codes "fvar")) settings

-- a table that ends before it does stays
abbrev pub with_angle : ℤ → List ℕ → List ℕ
with_angle angle post =
    if nat_lt (length post) 8 then post else take 4 post ++ to_be_bytes w32 (cast_unsigned w32 angle) ++ drop 8 post

abbrev pub slanted : Option ℤ → Option (List ℕ) → Option (List ℕ)
slanted None post = post
slanted (Some angle) post = option_map (with_angle angle) post

-- ---- both

pub record Lines : Type 0 where
  pub hhea : List ℕ
  pub post : Option (List ℕ)

-- of the tables that a look-up finds
unfoldable pub lines_of : (List ℕ → Option (List ℕ)) → List (Tag × ℤ) → List ℤ → Result Lines Error
lines_of find settings at = do
  hhea ← ok_or (find (codes "hhea")) MalformedFont
  new ← varied_hhea (find (codes "MVAR")) at hhea
  post ← varied_post_if (find (codes "MVAR")) at (find (codes "post"))
  Ok (record { hhea = new; post = slanted (slant find settings at) post })

-- the tables, these two as they vary
abbrev pub with_lines : (List ℕ → Option (List ℕ)) → Lines → List ℕ → Option (List ℕ)
with_lines find lines tag =
    if bytes_eq tag (codes "hhea") then Some lines.hhea
    else if bytes_eq tag (codes "post") then lines.post
    else find tag
