-- The coordinates of a font in its name (Technical Note 5902).
use Rattle.std.specs.Prelude.{ℕ, ℤ, if◌then◌else◌, List, [], ◌∷◌, ◌++◌, codes}
use Rattle.std.specs.Ordering.{int_eq}
use Rattle.subsetter_base.specs.declared.tag.Tag.{Tag}
use Rattle.subsetter_variation.specs.Locations.Axes.{clamped}
use Rattle.subsetter_variation.specs.declared.locations.axes.Axis.{Axis}
use Rattle.pdf_names.specs.Decimal.{value_text}
use Rattle.pdf_names.specs.Letters.{letters_and_digits}

-- `_650wght`: the coordinate, and the letters and digits of the tag
unfoldable pub setting_text : Axis → ℤ → List ℕ
setting_text a c = codes "_" ++ (value_text c ++ letters_and_digits a.tag.0)

-- that of an axis, where its coordinate isn't the default
unfoldable pub axis_text : Axis → List (Tag × ℤ) → List ℕ
axis_text a settings = if int_eq (clamped a settings) a.default then [] else setting_text a (clamped a settings)

-- those of axes, in their order
abbrev pub axes_text : List Axis → List (Tag × ℤ) → List ℕ
axes_text [] settings = []
axes_text (a ∷ axes) settings = axis_text a settings ++ axes_text axes settings
