-- Where a font is moved to along its axes (OpenType, "fvar", "MVAR").
use Rattle.std.specs.Prelude.{ℕ, ◌&&◌, if◌then◌else◌, int_le, List, Option, Some, None, ℤ, pos, neg_ℤ, ◌+ℤ◌}
use Rattle.std.specs.Option.{option_copied, option_map, option_map_or}
use Rattle.std.specs.Result.{result_unwrap_or}
use Rattle.subsetter_base.specs.declared.tag.Tag.{Tag}
use Rattle.subsetter_variation.specs.Locations.Axes.{clamped, find_axis}
use Rattle.subsetter_variation.specs.Items.FontMetrics.{metric_delta}
use Rattle.subsetter_variation.specs.Items.ItemVariations.{whole_or_fault}
use Rattle.subsetter_variation.specs.declared.locations.axes.Axis.{Axis}
use Rattle.pdf_values.specs.declared.movement.Movement.{Movement as Given}

-- the normalized coordinates, in 16384ths; the axes, and settings of user coordinates, in 65536ths; and `MVAR`, if it
-- is there
pub record Movement : Type 0 where
  pub at : List ℤ
  pub axes : List Axis
  pub settings : List (Tag × ℤ)
  pub mvar : Option (List ℕ)

abbrev pub movement_view : Given → Movement
movement_view m = record { at = m.at.now; axes = m.axes.now; settings = m.settings.now; mvar = option_copied m.mvar }

-- ---- user coordinates

-- that on this axis, clamped to it, if there is one and the font is moved
abbrev pub coordinate_on : List ℕ → Option Movement → Option ℤ
coordinate_on tag None = None
coordinate_on tag (Some m) = option_map (λ a. clamped a m.settings) (find_axis tag m.axes)

-- ---- metrics

-- what a metric varies by, in whole units; 0 where nothing is there to be read, or the font isn't moved
abbrev pub delta_of : Option Movement → List ℕ → ℤ
delta_of None tag = pos 0
delta_of (Some m) tag =
    option_map_or (λ mvar. result_unwrap_or (whole_or_fault (metric_delta mvar m.at tag)) (pos 0)) m.mvar (pos 0)

-- a sum that a metric can be, else the metric
abbrev pub if_small : ℤ → ℤ → ℤ
if_small sum v = if int_le (neg_ℤ (pos 65536)) sum && int_le sum (pos 65536) then sum else v

-- a metric with what it varies by
unfoldable pub varied : Option Movement → List ℕ → ℤ → ℤ
varied m tag v = if_small (v +ℤ delta_of m tag) v
