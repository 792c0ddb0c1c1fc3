-- The faults of the description of a glyph and of its metric (OpenType, "maxp", "loca", "glyf", "hhea" and "hmtx").
-- Each has the error `MalformedFont`.
use Rattle.std.specs.Prelude.{◌≡◌, ◌≤◌, ◌<◌, ℕ, ◌+◌, ◌-◌, ◌*◌, length, Some, if◌then◌else◌}
use Rattle.subsetter_instance.specs.Source.{Source, offset}

-- of the description of a glyph: the bytes of glyf between its offset in loca and the one after it
pub data HasDescriptionFault (s : Source) (g : ℕ) : Type 0 where
  -- numGlyphs of maxp isn't more
  past_count : s.count ≤ g → HasDescriptionFault s g
  -- the second offset goes past the end of loca; one has four bytes, or two in the short format
  cut_loca : length s.loca < (g + 2) * (if s.long then 4 else 2) → HasDescriptionFault s g
  -- the offsets descend
  descending : (from to : ℕ) → offset s g ≡ Some from → offset s (g + 1) ≡ Some to → to < from → HasDescriptionFault s g
  -- the second one is past the end of glyf
  past_glyf : (to : ℕ) → offset s (g + 1) ≡ Some to → length s.glyf < to → HasDescriptionFault s g

-- of its metric: numberOfHMetrics pairs of an advance and a left side bearing, and bearings after them
pub data HasHmtxFault (s : Source) (g : ℕ) : Type 0 where
  -- numberOfHMetrics is 0
  no_pairs : s.number_of_h_metrics ≡ 0 → HasHmtxFault s g
  -- the glyph's pair goes past the end of hmtx
  cut_pair : g < s.number_of_h_metrics → length s.hmtx < 4 * g + 4 → HasHmtxFault s g
  -- or its bearing, where it has no pair of its own
  cut_bearing : s.number_of_h_metrics ≤ g
      → length s.hmtx < 4 * s.number_of_h_metrics + 2 * (g - s.number_of_h_metrics) + 2
      → HasHmtxFault s g
