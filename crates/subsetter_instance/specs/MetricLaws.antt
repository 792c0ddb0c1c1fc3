-- Laws of advances and of the metrics of `hhea` and `post`, at a master and at the default (OpenType, "HVAR" and
-- "MVAR"), and of what is drawn at the default.
use Rattle.std.specs.Prelude.{◌≡◌, ◌≤◌, ℕ, ◌==◌, ◌&&◌, false, List, length, codes, Option, Some, None, Ok, All, ℤ, pos}
use Rattle.std.specs.Prelude.{◌+ℤ◌, ◌≤ℤ◌}
use Rattle.subsetter_base.specs.Bytes.{IsBytes}
use Rattle.subsetter_base.specs.declared.tag.Tag.{Tag}
use Rattle.subsetter_variation.specs.Items.FontMetrics.{metric_store, value_of}
use Rattle.subsetter_variation.specs.Items.ItemLaws.{HasBoundRegions, IsMaster}
use Rattle.subsetter_variation.specs.Items.ItemVariations.{Row, Store, delta, item_row}
use Rattle.subsetter_variation.specs.Items.Advances.{advance_index, store_of}
use Rattle.subsetter_variation.specs.Glyphs.Movement.{Outline}
use Rattle.subsetter_variation.specs.Glyphs.Tuples.{Gvar}
use Rattle.subsetter_variation.specs.VariationLaws.{HasBoundTuples}
use Rattle.subsetter_instance.specs.Glyphs.Drawn.{Drawn, advance, drawn}
use Rattle.subsetter_instance.specs.Laws.{unvaried}
use Rattle.subsetter_instance.specs.Tables.Lines.{Lines, lines_of, varied}
use Rattle.subsetter_instance.specs.Source.{Source, metric}
use Rattle.subsetter_instance.specs.Glyphs.Unfolded.{counted_description, is_composite}
use Rattle.subsetter_sfnt.specs.declared.fields.hmtx.LongHorMetric.{LongHorMetric}

-- ---- items

-- in a store, the row of an item by its indexes, which aren't those that say that nothing varies
pub record IsRow (s : Store) (index : ℕ × ℕ) (r : Row) : Type 0 where
  pub varies : (index.0 == 65535 && index.1 == 65535) ≡ false
  pub row_is : item_row s index.0 index.1 ≡ Some r

-- in HVAR, in a font with `axes` axes, the row of a glyph's advance
pub record IsAdvanceRow (hvar : List ℕ) (axes g : ℕ) (s : Store) (r : Row) : Type 0 where
  pub store_is : store_of hvar axes ≡ Some s
  pub index : ℕ × ℕ
  pub index_is : advance_index hvar g ≡ Some index
  pub row : IsRow s index r

-- in MVAR, the row of the metric of a tag
pub record IsMetricRow (mvar : List ℕ) (axes : ℕ) (tag : List ℕ) (s : Store) (r : Row) : Type 0 where
  pub index : ℕ × ℕ
  pub index_is : value_of mvar tag ≡ Some (Some index)
  pub store_is : metric_store mvar axes ≡ Some s
  pub row : IsRow s index r

-- ---- advances

-- by HVAR the advance of a glyph is at a master what hmtx has and the delta for it, where that isn't under 0
abbrev pub IsAdvanceAtMaster : Type 0
IsAdvanceAtMaster =
    (hvar : List ℕ) (at : List ℤ) (g before a : ℕ) (width d : ℤ) (s : Store) (r : Row) (k : ℕ)
    → IsAdvanceRow hvar (length at) g s r → IsMaster s at r k → delta r k ≡ Some d → pos 0 ≤ℤ (pos before +ℤ d)
    → advance (Some hvar) at g before width ≡ Ok a → pos a ≡ pos before +ℤ d

-- and at the default what hmtx has, if each region of its row has an axis that isn't ignored
abbrev pub IsAdvanceAtDefault : Type 0
IsAdvanceAtDefault =
    (hvar : List ℕ) (at : List ℤ) (g before a : ℕ) (width : ℤ) → All (λ c. c ≡ pos 0) at
    → ((s : Store) (r : Row) → IsAdvanceRow hvar (length at) g s r → HasBoundRegions s r (length at))
    → advance (Some hvar) at g before width ≡ Ok a → a ≡ before

-- without HVAR too, of a simple glyph, if each tuple has such an axis
abbrev pub IsSimpleAdvanceAtDefault : Type 0
IsSimpleAdvanceAtDefault =
    (s : Source) (at : List ℤ) (steps g : ℕ) (bytes : List ℕ) (m : LongHorMetric) (d : Drawn) → All (λ c. c ≡ pos 0) at
    → ((t : Gvar) (h : ℕ) (o : Outline) → s.gvar ≡ Some t → HasBoundTuples t h o (length at)) → s.hvar ≡ None
    → counted_description s g ≡ Some bytes → is_composite bytes ≡ false → metric s g ≡ Some m
    → drawn s at steps g ≡ Ok d
    → d.advance ≡ m.advance_width

-- ---- metrics

-- by MVAR the metric of a tag is at a master what its table has and the delta for it
abbrev pub IsMetricAtMaster : Type 0
IsMetricAtMaster =
    (mvar : List ℕ) (at : List ℤ) (tag : List ℕ) (before d v : ℤ) (s : Store) (r : Row) (k : ℕ)
    → IsMetricRow mvar (length at) tag s r → IsMaster s at r k → delta r k ≡ Some d → varied mvar at tag before ≡ Ok v
    → v ≡ before +ℤ d

-- and at the default what its table has
abbrev pub IsMetricAtDefault : Type 0
IsMetricAtDefault =
    (mvar : List ℕ) (at : List ℤ) (tag : List ℕ) (before v : ℤ) → All (λ c. c ≡ pos 0) at
    → ((s : Store) (r : Row) → IsMetricRow mvar (length at) tag s r → HasBoundRegions s r (length at))
    → varied mvar at tag before ≡ Ok v
    → v ≡ before

-- at the default hhea, which isn't cut, and post are as they are in the source
abbrev pub AreLinesAtDefault : Type 0
AreLinesAtDefault =
    (find : List ℕ → Option (List ℕ)) (settings : List (Tag × ℤ)) (at : List ℤ) (l : Lines)
    → ((tag bytes : List ℕ) → find tag ≡ Some bytes → IsBytes bytes)
    → ((hhea : List ℕ) → find (codes "hhea") ≡ Some hhea → 36 ≤ length hhea) → All (λ c. c ≡ pos 0) at
    → ((mvar tag : List ℕ) (s : Store) (r : Row) → find (codes "MVAR") ≡ Some mvar
    → IsMetricRow mvar (length at) tag s r
    → HasBoundRegions s r (length at))
    → lines_of find settings at ≡ Ok l
    → (find (codes "hhea") ≡ Some l.hhea) × (l.post ≡ find (codes "post"))

-- ---- outlines

-- at the default what is drawn of a glyph, its components unrolled, is what is drawn without variations of outlines, if
-- each tuple has an axis that isn't ignored
abbrev pub IsDrawnAsUnvaried : Type 0
IsDrawnAsUnvaried =
    (s : Source) (at : List ℤ) (steps more g : ℕ) (d e : Drawn) → All (λ c. c ≡ pos 0) at
    → ((t : Gvar) (h : ℕ) (o : Outline) → s.gvar ≡ Some t → HasBoundTuples t h o (length at))
    → drawn s at steps g ≡ Ok d → drawn (unvaried s) at more g ≡ Ok e
    → d ≡ e
