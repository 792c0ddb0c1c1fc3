-- The tables that glyphs are added to (OpenType, "glyf", "loca", "head", "maxp", "hhea" and "hmtx").
use Rattle.std.specs.Prelude.{◌≡◌, ℕ, ◌+◌, Bool, not, List, [], ◌∷◌, length, slice_index, codes, Option, Some, ◌==◌}
use Rattle.subsetter_base.specs.Options.{◌>>=◌}
use Rattle.subsetter_sfnt.specs.Fields.Head.{index_to_loc_format}
use Rattle.subsetter_sfnt.specs.Fields.Hhea.{number_of_h_metrics}
use Rattle.subsetter_sfnt.specs.Fields.Hmtx.{metric_in}
use Rattle.subsetter_sfnt.specs.Fields.Loca.{loca_offset}
use Rattle.subsetter_sfnt.specs.Fields.Maxp.{num_glyphs}
use Rattle.subsetter_sfnt.specs.declared.fields.hmtx.LongHorMetric.{LongHorMetric}

-- where offsets of loca are long, how many glyphs there are (numGlyphs), and how many of them have an advance of their
-- own (numberOfHMetrics)
pub record Source : Type 0 where
  pub glyf : List ℕ
  pub loca : List ℕ
  pub head : List ℕ
  pub long : Bool
  pub maxp : List ℕ
  pub count : ℕ
  pub hhea : List ℕ
  pub pairs : ℕ
  pub hmtx : List ℕ

-- the tables that a look-up finds: loca is long where indexToLocFormat isn't 0
unfoldable pub source_in : (List ℕ → Option (List ℕ)) → Option Source
source_in find = do
  glyf ← find (codes "glyf")
  loca ← find (codes "loca")
  head ← find (codes "head")
  format ← index_to_loc_format head
  maxp ← find (codes "maxp")
  count ← num_glyphs maxp
  hhea ← find (codes "hhea")
  pairs ← number_of_h_metrics hhea
  hmtx ← find (codes "hmtx")
  Some (record {
    glyf = glyf;
    loca = loca;
    head = head;
    long = not (format == 0);
    maxp = maxp;
    count = count;
    hhea = hhea;
    pairs = pairs;
    hmtx = hmtx;
  })

-- a look-up gives these values from a number on
abbrev pub AreFrom : {A : Type 0} → (ℕ → Option A) → ℕ → List A → Type 0
AreFrom find at [] = Unit {0}
AreFrom find at (x ∷ xs) = (find at ≡ Some x) × AreFrom find (at + 1) xs

-- where each outline begins, and where the last one ends, which is the end of glyf
pub record AreOffsets (s : Source) (offsets : List ℕ) : Type 0 where
  pub each : AreFrom (loca_offset s.loca s.long) 0 offsets
  pub count : length offsets ≡ s.count + 1
  pub end : slice_index offsets s.count ≡ length s.glyf

-- the metric of each glyph
pub record AreMetrics (s : Source) (metrics : List LongHorMetric) : Type 0 where
  pub each : AreFrom (metric_in s.hmtx s.pairs) 0 metrics
  pub count : length metrics ≡ s.count
