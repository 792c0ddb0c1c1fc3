-- The file of a static font, read afresh.
use Rattle.std.proofs.Common.{◌≡◌, ℕ, ◌≤◌, ◌<◌, ◌^◌, false, List, [], length, Option, Some, None, ℤ, refl, sym, ap, subst, ◌∙◌, arith}
use Rattle.std.specs.Prelude.{codes, slice_range, Contains, IfSome}
use Rattle.std.specs.Option.{unwrap_or}
use Rattle.std.specs.Str.{bytes_eq}
use Rattle.subsetter_base.specs.Bytes.{IsBytes}
use Rattle.subsetter_base.specs.declared.tag.Tag.{Tag}
use Rattle.subsetter_base.proofs.ByteLemmas.{number-fits, number-small}
use Rattle.subsetter_base.proofs.Options.{just_is}
use Rattle.subsetter_sfnt.specs.declared.fields.hmtx.LongHorMetric.{LongHorMetric}
use Rattle.subsetter_sfnt.specs.declared.flavor.FontFlavor.TheVariants.{Cff}
use Rattle.subsetter_sfnt.specs.Container.{IsSoundContainer}
use Rattle.subsetter_sfnt.specs.Fields.Head.{units_per_em, y_max}
use Rattle.subsetter_sfnt.specs.Fields.Hhea.{number_of_h_metrics}
use Rattle.subsetter_sfnt.specs.Fields.Maxp.{num_glyphs}
use Rattle.subsetter_sfnt.specs.Read.{Font, as_font, stored}
use Rattle.subsetter_sfnt.specs.Laying.Rows.{FontTables, bytes_of, rows, present}
use Rattle.subsetter_sfnt.specs.Laying.Written.{with_adjustment, file, kind_word}
use Rattle.subsetter_sfnt.proofs.Laws.Back.{word_of}
use Rattle.subsetter_sfnt.proofs.Laws.LayingLaws.Laid.{row_back, head_row_back, rows_sound}
use Rattle.subsetter_sfnt.proofs.Laws.LayingLaws.Rows.{HasRoom, lookup_row, some_table}
use Rattle.subsetter_sfnt.proofs.Laws.LayingLaws.TableBytes.{stored_bytes}
use Rattle.subsetter_instance.specs.Instance.{HasBytes, KeepsBytes, KeepsTable, KeepsHeader}
use Rattle.subsetter_instance.specs.Tables.Lines.{with_lines}
use Rattle.subsetter_instance.proofs.FileLaws.Lines.{lines_long}
use Rattle.subsetter_instance.proofs.FileLaws.Metrics.{pairs_back, hhea_length, hhea_front, hhea_extremes, hhea_middle, hhea_end}
use Rattle.subsetter_points.specs.declared.bounds.Bounds.{Bounds}
use Rattle.subsetter_instance.specs.declared.tables.extremes.Extents.{Extents}
use Rattle.subsetter_instance.specs.Tables.Extremes.{box_bytes}
use Rattle.subsetter_cff_at.specs.Boxes.{table_boxes}
use Rattle.subsetter_cff_at.specs.Promise.{IsTableAt}
use Rattle.subsetter_cff_at.proofs.Promised.{made_is_table}
use Rattle.subsetter_cff_instance.specs.CffInstance.{HasMetricAt}
use Rattle.subsetter_cff_instance.specs.Boxes.{all_extents, among, drawn_metrics, with_bearing}
use Rattle.subsetter_cff_instance.specs.Metrics.{metrics_by_glyph, no_metric}
use Rattle.subsetter_cff_instance.specs.Plain.{request_at}
use Rattle.subsetter_cff_instance.specs.Source.{Source, metric, source_in}
use Rattle.subsetter_cff_instance.specs.Tables.{hmtx_of, extreme_bytes, head_bytes, hhea_bytes, tables, tags_with}
use Rattle.subsetter_cff_instance.proofs.FileLaws.Head.{head_length, head_front, head_middle, head_box, head_end, head_units, top_there, has_room}
use Rattle.subsetter_cff_instance.proofs.FaultLaws.Source.{top_fits}
use Rattle.subsetter_cff_instance.proofs.FileLaws.Metrics.{is_asked, not_among, length-by_glyph, box_fits, drawn_small, no_metric_small, drawn_is, metric_back, eight_bytes}
use Rattle.subsetter_cff_instance.proofs.FileLaws.Request.{is_request}
use Rattle.subsetter_cff_instance.proofs.Steps.{SourceSteps, source_steps, CffSteps}

-- the tables of a file in which no advance varies
source_by : (find : List ℕ → Option (List ℕ)) (maxp : List ℕ) (count : ℕ) (head : List ℕ) (units : ℕ) (top : ℤ) (hhea : List ℕ) (pairs : ℕ) (hmtx : List ℕ) → find (codes "maxp") ≡ Some maxp → num_glyphs maxp ≡ Some count → find (codes "head") ≡ Some head → units_per_em head ≡ Some units
    → y_max (Some head) ≡ Some top → find (codes "hhea") ≡ Some hhea → number_of_h_metrics hhea ≡ Some pairs → find (codes "hmtx") ≡ Some hmtx → find (codes "HVAR") ≡ None
    → source_in find ≡ Some (record { maxp = maxp; count = count; head = head; units_per_em = units; number_of_h_metrics = pairs; hmtx = hmtx; hvar = None })
unfolding source_in
source_by find maxp count head units top hhea pairs hmtx a b c d e f g h i = rw (a, b, c, d, e, f, g, h, i) refl

module _ (font : Font) (settings : List (Tag × ℤ)) (glyphs : List ℕ) (tokens depth : ℕ) (out : List ℕ) (bytes : IsBytes font.bytes) (i : CffSteps (stored font) settings glyphs tokens depth out) where
  abbrev source : Source
  source = i.p.source

  abbrev count : ℕ
  count = i.p.source.count

  abbrev metrics : List LongHorMetric
  metrics = i.p.metrics

  abbrev hhea : List ℕ
  hhea = i.p.lines.hhea

  -- the tables of the font, hhea and post as they vary
  abbrev find : List ℕ → Option (List ℕ)
  find = with_lines (stored font) i.p.lines

  -- the metrics of all glyphs, the boxes of the new charstrings, and the extents of what they draw
  abbrev all : List (Option LongHorMetric)
  all = metrics_by_glyph glyphs metrics count

  abbrev boxes : List (Option Bounds)
  boxes = table_boxes i.cff

  abbrev pub extents : Option Extents
  extents = all_extents all boxes

  abbrev hmtx : List ℕ
  hmtx = hmtx_of (drawn_metrics all boxes)

  abbrev laid : FontTables
  laid = tables find i.cff (head_bytes extents source.head) (hhea_bytes count metrics extents hhea) hmtx source.maxp

  abbrev pub made : List ℕ
  made = file (kind_word Cff) (present (rows laid))

  abbrev word : ℕ
  word = word_of (kind_word Cff) (present (rows laid))

  -- ---- the source

  read : SourceSteps (stored font) source
  read = source_steps (stored font) source i.steps.source_is

  long_head : 44 ≤ length source.head
  long_head = top_fits source.head read.top read.top_is

  long_hhea : 36 ≤ length hhea
  long_hhea = lines_long (stored font) settings i.p.at i.p.lines (subst (λ (o : Option (List ℕ)). IfSome o (λ h. 36 ≤ length h)) (sym read.hhea_is) (number-fits read.hhea 34 2 source.number_of_h_metrics read.pairs_are)) i.steps.lines_are

  few : count < 2 ^ 16
  few = number-small source.maxp 4 count (stored_bytes font (codes "maxp") source.maxp bytes read.maxp_is) read.count_is

  eight : length (extreme_bytes metrics extents) ≡ 8
  eight = eight_bytes metrics extents

  -- ---- the tables

  with_room : HasRoom laid.head
  with_room = has_room extents source.head long_head

  back : (tag : List ℕ) → bytes_eq tag (codes "head") ≡ false → stored (as_font made) tag ≡ bytes_of tag (rows laid)
  back tag other = row_back Cff laid with_room i.fit tag other

  abbrev new_head : List ℕ
  new_head = with_adjustment word (head_bytes extents source.head)

  head_back : stored (as_font made) (codes "head") ≡ Some new_head
  head_back = head_row_back Cff laid with_room i.fit

  pub container : IsSoundContainer made (kind_word Cff) (tags_with find)
  container =
      let some = some_table (codes "CFF ") i.cff (present (rows laid)) (lookup_row laid (codes "CFF ")) in
      rows_sound Cff laid with_room i.fit (tables find [] [] [] [] []) some (record { cff = refl; cvt = refl; fpgm = refl; glyf = refl; head = refl; hhea = refl; hmtx = refl; loca = refl; maxp = refl; name = refl; post = refl; prep = refl })

  pub alone : stored (as_font made) (codes "glyf") ≡ None
  alone = back (codes "glyf") refl

  abbrev new_hhea : List ℕ
  new_hhea = hhea_bytes count metrics extents hhea

  -- the file's own tables
  abbrev pub afresh : Source
  afresh = record { maxp = source.maxp; count = count; head = new_head; units_per_em = source.units_per_em; number_of_h_metrics = count; hmtx = hmtx; hvar = None }

  new_top : (top : ℤ) × (y_max (Some new_head) ≡ Some top)
  new_top = top_there new_head (omega (arith, head_length word extents source.head long_head, long_head))

  pub read_back : source_in (stored (as_font made)) ≡ Some afresh
  read_back =
      source_by (stored (as_font made)) source.maxp count new_head source.units_per_em new_top.0 new_hhea count hmtx (back (codes "maxp") refl) read.count_is head_back (head_units word extents source.head long_head ∙ read.units_are) new_top.1
      (back (codes "hhea") refl) (pairs_back count (extreme_bytes metrics extents) hhea eight long_hhea few) (back (codes "hmtx") refl) (back (codes "HVAR") refl)

  -- ---- the outlines

  pub table_back : stored (as_font made) (codes "CFF ") ≡ Some i.cff
  table_back = back (codes "CFF ") refl

  pub outlines : IsTableAt i.cff2 (request_at glyphs i.p) tokens depth i.cff
  outlines = made_is_table i.cff2 (request_at glyphs i.p) tokens depth i.cff (is_request glyphs i.p few) i.cff_is

  -- ---- metrics

  pub asked_for : (g : ℕ) → Contains glyphs g → HasMetricAt source afresh i.p.at boxes g
  asked_for g there =
      let a = is_asked source i.p.at glyphs metrics g i.steps.metrics_are there in
      let small = drawn_small source i.p.at g (among boxes g) a.it (stored_bytes font (codes "hmtx") source.hmtx bytes read.hmtx_is) a.varied_is (box_fits i.cff g) in
      let is = ap (λ (o : Option LongHorMetric). unwrap_or o no_metric) (drawn_is glyphs metrics boxes count g (Some a.it) a.below a.among) in
      record { it = a.it; varied_is = a.varied_is; reads = metric_back afresh all boxes count g (with_bearing (among boxes g) a.it) refl refl (length-by_glyph glyphs metrics count) a.below is small }

  pub others : (g : ℕ) → g < count → (Contains glyphs g → ⊥) → metric afresh g ≡ Some no_metric
  others g lt none =
      metric_back afresh all boxes count g no_metric refl refl (length-by_glyph glyphs metrics count) lt (ap (λ (o : Option LongHorMetric). unwrap_or o no_metric) (drawn_is glyphs metrics boxes count g None lt (not_among glyphs metrics g none))) no_metric_small

  -- ---- headers

  pub keeps_head : KeepsHeader (stored font) (as_font made) (codes "head") 8 44
  keeps_head = record { source = source.head; source_is = read.head_is; copy = new_head; copy_is = head_back; same_length = head_length word extents source.head long_head; front = head_front word extents source.head long_head; end = head_end word extents source.head long_head }

  pub keeps_hhea : KeepsHeader find (as_font made) (codes "hhea") 10 36
  keeps_hhea = record {
    source = hhea;
    source_is = refl;
    copy = new_hhea;
    copy_is = back (codes "hhea") refl;
    same_length = hhea_length count (extreme_bytes metrics extents) hhea eight long_hhea;
    front = hhea_front count (extreme_bytes metrics extents) hhea eight long_hhea;
    end = hhea_end count (extreme_bytes metrics extents) hhea eight long_hhea;
  }

  new_head_is : (copy : List ℕ) → stored (as_font made) (codes "head") ≡ Some copy → copy ≡ new_head
  new_head_is copy c = just_is copy new_head (sym c ∙ head_back)

  pub keeps_head_middle : KeepsBytes (stored font) (as_font made) (codes "head") 12 36
  keeps_head_middle from copy s c =
      ap (λ (l : List ℕ). slice_range l 12 36) (new_head_is copy c) ∙ head_middle word extents source.head long_head ∙ ap (λ (l : List ℕ). slice_range l 12 36) (just_is source.head from (sym read.head_is ∙ s))

  pub has_head_box : HasBytes (as_font made) (codes "head") 36 44 (box_bytes extents)
  has_head_box copy c = ap (λ (l : List ℕ). slice_range l 36 44) (new_head_is copy c) ∙ head_box word extents source.head long_head

  new_hhea_is : (copy : List ℕ) → stored (as_font made) (codes "hhea") ≡ Some copy → copy ≡ new_hhea
  new_hhea_is copy c = just_is copy new_hhea (sym c ∙ back (codes "hhea") refl)

  pub has_extremes : HasBytes (as_font made) (codes "hhea") 10 18 (extreme_bytes metrics extents)
  has_extremes copy c = ap (λ (l : List ℕ). slice_range l 10 18) (new_hhea_is copy c) ∙ hhea_extremes count (extreme_bytes metrics extents) hhea eight long_hhea

  pub keeps_middle : KeepsBytes find (as_font made) (codes "hhea") 18 34
  keeps_middle source copy s c =
      ap (λ (l : List ℕ). slice_range l 18 34) (new_hhea_is copy c) ∙ hhea_middle count (extreme_bytes metrics extents) hhea eight long_hhea ∙ ap (λ (l : List ℕ). slice_range l 18 34) (just_is hhea source s)

  pub keeps_maxp : KeepsTable (stored font) (as_font made) (codes "maxp")
  keeps_maxp = back (codes "maxp") refl ∙ sym read.maxp_is

  pub keeps_name : KeepsTable (stored font) (as_font made) (codes "name")
  keeps_name = back (codes "name") refl

  pub keeps_post : KeepsTable find (as_font made) (codes "post")
  keeps_post = back (codes "post") refl
