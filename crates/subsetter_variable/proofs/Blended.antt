-- A subset of the font with outlines in `CFF ` that is made of outlines in CFF2, read afresh: the glyphs that were asked for and no other,
-- each as it is blended.
use Rattle.std.proofs.Common.{◌≡◌, ℕ, ◌<◌, Bool, List, [], length, map, get_or, Option, Some, None, Result, Ok, Err, ℤ, refl, sym, ap, subst, ◌∙◌, inl, inr, arith}
use Rattle.std.specs.Prelude.{codes, slice_get, Contains, IfOk, not, ◌==◌}
use Rattle.std.specs.Option.{option_and_then, option_map, unwrap_or}
use Rattle.std.proofs.lemmas.List.{get_or_default}
use Rattle.std.proofs.lemmas.Option.{slice_get_within}
use Rattle.subsetter_base.specs.Bytes.{number}
use Rattle.subsetter_base.specs.declared.tag.Tag.{Tag}
use Rattle.subsetter_base.specs.declared.error.Error.{Error}
use Rattle.subsetter_base.proofs.Options.{just_is, is_some_of, bind_some}
use Rattle.subsetter_cffdata.specs.Numerals.Numbers.{Number, Integer}
use Rattle.subsetter_cffdata.specs.Numerals.Values.{value}
use Rattle.subsetter_cffdata.specs.Reals.Decimals.{Decimal}
use Rattle.subsetter_type2.specs.Flat.{flat}
use Rattle.subsetter_type2.specs.Runs.Machine.{Trace, Outcome, Finishes, Stops, outcome, trace, trace_of}
use Rattle.subsetter_type2.proofs.TraceLimits.{same_trace}
use Rattle.subsetter_sfnt.specs.declared.extras.Extras.{Extras}
use Rattle.subsetter_sfnt.specs.declared.fields.hmtx.LongHorMetric.{LongHorMetric}
use Rattle.subsetter_sfnt.specs.declared.flavor.FontFlavor.{FontFlavor}
use Rattle.subsetter_sfnt.specs.declared.flavor.FontFlavor.TheVariants.{Cff as CffKind}
use Rattle.subsetter_sfnt.specs.FontAt.{font_at}
use Rattle.subsetter_sfnt.specs.Read.{Font, as_font, stored, table, flavor}
use Rattle.subsetter_cff.specs.Read.Cff.{Cff, char_string}
use Rattle.subsetter_cff.specs.Read.Entries.Lookup.{last_of}
use Rattle.subsetter_cff.specs.Read.Entries.Matrices.{matrix_pair, own_matrix, matrices, stated_matrices, unit_matrix, zero_box}
use Rattle.subsetter_cff.specs.Read.Entries.Operators.{font_matrix_operator}
use Rattle.subsetter_cff.specs.Read.FdArray.Private.{Private, private_of}
use Rattle.subsetter_cff.specs.Read.GlyphTrace.{library, glyph_trace}
use Rattle.subsetter_cff.specs.Write.Headline.{IsSubsetTable}
use Rattle.subsetter_cff.specs.Write.Subset.{KeepsGlyph, IsCffSubset}
use Rattle.subsetter.specs.Cff.Read.{KeepsCharStrings}
use Rattle.subsetter.specs.Common.Hmtx.Read as hmtx
use Rattle.subsetter.specs.Glyf.Read.{Outlines, outlines, outlines_in}
use Rattle.subsetter.specs.Subset.{IsSubset, KeepsDrawing, by_outlines, by_charstrings}
use Rattle.subsetter.proofs.TwoLimits.{only_given}
use Rattle.subsetter_blend.specs.Laws.{cost}
use Rattle.subsetter_blend.specs.Writing.Written.{written_events}
use Rattle.subsetter_cff2.specs.Made2.{new_matrix}
use Rattle.subsetter_cff_at.specs.Promise.{DrawsGlyph}
use Rattle.subsetter_cff_at.specs.Request.{Request}
use Rattle.subsetter_cff_instance.specs.CffInstance.{IsCffInstance, HasMetricAt}
use Rattle.subsetter_boxes.specs.CharstringBox.{charstring_box}
use Rattle.subsetter_boxes.specs.Joined.{font_box, least_box}
use Rattle.subsetter_points.specs.declared.bounds.Bounds.{Bounds}
use Rattle.subsetter_cff_at.specs.Boxes.{table_boxes}
use Rattle.subsetter_cff_instance.specs.Boxes.{among, with_bearing}
use Rattle.subsetter_cff_instance.specs.Plain.{Prepared, request_at}
use Rattle.subsetter_cff_instance.specs.Source.{metric}
use Rattle.subsetter_cff_instance.proofs.FileLaws.Boxes.{box_there, boxes_are, boxes_many, no_box_there}
use Rattle.subsetter_cff_instance.proofs.FileLaws.Metrics.{advance_asked}
use Rattle.subsetter_cff_instance.proofs.Steps.{SourceSteps, source_steps}
use Rattle.subsetter_variable.specs.Blended.{BlendedSource, IsBlendedAs, HasGlyphsBlended}
use Rattle.subsetter_variable.specs.DefaultLocation.{IsCff2Font, IsStaticFile}
use Rattle.subsetter_variable.specs.Subset.{whole}
use Rattle.subsetter_variable.proofs.SourceRead.{plain, same_table}
use Rattle.subsetter_variable.proofs.Static.{cff2_stays}

-- ---- traces

finishes : (o : Outcome) (u : Trace) → trace_of o ≡ Some u → o ≡ Finishes u
finishes (Finishes t) u h = ap Finishes (just_is t u h)
finishes (Stops e) u h = absurd cc

module _ (cff : Cff) (glyph : ℕ) where
  -- what a glyph's trace is found by
  record IsRun (n deep : ℕ) (u : Trace) : Type 0 where
    bytes : List ℕ
    bytes_are : char_string cff glyph ≡ Some bytes
    private : Private
    private_is : private_of cff glyph ≡ Some private
    runs : trace (library cff private) n deep bytes ≡ Some u

  is_run : (n deep : ℕ) (u : Trace) → glyph_trace cff n deep glyph ≡ Some u → IsRun n deep u
  unfolding glyph_trace
  is_run n deep u h =
      let a = bind_some (char_string cff glyph) (λ bytes. option_and_then (λ private. trace (library cff private) n deep bytes) (private_of cff glyph)) u h in
      let b = bind_some (private_of cff glyph) (λ private. trace (library cff private) n deep a.0) u a.2 in
      record { bytes = a.0; bytes_are = a.1; private = b.0; private_is = b.1; runs = b.2 }

  -- at whatever limits
  one_glyph_trace : (n deep more deeper : ℕ) (u v : Trace) → glyph_trace cff n deep glyph ≡ Some u → glyph_trace cff more deeper glyph ≡ Some v → u ≡ v
  one_glyph_trace n deep more deeper u v h k =
      let a = is_run n deep u h in
      let b = is_run more deeper v k in
      let bytes : b.bytes ≡ a.bytes = just_is b.bytes a.bytes (sym b.bytes_are ∙ a.bytes_are) in
      let private : b.private ≡ a.private = just_is b.private a.private (sym b.private_is ∙ a.private_is) in
      let there : trace (library cff a.private) more deeper a.bytes ≡ Some v = ap (λ (p : Private). trace (library cff p) more deeper a.bytes) (sym private) ∙ ap (λ (l : List ℕ). trace (library cff b.private) more deeper l) (sym bytes) ∙ b.runs in
      same_trace (library cff a.private) n more deep deeper a.bytes u v (finishes (outcome (library cff a.private) n deep a.bytes) u a.runs) (finishes (outcome (library cff a.private) more deeper a.bytes) v there)

  trace_there : (n deep : ℕ) (bytes : List ℕ) (private : Private) (u : Trace) → char_string cff glyph ≡ Some bytes → private_of cff glyph ≡ Some private → trace (library cff private) n deep bytes ≡ Some u → glyph_trace cff n deep glyph ≡ Some u
  unfolding glyph_trace
  trace_there n deep bytes private u c p h = rw (c, p) h

  -- ---- matrices

  -- those that are stated count
  stated_count : (pair : List Decimal × List Decimal) → stated_matrices cff glyph ≡ Some pair → matrices cff glyph ≡ Some pair
  unfolding stated_matrices matrices
  stated_count pair h =
      let top = last_of font_matrix_operator cff.top in
      let a = bind_some top (λ t. option_and_then (λ there. option_and_then (λ own. Some (map value t, map value own)) there) (own_matrix cff glyph)) pair h in
      let b = bind_some (own_matrix cff glyph) (λ there. option_and_then (λ own. Some (map value a.0, map value own)) there) pair a.2 in
      let c = bind_some b.0 (λ own. Some (map value a.0, map value own)) pair b.2 in
      ap (λ (t : Option (List Number)). option_map (matrix_pair t) (own_matrix cff glyph)) a.1 ∙ ap (option_map (matrix_pair (Some a.0))) b.1 ∙ ap (λ (o : Option (List Number)). option_map (matrix_pair (Some a.0)) (Some o)) c.1 ∙ c.2

-- of a font with outlines in `CFF ` these are kept
kept_charstrings : (tokens depth : ℕ) (font : Font) (order : List ℕ) (out : Font) (kind : FontFlavor) → KeepsDrawing tokens depth font order out kind → flavor font ≡ Some kind → flavor font ≡ Some CffKind → KeepsCharStrings tokens depth font order out
kept_charstrings tokens depth font order out _ (by_outlines k) h t = let both = sym h ∙ t in absurd cc
kept_charstrings tokens depth font order out _ (by_charstrings k) h t = k

-- without `glyf` there are no TrueType outlines
nothing : {A B : Type 0} (f : A → Option B) (o : Option A) → ((a : A) → f a ≡ None) → option_and_then f o ≡ None
nothing f None h = refl
nothing f (Some a) h = h a

module _ (hinting : Bool) (find : List ℕ → Option (List ℕ)) where
  abbrev after_glyf : List ℕ → List ℕ → Option Outlines
  after_glyf loca glyf = option_and_then (λ head. option_and_then (λ format. Some (record { loca = loca; glyf = glyf; head = head; long = not (format == 0); hinting = hinting })) (number head 50 2)) (find (codes "head"))

  without : find (codes "glyf") ≡ None → outlines_in hinting find ≡ None
  unfolding outlines_in
  without none = nothing (λ loca. option_and_then (after_glyf loca) (find (codes "glyf"))) (find (codes "loca")) (λ loca. ap (option_and_then (after_glyf loca)) none)

module _ (font : Font) (settings : List (Tag × ℤ)) (glyphs file : List ℕ) (x : Extras) (i : IsCffInstance font settings glyphs file) where
  -- ---- the tables of the file

  no_glyf_there : table (font_at file 0 x) (codes "glyf") ≡ None
  no_glyf_there = same_table file x (codes "glyf") (plain refl refl refl refl) ∙ i.alone

  cff_there : table (font_at file 0 x) (codes "CFF ") ≡ Some i.table
  cff_there = same_table file x (codes "CFF ") (plain refl refl refl refl) ∙ i.table_is

  is_cff : flavor (font_at file 0 x) ≡ Some CffKind
  is_cff = rw (no_glyf_there, cff_there) refl

  no_outlines_there : outlines (font_at file 0 x) ≡ None
  no_outlines_there = without x.hinting (table (font_at file 0 x)) no_glyf_there

  read : SourceSteps (stored (as_font file)) i.out
  read = source_steps (stored (as_font file)) i.out i.out_is

  hmtx_there : table (font_at file 0 x) (codes "hmtx") ≡ Some i.out.hmtx
  hmtx_there = same_table file x (codes "hmtx") (plain refl refl refl refl) ∙ read.hmtx_is

  hhea_there : table (font_at file 0 x) (codes "hhea") ≡ Some read.hhea
  hhea_there = same_table file x (codes "hhea") (plain refl refl refl refl) ∙ read.hhea_is

  metric_there : (g : ℕ) (m : LongHorMetric) → metric i.out g ≡ Some m → hmtx.metric (font_at file 0 x) g ≡ Some m
  unfolding metric hmtx.metric_of
  metric_there g m h = rw (hhea_there, hmtx_there, read.pairs_are) h

  -- ---- the glyphs

  abbrev prepared : Prepared
  prepared = record { at = i.at; source = i.source; metrics = i.metrics; lines = i.lines }

  abbrev request : Request
  request = request_at glyphs prepared

  abbrev source : BlendedSource
  source = record { outlines = i.outlines.source; variation = i.outlines.variation; metrics = i.source; at = i.at; tokens = i.tokens; depth = i.depth }

  module _ (tokens depth : ℕ) (out : List ℕ) (s : IsSubset tokens depth (font_at file 0 x) glyphs out) where
    order_is : s.keeps.order ≡ glyphs
    order_is = only_given (font_at file 0 x) glyphs no_outlines_there s.keeps.order s.keeps.is_order

    cff_kept : KeepsCharStrings tokens depth (font_at file 0 x) glyphs (as_font out)
    cff_kept = subst (λ (l : List ℕ). KeepsCharStrings tokens depth (font_at file 0 x) l (as_font out)) order_is (kept_charstrings tokens depth (font_at file 0 x) s.keeps.order (as_font out) s.keeps.kind s.keeps.drawing s.keeps.kind_is is_cff)

    metrics_kept : hmtx.KeepsMetrics (table (font_at file 0 x)) glyphs (table (as_font out))
    metrics_kept = subst (λ (l : List ℕ). hmtx.KeepsMetrics (table (font_at file 0 x)) l (table (as_font out))) order_is (s.keeps.shared.metrics (is_some_of (table (font_at file 0 x) (codes "hmtx")) i.out.hmtx hmtx_there))

    subset_table : IsSubsetTable i.table tokens depth glyphs cff_kept.copy
    subset_table = subst (λ (l : List ℕ). IsSubsetTable l tokens depth glyphs cff_kept.copy) (just_is cff_kept.source i.table (sym cff_kept.source_is ∙ cff_there)) cff_kept.kept

    kept : IsCffSubset i.outlines.copy tokens depth glyphs subset_table.copy
    kept = subst (λ (c : Cff). IsCffSubset c tokens depth glyphs subset_table.copy) (just_is subset_table.source i.outlines.copy (sym subset_table.source_is ∙ i.outlines.copy_is)) subset_table.kept

    module _ (k : ℕ) (lt : k < length glyphs) where
      asked_here : Contains glyphs (get_or glyphs k 0)
      asked_here = (k, lt, get_or_default glyphs k (get_or glyphs k 0) 0 lt)

      metric_here : HasMetricAt i.source i.out i.at (table_boxes i.table) (get_or glyphs k 0)
      metric_here = i.requests (get_or glyphs k 0) asked_here

      requested_here : slice_get request.glyphs (get_or glyphs k 0) ≡ Some (Some metric_here.it.advance_width)
      requested_here = advance_asked i.source i.at glyphs i.metrics (get_or glyphs k 0) metric_here.it i.metrics_are asked_here metric_here.varied_is

      draws_here : DrawsGlyph i.outlines.source i.outlines.variation i.tokens i.depth (get_or glyphs k 0) metric_here.it.advance_width i.outlines.copy
      draws_here = i.outlines.drawn (get_or glyphs k 0) metric_here.it.advance_width requested_here

      keeps_here : KeepsGlyph i.outlines.copy subset_table.copy tokens depth (get_or glyphs k 0) k
      keeps_here = kept.kept k lt

      abbrev trace_here : Trace
      trace_here = record { events = written_events draws_here.drawn.written.whole; left = [] }

      same_drawing : keeps_here.drawing.what ≡ trace_here
      same_drawing =
          let n = cost (written_events draws_here.drawn.written.whole) in
          one_glyph_trace i.outlines.copy (get_or glyphs k 0) tokens depth n 1 keeps_here.drawing.what trace_here keeps_here.drawing.source_is (draws_here.trace_is n 1 (omega arith) (omega arith))

      bytes_here : char_string subset_table.copy k ≡ Some draws_here.bytes
      bytes_here = keeps_here.flat_bytes ∙ ap (λ (t : Trace). Some (flat t)) same_drawing ∙ ap (λ (l : List ℕ). Some l) (sym draws_here.drawn.written.flat_is)

      box_here : among (table_boxes i.table) (get_or glyphs k 0) ≡ charstring_box draws_here.bytes
      box_here = box_there i.cff2 glyphs prepared i.tokens i.depth i.table i.outlines (get_or glyphs k 0) draws_here.bytes draws_here.bytes_are

      metrics_here : hmtx.metric (as_font out) k ≡ Some (with_bearing (charstring_box draws_here.bytes) metric_here.it)
      metrics_here =
          let m = metrics_kept.metrics k lt in
          m.copy ∙ sym m.source ∙ metric_there (get_or glyphs k 0) (with_bearing (among (table_boxes i.table) (get_or glyphs k 0)) metric_here.it) metric_here.reads
          ∙ ap (λ (b : Option Bounds). Some (with_bearing b metric_here.it)) box_here

      same_box : (bytes : List ℕ) → char_string subset_table.copy k ≡ Some bytes → among (table_boxes i.table) (get_or glyphs k 0) ≡ charstring_box bytes
      same_box bytes h = box_here ∙ ap charstring_box (just_is draws_here.bytes bytes (sym bytes_here ∙ h))

      glyph_blended : IsBlendedAs source (get_or glyphs k 0) (as_font out) subset_table.copy k
      glyph_blended = record {
        its = metric_here.it;
        varied_is = metric_here.varied_is;
        metric_is = metrics_here;
        private = draws_here.private;
        private_is = draws_here.private_is;
        location = draws_here.at_location;
        location_is = draws_here.at_location_is;
        entries_are = keeps_here.private.copy_is ∙ sym keeps_here.private.source_is ∙ draws_here.entries_are;
        charstring = draws_here.charstring;
        charstring_is = draws_here.charstring_is;
        bytes = draws_here.bytes;
        bytes_are = bytes_here;
        drawn = draws_here.drawn;
        trace_is = λ n deep one enough. trace_there subset_table.copy k n deep draws_here.bytes keeps_here.private_dict trace_here bytes_here keeps_here.private_dict_is (draws_here.drawn.written.plays (library subset_table.copy keeps_here.private_dict) n deep one enough);
        cid_is = keeps_here.cid;
      }

      matrices_here : stated_matrices subset_table.copy k ≡ Some (map value (new_matrix i.outlines.matrix), map value unit_matrix)
      matrices_here =
          let pair : List Decimal × List Decimal = (map value (new_matrix i.outlines.matrix), map value unit_matrix) in
          keeps_here.matrices_kept.copy_is ∙ sym keeps_here.matrices_kept.source_is
          ∙ stated_count i.outlines.copy (get_or glyphs k 0) pair (i.outlines.matrices_are (get_or glyphs k 0) (slice_get_within request.glyphs (get_or glyphs k 0) (Some metric_here.it.advance_width) requested_here))

    pub all_blended : HasGlyphsBlended font settings glyphs out
    all_blended = record {
      source = source;
      coordinates_are = i.coordinates_are;
      cff2 = i.cff2;
      cff2_is = i.cff2_is;
      outlines_are = i.outlines.source_is;
      variation_is = i.outlines.variation_is;
      metrics_are = i.source_is;
      cff = cff_kept.copy;
      cff_is = cff_kept.copy_is;
      copy = subset_table.copy;
      copy_is = subset_table.copy_is;
      charstrings = kept.charstrings;
      charstrings_are = kept.charstrings_are;
      count = kept.count;
      glyphs_blended = λ k lt. glyph_blended k lt;
      keyed = kept.keyed;
      no_subroutines = kept.no_subroutines;
      matrix = i.outlines.matrix;
      matrix_is = i.outlines.matrix_is;
      matrices_are = λ k lt. matrices_here k lt;
      boxes = table_boxes i.table;
      boxes_count = boxes_many i.cff2 glyphs prepared i.tokens i.depth i.table i.outlines;
      boxes_are = λ k bytes lt h. same_box k lt bytes h;
      no_others = no_box_there i.cff2 glyphs prepared i.tokens i.depth i.table i.outlines;
      box =
          kept.box ∙ ap (λ (o : Option (List Number)). Some (unwrap_or o zero_box)) i.outlines.box
          ∙ ap (λ (boxes : List (Option Bounds)). Some (map Integer (font_box (least_box boxes)))) (sym (boxes_are i.cff2 glyphs prepared i.tokens i.depth i.table i.outlines));
    }

-- ---- an answer

pub not_blended : (font : Font) (settings : List (Tag × ℤ)) (glyphs : List ℕ) → (IsCff2Font (whole font) → ⊥) → {X : Type 0} (view : X → List ℕ) (r : Result X Error) → IfOk r (λ v. IsCff2Font (whole font) → HasGlyphsBlended (whole font) settings glyphs (view v))
not_blended font settings glyphs other view (Ok v) = λ is. absurd (other is)
not_blended font settings glyphs other view (Err e) = tt

module _ (tokens depth : ℕ) (font : Font) (settings : List (Tag × ℤ)) (glyphs file : List ℕ) where
  pub blended_by : IsStaticFile (whole font) settings glyphs file → {X : Type 0} (view : X → List ℕ) (r : Result X Error) → IfOk r (λ v. IsSubset tokens depth (font_at file 0 font.extras) glyphs (view v)) → IfOk r (λ v. IsCff2Font (whole font) → HasGlyphsBlended (whole font) settings glyphs (view v))
  blended_by (inl i) view r s = not_blended font settings glyphs (λ is. cff2_stays (whole font) settings is i.0) view r
  blended_by (inr i) view (Ok v) s = λ is. all_blended (whole font) settings glyphs file font.extras i.1 tokens depth (view v) s
  blended_by (inr i) view (Err e) s = tt
