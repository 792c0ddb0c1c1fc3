-- The tables that are written, and the file of them.
use Rattle.std.proofs.Common.{◌≡◌, ℕ, ◌≤◌, List, length, Option, Some, None, Result, Ok, Err, refl, sym, ap, subst, ◌∙◌, inl, inr, arith}
use Rattle.std.specs.Prelude.{codes}
use Rattle.std.specs.List.{AllByRecursion, flat_map}
use Rattle.std.specs.Option.{unwrap_or}
use Rattle.std.proofs.lemmas.List.{length-map}
use Rattle.subsetter_base.specs.Gives.{Gives, Fails}
use Rattle.subsetter_base.specs.Within.{GivesWithin}
use Rattle.subsetter_base.specs.declared.error.Error.{Error}
use Rattle.subsetter_base.proofs.Options.{some_not_none}
use Rattle.subsetter_sfnt.specs.declared.fields.hmtx.LongHorMetric.{LongHorMetric}
use Rattle.subsetter_sfnt.specs.declared.flavor.FontFlavor.TheVariants.{Cff}
use Rattle.subsetter_sfnt.specs.Fields.Hmtx.{metric_bytes}
use Rattle.subsetter_sfnt.specs.Laying.Rows.{FontTables, rows, present}
use Rattle.subsetter_sfnt.specs.Laying.Written.{Table, IsTable, kind_word}
use Rattle.subsetter_sfnt.specs.Plain.{file_of}
use Rattle.subsetter_sfnt.proofs.Laws.FieldsLaws.HmtxLaws.{all_pairs}
use Rattle.subsetter_sfnt.proofs.Laws.LayingLaws.Rows.{rows_tables}
use Rattle.subsetter_instance.specs.Tables.Lines.{Lines, with_lines}
use Rattle.subsetter_instance.specs.declared.tables.extremes.Extents.{Extents}
use Rattle.subsetter_points.specs.declared.bounds.Bounds.{Bounds}
use Rattle.subsetter_cff_at.specs.Boxes.{table_boxes}
use Rattle.subsetter_cff_instance.specs.Boxes.{all_extents, drawn_metrics}
use Rattle.subsetter_cff_instance.specs.Metrics.{metrics_by_glyph, filled, no_metric}
use Rattle.subsetter_cff_instance.specs.Source.{Source}
use Rattle.subsetter_cff_instance.specs.Tables.{hmtx_of, hhea_bytes, head_bytes, tables, new_tables, laid}
use Rattle.subsetter_cff_instance.proofs.FileLaws.Head.{has_room}

-- the table of the metrics, one after another
pub flat_is : (all : List (Option LongHorMetric)) → flat_map metric_bytes (filled all) ≡ hmtx_of all
flat_is all = all_pairs (filled all) (length all) (omega (arith, length-map all (λ (m : Option LongHorMetric). unwrap_or m no_metric)))

module _ (find : List ℕ → Option (List ℕ)) (s : Source) (lines : Lines) (glyphs : List ℕ) (metrics : List LongHorMetric) (cff : List ℕ) where
  -- the metrics of all glyphs, the boxes of the new charstrings, and the extents of what they draw
  abbrev all : List (Option LongHorMetric)
  all = metrics_by_glyph glyphs metrics s.count

  abbrev extents : Option Extents
  extents = all_extents all (table_boxes cff)

  -- the tables of the file
  abbrev font : FontTables
  font = tables (with_lines find lines) cff (head_bytes extents s.head) (hhea_bytes s.count metrics extents lines.hhea) (hmtx_of (drawn_metrics all (table_boxes cff))) s.maxp

  -- each with its bytes
  pub font_made : (t : FontTables) (c h hh m p : List ℕ) (hhea : List ℕ) (name post : Option (List ℕ)) (ms : List (Option LongHorMetric)) (boxes : List (Option Bounds))
      → t ≡ record { cff = Some c; cvt = None; fpgm = None; glyf = None; head = Some h; hhea = Some hh; hmtx = Some m; loca = None; maxp = Some p; name = name; post = post; prep = None }
      → c ≡ cff → h ≡ head_bytes (all_extents ms boxes) s.head → hh ≡ hhea_bytes s.count metrics (all_extents ms boxes) hhea → hhea ≡ lines.hhea → m ≡ hmtx_of (drawn_metrics ms boxes) → ms ≡ metrics_by_glyph glyphs metrics s.count → boxes ≡ table_boxes cff
      → p ≡ s.maxp → name ≡ find (codes "name") → post ≡ lines.post
      → t ≡ tables (with_lines find lines) cff (head_bytes (all_extents (metrics_by_glyph glyphs metrics s.count) (table_boxes cff)) s.head) (hhea_bytes s.count metrics (all_extents (metrics_by_glyph glyphs metrics s.count) (table_boxes cff)) lines.hhea) (hmtx_of (drawn_metrics (metrics_by_glyph glyphs metrics s.count) (table_boxes cff))) s.maxp
  font_made t c h hh m p hhea name post ms boxes is e1 e2 e3 e4 e5 e6 e7 e8 e9 e10 = is ∙ rw (e1, e2, e3, e4, e5, e6, e7, e8, e9, e10) refl

  module _ (ts : List Table) (t : FontTables) (is : ts ≡ present (rows t)) (made : t ≡ tables (with_lines find lines) cff (head_bytes (all_extents (metrics_by_glyph glyphs metrics s.count) (table_boxes cff)) s.head) (hhea_bytes s.count metrics (all_extents (metrics_by_glyph glyphs metrics s.count) (table_boxes cff)) lines.hhea) (hmtx_of (drawn_metrics (metrics_by_glyph glyphs metrics s.count) (table_boxes cff))) s.maxp) where
    same : ts ≡ new_tables find s lines glyphs metrics cff
    same = is ∙ ap (λ (x : FontTables). present (rows x)) made

    pub all_tables : 44 ≤ length s.head → AllByRecursion IsTable ts
    all_tables le = subst (AllByRecursion IsTable) (sym same) (rows_tables font (has_room extents s.head le))

    plainly : file_of (kind_word Cff) ts ≡ laid find s lines glyphs metrics cff
    unfolding laid
    plainly = ap (file_of (kind_word Cff)) same

    -- without a bound on bytes
    pub given : {X : Type 0} (view : X → List ℕ) (result : Result X Error) → GivesWithin view None length result (file_of (kind_word Cff) ts) → Gives view result (laid find s lines glyphs metrics cff)
    given view (Ok x) g = sym plainly ∙ g
    given view (Err e) (inl f) = subst (Fails e) plainly f
    given view (Err e) (inr long) = absurd (some_not_none None long.1.most long.1.is_set refl)
