-- The file of an instance, read afresh.
use Rattle.std.proofs.Common.{◌≡◌, ℕ, ◌+◌, ◌*◌, ◌≤◌, ◌<◌, ◌^◌, Bool, false, List, [], length, get_or, take, drop, Option, Some, None, ℤ, refl, sym, ap, subst, ◌∙◌, arith}
use Rattle.std.specs.Prelude.{codes, slice_range, Contains, IfSome}
use Rattle.std.specs.Str.{bytes_eq}
use Rattle.subsetter_base.specs.Bytes.{IsBytes, be}
use Rattle.subsetter_base.specs.declared.tag.Tag.{Tag}
use Rattle.subsetter_base.proofs.ByteLemmas.{number-fits, number-small}
use Rattle.subsetter_base.proofs.Options.{just_is}
use Rattle.subsetter_sfnt.specs.declared.flavor.FontFlavor.TheVariants.{TrueType}
use Rattle.subsetter_sfnt.specs.Container.{IsSoundContainer}
use Rattle.subsetter_sfnt.specs.Read.{Font, as_font, stored}
use Rattle.subsetter_sfnt.specs.Laying.Rows.{FontTables, bytes_of, rows, present}
use Rattle.subsetter_sfnt.specs.Laying.Written.{with_adjustment, file, kind_word}
use Rattle.subsetter_sfnt.proofs.Laws.Back.{word_of}
use Rattle.subsetter_sfnt.proofs.Laws.LayingLaws.Laid.{row_back, head_row_back, rows_sound}
use Rattle.subsetter_sfnt.proofs.Laws.LayingLaws.Rows.{HasRoom, lookup_row, some_table}
use Rattle.subsetter_sfnt.proofs.Laws.LayingLaws.TableBytes.{stored_bytes}
use Rattle.subsetter_sfnt.proofs.Laws.LayingLaws.Written.{fitting}
use Rattle.subsetter_instance.specs.Source.{Source, source_in, description}
use Rattle.subsetter_instance.specs.Glyphs.Drawn.{Drawn}
use Rattle.subsetter_instance.specs.Tables.Extremes.{all_extents, box_bytes, extreme_bytes}
use Rattle.subsetter_instance.specs.Tables.Lines.{with_lines}
use Rattle.subsetter_instance.specs.Instance.{tags_with, HasBytes, IsDrawn, KeepsBytes, KeepsTable, KeepsHeader}
use Rattle.subsetter_sfnt.specs.Fields.Loca.{loca_bytes}
use Rattle.subsetter_instance.specs.Tables.Written.{by_glyph, outline_bytes, glyf_bytes, is_long, offsets_from, hmtx_of, head_bytes, hhea_bytes, maxp_bytes, tables}
use Rattle.subsetter_instance.proofs.FileLaws.Among.{drawn_one, is_among, not_among, by_glyph_at, by_glyph_length}
use Rattle.subsetter_instance.proofs.FileLaws.Fitting.{reads, drawn_fits}
use Rattle.subsetter_sfnt.specs.Fields.Head.{format_bytes}
use Rattle.subsetter_instance.proofs.FileLaws.Head.{head_length, head_front, head_middle, head_box, head_style, head_end, head_format, format_back}
use Rattle.subsetter_instance.proofs.FileLaws.Laid.{has_room}
use Rattle.subsetter_instance.proofs.FileLaws.Lines.{lines_long}
use Rattle.subsetter_instance.proofs.FileLaws.Metrics.{metric_back, eight_bytes, pairs_back, hhea_length, hhea_front, hhea_extremes, hhea_middle, hhea_end, count_back}
use Rattle.subsetter_instance.proofs.FileLaws.Outlines.{room, description_back}
use Rattle.subsetter_instance.proofs.FileLaws.Steps.{SourceSteps, source_steps, source_by, InstanceSteps}

module _ (font : Font) (settings : List (Tag × ℤ)) (glyphs : List ℕ) (steps : ℕ) (out : List ℕ) (bytes : IsBytes font.bytes) (i : InstanceSteps (stored font) settings glyphs steps out) where
  abbrev count : ℕ
  count = i.source.count

  -- what is drawn of each glyph
  abbrev all : List (Option Drawn)
  all = by_glyph glyphs i.ds count

  abbrev long : Bool
  long = is_long (glyf_bytes all)

  -- the tables of the font, hhea and post as they vary
  abbrev find : List ℕ → Option (List ℕ)
  find = with_lines (stored font) i.lines

  abbrev hhea : List ℕ
  hhea = i.lines.hhea

  abbrev laid : FontTables
  laid = tables find i.head hhea count i.ds all

  abbrev pub made : List ℕ
  made = file (kind_word TrueType) (present (rows laid))

  abbrev word : ℕ
  word = word_of (kind_word TrueType) (present (rows laid))

  -- ---- the source

  read : SourceSteps (stored font) (length i.at) i.source
  read = source_steps (stored font) (length i.at) i.source i.source_is

  long_head : 52 ≤ length i.head
  long_head = omega (arith, number-fits read.head 50 2 read.format read.format_is, ap length (just_is read.head i.head (sym read.head_is ∙ i.head_is)))

  long_hhea : 36 ≤ length hhea
  long_hhea = lines_long (stored font) settings i.at i.lines (subst (λ (o : Option (List ℕ)). IfSome o (λ h. 36 ≤ length h)) (sym read.hhea_is) (number-fits read.hhea 34 2 i.source.number_of_h_metrics read.pairs_is)) i.lines_are

  few : count < 2 ^ 16
  few = number-small read.maxp 4 count (stored_bytes font (codes "maxp") read.maxp bytes read.maxp_is) read.count_is

  -- ---- the tables

  with_room : HasRoom laid.head
  with_room = has_room long i.ds i.head long_head

  back : (tag : List ℕ) → bytes_eq tag (codes "head") ≡ false → stored (as_font made) tag ≡ bytes_of tag (rows laid)
  back tag other = row_back TrueType laid with_room i.fit tag other

  abbrev new_head : List ℕ
  new_head = with_adjustment word (head_bytes long i.ds i.head)

  head_back : stored (as_font made) (codes "head") ≡ Some new_head
  head_back = head_row_back TrueType laid with_room i.fit

  small_glyf : length (glyf_bytes all) < 2 ^ 32
  small_glyf = (fitting (12 + 16 * length (present (rows laid))) (record { tag = codes "glyf"; bytes = glyf_bytes all }) (present (drop 4 (rows laid))) i.fit).len

  pub container : IsSoundContainer made (kind_word TrueType) (tags_with find)
  container =
      let some = some_table (codes "glyf") (glyf_bytes all) (present (rows laid)) (lookup_row laid (codes "glyf")) in
      rows_sound TrueType laid with_room i.fit (tables find [] [] 0 [] []) some (record { cff = refl; cvt = refl; fpgm = refl; glyf = refl; head = refl; hhea = refl; hmtx = refl; loca = refl; maxp = refl; name = refl; post = refl; prep = refl })

  -- the file's own tables
  abbrev pub afresh : Source
  afresh = record { glyf = glyf_bytes all; loca = loca_bytes long (offsets_from 0 all); long = long; count = count; number_of_h_metrics = count; hmtx = hmtx_of all; gvar = None; hvar = None }

  pub read_back : source_in (stored (as_font made)) 0 ≡ Some afresh
  read_back =
      source_by (stored (as_font made)) (glyf_bytes all) (loca_bytes long (offsets_from 0 all)) new_head (be (format_bytes long)) (maxp_bytes count i.ds) count (hhea_bytes count i.ds hhea) count (hmtx_of all) (back (codes "glyf") refl) (back (codes "loca") refl) head_back (head_format word long i.ds i.head long_head)
      (back (codes "maxp") refl) (count_back count i.ds few) (back (codes "hhea") refl) (pairs_back count (extreme_bytes i.ds) hhea (eight_bytes i.ds) long_hhea few) (back (codes "hmtx") refl) (back (codes "gvar") refl) (back (codes "HVAR") refl)
      ∙ ap (λ (l : Bool). Some (record { glyf = glyf_bytes all; loca = loca_bytes long (offsets_from 0 all); long = l; count = count; number_of_h_metrics = count; hmtx = hmtx_of all; gvar = None; hvar = None })) (format_back long)

  -- ---- glyphs

  described : (g : ℕ) → g < count → description afresh g ≡ Some (outline_bytes (get_or all g None))
  described g lt = description_back afresh all g refl refl (omega (arith, lt, by_glyph_length glyphs i.ds count)) (room long (glyf_bytes all) refl small_glyf)

  pub asked_for : (g : ℕ) → Contains glyphs g → IsDrawn i.source afresh i.at steps g
  asked_for g there =
      let a = is_among i.source i.at steps glyphs i.ds g i.drawn_is there in
      let d = drawn_one i.source i.at steps g a.d a.drawn_is in
      let w = drawn_fits i.source i.at steps g a.d d.1 in
      let at : get_or all g None ≡ Some a.d = by_glyph_at glyphs i.ds count g d.0 ∙ a.among in
      record {
        it = a.d;
        drawn_is = d.1;
        bytes = described g d.0 ∙ ap (λ (o : Option Drawn). Some (outline_bytes o)) at;
        reads = reads a.d.ends a.d.points w.fits;
        metrics = metric_back afresh all g a.d refl d.0 at w.advance w.bearing;
      }

  pub others : (g : ℕ) → g < count → (Contains glyphs g → ⊥) → description afresh g ≡ Some []
  others g lt none = described g lt ∙ ap (λ (o : Option Drawn). Some (outline_bytes o)) (by_glyph_at glyphs i.ds count g lt ∙ not_among glyphs i.ds g none)

  -- ---- headers

  pub keeps_head : KeepsHeader (stored font) (as_font made) (codes "head") 8 52
  keeps_head = record { source = i.head; source_is = i.head_is; copy = new_head; copy_is = head_back; same_length = head_length word long i.ds i.head long_head; front = head_front word long i.ds i.head long_head; end = head_end word long i.ds i.head long_head }

  -- bytes between two places of head
  new_is : (copy : List ℕ) (from n : ℕ) → stored (as_font made) (codes "head") ≡ Some copy → take n (drop from copy) ≡ take n (drop from new_head)
  new_is copy from n c = ap (λ (l : List ℕ). take n (drop from l)) (just_is copy new_head (sym c ∙ head_back))

  old_is : (source : List ℕ) (from n : ℕ) → stored font (codes "head") ≡ Some source → take n (drop from i.head) ≡ take n (drop from source)
  old_is source from n s = ap (λ (l : List ℕ). take n (drop from l)) (just_is i.head source (sym i.head_is ∙ s))

  pub keeps_middle : KeepsBytes (stored font) (as_font made) (codes "head") 12 36
  keeps_middle source copy s c = new_is copy 12 24 c ∙ head_middle word long i.ds i.head long_head ∙ old_is source 12 24 s

  pub has_box : HasBytes (as_font made) (codes "head") 36 44 (box_bytes (all_extents i.ds))
  has_box copy c = new_is copy 36 8 c ∙ head_box word long i.ds i.head long_head

  pub keeps_style : KeepsBytes (stored font) (as_font made) (codes "head") 44 50
  keeps_style source copy s c = new_is copy 44 6 c ∙ head_style word long i.ds i.head long_head ∙ old_is source 44 6 s

  abbrev new_hhea : List ℕ
  new_hhea = hhea_bytes count i.ds hhea

  pub keeps_hhea : KeepsHeader find (as_font made) (codes "hhea") 10 36
  keeps_hhea = record { source = hhea; source_is = refl; copy = new_hhea; copy_is = back (codes "hhea") refl; same_length = hhea_length count (extreme_bytes i.ds) hhea (eight_bytes i.ds) long_hhea; front = hhea_front count (extreme_bytes i.ds) hhea (eight_bytes i.ds) long_hhea; end = hhea_end count (extreme_bytes i.ds) hhea (eight_bytes i.ds) long_hhea }

  pub has_extremes : HasBytes (as_font made) (codes "hhea") 10 18 (extreme_bytes i.ds)
  has_extremes copy c = ap (λ (l : List ℕ). slice_range l 10 18) (just_is copy new_hhea (sym c ∙ back (codes "hhea") refl)) ∙ hhea_extremes count (extreme_bytes i.ds) hhea (eight_bytes i.ds) long_hhea

  pub keeps_hhea_middle : KeepsBytes find (as_font made) (codes "hhea") 18 34
  keeps_hhea_middle source copy s c =
      ap (λ (l : List ℕ). slice_range l 18 34) (just_is copy new_hhea (sym c ∙ back (codes "hhea") refl)) ∙ hhea_middle count (extreme_bytes i.ds) hhea (eight_bytes i.ds) long_hhea ∙ ap (λ (l : List ℕ). slice_range l 18 34) (just_is hhea source s)

  pub keeps_name : KeepsTable (stored font) (as_font made) (codes "name")
  keeps_name = back (codes "name") refl

  pub keeps_post : KeepsTable find (as_font made) (codes "post")
  keeps_post = back (codes "post") refl
