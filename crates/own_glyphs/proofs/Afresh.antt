-- A font with further glyphs, read afresh.
use Rattle.std.proofs.Common.{◌≡◌, ℕ, zero, suc, ◌+◌, ◌*◌, ◌≤◌, ◌<◌, ◌^◌, Bool, true, false, cond, List, [], ◌∷◌, ◌++◌, length, get_or, drop, append_assoc, Option, Some, Ok, Err, refl, sym, ap, subst, ◌∙◌, arith}
use Rattle.std.specs.Prelude.{codes, not, is_some, slice_get, ◌==◌}
use Rattle.std.specs.Option.{option_and_then}
use Rattle.std.specs.List.{AllByRecursion}
use Rattle.std.specs.Str.{bytes_eq}
use Rattle.std.proofs.lemmas.List.{length-append}
use Rattle.subsetter_base.specs.Bytes.{IsBytes, aligned, number, ◌>>=◌}
use Rattle.subsetter_base.specs.declared.error.Error.TheVariants.{OverflowError}
use Rattle.subsetter_base.proofs.ByteLemmas.{number-fits}
use Rattle.subsetter_base.proofs.Options.{bind_some, just_is}
use Rattle.subsetter_base.proofs.Results.{bind_ok, done_is}
use Rattle.subsetter_points.specs.declared.bounds.Bounds.{Bounds}
use Rattle.subsetter_sfnt.specs.Container.{IsSoundContainer}
use Rattle.subsetter_sfnt.specs.Fields.Head.{index_to_loc_format}
use Rattle.subsetter_sfnt.specs.Fields.Hhea.{number_of_h_metrics}
use Rattle.subsetter_sfnt.specs.Fields.Hmtx.{hmtx_bytes, metric_in}
use Rattle.subsetter_sfnt.specs.Fields.Loca.{loca_bytes}
use Rattle.subsetter_sfnt.specs.Fields.Maxp.{num_glyphs}
use Rattle.subsetter_sfnt.specs.Laying.Rows.{FontTables, bytes_of, called_for, opt, present, rows, tags_of}
use Rattle.subsetter_sfnt.specs.Laying.Written.{Table, file, fits, kind_word, start_of, with_adjustment}
use Rattle.subsetter_sfnt.specs.Plain.{file_of}
use Rattle.subsetter_sfnt.specs.Read.{Font, as_font, stored}
use Rattle.subsetter_sfnt.specs.declared.fields.hmtx.LongHorMetric.{LongHorMetric}
use Rattle.subsetter_sfnt.specs.declared.flavor.FontFlavor.TheVariants.{TrueType}
use Rattle.subsetter_sfnt.proofs.Laws.Back.{word_of}
use Rattle.subsetter_sfnt.proofs.Laws.LayingLaws.Laid.{head_row_back, row_back, rows_sound}
use Rattle.subsetter_sfnt.proofs.Laws.LayingLaws.Rows.{HasRoom, lookup_row, some_table}
use Rattle.subsetter_sfnt.proofs.Laws.LayingLaws.TableBytes.{stored_bytes}
use Rattle.subsetter_sfnt.proofs.Laws.LayingLaws.Written.{fitting}
use Rattle.subsetter.specs.Common.Head.Read.{KeepsHead}
use Rattle.subsetter.specs.Common.Head.Written.{head_bytes}
use Rattle.subsetter.specs.Common.Hmtx.Read.{metric, metric_of}
use Rattle.subsetter.specs.Common.Hmtx.Written.{hhea_bytes}
use Rattle.subsetter.specs.Glyf.Read.{Outlines, entry_size, outline, outline_in, outlines, outlines_in}
use Rattle.subsetter.specs.Truetype.Read.{HasGlyphCount}
use Rattle.subsetter.proofs.CommonLaws.HeadLaws.Back.{head_end, head_front, head_length, head_middle, outlines_afresh}
use Rattle.subsetter.proofs.CommonLaws.HmtxLaws.Back.{count_back}
use Rattle.own_glyphs.specs.declared.glyph.OwnGlyph.{OwnGlyph}
use Rattle.own_glyphs.specs.Composite.{own_box, own_boxes}
use Rattle.own_glyphs.specs.Own.{HasOwnGlyphs, IsLaidOut, IsMade, IsOwnGlyph, KeepsBut, KeepsGlyph}
use Rattle.own_glyphs.specs.Profile.{maxp_with, most_parts}
use Rattle.own_glyphs.specs.Source.{AreMetrics, AreOffsets, Source, source_in}
use Rattle.own_glyphs.specs.Written.{AreSmall, Further, drawn_in, ends_from, further, glyf_with, is_long, laid_with, metrics_with, offsets_with, tables_with}
use Rattle.own_glyphs.proofs.Boxes.{are_numbers}
use Rattle.own_glyphs.proofs.Composites.{own_back, own_even}
use Rattle.own_glyphs.proofs.Laid.{has_room}
use Rattle.own_glyphs.proofs.Metrics.{added_metric, kept_metric}
use Rattle.own_glyphs.proofs.Outlines.{IsFurther, added_outline, kept_outline, length-ends, nothing}
use Rattle.own_glyphs.proofs.Fields.{keeps_hhea, length-loca, profile_back}

-- ---- the source

-- what was read of the tables
pub record SourceSteps (find : List ℕ → Option (List ℕ)) (s : Source) : Type 0 where
  pub glyf_is : find (codes "glyf") ≡ Some s.glyf
  pub loca_is : find (codes "loca") ≡ Some s.loca
  pub head_is : find (codes "head") ≡ Some s.head
  pub format : ℕ
  pub format_is : number s.head 50 2 ≡ Some format
  pub long_is : not (format == 0) ≡ s.long
  pub maxp_is : find (codes "maxp") ≡ Some s.maxp
  pub count_is : num_glyphs s.maxp ≡ Some s.count
  pub hhea_is : find (codes "hhea") ≡ Some s.hhea
  pub pairs_is : number_of_h_metrics s.hhea ≡ Some s.pairs
  pub hmtx_is : find (codes "hmtx") ≡ Some s.hmtx

module _ (find : List ℕ → Option (List ℕ)) where
  abbrev made : List ℕ → List ℕ → List ℕ → ℕ → List ℕ → ℕ → List ℕ → ℕ → List ℕ → Option Source
  made glyf loca head format maxp count hhea pairs hmtx = Some (record { glyf = glyf; loca = loca; head = head; long = not (format == 0); maxp = maxp; count = count; hhea = hhea; pairs = pairs; hmtx = hmtx })

  abbrev after_pairs : List ℕ → List ℕ → List ℕ → ℕ → List ℕ → ℕ → List ℕ → ℕ → Option Source
  after_pairs glyf loca head format maxp count hhea pairs = option_and_then (made glyf loca head format maxp count hhea pairs) (find (codes "hmtx"))

  abbrev after_hhea : List ℕ → List ℕ → List ℕ → ℕ → List ℕ → ℕ → List ℕ → Option Source
  after_hhea glyf loca head format maxp count hhea = option_and_then (after_pairs glyf loca head format maxp count hhea) (number_of_h_metrics hhea)

  abbrev after_count : List ℕ → List ℕ → List ℕ → ℕ → List ℕ → ℕ → Option Source
  after_count glyf loca head format maxp count = option_and_then (after_hhea glyf loca head format maxp count) (find (codes "hhea"))

  abbrev after_maxp : List ℕ → List ℕ → List ℕ → ℕ → List ℕ → Option Source
  after_maxp glyf loca head format maxp = option_and_then (after_count glyf loca head format maxp) (num_glyphs maxp)

  abbrev after_format : List ℕ → List ℕ → List ℕ → ℕ → Option Source
  after_format glyf loca head format = option_and_then (after_maxp glyf loca head format) (find (codes "maxp"))

  abbrev after_head : List ℕ → List ℕ → List ℕ → Option Source
  after_head glyf loca head = option_and_then (after_format glyf loca head) (index_to_loc_format head)

  abbrev after_loca : List ℕ → List ℕ → Option Source
  after_loca glyf loca = option_and_then (after_head glyf loca) (find (codes "head"))

  abbrev after_glyf : List ℕ → Option Source
  after_glyf glyf = option_and_then (after_loca glyf) (find (codes "loca"))

  in_turn : source_in find ≡ option_and_then after_glyf (find (codes "glyf"))
  unfolding source_in
  in_turn = refl

  source_steps : (s : Source) → source_in find ≡ Some s → SourceSteps find s
  source_steps s h =
      let a = bind_some (find (codes "glyf")) after_glyf s (sym in_turn ∙ h) in
      let b = bind_some (find (codes "loca")) (after_loca a.0) s a.2 in
      let c = bind_some (find (codes "head")) (after_head a.0 b.0) s b.2 in
      let d = bind_some (index_to_loc_format c.0) (after_format a.0 b.0 c.0) s c.2 in
      let e = bind_some (find (codes "maxp")) (after_maxp a.0 b.0 c.0 d.0) s d.2 in
      let f = bind_some (num_glyphs e.0) (after_count a.0 b.0 c.0 d.0 e.0) s e.2 in
      let g = bind_some (find (codes "hhea")) (after_hhea a.0 b.0 c.0 d.0 e.0 f.0) s f.2 in
      let i = bind_some (number_of_h_metrics g.0) (after_pairs a.0 b.0 c.0 d.0 e.0 f.0 g.0) s g.2 in
      let j = bind_some (find (codes "hmtx")) (made a.0 b.0 c.0 d.0 e.0 f.0 g.0 i.0) s i.2 in
      let it : Source = record { glyf = a.0; loca = b.0; head = c.0; long = not (d.0 == 0); maxp = e.0; count = f.0; hhea = g.0; pairs = i.0; hmtx = j.0 } in
      let steps : SourceSteps find it = record { glyf_is = a.1; loca_is = b.1; head_is = c.1; format = d.0; format_is = d.1; long_is = refl; maxp_is = e.1; count_is = f.1; hhea_is = g.1; pairs_is = i.1; hmtx_is = j.1 } in
      subst (SourceSteps find) (just_is it s j.2) steps

-- its outlines, by the tables that they are read from
outlines_by : (find : List ℕ → Option (List ℕ)) (s : Source) → SourceSteps find s → outlines_in true find ≡ Some (record { loca = s.loca; glyf = s.glyf; head = s.head; long = s.long; hinting = true })
unfolding outlines_in
outlines_by find s steps =
    let a = steps.loca_is in
    let b = steps.glyf_is in
    let c = steps.head_is in
    let d = steps.format_is in
    rw (a, b, c, d) (ap (λ (l : Bool). Some (record { loca = s.loca; glyf = s.glyf; head = s.head; long = l; hinting = true })) steps.long_is)

metric_by : (find : List ℕ → Option (List ℕ)) (hhea hmtx : List ℕ) (n g : ℕ) → find (codes "hhea") ≡ Some hhea → find (codes "hmtx") ≡ Some hmtx → number_of_h_metrics hhea ≡ Some n → metric_of find g ≡ metric_in hmtx n g
unfolding metric_of
metric_by find hhea hmtx n g a b c = rw (a, b, c) refl

-- ---- the file

-- a glyph has the outline and the metric of a further one
pub record HasGlyph (out : Font) (g : ℕ) (f : Further) : Type 0 where
  pub drawn : outline out g ≡ Some f.outline
  pub measured : metric out g ≡ Some f.metric

-- the length of a table among others
fits_within : (at : ℕ) (before : List Table) (t : Table) (after : List Table) → fits at (before ++ t ∷ after) ≡ true → length t.bytes < 2 ^ 32
fits_within at [] t after h = (fitting at t after h).len
fits_within at (x ∷ before) t after h = fits_within (at + length (aligned 4 x.bytes)) before t after (fitting at x (before ++ t ∷ after) h).rest

module _ (font : List ℕ) (bytes : IsBytes font) (s : Source) (read : source_in (stored (as_font font)) ≡ Some s) (offsets : List ℕ) (are_offsets : AreOffsets s offsets) (metrics : List LongHorMetric) (are_metrics : AreMetrics s metrics) (maxp : List ℕ) (more : List Further) (all : AllByRecursion IsFurther more) (few : s.count + length more < 2 ^ 16)
    (fit : fits (start_of (laid_with (stored (as_font font)) s offsets metrics maxp more)) (laid_with (stored (as_font font)) s offsets metrics maxp more) ≡ true) where
  abbrev find : List ℕ → Option (List ℕ)
  find = stored (as_font font)

  abbrev laid : FontTables
  laid = tables_with find s offsets metrics maxp more

  abbrev ts : List Table
  ts = laid_with find s offsets metrics maxp more

  abbrev pub made_file : List ℕ
  made_file = file (kind_word TrueType) ts

  abbrev word : ℕ
  word = word_of (kind_word TrueType) ts

  abbrev n : ℕ
  n = s.count + length more

  abbrev long : Bool
  long = is_long s more

  steps : SourceSteps find s
  steps = source_steps find s read

  long_head : 52 ≤ length s.head
  long_head = number-fits s.head 50 2 steps.format steps.format_is

  long_hhea : 36 ≤ length s.hhea
  long_hhea = number-fits s.hhea 34 2 s.pairs steps.pairs_is

  long_maxp : 6 ≤ length s.maxp
  long_maxp = number-fits s.maxp 4 2 s.count steps.count_is

  with_room : HasRoom laid.head
  with_room = has_room long s.head long_head

  pub table_kept : (tag : List ℕ) → bytes_eq tag (codes "head") ≡ false → stored (as_font made_file) tag ≡ bytes_of tag (rows laid)
  table_kept tag other = row_back TrueType laid with_room fit tag other

  abbrev new_head : List ℕ
  new_head = with_adjustment word (head_bytes long s.head)

  head_back : stored (as_font made_file) (codes "head") ≡ Some new_head
  head_back = head_row_back TrueType laid with_room fit

  small_glyf : length (glyf_with s more) < 2 ^ 32
  small_glyf =
      let cvt = opt (codes "cvt ") (find (codes "cvt ")) in
      let fpgm = opt (codes "fpgm") (find (codes "fpgm")) in
      let glyf : Table = record { tag = codes "glyf"; bytes = glyf_with s more } in
      let rest : List Table = present (drop 4 (rows laid)) in
      fits_within (start_of ts) (cvt ++ fpgm) glyf rest (subst (λ (l : List Table). fits (start_of ts) l ≡ true) (sym (append_assoc cvt fpgm (glyf ∷ rest))) fit)

  -- ---- the tables of outlines

  abbrev old : Outlines
  old = record { loca = s.loca; glyf = s.glyf; head = s.head; long = s.long; hinting = true }

  abbrev new : Outlines
  new = record { loca = loca_bytes long (offsets_with s offsets more); glyf = glyf_with s more; head = new_head; long = long; hinting = true }

  outlines_back : outlines (as_font made_file) ≡ Some new
  outlines_back = outlines_afresh true (stored (as_font made_file)) new.loca new.glyf word long s.head long_head (table_kept (codes "loca") refl) (table_kept (codes "glyf") refl) head_back

  loca_bytes_are : IsBytes s.loca
  loca_bytes_are = stored_bytes (as_font font) (codes "loca") s.loca bytes steps.loca_is

  hmtx_bytes_are : IsBytes s.hmtx
  hmtx_bytes_are = stored_bytes (as_font font) (codes "hmtx") s.hmtx bytes steps.hmtx_is

  by_new : (g : ℕ) (p : List ℕ) → outline_in new g ≡ Some p → outline (as_font made_file) g ≡ Some p
  by_new g p h = ap (option_and_then (λ t. outline_in t g)) outlines_back ∙ h

  by_old : (g : ℕ) (p : List ℕ) → outline (as_font font) g ≡ Some p → outline_in old g ≡ Some p
  by_old g p h = sym (ap (option_and_then (λ t. outline_in t g)) (outlines_by find s steps)) ∙ h

  -- ---- metrics

  new_metric : (g : ℕ) → metric (as_font made_file) g ≡ metric_in (hmtx_bytes n (metrics_with metrics more)) n g
  new_metric g = metric_by (stored (as_font made_file)) (hhea_bytes n s.hhea) (hmtx_bytes n (metrics_with metrics more)) n g (table_kept (codes "hhea") refl) (table_kept (codes "hmtx") refl) (count_back n s.hhea few long_hhea)

  old_metric : (g : ℕ) → metric (as_font font) g ≡ metric_in s.hmtx s.pairs g
  old_metric g = metric_by find s.hhea s.hmtx s.pairs g steps.hhea_is steps.hmtx_is steps.pairs_is

  -- ---- glyphs

  pub keeps_glyph : (g : ℕ) → g < s.count → KeepsGlyph (as_font font) (as_font made_file) g
  keeps_glyph g lt = record {
    drawn = λ p h. by_new g p (kept_outline s offsets are_offsets loca_bytes_are more all small_glyf old new refl refl refl refl refl refl g p lt (by_old g p h));
    measured = new_metric g ∙ kept_metric s metrics are_metrics hmtx_bytes_are more all n refl g lt ∙ sym (old_metric g);
  }

  pub has_glyph : (i : ℕ) (f : Further) → i < length more → get_or more i nothing ≡ f → HasGlyph (as_font made_file) (s.count + i) f
  has_glyph i f lt is = subst (HasGlyph (as_font made_file) (s.count + i)) is (record {
    drawn = by_new (s.count + i) (get_or more i nothing).outline (added_outline s offsets are_offsets loca_bytes_are more all small_glyf old new refl refl refl refl refl refl i lt);
    measured = new_metric (s.count + i) ∙ added_metric s metrics are_metrics hmtx_bytes_are more all n refl i lt;
  })

  length-offsets : length (offsets_with s offsets more) ≡ n + 1
  length-offsets = omega (arith, length-append offsets (ends_from (length s.glyf) more), length-ends (length s.glyf) more, are_offsets.count)

  pub glyph_count : HasGlyphCount (as_font made_file) n
  glyph_count = record { tables = new; read = outlines_back; entries = length-loca long (offsets_with s offsets more) ∙ ap (λ k. entry_size long * k) length-offsets }

  -- ---- the other tables

  pub keeps_head : KeepsHead (as_font font) (as_font made_file)
  keeps_head = record { source = s.head; source_is = steps.head_is; copy = new_head; copy_is = head_back; same_length = head_length word long s.head long_head; front = head_front word long s.head long_head; middle = head_middle word long s.head long_head; end = head_end word long s.head long_head }

  pub hhea_kept : KeepsBut (as_font font) (as_font made_file) (codes "hhea") 34 36
  hhea_kept = record { source = s.hhea; source_is = steps.hhea_is; copy = hhea_bytes n s.hhea; copy_is = table_kept (codes "hhea") refl; kept = keeps_hhea n s.hhea long_hhea }

  pub profile : num_glyphs maxp ≡ Some n → (found : List ℕ) → stored (as_font made_file) (codes "maxp") ≡ Some found → num_glyphs found ≡ Some n
  profile counted found is = ap num_glyphs (just_is found maxp (sym is ∙ table_kept (codes "maxp") refl)) ∙ counted

  pub container : IsSoundContainer made_file (kind_word TrueType) (tags_of TrueType find)
  container =
      let some = some_table (codes "glyf") (glyf_with s more) ts (lookup_row laid (codes "glyf")) in
      let there : (tag table : List ℕ) → find tag ≡ Some table → true ≡ is_some (find tag) = λ tag table h. sym (ap (λ (o : Option (List ℕ)). is_some o) h) in
      rows_sound TrueType laid with_room fit (called_for TrueType find) some (record {
        cff = refl;
        cvt = refl;
        fpgm = refl;
        glyf = there (codes "glyf") s.glyf steps.glyf_is;
        head = there (codes "head") s.head steps.head_is;
        hhea = there (codes "hmtx") s.hmtx steps.hmtx_is;
        hmtx = there (codes "hmtx") s.hmtx steps.hmtx_is;
        loca = there (codes "loca") s.loca steps.loca_is;
        maxp = there (codes "maxp") s.maxp steps.maxp_is;
        name = refl;
        post = refl;
        prep = refl;
      })

-- ---- own glyphs

all_further : (own : List OwnGlyph) (boxes : List Bounds) → AreSmall (further own boxes) → AllByRecursion IsFurther (further own boxes)
all_further [] boxes small = tt
all_further (o ∷ own) [] small = tt
all_further (o ∷ own) (b ∷ boxes) small =
    let first : IsFurther (drawn_in o b) = record { even = own_even o.parts.now b; small = record { advance_width = small.0.0; lsb = small.0.1 } } in
    (first, all_further own boxes small.1)

drawn_at : (own : List OwnGlyph) (boxes : List Bounds) (i : ℕ) (o : OwnGlyph) (b : Bounds) → slice_get own i ≡ Some o → slice_get boxes i ≡ Some b → (i < length (further own boxes)) × (get_or (further own boxes) i nothing ≡ drawn_in o b)
drawn_at [] boxes i o b h k = absurd cc
drawn_at (p ∷ own) [] i o b h k = absurd cc
drawn_at (p ∷ own) (c ∷ boxes) zero o b h k = (omega arith, ap (λ (q : OwnGlyph). drawn_in q c) (just_is p o h) ∙ ap (drawn_in o) (just_is c b k))
drawn_at (p ∷ own) (c ∷ boxes) (suc i) o b h k = let rest = drawn_at own boxes i o b h k in (omega (arith, rest.0), rest.1)

pub length-boxes : (s : Source) (own : List OwnGlyph) (boxes : List Bounds) → own_boxes s own ≡ Ok boxes → length boxes ≡ length own
length-boxes s [] boxes h = ap length (sym (done_is [] boxes h))
length-boxes s (o ∷ own) boxes h =
    let a = bind_ok (own_box s o.parts.now) (λ first. own_boxes s own >>= λ rest. Ok (first ∷ rest)) boxes h in
    let b = bind_ok (own_boxes s own) (λ rest. Ok (a.0 ∷ rest)) boxes a.2 in
    ap length (sym (done_is (a.0 ∷ b.0) boxes b.2)) ∙ ap suc (length-boxes s own b.0 b.1)

pub length-further : (own : List OwnGlyph) (boxes : List Bounds) → length boxes ≡ length own → length (further own boxes) ≡ length own
length-further [] boxes h = refl
length-further (o ∷ own) [] h = absurd (omega arith)
length-further (o ∷ own) (b ∷ boxes) h = ap suc (length-further own boxes (omega arith))

file_steps : (kind : ℕ) (ts : List Table) (out : List ℕ) → file_of kind ts ≡ Ok out → (fits (start_of ts) ts ≡ true) × (file kind ts ≡ out)
unfolding file_of
file_steps kind ts out h = by (fits (start_of ts) ts) refl h
  where
    by : (b : Bool) → fits (start_of ts) ts ≡ b → cond b (Ok (file kind ts)) (Err OverflowError) ≡ Ok out → (b ≡ true) × (file kind ts ≡ out)
    by true e k = (refl, done_is (file kind ts) out k)
    by false e k = absurd cc

module _ (font : List ℕ) (bytes : IsBytes font) (s : Source) (read : source_in (stored (as_font font)) ≡ Some s) (own : List OwnGlyph) (few : s.count + length own ≤ 65535) (boxes : List Bounds) (boxes_are : own_boxes s own ≡ Ok boxes) (small : AreSmall (further own boxes)) where
  abbrev more : List Further
  more = further own boxes

  count : length more ≡ length own
  count = length-further own boxes (length-boxes s own boxes boxes_are)

  total : s.count + length more ≡ s.count + length own
  total = omega (arith, count)

  few_more : s.count + length more < 2 ^ 16
  few_more = omega (arith, count, few)

  all : AllByRecursion IsFurther more
  all = all_further own boxes small

  module _ (offsets : List ℕ) (are_offsets : AreOffsets s offsets) (metrics : List LongHorMetric) (are_metrics : AreMetrics s metrics) (maxp : List ℕ) (maxp_is : maxp_with (s.count + length own) (most_parts own) s.maxp ≡ Ok maxp)
      (fit : fits (start_of (laid_with (stored (as_font font)) s offsets metrics maxp more)) (laid_with (stored (as_font font)) s offsets metrics maxp more) ≡ true) where
    abbrev out : List ℕ
    out = file (kind_word TrueType) (laid_with (stored (as_font font)) s offsets metrics maxp more)

    other : (tag : List ℕ) → bytes_eq tag (codes "head") ≡ false → stored (as_font out) tag ≡ bytes_of tag (rows (tables_with (stored (as_font font)) s offsets metrics maxp more))
    other = table_kept font bytes s read offsets are_offsets metrics are_metrics maxp more all few_more fit

    is_own : (i : ℕ) (o : OwnGlyph) (b : Bounds) → slice_get own i ≡ Some o → slice_get boxes i ≡ Some b → IsOwnGlyph (as_font out) (s.count + i) o b
    is_own i o b h k =
        let d = drawn_at own boxes i o b h k in
        let g = has_glyph font bytes s read offsets are_offsets metrics are_metrics maxp more all few_more fit i (drawn_in o b) d.0 d.1 in
        record { drawn = g.drawn; parts = own_back o.parts.now b (are_numbers s own (omega (arith, few)) boxes i o boxes_are h); measured = g.measured }

    has_own : IsLaidOut (stored (as_font font)) s own boxes out → HasOwnGlyphs font own out
    has_own layout = record {
      source = s;
      source_is = read;
      container = container font bytes s read offsets are_offsets metrics are_metrics maxp more all few_more fit;
      count = subst (HasGlyphCount (as_font out)) total (glyph_count font bytes s read offsets are_offsets metrics are_metrics maxp more all few_more fit);
      profile = subst (λ (k : ℕ). (found : List ℕ) → stored (as_font out) (codes "maxp") ≡ Some found → num_glyphs found ≡ Some k) total (profile font bytes s read offsets are_offsets metrics are_metrics maxp more all few_more fit (profile_back (s.count + length own) (most_parts own) s.maxp maxp (number-fits s.maxp 4 2 s.count (source_steps (stored (as_font font)) s read).count_is) (omega (arith, few)) maxp_is ∙ ap (λ (k : ℕ). Some k) (sym total)));
      kept = keeps_glyph font bytes s read offsets are_offsets metrics are_metrics maxp more all few_more fit;
      boxes = boxes;
      boxes_are = boxes_are;
      added = is_own;
      head = keeps_head font bytes s read offsets are_offsets metrics are_metrics maxp more all few_more fit;
      hhea = hhea_kept font bytes s read offsets are_offsets metrics are_metrics maxp more all few_more fit;
      layout = layout;
      control_values = other (codes "cvt ") refl;
      font_program = other (codes "fpgm") refl;
      control_program = other (codes "prep") refl;
      names = other (codes "name") refl;
      glyph_names = other (codes "post") refl;
    }

  has_laid : (out : List ℕ) → IsLaidOut (stored (as_font font)) s own boxes out → HasOwnGlyphs font own out
  has_laid out l =
      let steps = file_steps (kind_word TrueType) (laid_with (stored (as_font font)) s l.offsets l.metrics l.maxp more) out l.bytes in
      let layout = subst (λ (x : List ℕ). IsLaidOut (stored (as_font font)) s own boxes x) (sym steps.1) l in
      subst (HasOwnGlyphs font own) steps.1 (has_own l.offsets l.are_offsets l.metrics l.are_metrics l.maxp l.maxp_is steps.0 layout)

pub made_own : (font : List ℕ) → IsBytes font → (s : Source) → source_in (stored (as_font font)) ≡ Some s → (own : List OwnGlyph) (out : List ℕ) → IsMade (stored (as_font font)) s own out → HasOwnGlyphs font own out
made_own font bytes s read own out m = has_laid font bytes s read own m.few m.boxes m.boxes_are m.small out m.layout
