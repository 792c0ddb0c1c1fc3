-- What subsetting makes is a subset.
use Rattle.std.proofs.Common.{◌≡◌, ℕ, ◌+◌, ◌*◌, ◌^◌, ◌<◌, Bool, true, false, cond, List, [], ◌++◌, length, Option, Some, None, Ok, refl, sym, ap, subst, ◌∙◌, arith, inl}
use Rattle.std.specs.Prelude.{codes, is_some}
use Rattle.std.specs.Option.{option_map}
use Rattle.std.specs.List.{AllByRecursion}
use Rattle.std.specs.Str.{bytes_eq}
use Rattle.std.proofs.lemmas.List.{length-append}
use Rattle.subsetter_base.specs.Bytes.{IsBytes}
use Rattle.subsetter_base.specs.declared.error.Error.{Error}
use Rattle.subsetter_base.specs.declared.error.Error.TheVariants.{MalformedFont}
use Rattle.subsetter_base.proofs.Results.{named_ok}
use Rattle.subsetter_base.proofs.Options.{just_is}
use Rattle.subsetter_sfnt.specs.declared.flavor.FontFlavor.TheVariants.{TrueType}
use Rattle.subsetter_sfnt.specs.Container.{IsSoundContainer, AscendFrom}
use Rattle.subsetter_sfnt.specs.Read.{Font, as_font, table, flavor}
use Rattle.subsetter_sfnt.specs.Laying.Rows.{bytes_of, present, lookup, tags, rows, called_for, tags_of}
use Rattle.subsetter_sfnt.specs.Laying.Written.{Table, IsTable, with_adjustment, fits, file, start_of, kind_word}
use Rattle.subsetter.specs.Glyf.Read.{Outlines, outlines}
use Rattle.subsetter.specs.Glyf.Reaching.Closure.{Finds}
use Rattle.subsetter.specs.Glyf.Reaching.Reach.{IsGlyphOrder}
use Rattle.subsetter.specs.Glyf.Written.{is_long, glyf_bytes}
use Rattle.subsetter.specs.Common.Head.Written.{head_bytes}
use Rattle.subsetter.specs.Common.Hmtx.Written.{MetricBytes}
use Rattle.subsetter.specs.Truetype.Answered.{IsAnswered}
use Rattle.subsetter.specs.Truetype.Plain.{Made, font_of, laid, truetype_tables}
use Rattle.subsetter.specs.Truetype.Read.{HasGlyphCount, KeepsPrograms, KeepsOutlines}
use Rattle.subsetter.specs.Fault.{HasFault}
use Rattle.subsetter.specs.Laid.{of_outlines}
use Rattle.subsetter.specs.Subset.{by_outlines, IsSubset}
use Rattle.subsetter.specs.Answer.{IsAnswer}
use Rattle.subsetter_sfnt.proofs.Laws.Back.{word_of}
use Rattle.subsetter_sfnt.proofs.Laws.Container.{sound, table_of, head_of}
use Rattle.subsetter_sfnt.proofs.Laws.LayingLaws.Rows.{rows_ascend, present_ascends, lookup_row, rows_few, some_table, rows_tables, AreAlike, same_tags}
use Rattle.subsetter_sfnt.proofs.Laws.LayingLaws.TableBytes.{table_bytes}
use Rattle.subsetter.proofs.CommonLaws.HeadLaws.Back.{outlines_afresh}
use Rattle.subsetter.proofs.GlyfLaws.Back.{AreWritten, entry_count}
use Rattle.subsetter.proofs.GlyfLaws.Fault.{HasTables, has_tables, order_in}
use Rattle.subsetter.proofs.GlyfLaws.Kept.{length-kept_all}
use Rattle.subsetter.proofs.GlyfLaws.ReachingLaws.Unfold.{unfolds_alike, numbered_alike}
use Rattle.subsetter.proofs.CommonLaws.SharedLaws.Steps.{head_there, maxp_there, metrics_there, name_there, post_there, head_from}
use Rattle.subsetter.proofs.CommonLaws.SharedLaws.Kept.{shared_room, AreBack, keeps_shared}
use Rattle.subsetter.proofs.TruetypeLaws.Steps.{MadeSteps, made_steps, tables_steps, file_steps}

some_map : {A B : Type 0} (f : A → B) (o : Option A) → is_some (option_map f o) ≡ is_some o
some_map f None = refl
some_map f (Some x) = refl

-- the rows that are laid out
pub laid_is : (find : List ℕ → Option (List ℕ)) (m : Made) → laid find m ≡ present (rows (font_of find m))
unfolding laid
laid_is find m = refl

-- each has a tag of four bytes, and head has room
pub laid_all : (find : List ℕ → Option (List ℕ)) (t : Outlines) (order : List ℕ) (m : Made) → MadeSteps find t order m → AllByRecursion IsTable (laid find m)
laid_all find t order m s = subst (λ (ts : List Table). AllByRecursion IsTable ts) (sym (laid_is find m)) (rows_tables (font_of find m) (shared_room find TrueType (is_long m.outlines) order m.shared s.shared))

pub laid_few : (find : List ℕ → Option (List ℕ)) (m : Made) → length (laid find m) < 16
laid_few find m = omega (arith, ap length (laid_is find m), rows_few (font_of find m))

-- each table, looked up
lookup_laid : (find : List ℕ → Option (List ℕ)) (m : Made) (tag : List ℕ) → lookup tag (laid find m) ≡ bytes_of tag (rows (font_of find m))
lookup_laid find m tag = ap (lookup tag) (laid_is find m) ∙ lookup_row (font_of find m) tag

-- the tables that were laid out are those that the source calls for
laid_tags : (hinting : Bool) (find : List ℕ → Option (List ℕ)) (t : Outlines) (order : List ℕ) (m : Made) → HasTables hinting find t → MadeSteps find t order m → tags (laid find m) ≡ tags_of TrueType find
laid_tags hinting find t order m h s =
    let metrics = metrics_there find order m.shared.metrics s.shared.metrics_are in
    let alike : AreAlike (font_of find m) (called_for TrueType find) = record {
      cff = refl;
      cvt = refl;
      fpgm = refl;
      glyf = sym (ap (λ (o : Option (List ℕ)). is_some o) h.glyf_is);
      head = head_there find (is_long m.outlines) m.shared.head s.shared.head_is;
      hhea = some_map (λ (x : MetricBytes). x.hhea) m.shared.metrics ∙ metrics;
      hmtx = some_map (λ (x : MetricBytes). x.hmtx) m.shared.metrics ∙ metrics;
      loca = sym (ap (λ (o : Option (List ℕ)). is_some o) h.loca_is);
      maxp = maxp_there find TrueType (length order) m.shared.maxp s.shared.maxp_is;
      name = name_there find m.shared.name s.shared.name_is;
      post = post_there find order m.shared.post s.shared.post_is;
      prep = refl;
    } in
    ap tags (laid_is find m) ∙ same_tags (font_of find m) (called_for TrueType find) alike

-- the order of the glyphs has one at least
some_glyph : (glyphs others order : List ℕ) → order ≡ glyphs ++ others → 0 < length glyphs → 0 < length order
some_glyph glyphs others order e lt = omega (arith, ap length e, length-append glyphs others)

-- head was made of the head that the outlines were read with
made_head : (hinting : Bool) (find : List ℕ → Option (List ℕ)) (t : Outlines) (order : List ℕ) (m : Made) → HasTables hinting find t → MadeSteps find t order m → m.shared.head ≡ Some (head_bytes (is_long m.outlines) t.head)
made_head hinting find t order m h s = by m.shared.head refl
  where
    by : (o : Option (List ℕ)) → m.shared.head ≡ o → m.shared.head ≡ Some (head_bytes (is_long m.outlines) t.head)
    by None e =
        let there = head_there find (is_long m.outlines) m.shared.head s.shared.head_is in
        absurd (let f = sym (ap (λ (o : Option (List ℕ)). is_some o) e) ∙ there ∙ ap (λ (o : Option (List ℕ)). is_some o) h.head_is in cc)
    by (Some new) e =
        let n = head_from find (is_long m.outlines) new (s.shared.head_is ∙ ap (λ (o : Option (List ℕ)). Ok o) e) in
        let same : n.source ≡ t.head = just_is n.source t.head (sym n.source_is ∙ h.head_is) in
        e ∙ ap (λ (b : List ℕ). Some b) (n.new_is ∙ ap (λ (b : List ℕ). head_bytes (is_long m.outlines) b) same)

module _ (font : Font) (t : Outlines) (order : List ℕ) (m : Made) (read : outlines font ≡ Some t) (s : MadeSteps (table font) t order m) (fit : fits (start_of (laid (table font) m)) (laid (table font) m) ≡ true) where
  abbrev ts : List Table
  ts = laid (table font) m

  abbrev made_file : List ℕ
  made_file = file (kind_word TrueType) ts

  abbrev word : ℕ
  word = word_of (kind_word TrueType) ts

  abbrev out : Font
  out = as_font made_file

  pub source : HasTables font.extras.hinting (table font) t
  source = has_tables font.extras.hinting (table font) t read

  pub back : (tag : List ℕ) → bytes_eq tag (codes "head") ≡ false → table out tag ≡ bytes_of tag (rows (font_of (table font) m))
  back tag other = table_of (kind_word TrueType) ts (inl refl) (laid_few (table font) m) (laid_all (table font) t order m s) fit tag other ∙ lookup_laid (table font) m tag

  pub shared_back : AreBack out word m.shared
  shared_back = record {
    head = head_of (kind_word TrueType) ts (inl refl) (laid_few (table font) m) (laid_all (table font) t order m s) fit ∙ ap (option_map (with_adjustment word)) (lookup_laid (table font) m (codes "head"));
    hhea = back (codes "hhea") refl;
    hmtx = back (codes "hmtx") refl;
    maxp = back (codes "maxp") refl;
    name = back (codes "name") refl;
    post = back (codes "post") refl;
  }

  head_back : table out (codes "head") ≡ Some (with_adjustment word (head_bytes (is_long m.outlines) t.head))
  head_back = shared_back.head ∙ ap (option_map (with_adjustment word)) (made_head font.extras.hinting (table font) t order m source s)

  pub container : IsSoundContainer made_file (kind_word TrueType) (tags_of TrueType (table font))
  container =
      let some = some_table (codes "loca") m.loca ts (lookup_laid (table font) m (codes "loca")) in
      let up = subst (λ (l : List Table). AscendFrom 0 (tags l)) (sym (laid_is (table font) m)) (present_ascends 0 (rows (font_of (table font) m)) (rows_ascend (font_of (table font) m))) in
      subst (λ (l : List (List ℕ)). IsSoundContainer made_file (kind_word TrueType) l) (laid_tags font.extras.hinting (table font) t order m source s) (sound (kind_word TrueType) ts (inl refl) some (laid_few (table font) m) (laid_all (table font) t order m s) fit up)

  -- the tables of outlines, read afresh
  abbrev pub afresh : Outlines
  afresh = record { loca = m.loca; glyf = glyf_bytes (is_long m.outlines) m.outlines; head = with_adjustment word (head_bytes (is_long m.outlines) t.head); long = is_long m.outlines; hinting = true }

  pub outlines_back : outlines out ≡ Some afresh
  outlines_back = outlines_afresh true (table out) m.loca (glyf_bytes (is_long m.outlines) m.outlines) word (is_long m.outlines) t.head source.head_len (back (codes "loca") refl) (back (codes "glyf") refl) head_back

  pub written : AreWritten m.outlines afresh
  written = record { long_is = refl; glyf_is = refl; loca_is = s.loca_is; small = s.small }

  count : HasGlyphCount out (length order)
  count = record { tables = afresh; read = outlines_back; entries = entry_count m.outlines afresh written ∙ ap (λ (n : ℕ). cond (is_long m.outlines) 4 2 * (n + 1)) (length-kept_all t order order m.outlines s.kept) }

  programs : KeepsPrograms font out
  programs = record { control_values = back (codes "cvt ") refl; font_program = back (codes "fpgm") refl; control_program = back (codes "prep") refl }

  pub outlines_kept : (glyphs : List ℕ) → IsBytes font.bytes → IsGlyphOrder font glyphs order → length order < 2 ^ 16 → KeepsOutlines font order out
  outlines_kept glyphs bytes closed few =
      let glyf = table_bytes font (codes "glyf") t.glyf bytes source.glyf_is in
      record {
        has_head = ap (λ (o : Option (List ℕ)). is_some o) source.head_is;
        count = count;
        drawing = unfolds_alike font out glyphs order t afresh m.outlines read source.asks refl outlines_back closed few glyf s.kept written;
        numbering = numbered_alike font out glyphs order t afresh m.outlines read source.asks refl outlines_back closed few glyf s.kept written;
        programs = programs;
      }

  unfoldable pub made_subset : (tokens depth : ℕ) (glyphs : List ℕ) → IsBytes font.bytes → IsGlyphOrder font glyphs order → 0 < length order → length order < 2 ^ 16 → flavor font ≡ Some TrueType → (tables : List Table) → (tables ≡ ts) → truetype_tables (table font) t order ≡ Ok tables
      → IsSubset tokens depth font glyphs made_file
  made_subset tokens depth glyphs bytes closed some few kind tables same made = record {
    keeps = record {
      order = order;
      is_order = closed;
      few = few;
      kind = TrueType;
      kind_is = kind;
      container = container;
      shared = keeps_shared font out TrueType (is_long m.outlines) order m.shared word s.shared shared_back bytes some few;
      drawing = by_outlines (outlines_kept glyphs bytes closed few);
    };
    layout = record { tables = tables; made = of_outlines t read made; bytes = ap (λ (l : List Table). file (kind_word TrueType) l) (sym same); room = subst (λ (l : List Table). fits (start_of l) l ≡ true) (sym same) fit };
  }

-- what is answered is a subset
pub is_subset : (tokens depth : ℕ) (font : Font) (glyphs out : List ℕ) → IsBytes font.bytes → 0 < length glyphs → flavor font ≡ Some TrueType → (a : IsAnswered font.extras.hinting (table font) glyphs out) → ((e : Error) → HasFault tokens depth font glyphs a.order e → ⊥) → IsAnswer tokens depth font glyphs out
unfolding made_subset
is_subset tokens depth font glyphs out bytes some kind a clean =
    let read : outlines font ≡ Some a.source = named_ok (outlines font) MalformedFont a.source a.read in
    let closed : IsGlyphOrder font glyphs a.order = order_in font glyphs a.order a.source read a.is_order in
    let more = some_glyph glyphs closed.others a.order closed.begins some in
    let made = tables_steps (table font) a.source a.order a.tables a.tables_are in
    let s = made_steps (table font) a.source a.order made.0 made.1 in
    let laid_out = file_steps (kind_word TrueType) a.tables out a.laid_out in
    let fit : fits (start_of (laid (table font) made.0)) (laid (table font) made.0) ≡ true = subst (λ (l : List Table). fits (start_of l) l ≡ true) (sym made.2) laid_out.0 in
    let same : file (kind_word TrueType) (laid (table font) made.0) ≡ out = ap (file (kind_word TrueType)) made.2 ∙ laid_out.1 in
    subst (IsAnswer tokens depth font glyphs) same (record {
      subset = made_subset font a.source a.order made.0 read s fit tokens depth glyphs bytes closed more a.few kind a.tables (sym made.2) a.tables_are;
      clean = clean;
      found = λ source r. subst (λ (t : Outlines). Finds t a.order glyphs [] glyphs) (just_is a.source source (sym read ∙ r)) a.found;
    })
