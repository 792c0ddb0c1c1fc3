-- The steps of the plain way to an instance.
use Rattle.std.proofs.Common.{◌≡◌, ℕ, Bool, true, false, cond, List, length, Option, Some, None, Ok, Err, ℤ, refl, sym, ap, subst, ◌∙◌, ◌⊎◌, inl, inr}
use Rattle.std.specs.Prelude.{codes, not, ◌==◌}
use Rattle.std.specs.Option.{option_and_then, ok_or}
use Rattle.subsetter_base.specs.Bytes.{number, ◌>>=◌}
use Rattle.subsetter_base.specs.declared.tag.Tag.{Tag}
use Rattle.subsetter_base.specs.declared.error.Error.{Error}
use Rattle.subsetter_base.specs.declared.error.Error.TheVariants.{MalformedFont, Unimplemented, OverflowError}
use Rattle.subsetter_base.proofs.Options.{just_is, bind_some}
use Rattle.subsetter_base.proofs.Results.{done_is, failed_is, bind_ok, named_ok, named_err}
use Rattle.subsetter_sfnt.specs.declared.flavor.FontFlavor.{FontFlavor}
use Rattle.subsetter_sfnt.specs.declared.flavor.FontFlavor.TheVariants.{TrueType, Cff}
use Rattle.subsetter_sfnt.specs.Plain.{opened, flavored, file_of}
use Rattle.subsetter_sfnt.specs.Read.{Font, table_in, stored}
use Rattle.subsetter_sfnt.specs.Laying.Rows.{rows, present}
use Rattle.subsetter_sfnt.specs.Laying.Written.{Table, fits, file, start_of, kind_word}
use Rattle.subsetter_sfnt.proofs.Laws.Fault.{opened_records}
use Rattle.subsetter_variation.specs.Glyphs.Tuples.{Gvar}
use Rattle.subsetter_instance.specs.Source.{Source, has_other_version, normalized_coordinates, source_in, source_or_fault, variations_in}
use Rattle.subsetter_instance.specs.Glyphs.Drawn.{Drawn}
use Rattle.subsetter_instance.specs.Plain.{drawn_all, header, laid, instance_in, by_flavor, instance_of}
use Rattle.subsetter_instance.specs.Tables.Lines.{Lines, lines_of, with_lines}
use Rattle.subsetter_instance.specs.Tables.Written.{by_glyph, tables}

-- ---- the source

-- what was read of the tables
pub record SourceSteps (find : List ℕ → Option (List ℕ)) (axes : ℕ) (s : Source) : Type 0 where
  pub loca : List ℕ
  pub loca_is : find (codes "loca") ≡ Some loca
  pub head : List ℕ
  pub head_is : find (codes "head") ≡ Some head
  pub format : ℕ
  pub format_is : number head 50 2 ≡ Some format
  pub maxp : List ℕ
  pub maxp_is : find (codes "maxp") ≡ Some maxp
  pub count_is : number maxp 4 2 ≡ Some s.count
  pub hhea : List ℕ
  pub hhea_is : find (codes "hhea") ≡ Some hhea
  pub pairs_is : number hhea 34 2 ≡ Some s.number_of_h_metrics
  pub hmtx : List ℕ
  pub hmtx_is : find (codes "hmtx") ≡ Some hmtx
  pub gvar : Option Gvar
  pub gvar_is : variations_in (find (codes "gvar")) axes ≡ Some gvar

-- what is read after each of the tables
module _ (find : List ℕ → Option (List ℕ)) (axes : ℕ) where
  abbrev pub made : List ℕ → List ℕ → ℕ → ℕ → ℕ → List ℕ → Option Gvar → Option Source
  made glyf loca format count pairs hmtx gvar = Some (record { glyf = glyf; loca = loca; long = not (format == 0); count = count; number_of_h_metrics = pairs; hmtx = hmtx; gvar = gvar; hvar = find (codes "HVAR") })

  abbrev pub after_hmtx : List ℕ → List ℕ → ℕ → ℕ → ℕ → List ℕ → Option Source
  after_hmtx glyf loca format count pairs hmtx = option_and_then (made glyf loca format count pairs hmtx) (variations_in (find (codes "gvar")) axes)

  abbrev pub after_pairs : List ℕ → List ℕ → ℕ → ℕ → ℕ → Option Source
  after_pairs glyf loca format count pairs = option_and_then (after_hmtx glyf loca format count pairs) (find (codes "hmtx"))

  abbrev pub after_hhea : List ℕ → List ℕ → ℕ → ℕ → List ℕ → Option Source
  after_hhea glyf loca format count hhea = option_and_then (after_pairs glyf loca format count) (number hhea 34 2)

  abbrev pub after_count : List ℕ → List ℕ → ℕ → ℕ → Option Source
  after_count glyf loca format count = option_and_then (after_hhea glyf loca format count) (find (codes "hhea"))

  abbrev pub after_maxp : List ℕ → List ℕ → ℕ → List ℕ → Option Source
  after_maxp glyf loca format maxp = option_and_then (after_count glyf loca format) (number maxp 4 2)

  abbrev pub after_format : List ℕ → List ℕ → ℕ → Option Source
  after_format glyf loca format = option_and_then (after_maxp glyf loca format) (find (codes "maxp"))

  abbrev pub after_head : List ℕ → List ℕ → List ℕ → Option Source
  after_head glyf loca head = option_and_then (after_format glyf loca) (number head 50 2)

  abbrev pub after_loca : List ℕ → List ℕ → Option Source
  after_loca glyf loca = option_and_then (after_head glyf loca) (find (codes "head"))

  abbrev pub after_glyf : List ℕ → Option Source
  after_glyf glyf = option_and_then (after_loca glyf) (find (codes "loca"))

  pub in_turn : source_in find axes ≡ option_and_then after_glyf (find (codes "glyf"))
  unfolding source_in
  in_turn = refl

  -- the table that tells outlines of this kind
  pub source_glyf : (s : Source) → source_in find axes ≡ Some s → (glyf : List ℕ) × (find (codes "glyf") ≡ Some glyf)
  source_glyf s h = let a = bind_some (find (codes "glyf")) after_glyf s (sym in_turn ∙ h) in (a.0, a.1)

  record Widths (s : Source) (glyf loca : List ℕ) (format : ℕ) (maxp : List ℕ) : Type 0 where
    count_is : number maxp 4 2 ≡ Some s.count
    hhea : List ℕ
    hhea_is : find (codes "hhea") ≡ Some hhea
    pairs_is : number hhea 34 2 ≡ Some s.number_of_h_metrics
    hmtx : List ℕ
    hmtx_is : find (codes "hmtx") ≡ Some hmtx
    gvar : Option Gvar
    gvar_is : variations_in (find (codes "gvar")) axes ≡ Some gvar

  widths : (s : Source) (glyf loca : List ℕ) (format : ℕ) (maxp : List ℕ) → after_maxp glyf loca format maxp ≡ Some s → Widths s glyf loca format maxp
  widths s glyf loca format maxp h =
      let f = bind_some (number maxp 4 2) (after_count glyf loca format) s h in
      let g = bind_some (find (codes "hhea")) (after_hhea glyf loca format f.0) s f.2 in
      let i = bind_some (number g.0 34 2) (after_pairs glyf loca format f.0) s g.2 in
      let j = bind_some (find (codes "hmtx")) (after_hmtx glyf loca format f.0 i.0) s i.2 in
      let k = bind_some (variations_in (find (codes "gvar")) axes) (made glyf loca format f.0 i.0 j.0) s j.2 in
      let is = just_is (record { glyf = glyf; loca = loca; long = not (format == 0); count = f.0; number_of_h_metrics = i.0; hmtx = j.0; gvar = k.0; hvar = find (codes "HVAR") }) s k.2 in
      record { count_is = f.1 ∙ ap (λ (t : Source). Some t.count) is; hhea = g.0; hhea_is = g.1; pairs_is = i.1 ∙ ap (λ (t : Source). Some t.number_of_h_metrics) is; hmtx = j.0; hmtx_is = j.1; gvar = k.0; gvar_is = k.1 }

  pub source_steps : (s : Source) → source_in find axes ≡ Some s → SourceSteps find axes s
  source_steps s h =
      let a = bind_some (find (codes "glyf")) after_glyf s (sym in_turn ∙ h) in
      let b = bind_some (find (codes "loca")) (after_loca a.0) s a.2 in
      let c = bind_some (find (codes "head")) (after_head a.0 b.0) s b.2 in
      let d = bind_some (number c.0 50 2) (after_format a.0 b.0) s c.2 in
      let e = bind_some (find (codes "maxp")) (after_maxp a.0 b.0 d.0) s d.2 in
      let w = widths s a.0 b.0 d.0 e.0 e.2 in
      record { loca = b.0; loca_is = b.1; head = c.0; head_is = c.1; format = d.0; format_is = d.1; maxp = e.0; maxp_is = e.1; count_is = w.count_is; hhea = w.hhea; hhea_is = w.hhea_is; pairs_is = w.pairs_is; hmtx = w.hmtx; hmtx_is = w.hmtx_is; gvar = w.gvar; gvar_is = w.gvar_is }

-- tables of version 1 that were read
pub source_read : (find : List ℕ → Option (List ℕ)) (axes : ℕ) (s : Source) → source_or_fault find axes ≡ Ok s → (has_other_version find ≡ false) × (source_in find axes ≡ Some s)
source_read find axes s h = by (has_other_version find) refl h
  where
    by : (b : Bool) → has_other_version find ≡ b → cond b (Err Unimplemented) (ok_or (source_in find axes) MalformedFont) ≡ Ok s → (has_other_version find ≡ false) × (source_in find axes ≡ Some s)
    by true e k = absurd cc
    by false e k = (e, named_ok (source_in find axes) MalformedFont s k)

-- and tables that weren't
pub source_refused : (find : List ℕ → Option (List ℕ)) (axes : ℕ) (e : Error) → source_or_fault find axes ≡ Err e → ((has_other_version find ≡ true) × (Unimplemented ≡ e)) ⊎ ((source_in find axes ≡ None) × (MalformedFont ≡ e))
source_refused find axes e h = by (has_other_version find) refl h
  where
    by : (b : Bool) → has_other_version find ≡ b → cond b (Err Unimplemented) (ok_or (source_in find axes) MalformedFont) ≡ Err e → ((has_other_version find ≡ true) × (Unimplemented ≡ e)) ⊎ ((source_in find axes ≡ None) × (MalformedFont ≡ e))
    by true t k = inl (t, failed_is {A = Source} Unimplemented e k)
    by false t k = inr (named_err (source_in find axes) MalformedFont e k)

-- the tables of the file, read for no axes: what isn't there doesn't vary
pub source_by : (find : List ℕ → Option (List ℕ)) (glyf loca head : List ℕ) (format : ℕ) (maxp : List ℕ) (count : ℕ) (hhea : List ℕ) (pairs : ℕ) (hmtx : List ℕ) → find (codes "glyf") ≡ Some glyf → find (codes "loca") ≡ Some loca → find (codes "head") ≡ Some head → number head 50 2 ≡ Some format
    → find (codes "maxp") ≡ Some maxp → number maxp 4 2 ≡ Some count → find (codes "hhea") ≡ Some hhea → number hhea 34 2 ≡ Some pairs → find (codes "hmtx") ≡ Some hmtx → find (codes "gvar") ≡ None → find (codes "HVAR") ≡ None
    → source_in find 0 ≡ Some (record { glyf = glyf; loca = loca; long = not (format == 0); count = count; number_of_h_metrics = pairs; hmtx = hmtx; gvar = None; hvar = None })
unfolding source_in
source_by find glyf loca head format maxp count hhea pairs hmtx a b c d e f g h i j k = rw (a, b, c, d, e, f, g, h, i, j, k) refl

-- ---- the file

pub file_steps : (kind : ℕ) (ts : List Table) (out : List ℕ) → file_of kind ts ≡ Ok out → (fits (start_of ts) ts ≡ true) × (file kind ts ≡ out)
unfolding file_of
file_steps kind ts out h = by (fits (start_of ts) ts) refl h
  where
    by : (b : Bool) → fits (start_of ts) ts ≡ b → cond b (Ok (file kind ts)) (Err OverflowError) ≡ Ok out → (b ≡ true) × (file kind ts ≡ out)
    by true e k = (refl, done_is (file kind ts) out k)
    by false e k = absurd cc

-- ---- all

-- the tables that are laid out
abbrev pub laid_tables : (List ℕ → Option (List ℕ)) → Lines → Source → List ℕ → List Drawn → List ℕ → List Table
laid_tables find lines s glyphs ds head = present (rows (tables (with_lines find lines) head lines.hhea s.count ds (by_glyph glyphs ds s.count)))

pub record InstanceSteps (find : List ℕ → Option (List ℕ)) (settings : List (Tag × ℤ)) (glyphs : List ℕ) (steps : ℕ) (out : List ℕ) : Type 0 where
  pub at : List ℤ
  pub coordinates_are : normalized_coordinates find settings ≡ Ok at
  pub known : has_other_version find ≡ false
  pub source : Source
  pub source_is : source_in find (length at) ≡ Some source
  pub ds : List Drawn
  pub drawn_is : drawn_all source at steps glyphs ≡ Ok ds
  pub head : List ℕ
  pub head_is : find (codes "head") ≡ Some head
  pub lines : Lines
  pub lines_are : lines_of find settings at ≡ Ok lines
  pub fit : fits (start_of (laid_tables find lines source glyphs ds head)) (laid_tables find lines source glyphs ds head) ≡ true
  pub file_is : file (kind_word TrueType) (laid_tables find lines source glyphs ds head) ≡ out

instance_steps : (find : List ℕ → Option (List ℕ)) (settings : List (Tag × ℤ)) (glyphs : List ℕ) (steps : ℕ) (out : List ℕ) → instance_in find settings glyphs steps ≡ Ok out → InstanceSteps find settings glyphs steps out
unfolding instance_in laid
instance_steps find settings glyphs steps out h =
    let a = bind_ok (normalized_coordinates find settings) (λ at. source_or_fault find (length at) >>= λ s. drawn_all s at steps glyphs >>= λ ds. lines_of find settings at >>= λ lines. laid find lines s glyphs ds) out h in
    let b = bind_ok (source_or_fault find (length a.0)) (λ s. drawn_all s a.0 steps glyphs >>= λ ds. lines_of find settings a.0 >>= λ lines. laid find lines s glyphs ds) out a.2 in
    let r = source_read find (length a.0) b.0 b.1 in
    let c = bind_ok (drawn_all b.0 a.0 steps glyphs) (λ ds. lines_of find settings a.0 >>= λ lines. laid find lines b.0 glyphs ds) out b.2 in
    let l = bind_ok (lines_of find settings a.0) (λ lines. laid find lines b.0 glyphs c.0) out c.2 in
    let d = bind_ok (header find (codes "head")) (λ head. file_of (kind_word TrueType) (laid_tables find l.0 b.0 glyphs c.0 head)) out l.2 in
    let f = file_steps (kind_word TrueType) (laid_tables find l.0 b.0 glyphs c.0 d.0) out d.2 in
    record {
      at = a.0;
      coordinates_are = a.1;
      known = r.0;
      source = b.0;
      source_is = r.1;
      ds = c.0;
      drawn_is = c.1;
      head = d.0;
      head_is = named_ok (find (codes "head")) MalformedFont d.0 d.1;
      lines = l.0;
      lines_are = l.1;
      fit = f.0;
      file_is = f.1;
    }

-- the tables of the directory that was opened
same_find : (font : Font) (d : List ℕ) → opened font ≡ Ok d → stored font ≡ table_in font.bytes d
same_find font d h = ap (λ (o : Option (List ℕ)). λ (tag : List ℕ). option_and_then (λ directory. table_in font.bytes directory tag) o) (opened_records font d h)

pub font_steps : (font : Font) (settings : List (Tag × ℤ)) (glyphs : List ℕ) (steps : ℕ) (out : List ℕ) → instance_of font settings glyphs steps ≡ Ok out → InstanceSteps (stored font) settings glyphs steps out
unfolding instance_of
font_steps font settings glyphs steps out h =
    let a = bind_ok (opened font) (λ d. flavored (table_in font.bytes d) >>= λ f. by_flavor f (table_in font.bytes d) settings glyphs steps) out h in
    let b = bind_ok (flavored (table_in font.bytes a.0)) (λ f. by_flavor f (table_in font.bytes a.0) settings glyphs steps) out a.2 in
    subst (λ find. InstanceSteps find settings glyphs steps out) (sym (same_find font a.0 a.1)) (of_flavor b.0 (table_in font.bytes a.0) b.2)
  where
    of_flavor : (f : FontFlavor) (find : List ℕ → Option (List ℕ)) → by_flavor f find settings glyphs steps ≡ Ok out → InstanceSteps find settings glyphs steps out
    of_flavor TrueType find k = instance_steps find settings glyphs steps out k
    of_flavor Cff find k = absurd cc
