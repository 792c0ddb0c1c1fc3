-- The tables of an instance, read as those of a font that is subset.
use Rattle.std.proofs.Common.{◌≡◌, ℕ, Bool, true, false, List, Option, Some, refl, sym, ap, ◌∙◌}
use Rattle.std.specs.Prelude.{codes, not, ◌==◌}
use Rattle.std.specs.Option.{option_and_then}
use Rattle.std.specs.Str.{bytes_eq}
use Rattle.subsetter_base.specs.Bytes.{number}
use Rattle.subsetter_base.proofs.Options.{just_is, bind_some}
use Rattle.subsetter_sfnt.specs.declared.extras.Extras.{Extras}
use Rattle.subsetter_sfnt.specs.declared.flavor.FontFlavor.TheVariants.{TrueType}
use Rattle.subsetter_sfnt.specs.Extras.{by_hinting, by_names, by_glyph_names, is_hinting_table}
use Rattle.subsetter_sfnt.specs.FontAt.{font_at}
use Rattle.subsetter_sfnt.specs.declared.fields.hmtx.LongHorMetric.{LongHorMetric}
use Rattle.subsetter_sfnt.specs.Read.{as_font, stored, table, flavor}
use Rattle.subsetter.specs.Glyf.Read.{Outlines, outlines, outlines_in, outline, outline_in}
use Rattle.subsetter.specs.Common.Hmtx.Read as hmtx
use Rattle.subsetter_variation.specs.Glyphs.Tuples.{Gvar}
use Rattle.subsetter_instance.specs.Source.{Source, source_in, variations_in, description, metric}
use Rattle.subsetter_variable.proofs.Unopened.{same_stored}

-- ---- what was read

-- each of the tables, and what they say
pub record IsRead (find : List ℕ → Option (List ℕ)) (axes : ℕ) (s : Source) : Type 0 where
  pub glyf_is : find (codes "glyf") ≡ Some s.glyf
  pub loca_is : find (codes "loca") ≡ Some s.loca
  pub head : List ℕ
  pub head_is : find (codes "head") ≡ Some head
  pub format : ℕ
  pub format_is : number head 50 2 ≡ Some format
  pub long_is : not (format == 0) ≡ s.long
  pub hhea : List ℕ
  pub hhea_is : find (codes "hhea") ≡ Some hhea
  pub pairs_is : number hhea 34 2 ≡ Some s.number_of_h_metrics
  pub hmtx_is : find (codes "hmtx") ≡ Some s.hmtx
  pub variations_are : variations_in (find (codes "gvar")) axes ≡ Some s.gvar
  pub hvar_is : find (codes "HVAR") ≡ s.hvar

-- what is read after each of the tables
module _ (find : List ℕ → Option (List ℕ)) (axes : ℕ) where
  abbrev of_hmtx : List ℕ → List ℕ → ℕ → ℕ → ℕ → List ℕ → Option Gvar → Option Source
  of_hmtx glyf loca format count pairs hmtx gvar = Some (record { glyf = glyf; loca = loca; long = not (format == 0); count = count; number_of_h_metrics = pairs; hmtx = hmtx; gvar = gvar; hvar = find (codes "HVAR") })

  abbrev after_hmtx : List ℕ → List ℕ → ℕ → ℕ → ℕ → List ℕ → Option Source
  after_hmtx glyf loca format count pairs hmtx = option_and_then (of_hmtx glyf loca format count pairs hmtx) (variations_in (find (codes "gvar")) axes)

  abbrev after_pairs : List ℕ → List ℕ → ℕ → ℕ → ℕ → Option Source
  after_pairs glyf loca format count pairs = option_and_then (after_hmtx glyf loca format count pairs) (find (codes "hmtx"))

  abbrev after_hhea : List ℕ → List ℕ → ℕ → ℕ → List ℕ → Option Source
  after_hhea glyf loca format count hhea = option_and_then (after_pairs glyf loca format count) (number hhea 34 2)

  abbrev after_count : List ℕ → List ℕ → ℕ → ℕ → Option Source
  after_count glyf loca format count = option_and_then (after_hhea glyf loca format count) (find (codes "hhea"))

  abbrev after_maxp : List ℕ → List ℕ → ℕ → List ℕ → Option Source
  after_maxp glyf loca format maxp = option_and_then (after_count glyf loca format) (number maxp 4 2)

  abbrev after_format : List ℕ → List ℕ → ℕ → Option Source
  after_format glyf loca format = option_and_then (after_maxp glyf loca format) (find (codes "maxp"))

  abbrev after_head : List ℕ → List ℕ → List ℕ → Option Source
  after_head glyf loca head = option_and_then (after_format glyf loca) (number head 50 2)

  abbrev after_loca : List ℕ → List ℕ → Option Source
  after_loca glyf loca = option_and_then (after_head glyf loca) (find (codes "head"))

  abbrev after_glyf : List ℕ → Option Source
  after_glyf glyf = option_and_then (after_loca glyf) (find (codes "loca"))

  in_turn : source_in find axes ≡ option_and_then after_glyf (find (codes "glyf"))
  unfolding source_in
  in_turn = refl

  pub is_read : (s : Source) → source_in find axes ≡ Some s → IsRead find axes s
  is_read s h =
      let a = bind_some (find (codes "glyf")) after_glyf s (sym in_turn ∙ h) in
      let b = bind_some (find (codes "loca")) (after_loca a.0) s a.2 in
      let c = bind_some (find (codes "head")) (after_head a.0 b.0) s b.2 in
      let d = bind_some (number c.0 50 2) (after_format a.0 b.0) s c.2 in
      let e = bind_some (find (codes "maxp")) (after_maxp a.0 b.0 d.0) s d.2 in
      let f = bind_some (number e.0 4 2) (after_count a.0 b.0 d.0) s e.2 in
      let g = bind_some (find (codes "hhea")) (after_hhea a.0 b.0 d.0 f.0) s f.2 in
      let i = bind_some (number g.0 34 2) (after_pairs a.0 b.0 d.0 f.0) s g.2 in
      let j = bind_some (find (codes "hmtx")) (after_hmtx a.0 b.0 d.0 f.0 i.0) s i.2 in
      let k = bind_some (variations_in (find (codes "gvar")) axes) (of_hmtx a.0 b.0 d.0 f.0 i.0 j.0) s j.2 in
      let made : Source = record { glyf = a.0; loca = b.0; long = not (d.0 == 0); count = f.0; number_of_h_metrics = i.0; hmtx = j.0; gvar = k.0; hvar = find (codes "HVAR") } in
      let is : made ≡ s = just_is made s k.2 in
      record {
        glyf_is = a.1 ∙ ap (λ (t : Source). Some t.glyf) is;
        loca_is = b.1 ∙ ap (λ (t : Source). Some t.loca) is;
        head = c.0;
        head_is = c.1;
        format = d.0;
        format_is = d.1;
        long_is = ap (λ (t : Source). t.long) is;
        hhea = g.0;
        hhea_is = g.1;
        pairs_is = i.1 ∙ ap (λ (t : Source). Some t.number_of_h_metrics) is;
        hmtx_is = j.1 ∙ ap (λ (t : Source). Some t.hmtx) is;
        variations_are = k.1 ∙ ap (λ (t : Source). Some t.gvar) is;
        hvar_is = ap (λ (t : Source). t.hvar) is;
      }

-- ---- among the tables that are asked for

abbrev by_choice : Bool → Bool → Bool → List ℕ → Option (List ℕ) → Option (List ℕ)
by_choice h n g tag found = by_glyph_names g tag (by_names n tag (by_hinting h tag found))

-- neither a program, nor maxp, nor name, nor post
pub record IsAlways (tag : List ℕ) : Type 0 where
  pub program : is_hinting_table tag ≡ false
  pub profile : bytes_eq tag (codes "maxp") ≡ false
  pub names : bytes_eq tag (codes "name") ≡ false
  pub glyph_names : bytes_eq tag (codes "post") ≡ false

pub plain : {tag : List ℕ} → is_hinting_table tag ≡ false → bytes_eq tag (codes "maxp") ≡ false → bytes_eq tag (codes "name") ≡ false → bytes_eq tag (codes "post") ≡ false → IsAlways tag
plain p m n g = record { program = p; profile = m; names = n; glyph_names = g }

module _ (tag : List ℕ) (a : IsAlways tag) where
  hinted : (h : Bool) (found : Option (List ℕ)) → by_hinting h tag found ≡ found
  hinted true found = refl
  hinted false found = rw (a.program, a.profile) refl

  named : (n : Bool) (found : Option (List ℕ)) → by_names n tag found ≡ found
  named true found = refl
  named false found = rw a.names refl

  numbered : (g : Bool) (found : Option (List ℕ)) → by_glyph_names g tag found ≡ found
  numbered true found = refl
  numbered false found = rw a.glyph_names refl

  always : (h n g : Bool) (found : Option (List ℕ)) → by_choice h n g tag found ≡ found
  always h n g found = ap (λ o. by_glyph_names g tag (by_names n tag o)) (hinted h found) ∙ ap (λ o. by_glyph_names g tag o) (named n found) ∙ numbered g found

module _ (file : List ℕ) (x : Extras) where
  pub same_table : (tag : List ℕ) → IsAlways tag → table (font_at file 0 x) tag ≡ stored (as_font file) tag
  same_table tag a = always tag a x.hinting x.names x.glyph_names (stored (font_at file 0 x) tag) ∙ sym (same_stored (font_at file 0 x) tag)

  found : (tag bytes : List ℕ) → IsAlways tag → stored (as_font file) tag ≡ Some bytes → table (font_at file 0 x) tag ≡ Some bytes
  found tag bytes a h = same_table tag a ∙ h

  module _ (s : Source) (r : IsRead (stored (as_font file)) 0 s) where
    pub glyf_found : table (font_at file 0 x) (codes "glyf") ≡ Some s.glyf
    glyf_found = found (codes "glyf") s.glyf (plain refl refl refl refl) r.glyf_is

    loca_found : table (font_at file 0 x) (codes "loca") ≡ Some s.loca
    loca_found = found (codes "loca") s.loca (plain refl refl refl refl) r.loca_is

    head_found : table (font_at file 0 x) (codes "head") ≡ Some r.head
    head_found = found (codes "head") r.head (plain refl refl refl refl) r.head_is

    hhea_found : table (font_at file 0 x) (codes "hhea") ≡ Some r.hhea
    hhea_found = found (codes "hhea") r.hhea (plain refl refl refl refl) r.hhea_is

    pub hmtx_found : table (font_at file 0 x) (codes "hmtx") ≡ Some s.hmtx
    hmtx_found = found (codes "hmtx") s.hmtx (plain refl refl refl refl) r.hmtx_is

    -- ---- outlines

    pub is_truetype : flavor (font_at file 0 x) ≡ Some TrueType
    is_truetype = rw glyf_found refl

    read_outlines : Outlines
    read_outlines = record { loca = s.loca; glyf = s.glyf; head = r.head; long = s.long; hinting = x.hinting }

    outlines_found : outlines (font_at file 0 x) ≡ Some read_outlines
    unfolding outlines_in read_outlines
    outlines_found = rw (loca_found, glyf_found, head_found, r.format_is, r.long_is) refl

    by_tables : (g : ℕ) → outline_in read_outlines g ≡ description s g
    unfolding outline_in description read_outlines
    by_tables g = refl

    pub outline_found : (g : ℕ) → outline (font_at file 0 x) g ≡ description s g
    outline_found g = ap (option_and_then (λ t. outline_in t g)) outlines_found ∙ by_tables g

    -- ---- metrics

    pub metric_found : (g : ℕ) (m : LongHorMetric) → metric s g ≡ Some m → hmtx.metric (font_at file 0 x) g ≡ Some m
    unfolding metric hmtx.metric_of
    metric_found g m h = rw (hhea_found, hmtx_found, r.pairs_is) h
