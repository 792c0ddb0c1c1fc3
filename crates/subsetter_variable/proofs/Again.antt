-- An instance of an instance, at no settings and for the same glyphs, is it again.
use Rattle.std.proofs.Common.{◌≡◌, ℕ, ◌≤◌, Bool, false, List, [], ◌∷◌, ◌++◌, length, take, drop, Option, Some, None, Ok, ℤ, refl, sym, ap, ◌∙◌, arith}
use Rattle.std.specs.Prelude.{codes, slice_range, Contains, if◌then◌else◌}
use Rattle.std.specs.Int.{w16, to_be_bytes}
use Rattle.std.specs.Str.{bytes_eq}
use Rattle.subsetter_base.specs.Bytes.{◌>>=◌}
use Rattle.subsetter_base.specs.declared.tag.Tag.{Tag}
use Rattle.subsetter_base.proofs.ByteLemmas.{number-fits}
use Rattle.subsetter_base.proofs.Lists.{Contains-later}
use Rattle.subsetter_base.proofs.Options.{just_is}
use Rattle.subsetter_base.proofs.Results.{done_is, bind_ok}
use Rattle.subsetter_sfnt.specs.declared.flavor.FontFlavor.TheVariants.{TrueType}
use Rattle.subsetter_sfnt.specs.Read.{Font, as_font, stored}
use Rattle.subsetter_sfnt.specs.Laying.Rows.{FontTables, bytes_of, rows, present}
use Rattle.subsetter_sfnt.specs.Laying.Written.{file, kind_word}
use Rattle.subsetter_sfnt.proofs.Laws.LayingLaws.Laid.{row_back}
use Rattle.subsetter_variation.specs.Glyphs.Tuples.{Gvar}
use Rattle.subsetter_instance.specs.Source.{Source, normalized_by, source_in, variations_in}
use Rattle.subsetter_instance.specs.Glyphs.Drawn.{Drawn, drawn}
use Rattle.subsetter_instance.specs.Tables.Extremes.{all_extents, box_bytes, extreme_bytes}
use Rattle.subsetter_instance.specs.Instance.{IsInstance}
use Rattle.subsetter_instance.specs.Tables.Lines.{Lines, lines_of, with_lines}
use Rattle.subsetter_instance.specs.Plain.{drawn_if, drawn_all}
use Rattle.subsetter_sfnt.specs.Fields.Loca.{loca_bytes}
use Rattle.subsetter_instance.specs.Tables.Written.{by_glyph, glyf_bytes, is_long, offsets_from, hmtx_of, head_bytes, hhea_bytes, maxp_bytes, tables}
use Rattle.subsetter_instance.proofs.FileLaws.Among.{drawn_one}
use Rattle.subsetter_instance.proofs.FileLaws.Laid.{has_room}
use Rattle.subsetter_instance.proofs.FileLaws.Lines.{still_lines}
use Rattle.subsetter_instance.proofs.FileLaws.Steps.{InstanceSteps, font_steps, source_steps}
use Rattle.subsetter_variable.proofs.Redrawn.{redrawn}
use Rattle.subsetter_variable.proofs.SourceRead.{IsRead, is_read}

-- ---- what an instance doesn't have

module _ (font : Font) (settings : List (Tag × ℤ)) (glyphs : List ℕ) (steps : ℕ) (out : List ℕ) (p : InstanceSteps (stored font) settings glyphs steps out) where
  abbrev all : List (Option Drawn)
  all = by_glyph glyphs p.ds p.source.count

  abbrev laid : FontTables
  laid = tables (with_lines (stored font) p.lines) p.head p.lines.hhea p.source.count p.ds all

  long_head : 52 ≤ length p.head
  long_head =
      let read = source_steps (stored font) (length p.at) p.source p.source_is in
      omega (arith, number-fits read.head 50 2 read.format read.format_is, ap length (just_is read.head p.head (sym read.head_is ∙ p.head_is)))

  pub back : (tag : List ℕ) → bytes_eq tag (codes "head") ≡ false → stored (as_font out) tag ≡ bytes_of tag (rows laid)
  back tag other = ap (λ (f : List ℕ). stored (as_font f) tag) (sym p.file_is) ∙ row_back TrueType laid (has_room (is_long (glyf_bytes all)) p.ds p.head long_head) p.fit tag other

-- ---- its glyphs

all_redrawn : (s t : Source) (at : List ℤ) (m n : ℕ) (glyphs : List ℕ) (xs ys : List Drawn) → ((g : ℕ) → Contains glyphs g → (a b : Drawn) → drawn s [] m g ≡ Ok a → drawn t at n g ≡ Ok b → a ≡ b) → drawn_all s [] m glyphs ≡ Ok xs → drawn_all t at n glyphs ≡ Ok ys → xs ≡ ys
all_redrawn s t at m n [] xs ys alike e f = done_is xs ys (sym e ∙ f)
all_redrawn s t at m n (g ∷ gs) xs ys alike e f =
    let a = bind_ok (drawn_if s [] m g) (λ d. drawn_all s [] m gs >>= λ rest. Ok (d ∷ rest)) xs e in
    let b = bind_ok (drawn_if t at n g) (λ d. drawn_all t at n gs >>= λ rest. Ok (d ∷ rest)) ys f in
    let c = bind_ok (drawn_all s [] m gs) (λ rest. Ok (a.0 ∷ rest)) xs a.2 in
    let d = bind_ok (drawn_all t at n gs) (λ rest. Ok (b.0 ∷ rest)) ys b.2 in
    let first : a.0 ≡ b.0 = alike g (0, omega arith, refl) a.0 b.0 (drawn_one s [] m g a.0 a.1).1 (drawn_one t at n g b.0 b.1).1 in
    let rest : c.0 ≡ d.0 = all_redrawn s t at m n gs c.0 d.0 (λ h there. alike h (Contains-later g h gs there)) c.1 d.1 in
    sym (done_is (a.0 ∷ c.0) xs c.2) ∙ ap (λ (x : Drawn). x ∷ c.0) first ∙ ap (λ (l : List Drawn). b.0 ∷ l) rest ∙ done_is (b.0 ∷ d.0) ys d.2

-- ---- its headers

head_by : Bool → List Drawn → List ℕ → List ℕ → List ℕ → List ℕ → List ℕ
head_by long ds front middle style end = front ++ (0 ∷ 0 ∷ 0 ∷ 0 ∷ []) ++ (middle ++ box_bytes (all_extents ds) ++ style) ++ (0 ∷ (if long then 1 else 0) ∷ []) ++ end

same_head : (long : Bool) (ds : List Drawn) (a b : List ℕ) → take 8 a ≡ take 8 b → slice_range a 12 36 ≡ slice_range b 12 36 → slice_range a 44 50 ≡ slice_range b 44 50 → drop 52 a ≡ drop 52 b → head_bytes long ds a ≡ head_bytes long ds b
unfolding head_by
same_head long ds a b f m y e =
    ap (λ (l : List ℕ). head_by long ds l (slice_range a 12 36) (slice_range a 44 50) (drop 52 a)) f ∙ ap (λ (l : List ℕ). head_by long ds (take 8 b) l (slice_range a 44 50) (drop 52 a)) m
    ∙ ap (λ (l : List ℕ). head_by long ds (take 8 b) (slice_range b 12 36) l (drop 52 a)) y ∙ ap (λ (l : List ℕ). head_by long ds (take 8 b) (slice_range b 12 36) (slice_range b 44 50) l) e

same_hhea : (n : ℕ) (ds : List Drawn) (a b : List ℕ) → take 10 a ≡ take 10 b → slice_range a 18 34 ≡ slice_range b 18 34 → drop 36 a ≡ drop 36 b → hhea_bytes n ds a ≡ hhea_bytes n ds b
same_hhea n ds a b f m e =
    ap (λ (l : List ℕ). (l ++ extreme_bytes ds ++ slice_range a 18 34) ++ to_be_bytes w16 n ++ drop 36 a) f ∙ ap (λ (l : List ℕ). (take 10 b ++ extreme_bytes ds ++ l) ++ to_be_bytes w16 n ++ drop 36 a) m
    ∙ ap (λ (l : List ℕ). (take 10 b ++ extreme_bytes ds ++ slice_range b 18 34) ++ to_be_bytes w16 n ++ l) e

-- ---- the file

abbrev with_parts : ℕ → List Drawn → List (Option Drawn) → List ℕ → List ℕ → Option (List ℕ) → Option (List ℕ) → FontTables
with_parts n ds all head hhea name post = record {
  cff = None;
  cvt = None;
  fpgm = None;
  glyf = Some (glyf_bytes all);
  head = Some head;
  hhea = Some hhea;
  hmtx = Some (hmtx_of all);
  loca = Some (loca_bytes (is_long (glyf_bytes all)) (offsets_from 0 all));
  maxp = Some (maxp_bytes n ds);
  name = name;
  post = post;
  prep = None;
}

module _ (font : Font) (settings : List (Tag × ℤ)) (glyphs out again : List ℕ) (i : IsInstance font settings glyphs out) (j : IsInstance (as_font out) [] glyphs again) where
  p : InstanceSteps (stored font) settings glyphs i.steps out
  p = font_steps font settings glyphs i.steps out i.layout

  q : InstanceSteps (stored (as_font out)) [] glyphs j.steps again
  q = font_steps (as_font out) [] glyphs j.steps again j.layout

  read : IsRead (stored (as_font out)) 0 i.out
  read = is_read (stored (as_font out)) 0 i.out i.out_is

  still : i.out.gvar ≡ None
  still = sym (just_is {A = Option Gvar} None i.out.gvar (ap (λ (o : Option (List ℕ)). variations_in o 0) (sym (back font settings glyphs i.steps out p (codes "gvar") refl)) ∙ read.variations_are))

  wide : i.out.hvar ≡ None
  wide = sym read.hvar_is ∙ back font settings glyphs i.steps out p (codes "HVAR") refl

  no_place : q.at ≡ []
  no_place = sym (done_is [] q.at (ap (λ (o : Option (List ℕ)). normalized_by o (stored (as_font out) (codes "avar")) []) (sym (back font settings glyphs i.steps out p (codes "fvar") refl)) ∙ q.coordinates_are))

  own_source : q.source ≡ i.out
  own_source = just_is q.source i.out (sym q.source_is ∙ ap (λ (l : List ℤ). source_in (stored (as_font out)) (length l)) no_place ∙ i.out_is)

  first_place : p.at ≡ i.at
  first_place = done_is p.at i.at (sym p.coordinates_are ∙ i.coordinates_are)

  first_source : p.source ≡ i.source
  first_source = just_is p.source i.source (sym p.source_is ∙ ap (λ (l : List ℤ). source_in (stored font) (length l)) first_place ∙ i.source_is)

  same_drawn : q.ds ≡ p.ds
  same_drawn =
      all_redrawn i.out i.source i.at j.steps i.steps glyphs q.ds p.ds (λ g c a b e f. redrawn i.source i.out i.at i.steps g (i.requests g c) still wide j.steps a e ∙ done_is (i.requests g c).it b (sym (i.requests g c).drawn_is ∙ f))
      (ap (λ (s : Source). drawn_all s [] j.steps glyphs) (sym own_source) ∙ ap (λ (l : List ℤ). drawn_all q.source l j.steps glyphs) (sym no_place) ∙ q.drawn_is)
      (ap (λ (s : Source). drawn_all s i.at i.steps glyphs) (sym first_source) ∙ ap (λ (l : List ℤ). drawn_all p.source l i.steps glyphs) (sym first_place) ∙ p.drawn_is)

  same_count : q.source.count ≡ p.source.count
  same_count = ap (λ (s : Source). s.count) own_source ∙ i.count ∙ ap (λ (s : Source). s.count) (sym first_source)

  -- the second instance has neither MVAR nor fvar, so that its hhea and post stay
  still_rows : (stored (as_font out) (codes "hhea") ≡ Some q.lines.hhea) × (q.lines.post ≡ stored (as_font out) (codes "post"))
  still_rows = still_lines (stored (as_font out)) [] q.at q.lines (back font settings glyphs i.steps out p (codes "MVAR") refl) (back font settings glyphs i.steps out p (codes "fvar") refl) q.lines_are

  first_lines : i.lines ≡ p.lines
  first_lines = done_is i.lines p.lines (sym i.lines_are ∙ ap (lines_of (stored font) settings) (sym first_place) ∙ p.lines_are)

  head_kept : (long : Bool) (ds : List Drawn) → head_bytes long ds q.head ≡ head_bytes long ds p.head
  head_kept long ds =
      let source : i.head.source ≡ p.head = just_is i.head.source p.head (sym i.head.source_is ∙ p.head_is) in
      let copy : q.head ≡ i.head.copy = just_is q.head i.head.copy (sym q.head_is ∙ i.head.copy_is) in
      same_head long ds q.head p.head (ap (take 8) copy ∙ i.head.front ∙ ap (take 8) source) (i.head_middle p.head q.head p.head_is q.head_is) (i.head_style p.head q.head p.head_is q.head_is) (ap (drop 52) copy ∙ i.head.end ∙ ap (drop 52) source)

  hhea_kept : (n : ℕ) (ds : List Drawn) → hhea_bytes n ds q.lines.hhea ≡ hhea_bytes n ds p.lines.hhea
  hhea_kept n ds =
      let source : i.hhea.source ≡ i.lines.hhea = just_is i.hhea.source i.lines.hhea (sym i.hhea.source_is) in
      let copy : q.lines.hhea ≡ i.hhea.copy = just_is q.lines.hhea i.hhea.copy (sym still_rows.0 ∙ i.hhea.copy_is) in
      same_hhea n ds q.lines.hhea i.lines.hhea (ap (take 10) copy ∙ i.hhea.front ∙ ap (take 10) source) (i.hhea_middle i.lines.hhea q.lines.hhea refl still_rows.0) (ap (drop 36) copy ∙ i.hhea.end ∙ ap (drop 36) source)
      ∙ ap (λ (l : Lines). hhea_bytes n ds l.hhea) first_lines

  post_kept : q.lines.post ≡ p.lines.post
  post_kept = still_rows.1 ∙ i.post ∙ ap (λ (l : Lines). l.post) first_lines

  same_parts : (n : ℕ) (ds : List Drawn) (all : List (Option Drawn)) → tables (with_lines (stored (as_font out)) q.lines) q.head q.lines.hhea n ds all ≡ tables (with_lines (stored font) p.lines) p.head p.lines.hhea n ds all
  same_parts n ds all =
      let long = is_long (glyf_bytes all) in
      ap (λ (l : List ℕ). with_parts n ds all l (hhea_bytes n ds q.lines.hhea) (stored (as_font out) (codes "name")) q.lines.post) (head_kept long ds)
      ∙ ap (λ (l : List ℕ). with_parts n ds all (head_bytes long ds p.head) l (stored (as_font out) (codes "name")) q.lines.post) (hhea_kept n ds)
      ∙ ap (λ (o : Option (List ℕ)). with_parts n ds all (head_bytes long ds p.head) (hhea_bytes n ds p.lines.hhea) o q.lines.post) i.name
      ∙ ap (λ (o : Option (List ℕ)). with_parts n ds all (head_bytes long ds p.head) (hhea_bytes n ds p.lines.hhea) (stored font (codes "name")) o) post_kept

  pub itself_again : again ≡ out
  itself_again =
      sym q.file_is
      ∙ ap (λ (n : ℕ). file (kind_word TrueType) (present (rows (tables (with_lines (stored (as_font out)) q.lines) q.head q.lines.hhea n q.ds (by_glyph glyphs q.ds n))))) same_count
      ∙ ap (λ (ds : List Drawn). file (kind_word TrueType) (present (rows (tables (with_lines (stored (as_font out)) q.lines) q.head q.lines.hhea p.source.count ds (by_glyph glyphs ds p.source.count))))) same_drawn
      ∙ ap (λ (t : FontTables). file (kind_word TrueType) (present (rows t))) (same_parts p.source.count p.ds (by_glyph glyphs p.ds p.source.count)) ∙ p.file_is
