-- A font of which there is an instance has no fault.
use Rattle.std.proofs.Common.{◌≡◌, ℕ, true, false, List, length, Some, Ok, ℤ, sym, ap, subst, ◌∙◌}
use Rattle.std.specs.Prelude.{codes, Contains}
use Rattle.subsetter_base.specs.Bytes.{IsBytes, ◌>>=◌}
use Rattle.subsetter_base.specs.declared.tag.Tag.{Tag}
use Rattle.subsetter_base.specs.declared.error.Error.{Error}
use Rattle.subsetter_base.proofs.Options.{just_is, some_not_none}
use Rattle.subsetter_base.proofs.Results.{done_is, bind_ok}
use Rattle.subsetter_sfnt.specs.Fault.{HasOpeningFault}
use Rattle.subsetter_sfnt.specs.Plain.{opened, flavored}
use Rattle.subsetter_sfnt.specs.Read.{Font, table_in, stored}
use Rattle.subsetter_sfnt.specs.Laying.Written.{fits, start_of}
use Rattle.subsetter_instance.specs.Source.{Source, normalized_coordinates, source_in}
use Rattle.subsetter_instance.specs.Glyphs.Drawn.{Drawn, drawn}
use Rattle.subsetter_instance.specs.Tables.Lines.{Lines, lines_of}
use Rattle.subsetter_instance.specs.Plain.{drawn_all, by_flavor, instance_of}
use Rattle.subsetter_instance.specs.Fault.{HasGlyphFault, HasInstanceFault, in_opening, no_glyf, in_place, in_versions, in_source, in_glyph, in_lines, large_file}
use Rattle.subsetter_instance.specs.Answer.{IsAnswer}
use Rattle.subsetter_instance.proofs.FaultLaws.Opening.{no_opening_fault}
use Rattle.subsetter_instance.proofs.FaultLaws.Glyph.{drawn_clean}
use Rattle.subsetter_instance.proofs.FaultLaws.Lines.{lines_clean}
use Rattle.subsetter_instance.proofs.FaultLaws.Place.{place_clean}
use Rattle.subsetter_instance.proofs.FaultLaws.Source.{tables_clean, other_version_of}
use Rattle.subsetter_instance.proofs.FileLaws.Among.{is_among, drawn_one}
use Rattle.subsetter_instance.proofs.FileLaws.Instance.{is_instance}
use Rattle.subsetter_instance.proofs.FileLaws.Steps.{laid_tables, source_glyf, InstanceSteps, font_steps}

module _ (font : Font) (settings : List (Tag × ℤ)) (glyphs : List ℕ) (steps : ℕ) (out : List ℕ) (i : InstanceSteps (stored font) settings glyphs steps out) where
  same_place : (at : List ℤ) → normalized_coordinates (stored font) settings ≡ Ok at → i.at ≡ at
  same_place at h = done_is i.at at (sym i.coordinates_are ∙ h)

  same_source : (at : List ℤ) (s : Source) → normalized_coordinates (stored font) settings ≡ Ok at → source_in (stored font) (length at) ≡ Some s → i.source ≡ s
  same_source at s p h = just_is i.source s (sym i.source_is ∙ ap (λ (l : List ℤ). source_in (stored font) (length l)) (same_place at p) ∙ h)

  no_fault_in : (e : Error) (at : List ℤ) (s : Source) (g : ℕ) → i.at ≡ at → i.source ≡ s → Contains glyphs g → HasGlyphFault s at steps g e → ⊥
  no_fault_in e at s g a t there f =
      let m = is_among i.source i.at steps glyphs i.ds g i.drawn_is there in
      let d = drawn_one i.source i.at steps g m.d m.drawn_is in
      drawn_clean i.source i.at steps g m.d e d.0 d.1 (subst (λ (l : List ℤ). HasGlyphFault i.source l steps g e) (sym a) (subst (λ (x : Source). HasGlyphFault x at steps g e) (sym t) f))

  not_large : (at : List ℤ) (s : Source) (ds : List Drawn) (l : Lines) (head : List ℕ) → i.at ≡ at → i.source ≡ s → drawn_all s at steps glyphs ≡ Ok ds → lines_of (stored font) settings at ≡ Ok l → stored font (codes "head") ≡ Some head
      → fits (start_of (laid_tables (stored font) l s glyphs ds head)) (laid_tables (stored font) l s glyphs ds head) ≡ false → ⊥
  not_large at s ds l head a t drawn varies at_head h =
      let same : i.ds ≡ ds = done_is i.ds ds (sym i.drawn_is ∙ ap (λ (l : List ℤ). drawn_all i.source l steps glyphs) a ∙ ap (λ (x : Source). drawn_all x at steps glyphs) t ∙ drawn) in
      let x : i.head ≡ head = just_is i.head head (sym i.head_is ∙ at_head) in
      let y : i.lines ≡ l = done_is i.lines l (sym i.lines_are ∙ ap (lines_of (stored font) settings) a ∙ varies) in
      let fit = λ (l : Lines) (s : Source) (ds : List Drawn) (head : List ℕ). fits (start_of (laid_tables (stored font) l s glyphs ds head)) (laid_tables (stored font) l s glyphs ds head) in
      let clash : true ≡ false = sym i.fit ∙ ap (λ (s : Source). fit i.lines s i.ds i.head) t ∙ ap (λ (d : List Drawn). fit i.lines s d i.head) same ∙ ap (λ (h : List ℕ). fit i.lines s ds h) x ∙ ap (λ (l : Lines). fit l s ds head) y ∙ h in
      cc

  no_fault : (e : Error) → (HasOpeningFault font e → ⊥) → HasInstanceFault font settings glyphs steps e → ⊥
  no_fault e opening (in_opening f) = opening f
  no_fault e opening (no_glyf none cff) = let g = source_glyf (stored font) (length i.at) i.source i.source_is in some_not_none (stored font (codes "glyf")) g.0 g.1 none
  no_fault e opening (in_place f) = place_clean (stored font) settings i.at e i.coordinates_are f
  no_fault e opening (in_versions f) = let clash : true ≡ false = sym (other_version_of (stored font) e f) ∙ i.known in cc
  no_fault e opening (in_source at p f) = tables_clean (stored font) (length at) i.source (ap (λ (l : List ℤ). source_in (stored font) (length l)) (sym (same_place at p)) ∙ i.source_is) f
  no_fault e opening (in_glyph at s g p h there f) = no_fault_in e at s g (same_place at p) (same_source at s p h) there f
  no_fault e opening (in_lines at p f) = lines_clean (stored font) at settings i.lines e (ap (lines_of (stored font) settings) (sym (same_place at p)) ∙ i.lines_are) f
  no_fault e opening (large_file at s ds l head p h drawn varies at_head f) = not_large at s ds l head (same_place at p) (same_source at s p h) drawn varies at_head f

-- a font that was opened, and whose outlines are of a known kind
pub clean_opening : (font : Font) (settings : List (Tag × ℤ)) (glyphs : List ℕ) (steps : ℕ) (out : List ℕ) (e : Error) → instance_of font settings glyphs steps ≡ Ok out → HasOpeningFault font e → ⊥
unfolding instance_of
clean_opening font settings glyphs steps out e h =
    let a = bind_ok (opened font) (λ d. flavored (table_in font.bytes d) >>= λ f. by_flavor f (table_in font.bytes d) settings glyphs steps) out h in
    let b = bind_ok (flavored (table_in font.bytes a.0)) (λ f. by_flavor f (table_in font.bytes a.0) settings glyphs steps) out a.2 in
    no_opening_fault font a.0 b.0 e a.1 b.1

pub clean : (font : Font) (settings : List (Tag × ℤ)) (glyphs : List ℕ) (steps : ℕ) (out : List ℕ) → instance_of font settings glyphs steps ≡ Ok out → (e : Error) → HasInstanceFault font settings glyphs steps e → ⊥
clean font settings glyphs steps out h e f = no_fault font settings glyphs steps out (font_steps font settings glyphs steps out h) e (clean_opening font settings glyphs steps out e h) f

-- what the plain way makes is an answer
pub is_answer : (font : Font) (settings : List (Tag × ℤ)) (glyphs : List ℕ) (steps : ℕ) (out : List ℕ) → IsBytes font.bytes → instance_of font settings glyphs steps ≡ Ok out → IsAnswer font settings glyphs steps out
is_answer font settings glyphs steps out bytes h = record { instance = is_instance font settings glyphs steps out bytes h; clean = clean font settings glyphs steps out h }
