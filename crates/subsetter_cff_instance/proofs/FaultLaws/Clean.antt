-- A font of which there is a static font has no fault.
use Rattle.std.proofs.Common.{◌≡◌, ℕ, true, false, List, Some, Ok, ℤ, sym, ap, subst, ◌∙◌}
use Rattle.std.specs.Prelude.{codes, Contains}
use Rattle.subsetter_base.specs.declared.tag.Tag.{Tag}
use Rattle.subsetter_base.specs.declared.error.Error.{Error}
use Rattle.subsetter_base.proofs.Options.{just_is}
use Rattle.subsetter_base.proofs.Results.{done_is}
use Rattle.subsetter_sfnt.specs.Read.{Font, stored}
use Rattle.subsetter_sfnt.specs.Laying.Written.{fits, start_of}
use Rattle.subsetter_instance.specs.Source.{normalized_coordinates}
use Rattle.subsetter_instance.specs.Tables.Lines.{lines_of}
use Rattle.subsetter_instance.proofs.FaultLaws.Lines.{lines_clean}
use Rattle.subsetter_instance.proofs.FaultLaws.Place.{place_clean}
use Rattle.subsetter_cff_at.specs.Fault.{HasFault}
use Rattle.subsetter_cff_at.specs.Plain.{made_table}
use Rattle.subsetter_cff_at.proofs.Excluded.{made_excludes}
use Rattle.subsetter_cff_instance.specs.Answer.{IsCffAnswer}
use Rattle.subsetter_cff_instance.specs.CffInstance.{IsCffInstance}
use Rattle.subsetter_cff_instance.specs.Fault.{HasGlyphFault, HasCffInstanceFault, in_outlines, in_coordinates, other_hvar, other_mvar, in_source, in_glyph, in_lines, in_table, large_file}
use Rattle.subsetter_cff_instance.specs.Laws.{HasNoCffFaultWhereAnswered}
use Rattle.subsetter_cff_instance.specs.Plain.{Prepared, prepared, request_at, cff_instance_of}
use Rattle.subsetter_cff_instance.specs.Source.{Source, has_other_version, source_in}
use Rattle.subsetter_cff_instance.specs.Tables.{new_tables}
use Rattle.subsetter_cff_instance.proofs.FaultLaws.Glyph.{each_varied, varied_clean}
use Rattle.subsetter_cff_instance.proofs.FaultLaws.Opening.{no_outlines_fault}
use Rattle.subsetter_cff_instance.proofs.FaultLaws.Source.{other_hvar_is, other_mvar_is, tables_clean}
use Rattle.subsetter_cff_instance.proofs.Steps.{CffSteps, font_steps, source_steps}

module _ (font : Font) (settings : List (Tag × ℤ)) (glyphs : List ℕ) (tokens depth : ℕ) (out : List ℕ) (i : CffSteps (stored font) settings glyphs tokens depth out) where
  same_place : (at : List ℤ) → normalized_coordinates (stored font) settings ≡ Ok at → i.p.at ≡ at
  same_place at h = done_is i.p.at at (sym i.steps.coordinates_are ∙ h)

  same_source : (s : Source) → source_in (stored font) ≡ Some s → i.p.source ≡ s
  same_source s h = just_is i.p.source s (sym i.steps.source_is ∙ h)

  same_outlines : (cff2 : List ℕ) → stored font (codes "CFF2") ≡ Some cff2 → i.cff2 ≡ cff2
  same_outlines cff2 h = just_is i.cff2 cff2 (sym i.outlines.cff2_is ∙ h)

  same_prepared : (p : Prepared) → prepared (stored font) settings glyphs ≡ Ok p → i.p ≡ p
  same_prepared p h = done_is i.p p (sym i.prepared_is ∙ h)

  known_version : has_other_version (stored font) ≡ true → ⊥
  known_version h = let clash : true ≡ false = sym h ∙ i.steps.known in cc

  no_fault_in : (e : Error) (at : List ℤ) (s : Source) (g : ℕ) → i.p.at ≡ at → i.p.source ≡ s → Contains glyphs g → HasGlyphFault s at g e → ⊥
  no_fault_in e at s g a t there f =
      let m = each_varied i.p.source i.p.at glyphs i.p.metrics g i.steps.metrics_are there in
      varied_clean i.p.source i.p.at g m.0 e m.1 (subst (λ (l : List ℤ). HasGlyphFault i.p.source l g e) (sym a) (subst (λ (x : Source). HasGlyphFault x at g e) (sym t) f))

  no_table_fault : (e : Error) (cff2 : List ℕ) (p : Prepared) → i.cff2 ≡ cff2 → i.p ≡ p → HasFault cff2 (request_at glyphs p) tokens depth e → ⊥
  no_table_fault e cff2 p a b f =
      made_excludes i.cff2 (request_at glyphs i.p) tokens depth i.cff e i.cff_is
      (subst (λ (bytes : List ℕ). HasFault bytes (request_at glyphs i.p) tokens depth e) (sym a) (subst (λ (x : Prepared). HasFault cff2 (request_at glyphs x) tokens depth e) (sym b) f))

  not_large : (cff2 : List ℕ) (p : Prepared) (cff : List ℕ) → i.cff2 ≡ cff2 → i.p ≡ p → made_table cff2 (request_at glyphs p) tokens depth ≡ Ok cff → fits (start_of (new_tables (stored font) p.source p.lines glyphs p.metrics cff)) (new_tables (stored font) p.source p.lines glyphs p.metrics cff) ≡ false → ⊥
  not_large cff2 p cff a b made h =
      let same : i.cff ≡ cff =
      done_is i.cff cff (sym i.cff_is ∙ ap (λ (bytes : List ℕ). made_table bytes (request_at glyphs i.p) tokens depth) a ∙ ap (λ (x : Prepared). made_table cff2 (request_at glyphs x) tokens depth) b ∙ made) in
      let fit = λ (x : Prepared) (c : List ℕ). fits (start_of (new_tables (stored font) x.source x.lines glyphs x.metrics c)) (new_tables (stored font) x.source x.lines glyphs x.metrics c) in
      let clash : true ≡ false = sym i.fit ∙ ap (λ (x : Prepared). fit x i.cff) b ∙ ap (λ (c : List ℕ). fit p c) same ∙ h in
      cc

  no_fault : (e : Error) → HasCffInstanceFault font settings glyphs tokens depth e → ⊥
  no_fault e (in_outlines f) = no_outlines_fault font i.cff2 e i.outlines f
  no_fault e (in_coordinates f) = place_clean (stored font) settings i.p.at e i.steps.coordinates_are f
  no_fault e (other_hvar f) = known_version (other_hvar_is (stored font) f)
  no_fault e (other_mvar f) = known_version (other_mvar_is (stored font) f)
  no_fault e (in_source f) = tables_clean (stored font) i.p.source (source_steps (stored font) i.p.source i.steps.source_is) f
  no_fault e (in_glyph at s g p h there f) = no_fault_in e at s g (same_place at p) (same_source s h) there f
  no_fault e (in_lines at p f) = lines_clean (stored font) at settings i.p.lines e (ap (lines_of (stored font) settings) (sym (same_place at p)) ∙ i.steps.lines_are) f
  no_fault e (in_table cff2 p is prepared_is f) = no_table_fault e cff2 p (same_outlines cff2 is) (same_prepared p prepared_is) f
  no_fault e (large_file cff2 p cff is prepared_is made h) = not_large cff2 p cff (same_outlines cff2 is) (same_prepared p prepared_is) made h

pub clean : HasNoCffFaultWhereAnswered
clean font settings glyphs tokens depth file h e f = no_fault font settings glyphs tokens depth file (font_steps font settings glyphs tokens depth file h) e f

-- a static font that the plain way lays out is an answer
pub is_answer : (font : Font) (settings : List (Tag × ℤ)) (glyphs : List ℕ) (tokens depth : ℕ) (file : List ℕ) → IsCffInstance font settings glyphs file → cff_instance_of font settings glyphs tokens depth ≡ Ok file → IsCffAnswer font settings glyphs tokens depth file
is_answer font settings glyphs tokens depth file is h = record { instance = is; clean = clean font settings glyphs tokens depth file h }
