-- What is refused of a font with a CFF table has a fault of that name, and where a file is made there is no fault.
use Rattle.std.proofs.Common.{◌≡◌, ℕ, ◌<◌, ◌≤◌, true, false, List, length, Option, Some, None, Ok, Err, refl, sym, ap, subst, ◌∙◌, arith}
use Rattle.std.specs.Prelude.{codes, is_some, IsSome}
use Rattle.subsetter_base.specs.Bytes.{IsBytes}
use Rattle.subsetter_base.specs.Indexes.{IsWithoutRepeats}
use Rattle.subsetter_base.specs.declared.error.Error.{Error}
use Rattle.subsetter_base.specs.declared.error.Error.TheVariants.{OverflowError}
use Rattle.subsetter_base.proofs.Options.{just_is, some_not_none}
use Rattle.subsetter_base.proofs.Results.{done_is}
use Rattle.subsetter_cff.specs.Write.Refusals.CffFault.{HasCffFault}
use Rattle.subsetter_cff.proofs.WriteLaws.RefusalsLaws.CffFaults.{refused_stands}
use Rattle.subsetter_cff.proofs.WriteLaws.RefusalsLaws.Excluded.{answered_excludes}
use Rattle.subsetter_sfnt.specs.declared.flavor.FontFlavor.TheVariants.{Cff}
use Rattle.subsetter_sfnt.specs.Read.{Font, table, flavor}
use Rattle.subsetter_sfnt.specs.Fault.{HasOpeningFault}
use Rattle.subsetter_sfnt.specs.Plain.{file_of}
use Rattle.subsetter_sfnt.specs.Laying.Written.{Table, fits, file, start_of, kind_word}
use Rattle.subsetter.specs.Glyf.Fault as outline_faults
use Rattle.subsetter.specs.Glyf.Fault.{HasOutlineFault}
use Rattle.subsetter.specs.Glyf.Read.{outlines, outline}
use Rattle.subsetter.specs.Glyf.Reaching.Reach.{IsGlyphOrder}
use Rattle.subsetter.specs.Cff.Plain.{Made, laid, cff_tables, cff_file, made_of}
use Rattle.subsetter.specs.Fault as faults
use Rattle.subsetter.specs.Fault.{HasFault}
use Rattle.subsetter.specs.Laid.{of_outlines, of_charstrings}
use Rattle.subsetter.proofs.CommonLaws.SharedLaws.Fault.{shared_refused, no_metrics_fault, no_max_profile_fault, no_name_fault, no_glyph_name_fault}
use Rattle.subsetter.proofs.CommonLaws.SharedLaws.Steps.{head_there, head_from}
use Rattle.subsetter.proofs.TruetypeLaws.Fault.{not_chosen, is_true_is_false}
use Rattle.subsetter.specs.Answer.{IsAnswer}
use Rattle.subsetter.proofs.CffLaws.Order.{no_glyf, no_outlines, no_outline, given_order}
use Rattle.subsetter.proofs.CffLaws.Steps.{MadeSteps, made_tables, FileStops, no_table, no_cff, no_shared, no_file, file_stops, file_of_steps}
use Rattle.subsetter.proofs.CffLaws.Subset.{made_clean}

module _ (tokens depth : ℕ) (font : Font) (glyphs : List ℕ) (kind : flavor font ≡ Some Cff) (has : IsSome (table font (codes "CFF "))) (once : IsWithoutRepeats glyphs) where
  closed : IsGlyphOrder font glyphs glyphs
  closed = given_order font glyphs (no_glyf font kind) once

  not_laid_out : (source : List ℕ) (m : Made) (e : Error) → table font (codes "CFF ") ≡ Some source → made_of (table font) source tokens depth glyphs ≡ Ok m → file_of (kind_word Cff) (laid m) ≡ Err e → HasFault tokens depth font glyphs glyphs e
  unfolding file_of
  not_laid_out source m e there made k =
      let c = not_chosen (fits (start_of (laid m)) (laid m)) (file (kind_word Cff) (laid m)) OverflowError e k in
      subst (HasFault tokens depth font glyphs glyphs) c.1 (faults.large_file Cff (laid m) closed (of_charstrings source kind there (made_tables (table font) source tokens depth glyphs m made)) c.0)

  stops : (e : Error) → FileStops (table font) tokens depth glyphs e → HasFault tokens depth font glyphs glyphs e
  stops e (no_table k) = absurd (let x = sym (ap (λ (o : Option (List ℕ)). is_some o) k) ∙ has in cc)
  stops e (no_cff source there k) = faults.in_cff source kind there (refused_stands source tokens depth glyphs e k)
  stops e (no_shared k) = shared_refused tokens depth font glyphs glyphs closed Cff false e k
  stops e (no_file source m there made k) = not_laid_out source m e there made k

  -- what is refused has a fault
  pub cff_has_fault : (e : Error) → cff_file (table font) tokens depth glyphs ≡ Err e → HasFault tokens depth font glyphs glyphs e
  cff_has_fault e h = stops e (file_stops (table font) tokens depth glyphs e h)

-- ---- where a file is answered

module _ (tokens depth : ℕ) (font : Font) (glyphs source : List ℕ) (bytes : IsBytes font.bytes) (kind : flavor font ≡ Some Cff) (once : IsWithoutRepeats glyphs) (opening : (e : Error) → HasOpeningFault font e → ⊥)
    (there : table font (codes "CFF ") ≡ Some source) (m : Made) (s : MadeSteps (table font) source tokens depth glyphs m) (fit : fits (start_of (laid m)) (laid m) ≡ true) where
  without : table font (codes "glyf") ≡ None
  without = no_glyf font kind

  order : IsGlyphOrder font glyphs glyphs
  order = given_order font glyphs without once

  lacks : IsSome (table font (codes "glyf")) → ⊥
  lacks h = let x = sym (ap (λ (o : Option (List ℕ)). is_some o) without) ∙ h in cc

  long_head : (head : List ℕ) → table font (codes "head") ≡ Some head → length head < 52 → ⊥
  long_head head is short = by m.shared.head refl
    where
      by : (o : Option (List ℕ)) → m.shared.head ≡ o → ⊥
      by None e =
          let kept = sym (ap (λ (x : Option (List ℕ)). is_some x) e) ∙ head_there (table font) false m.shared.head s.shared.head_is ∙ ap (λ (x : Option (List ℕ)). is_some x) is in
          cc
      by (Some new) e =
          let n = head_from (table font) false new (s.shared.head_is ∙ ap (λ (x : Option (List ℕ)). Ok x) e) in
          let same : n.source ≡ head = just_is n.source head (sym n.source_is ∙ is) in
          omega (arith, short, n.long_enough, ap length same)

  no_outline_fault : (e : Error) → HasOutlineFault font glyphs e → ⊥
  no_outline_fault e (outline_faults.no_loca a b) = lacks a
  no_outline_fault e (outline_faults.no_head a b) = lacks a
  no_outline_fault e (outline_faults.short_head head is lt) = long_head head is lt
  no_outline_fault e (outline_faults.no_outline g a b c) = lacks a
  no_outline_fault e (outline_faults.one_byte g b r is) = some_not_none (outline font g) _ is (no_outline font g without)
  no_outline_fault e (outline_faults.cut_composite g found r is lt none) = some_not_none (outline font g) found is (no_outline font g without)
  no_outline_fault e (outline_faults.all_reached a b) = lacks a
  no_outline_fault e (outline_faults.long_outlines a b) = lacks a

  small_file : (found : List ℕ) (ts : List Table) → table font (codes "CFF ") ≡ Some found → cff_tables (table font) found tokens depth glyphs ≡ Ok ts → fits (start_of ts) ts ≡ false → ⊥
  small_file found ts is k large =
      let same : found ≡ source = just_is found source (sym is ∙ there) in
      let both : ts ≡ laid m = done_is ts (laid m) (sym k ∙ ap (λ (x : List ℕ). cff_tables (table font) x tokens depth glyphs) same ∙ made_tables (table font) source tokens depth glyphs m s.made) in
      is_true_is_false (fits (start_of ts) ts) (ap (λ (l : List Table). fits (start_of l) l) both ∙ fit) large

  no_cff_fault : (found : List ℕ) (e : Error) → table font (codes "CFF ") ≡ Some found → HasCffFault found tokens depth glyphs e → ⊥
  no_cff_fault found e is f = answered_excludes source tokens depth glyphs m.cff e s.cff_is (subst (λ (x : List ℕ). HasCffFault x tokens depth glyphs e) (just_is found source (sym is ∙ there)) f)

  pub cff_clean : (e : Error) → HasFault tokens depth font glyphs glyphs e → ⊥
  cff_clean e (faults.in_opening f) = opening e f
  cff_clean e (faults.in_cff found k is f) = no_cff_fault found e is f
  cff_clean e (faults.in_outlines f) = no_outline_fault e f
  cff_clean e (faults.in_metrics f) = no_metrics_fault font glyphs glyphs Cff false m.shared bytes order s.shared e f
  cff_clean e (faults.in_max_profile f) = no_max_profile_fault font glyphs glyphs Cff false m.shared bytes order s.shared e f
  cff_clean e (faults.in_names f) = no_name_fault font glyphs glyphs Cff false m.shared bytes order s.shared e f
  cff_clean e (faults.in_glyph_names f) = no_glyph_name_fault font glyphs glyphs Cff false m.shared bytes order s.shared e f
  cff_clean e (faults.long_glyf found bs o r k large) = some_not_none (outlines font) found r (no_outlines font without)
  cff_clean e (faults.large_file x ts o (of_outlines found r k) large) = some_not_none (outlines font) found r (no_outlines font without)
  cff_clean e (faults.large_file x ts o (of_charstrings found f is k) large) = small_file found ts is k large

-- what is made is a subset, and there is no fault
pub is_cff_subset : (tokens depth : ℕ) (font : Font) (glyphs out : List ℕ) → IsBytes font.bytes → 1 ≤ depth → 0 < length glyphs → length glyphs ≤ 65535 → IsWithoutRepeats glyphs → flavor font ≡ Some Cff → ((e : Error) → HasOpeningFault font e → ⊥) → cff_file (table font) tokens depth glyphs ≡ Ok out
    → IsAnswer tokens depth font glyphs out
is_cff_subset tokens depth font glyphs out bytes deep some few once kind opening h =
    let f = file_of_steps (table font) tokens depth glyphs out h in
    subst (IsAnswer tokens depth font glyphs) f.out_is
    (made_clean tokens depth font glyphs f.source kind f.source_is f.made f.steps f.fit bytes deep (omega (arith, some)) few once (cff_clean tokens depth font glyphs f.source bytes kind once opening f.source_is f.made f.steps f.fit))
