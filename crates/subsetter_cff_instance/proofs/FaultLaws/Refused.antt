-- A font of which there is no static font has a fault.
use Rattle.std.proofs.Common.{◌≡◌, ℕ, List, Some, Ok, Err, ℤ, ap, subst, ◌∙◌, inl, inr}
use Rattle.std.specs.Prelude.{codes}
use Rattle.subsetter_base.specs.declared.tag.Tag.{Tag}
use Rattle.subsetter_base.specs.declared.error.Error.{Error}
use Rattle.subsetter_base.proofs.Results.{bind_err}
use Rattle.subsetter_sfnt.specs.Plain.{opened}
use Rattle.subsetter_sfnt.specs.Read.{Font, table_in, stored}
use Rattle.subsetter_sfnt.specs.Laying.Written.{kind_word}
use Rattle.subsetter_sfnt.specs.declared.flavor.FontFlavor.TheVariants.{Cff}
use Rattle.subsetter_instance.specs.Source.{normalized_coordinates}
use Rattle.subsetter_instance.specs.Tables.Lines.{lines_of}
use Rattle.subsetter_instance.proofs.FaultLaws.Lines.{lines_refused}
use Rattle.subsetter_instance.proofs.FaultLaws.Opening.{same_find}
use Rattle.subsetter_instance.proofs.FaultLaws.Place.{place_refused}
use Rattle.subsetter_instance.proofs.FaultLaws.Refused.{not_laid}
use Rattle.subsetter_cff_at.specs.Plain.{made_table}
use Rattle.subsetter_cff_at.proofs.FaultLaws.Faults.{refused_stands}
use Rattle.subsetter_cff_instance.specs.Answer.{HasNoCffAnswer}
use Rattle.subsetter_cff_instance.specs.Fault.{HasCffInstanceFault, in_outlines, in_coordinates, other_hvar, other_mvar, in_source, in_glyph, in_lines, in_table, large_file}
use Rattle.subsetter_cff_instance.specs.Laws.{HasCffFaultWhereRefused}
use Rattle.subsetter_cff_instance.specs.Metrics.{varied_metrics}
use Rattle.subsetter_cff_instance.specs.Plain.{Prepared, prepared, request_at, cff_instance_in, cff_instance_of}
use Rattle.subsetter_cff_instance.specs.Source.{outlines_or_fault, source_or_fault}
use Rattle.subsetter_cff_instance.specs.Tables.{laid, new_tables}
use Rattle.subsetter_cff_instance.proofs.FaultLaws.Glyph.{not_all_varied}
use Rattle.subsetter_cff_instance.proofs.FaultLaws.Opening.{unopened, outlines_refused, taken}
use Rattle.subsetter_cff_instance.proofs.FaultLaws.Source.{source_refused, versions_refused}
use Rattle.subsetter_cff_instance.proofs.Steps.{source_read, source_steps}

module _ (font : Font) (settings : List (Tag × ℤ)) (glyphs : List ℕ) (tokens depth : ℕ) (e : Error) where
  abbrev Faulty : Error → Type 0
  Faulty = HasCffInstanceFault font settings glyphs tokens depth

  -- ---- what is read at a location

  unread : source_or_fault (stored font) ≡ Err e → Faulty e
  unread h =
      elim (source_refused (stored font) e h) [
        | inl n ↦ subst Faulty n.1 (elim (versions_refused (stored font) n.0) [ inl f ↦ other_hvar f | inr f ↦ other_mvar f ])
        | inr n ↦ subst Faulty n.1 (in_source n.0)
      ]

  unprepared : prepared (stored font) settings glyphs ≡ Err e → Faulty e
  unfolding prepared
  unprepared h =
      elim (bind_err (normalized_coordinates (stored font) settings) _ e h) [
        | inl k ↦ in_coordinates (place_refused (stored font) settings e k)
        | inr at ↦ elim (bind_err (source_or_fault (stored font)) _ e at.2) [
          | inl k ↦ unread k
          | inr s ↦ elim (bind_err (varied_metrics s.0 at.0 glyphs) _ e s.2) [
            | inl k ↦ let u = not_all_varied s.0 at.0 glyphs e k in in_glyph at.0 s.0 u.g at.1 (source_read (stored font) s.0 s.1).1 u.there u.fault
            | inr m ↦ elim (bind_err (lines_of (stored font) settings at.0) _ e m.2) [
              | inl k ↦ let t = source_steps (stored font) s.0 (source_read (stored font) s.0 s.1).1 in in_lines at.0 at.1 (lines_refused (stored font) at.0 settings t.hhea e t.hhea_is k)
              | inr l ↦ let z = l.2 in absurd cc
            ]
          ]
        ]
      ]

  -- ---- what is made of that

  unlaid : (cff2 : List ℕ) (p : Prepared) (cff : List ℕ) → stored font (codes "CFF2") ≡ Some cff2 → prepared (stored font) settings glyphs ≡ Ok p → made_table cff2 (request_at glyphs p) tokens depth ≡ Ok cff → laid (stored font) p.source p.lines glyphs p.metrics cff ≡ Err e → Faulty e
  unfolding laid
  unlaid cff2 p cff is prepared_is made h =
      let n = not_laid (kind_word Cff) (new_tables (stored font) p.source p.lines glyphs p.metrics cff) e h in
      subst Faulty n.1 (large_file cff2 p cff is prepared_is made n.0)

  -- of a font whose outlines are taken
  pub in_tables : (cff2 : List ℕ) → stored font (codes "CFF2") ≡ Some cff2 → cff_instance_in (stored font) cff2 settings glyphs tokens depth ≡ Err e → Faulty e
  unfolding cff_instance_in
  in_tables cff2 is h =
      elim (bind_err (prepared (stored font) settings glyphs) _ e h) [
        | inl k ↦ unprepared k
        | inr p ↦ elim (bind_err (made_table cff2 (request_at glyphs p.0) tokens depth) _ e p.2) [
          | inl k ↦ in_table cff2 p.0 is p.1 (refused_stands cff2 (request_at glyphs p.0) tokens depth e k)
          | inr cff ↦ unlaid cff2 p.0 cff.0 is p.1 cff.1 cff.2
        ]
      ]

  -- ---- all

  -- an error is that of a fault
  abbrev Refusal : Type 0
  Refusal = cff_instance_of font settings glyphs tokens depth ≡ Err e

  pub refused_has_fault : Refusal → Faulty e
  unfolding cff_instance_of
  refused_has_fault h =
      elim (bind_err (opened font) _ e h) [
        | inl k ↦ in_outlines (unopened font e k)
        | inr d ↦ elim (bind_err (outlines_or_fault (table_in font.bytes d.0)) _ e d.2) [
          | inl k ↦ in_outlines (outlines_refused font d.0 e d.1 k)
          | inr cff2 ↦
              let t = taken font d.0 cff2.0 d.1 cff2.1 in
              in_tables cff2.0 t.cff2_is (ap (λ find. cff_instance_in find cff2.0 settings glyphs tokens depth) (same_find font d.0 d.1) ∙ cff2.2)
        ]
      ]

pub refused : HasCffFaultWhereRefused
refused font settings glyphs tokens depth e h = refused_has_fault font settings glyphs tokens depth e h

-- where there is a fault there is no answer
pub no_answer : (font : Font) (settings : List (Tag × ℤ)) (glyphs : List ℕ) (tokens depth : ℕ) (e : Error) → HasCffInstanceFault font settings glyphs tokens depth e → HasNoCffAnswer font settings glyphs tokens depth
no_answer font settings glyphs tokens depth e f file a = a.clean e f
