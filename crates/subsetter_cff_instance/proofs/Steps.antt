-- The steps of the plain way to a static font.
--   outlines_steps                 the table of the outlines
--   source_steps, source_read      the tables beside them, which have version 1
--   prepared_steps, font_steps     all that is read at a location, and the file
use Rattle.std.proofs.Common.{◌≡◌, ℕ, Bool, true, false, cond, List, Option, Some, None, Ok, Err, ℤ, refl, sym, subst}
use Rattle.std.specs.Prelude.{codes, is_some, ◌||◌}
use Rattle.std.specs.Option.{ok_or}
use Rattle.subsetter_base.specs.declared.tag.Tag.{Tag}
use Rattle.subsetter_base.specs.declared.error.Error.TheVariants.{UnknownKind, MalformedFont, Unimplemented}
use Rattle.subsetter_base.proofs.Options.{just_is, bind_some}
use Rattle.subsetter_base.proofs.Results.{done_is, bind_ok, named_ok}
use Rattle.subsetter_sfnt.specs.Fields.Head.{units_per_em, y_max}
use Rattle.subsetter_sfnt.specs.Fields.Hhea.{number_of_h_metrics}
use Rattle.subsetter_sfnt.specs.Fields.Maxp.{num_glyphs}
use Rattle.subsetter_sfnt.specs.Plain.{opened}
use Rattle.subsetter_sfnt.specs.Read.{Font, table_in, stored}
use Rattle.subsetter_sfnt.specs.Laying.Written.{fits, file, start_of, kind_word}
use Rattle.subsetter_sfnt.specs.declared.flavor.FontFlavor.TheVariants.{Cff}
use Rattle.subsetter_instance.specs.Source.{normalized_coordinates}
use Rattle.subsetter_instance.specs.Tables.Lines.{lines_of}
use Rattle.subsetter_instance.proofs.FaultLaws.Opening.{same_find}
use Rattle.subsetter_instance.proofs.FileLaws.Steps.{file_steps}
use Rattle.subsetter_cff_at.specs.Plain.{made_table}
use Rattle.subsetter_cff_instance.specs.Metrics.{varied_metrics}
use Rattle.subsetter_cff_instance.specs.Plain.{Prepared, prepared, request_at, cff_instance_in, cff_instance_of}
use Rattle.subsetter_cff_instance.specs.Source.{Source, has_other_version, outlines_or_fault, source_in, source_or_fault}
use Rattle.subsetter_cff_instance.specs.Tables.{laid, new_tables}

-- ---- the outlines

pub record OutlinesSteps (find : List ℕ → Option (List ℕ)) (cff2 : List ℕ) : Type 0 where
  pub no_glyf : find (codes "glyf") ≡ None
  pub no_cff : find (codes "CFF ") ≡ None
  pub cff2_is : find (codes "CFF2") ≡ Some cff2

-- outlines that are taken are in CFF2 alone
pub outlines_steps : (find : List ℕ → Option (List ℕ)) (cff2 : List ℕ) → outlines_or_fault find ≡ Ok cff2 → OutlinesSteps find cff2
unfolding outlines_or_fault
outlines_steps find cff2 h = by (find (codes "glyf")) (find (codes "CFF ")) refl refl h
  where
    by : (glyf cff : Option (List ℕ)) → find (codes "glyf") ≡ glyf → find (codes "CFF ") ≡ cff → cond (is_some glyf || is_some cff) (Err Unimplemented) (ok_or (find (codes "CFF2")) UnknownKind) ≡ Ok cff2 → OutlinesSteps find cff2
    by (Some glyf) cff a b k = absurd cc
    by None (Some cff) a b k = absurd cc
    by None None a b k = record { no_glyf = a; no_cff = b; cff2_is = named_ok (find (codes "CFF2")) UnknownKind cff2 k }

-- ---- the tables beside them

-- what was read of the tables
pub record SourceSteps (find : List ℕ → Option (List ℕ)) (s : Source) : Type 0 where
  pub maxp_is : find (codes "maxp") ≡ Some s.maxp
  pub count_is : num_glyphs s.maxp ≡ Some s.count
  pub head_is : find (codes "head") ≡ Some s.head
  pub units_are : units_per_em s.head ≡ Some s.units_per_em
  pub top : ℤ
  pub top_is : y_max (Some s.head) ≡ Some top
  pub hhea : List ℕ
  pub hhea_is : find (codes "hhea") ≡ Some hhea
  pub pairs_are : number_of_h_metrics hhea ≡ Some s.number_of_h_metrics
  pub hmtx_is : find (codes "hmtx") ≡ Some s.hmtx
  pub hvar_is : find (codes "HVAR") ≡ s.hvar

pub source_steps : (find : List ℕ → Option (List ℕ)) (s : Source) → source_in find ≡ Some s → SourceSteps find s
unfolding source_in
source_steps find s h =
    let a = bind_some (find (codes "maxp")) _ s h in
    let b = bind_some (num_glyphs a.0) _ s a.2 in
    let c = bind_some (find (codes "head")) _ s b.2 in
    let d = bind_some (units_per_em c.0) _ s c.2 in
    let e = bind_some (y_max (Some c.0)) _ s d.2 in
    let f = bind_some (find (codes "hhea")) _ s e.2 in
    let g = bind_some (number_of_h_metrics f.0) _ s f.2 in
    let i = bind_some (find (codes "hmtx")) _ s g.2 in
    let made : Source = record { maxp = a.0; count = b.0; head = c.0; units_per_em = d.0; number_of_h_metrics = g.0; hmtx = i.0; hvar = find (codes "HVAR") } in
    subst (SourceSteps find) {x = made} (just_is made s i.2) (record { maxp_is = a.1; count_is = b.1; head_is = c.1; units_are = d.1; top = e.0; top_is = e.1; hhea = f.0; hhea_is = f.1; pairs_are = g.1; hmtx_is = i.1; hvar_is = refl })

-- tables of version 1 that were read
pub source_read : (find : List ℕ → Option (List ℕ)) (s : Source) → source_or_fault find ≡ Ok s → (has_other_version find ≡ false) × (source_in find ≡ Some s)
source_read find s h = by (has_other_version find) refl h
  where
    by : (b : Bool) → has_other_version find ≡ b → cond b (Err Unimplemented) (ok_or (source_in find) MalformedFont) ≡ Ok s → (has_other_version find ≡ false) × (source_in find ≡ Some s)
    by true e k = absurd cc
    by false e k = (e, named_ok (source_in find) MalformedFont s k)

-- ---- all that is read at a location

pub record PreparedSteps (find : List ℕ → Option (List ℕ)) (settings : List (Tag × ℤ)) (glyphs : List ℕ) (p : Prepared) : Type 0 where
  pub coordinates_are : normalized_coordinates find settings ≡ Ok p.at
  pub known : has_other_version find ≡ false
  pub source_is : source_in find ≡ Some p.source
  pub metrics_are : varied_metrics p.source p.at glyphs ≡ Ok p.metrics
  pub lines_are : lines_of find settings p.at ≡ Ok p.lines

pub prepared_steps : (find : List ℕ → Option (List ℕ)) (settings : List (Tag × ℤ)) (glyphs : List ℕ) (p : Prepared) → prepared find settings glyphs ≡ Ok p → PreparedSteps find settings glyphs p
unfolding prepared
prepared_steps find settings glyphs p h =
    let a = bind_ok (normalized_coordinates find settings) _ p h in
    let b = bind_ok (source_or_fault find) _ p a.2 in
    let r = source_read find b.0 b.1 in
    let c = bind_ok (varied_metrics b.0 a.0 glyphs) _ p b.2 in
    let d = bind_ok (lines_of find settings a.0) _ p c.2 in
    let made : Prepared = record { at = a.0; source = b.0; metrics = c.0; lines = d.0 } in
    subst (PreparedSteps find settings glyphs) (done_is made p d.2) (record { coordinates_are = a.1; known = r.0; source_is = r.1; metrics_are = c.1; lines_are = d.1 })

-- ---- the file

pub record CffSteps (find : List ℕ → Option (List ℕ)) (settings : List (Tag × ℤ)) (glyphs : List ℕ) (tokens depth : ℕ) (out : List ℕ) : Type 0 where
  pub cff2 : List ℕ
  pub outlines : OutlinesSteps find cff2
  pub p : Prepared
  pub prepared_is : prepared find settings glyphs ≡ Ok p
  pub steps : PreparedSteps find settings glyphs p
  pub cff : List ℕ
  pub cff_is : made_table cff2 (request_at glyphs p) tokens depth ≡ Ok cff
  pub fit : fits (start_of (new_tables find p.source p.lines glyphs p.metrics cff)) (new_tables find p.source p.lines glyphs p.metrics cff) ≡ true
  pub file_is : file (kind_word Cff) (new_tables find p.source p.lines glyphs p.metrics cff) ≡ out

instance_steps : (find : List ℕ → Option (List ℕ)) (cff2 : List ℕ) (settings : List (Tag × ℤ)) (glyphs : List ℕ) (tokens depth : ℕ) (out : List ℕ) → outlines_or_fault find ≡ Ok cff2 → cff_instance_in find cff2 settings glyphs tokens depth ≡ Ok out → CffSteps find settings glyphs tokens depth out
unfolding cff_instance_in laid
instance_steps find cff2 settings glyphs tokens depth out o h =
    let a = bind_ok (prepared find settings glyphs) _ out h in
    let b = bind_ok (made_table cff2 (request_at glyphs a.0) tokens depth) _ out a.2 in
    let f = file_steps (kind_word Cff) (new_tables find a.0.source a.0.lines glyphs a.0.metrics b.0) out b.2 in
    record { cff2 = cff2; outlines = outlines_steps find cff2 o; p = a.0; prepared_is = a.1; steps = prepared_steps find settings glyphs a.0 a.1; cff = b.0; cff_is = b.1; fit = f.0; file_is = f.1 }

pub font_steps : (font : Font) (settings : List (Tag × ℤ)) (glyphs : List ℕ) (tokens depth : ℕ) (out : List ℕ) → cff_instance_of font settings glyphs tokens depth ≡ Ok out → CffSteps (stored font) settings glyphs tokens depth out
unfolding cff_instance_of
font_steps font settings glyphs tokens depth out h =
    let a = bind_ok (opened font) _ out h in
    let b = bind_ok (outlines_or_fault (table_in font.bytes a.0)) _ out a.2 in
    subst (λ find. CffSteps find settings glyphs tokens depth out) (sym (same_find font a.0 a.1)) (instance_steps (table_in font.bytes a.0) b.0 settings glyphs tokens depth out b.1 b.2)
