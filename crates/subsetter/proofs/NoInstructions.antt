-- A subset of a font whose hinting isn't asked for has no instructions, read afresh.
use Rattle.std.proofs.Common.{◌≡◌, ℕ, ◌+◌, ◌*◌, ◌^◌, ◌<◌, Bool, true, false, List, length, get_or, Option, Some, None, Result, Ok, Err, refl, sym, ap, subst, ◌∙◌}
use Rattle.std.specs.Prelude.{codes, IfOk}
use Rattle.std.specs.Bool.{OnFalse}
use Rattle.std.proofs.lemmas.Bool.{OnFalse_from}
use Rattle.subsetter_base.specs.Bytes.{IsBytes}
use Rattle.subsetter_base.specs.declared.error.Error.{Error}
use Rattle.subsetter_base.proofs.Options.{just_is, some_not_none, map_some}
use Rattle.subsetter_base.proofs.Results.{done_is, bind_ok}
use Rattle.subsetter_sfnt.specs.declared.flavor.FontFlavor.{FontFlavor}
use Rattle.subsetter_sfnt.specs.declared.flavor.FontFlavor.TheVariants.{TrueType, Cff}
use Rattle.subsetter_sfnt.specs.Extras.{by_hinting, by_names, by_glyph_names}
use Rattle.subsetter_sfnt.specs.Read.{Font, as_font, table, flavor}
use Rattle.subsetter_sfnt.specs.Laying.Written.{Table, fits, file, start_of, kind_word}
use Rattle.subsetter.specs.Glyf.BareOutlines.Bare.{bare, requested_parts}
use Rattle.subsetter.specs.Glyf.BareOutlines.Instructions.{AreBare, IsBare, HasNoInstructions}
use Rattle.subsetter.specs.Glyf.Parts.{Parts, outline_parts, parts_bytes}
use Rattle.subsetter.specs.Glyf.Plain.{renumbered}
use Rattle.subsetter.specs.Glyf.Read.{Outlines, outlines, outline, entry_size}
use Rattle.subsetter.specs.Glyf.Reaching.Unfold.{padded}
use Rattle.subsetter.specs.Truetype.Plain.{Made, laid}
use Rattle.subsetter.specs.Cff.Plain.{Made as CffMade, made_of, laid as cff_laid, cff_tables}
use Rattle.subsetter.specs.Laid.{AreMade, of_outlines, of_charstrings}
use Rattle.subsetter.specs.Subset.{IsSubset}
use Rattle.subsetter.specs.Promise.{IsPromised}
use Rattle.subsetter.proofs.CffLaws.Order.{no_outline}
use Rattle.subsetter.proofs.CffLaws.Steps.{MadeSteps as CffSteps, made_steps as cff_steps}
use Rattle.subsetter.proofs.CffLaws.Subset.{back as cff_back}
use Rattle.subsetter.proofs.GlyfLaws.Back.{has_entry, read_back, entry_count}
use Rattle.subsetter.proofs.GlyfLaws.Kept.{kept_at, length-kept_all}
use Rattle.subsetter.proofs.GlyfLaws.BareOutlinesLaws.NoInstructions.{written_bare}
use Rattle.subsetter.proofs.GlyfLaws.ReachingLaws.Unfold.{can_write, padded_parts, parts_back, outline_is, outline_bytes, small_numbers}
use Rattle.subsetter_sfnt.proofs.Laws.LayingLaws.TableBytes.{table_bytes}
use Rattle.subsetter.proofs.TruetypeLaws.Steps.{MadeSteps, made_steps, tables_steps}
use Rattle.subsetter.proofs.TruetypeLaws.Subset.{afresh, back, outlines_back, source, written}

-- ---- programs

no_program : (h n g : Bool) (tag : List ℕ) (found : Option (List ℕ)) → h ≡ false → by_hinting false tag found ≡ None → ((o : Option (List ℕ)) → by_names false tag o ≡ o) → ((o : Option (List ℕ)) → by_glyph_names false tag o ≡ o) → by_glyph_names g tag (by_names n tag (by_hinting h tag found)) ≡ None
no_program h n g tag found off none names glyph_names =
    ap (λ (b : Bool). by_glyph_names g tag (by_names n tag (by_hinting b tag found))) off ∙ ap (λ (o : Option (List ℕ)). by_glyph_names g tag (by_names n tag o)) none ∙ ap (by_glyph_names g tag) (by_name n) ∙ by_glyph_name g
  where
    by_name : (b : Bool) → by_names b tag None ≡ None
    by_name true = refl
    by_name false = names None

    by_glyph_name : (b : Bool) → by_glyph_names b tag None ≡ None
    by_glyph_name true = refl
    by_glyph_name false = glyph_names None

module _ (font : Font) (off : font.extras.hinting ≡ false) where
  no_control_values : table font (codes "cvt ") ≡ None
  no_control_values = no_program font.extras.hinting font.extras.names font.extras.glyph_names (codes "cvt ") _ off refl (λ o. refl) (λ o. refl)

  no_font_program : table font (codes "fpgm") ≡ None
  no_font_program = no_program font.extras.hinting font.extras.names font.extras.glyph_names (codes "fpgm") _ off refl (λ o. refl) (λ o. refl)

  no_control_program : table font (codes "prep") ≡ None
  no_control_program = no_program font.extras.hinting font.extras.names font.extras.glyph_names (codes "prep") _ off refl (λ o. refl) (λ o. refl)

-- ---- outlines

-- parts that are asked for without their instructions
bare_of : (hint : Bool) (o : Option Parts) (p : Parts) → hint ≡ false → requested_parts hint o ≡ Some p → (q : Parts) × (o ≡ Some q) × (bare q ≡ p)
bare_of true o p off h = absurd cc
bare_of false o p off h = map_some bare o p h

module _ (font : Font) (t : Outlines) (order : List ℕ) (m : Made) (read : outlines font ≡ Some t) (s : MadeSteps (table font) t order m) (fit : fits (start_of (laid (table font) m)) (laid (table font) m) ≡ true)
    (off : font.extras.hinting ≡ false) (bytes : IsBytes font.bytes) (few : length order < 2 ^ 16) where
  abbrev new_font : Font
  new_font = as_font (file (kind_word TrueType) (laid (table font) m))

  abbrev new : Outlines
  new = afresh font t order m read s fit

  -- the outline of a glyph of the order
  bare_at_place : (g : ℕ) → g < length order → (found : List ℕ) → outline new_font g ≡ Some found → IsBare found
  bare_at_place g lt found is =
      let k = kept_at t order order m.outlines g s.kept lt in
      let tables = source font t order m read s fit in
      let hinting : t.hinting ≡ false = tables.asks ∙ off in
      let q = bare_of t.hinting (outline_parts k.bytes) k.parts hinting k.parts_are in
      let glyf = table_bytes font (codes "glyf") t.glyf bytes tables.glyf_is in
      let whole = outline_bytes t (get_or order g 0) k.bytes glyf k.there in
      let small = small_numbers order few in
      let writes = read_back m.outlines new g (written font t order m read s fit) (subst (λ (n : ℕ). g < n) (sym (length-kept_all t order order m.outlines s.kept)) lt) in
      let same : padded new.long (parts_bytes (renumbered order k.parts)) ≡ found =
      just_is (padded new.long (parts_bytes (renumbered order k.parts))) found (ap (λ (l : List ℕ). Some (padded new.long l)) k.written ∙ sym writes ∙ sym (outline_is new_font new g (outlines_back font t order m read s fit)) ∙ is) in
      let is_bare : AreBare (padded new.long (parts_bytes (renumbered order k.parts))) (padded_parts new.long (renumbered order k.parts)) =
      subst (λ (p : Parts). AreBare (padded new.long (parts_bytes (renumbered order p))) (padded_parts new.long (renumbered order p))) q.2 (written_bare new.long order q.0 small (can_write k.bytes q.0 whole q.1)) in
      subst IsBare same (record { parts = padded_parts new.long (renumbered order k.parts); parts_are = parts_back t.hinting new.long order k.bytes k.parts small whole k.parts_are; bare = is_bare })

  made_bare : HasNoInstructions new_font
  made_bare = record {
    control_values = back font t order m read s fit (codes "cvt ") refl ∙ no_control_values font off;
    font_program = back font t order m read s fit (codes "fpgm") refl ∙ no_font_program font off;
    control_program = back font t order m read s fit (codes "prep") refl ∙ no_control_program font off;
    outlines = λ g found is.
        bare_at_place g (has_entry new (length order) g found (entry_count m.outlines new (written font t order m read s fit) ∙ ap (λ (n : ℕ). entry_size new.long * (n + 1)) (length-kept_all t order order m.outlines s.kept)) (sym (outline_is new_font new g (outlines_back font t order m read s fit)) ∙ is)) found is;
  }

-- ---- a font with a CFF table

made_before : (find : List ℕ → Option (List ℕ)) (source : List ℕ) (tokens depth : ℕ) (order : List ℕ) (ts : List Table) → cff_tables find source tokens depth order ≡ Ok ts → (m : CffMade) × (made_of find source tokens depth order ≡ Ok m) × (cff_laid m ≡ ts)
unfolding cff_tables
made_before find source tokens depth order ts h = let a = bind_ok (made_of find source tokens depth order) (λ m. Ok (cff_laid m)) ts h in (a.0, a.1, done_is (cff_laid a.0) ts a.2)

module _ (tokens depth : ℕ) (font : Font) (order source : List ℕ) (kind : flavor font ≡ Some Cff) (there : table font (codes "CFF ") ≡ Some source) (m : CffMade) (s : CffSteps (table font) source tokens depth order m) (fit : fits (start_of (cff_laid m)) (cff_laid m) ≡ true) where
  charstrings_bare : HasNoInstructions (as_font (file (kind_word Cff) (cff_laid m)))
  charstrings_bare = record {
    control_values = cff_back tokens depth font order source kind there m s fit (codes "cvt ") refl;
    font_program = cff_back tokens depth font order source kind there m s fit (codes "fpgm") refl;
    control_program = cff_back tokens depth font order source kind there m s fit (codes "prep") refl;
    outlines = λ g found is. absurd (some_not_none (outline (as_font (file (kind_word Cff) (cff_laid m))) g) found is (no_outline (as_font (file (kind_word Cff) (cff_laid m))) g (cff_back tokens depth font order source kind there m s fit (codes "glyf") refl)));
  }

-- ---- both

pub has_no_instructions : (tokens depth : ℕ) (font : Font) (glyphs out : List ℕ) → IsBytes font.bytes → font.extras.hinting ≡ false → IsSubset tokens depth font glyphs out → HasNoInstructions (as_font out)
has_no_instructions tokens depth font glyphs out bytes off s = subst (λ (l : List ℕ). HasNoInstructions (as_font l)) (sym s.layout.bytes) (by s.keeps.kind s.layout.tables s.layout.made s.layout.room)
  where
    by : (kind : FontFlavor) (ts : List Table) → AreMade tokens depth font s.keeps.order ts kind → fits (start_of ts) ts ≡ true → HasNoInstructions (as_font (file (kind_word kind) ts))
    by kind ts (of_outlines source read made) fit =
        let a = tables_steps (table font) source s.keeps.order ts made in
        let steps = made_steps (table font) source s.keeps.order a.0 a.1 in
        subst (λ (l : List Table). HasNoInstructions (as_font (file (kind_word TrueType) l))) a.2 (made_bare font source s.keeps.order a.0 read steps (subst (λ (l : List Table). fits (start_of l) l ≡ true) (sym a.2) fit) off bytes s.keeps.few)
    by kind ts (of_charstrings source is there made) fit =
        let a = made_before (table font) source tokens depth s.keeps.order ts made in
        let steps = cff_steps (table font) source tokens depth s.keeps.order a.0 a.1 in
        subst (λ (l : List Table). HasNoInstructions (as_font (file (kind_word Cff) l))) a.2 (charstrings_bare tokens depth font s.keeps.order source is there a.0 steps (subst (λ (l : List Table). fits (start_of l) l ≡ true) (sym a.2) fit))

-- where hinting isn't asked for
pub as_asked : (tokens depth : ℕ) (font : Font) (glyphs out : List ℕ) → IsBytes font.bytes → IsSubset tokens depth font glyphs out → OnFalse font.extras.hinting (HasNoInstructions (as_font out))
as_asked tokens depth font glyphs out bytes s = OnFalse_from font.extras.hinting (HasNoInstructions (as_font out)) (λ off. has_no_instructions tokens depth font glyphs out bytes off s)

pub bare_if_promised : {X : Type 0} (file : X → List ℕ) (bound : Option ℕ) (tokens depth : ℕ) (font : Font) (glyphs : List ℕ) → IsBytes font.bytes → (r : Result X Error) → IsPromised file bound tokens depth font glyphs r → IfOk r (λ x. OnFalse font.extras.hinting (HasNoInstructions (as_font (file x))))
bare_if_promised file bound tokens depth font glyphs bytes (Ok x) p = as_asked tokens depth font glyphs (file x) bytes p.exact.subset
bare_if_promised file bound tokens depth font glyphs bytes (Err e) p = tt
