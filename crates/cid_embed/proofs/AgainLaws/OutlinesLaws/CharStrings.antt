-- The parts that a subset with a CFF table was laid out from, and its tables read afresh.
use Rattle.std.proofs.Common.{◌≡◌, ℕ, true, false, cond, List, Option, Some, None, Result, Ok, refl, sym, ap, subst, ◌∙◌}
use Rattle.std.specs.Prelude.{codes, is_some}
use Rattle.std.specs.Str.{bytes_eq}
use Rattle.subsetter_base.specs.Bytes.{◌>>=◌}
use Rattle.subsetter_base.specs.declared.error.Error.{Error}
use Rattle.subsetter_base.proofs.Results.{done_is, bind_ok}
use Rattle.subsetter_cff.specs.Write.Plain.{cff_subset}
use Rattle.subsetter_sfnt.specs.declared.flavor.FontFlavor.TheVariants.{TrueType, Cff}
use Rattle.subsetter_sfnt.specs.Read.{Font, as_font, table, flavor}
use Rattle.subsetter_sfnt.specs.Laying.Rows.{bytes_of, rows}
use Rattle.subsetter_sfnt.specs.Laying.Written.{Table, fits, file, start_of, kind_word}
use Rattle.subsetter.specs.Common.Shared.Plain.{SharedTables, shared_of}
use Rattle.subsetter.specs.Cff.Plain.{Made, made_of, font_of, laid, cff_tables}
use Rattle.subsetter_sfnt.proofs.Laws.Back.{word_of}
use Rattle.subsetter.proofs.CommonLaws.SharedLaws.Kept.{AreBack}
use Rattle.subsetter.proofs.CffLaws.Steps.{MadeSteps, made_steps}
use Rattle.subsetter.proofs.CffLaws.Subset as landed
use Rattle.cid_embed.proofs.AgainLaws.ByKind.{IsCharStringSubset}

-- by glyf and CFF: a font with the second alone
kind_by : (o p : Option (List ℕ)) (bytes : List ℕ) → o ≡ None → p ≡ Some bytes → cond (is_some o) (Some TrueType) (cond (is_some p) (Some Cff) None) ≡ Some Cff
kind_by o p bytes h k = rw (h, k) refl

-- the tables that both kinds of outlines share, as they were answered
made_shared : (find : List ℕ → Option (List ℕ)) (source : List ℕ) (tokens depth : ℕ) (order : List ℕ) (m : Made) → made_of find source tokens depth order ≡ Ok m → shared_of find Cff false order ≡ Ok m.shared
unfolding made_of
made_shared find source tokens depth order m h =
    let last : List ℕ → SharedTables → Result Made Error = λ cff shared. Ok (record { cff = cff; shared = shared }) in
    let a = bind_ok (cff_subset source tokens depth order) (λ cff. shared_of find Cff false order >>= last cff) m h in
    let b = bind_ok (shared_of find Cff false order) (last a.0) m a.2 in
    let made : Made = record { cff = a.0; shared = b.0 } in
    b.1 ∙ ap (λ (x : Made). Ok x.shared) (done_is made m b.2)

module _ (tokens depth : ℕ) (font : Font) (glyphs out : List ℕ) (sub : IsCharStringSubset tokens depth font glyphs out) where
  abbrev pub find : List ℕ → Option (List ℕ)
  find = table font

  abbrev pub order : List ℕ
  order = sub.order

  pub made : (m : Made) × (made_of find sub.source tokens depth order ≡ Ok m) × (laid m ≡ sub.tables)
  unfolding cff_tables
  made =
      let a = bind_ok (made_of find sub.source tokens depth order) (λ m. Ok (laid m)) sub.tables sub.tables_are in
      (a.0, a.1, done_is (laid a.0) sub.tables a.2)

  abbrev pub m : Made
  m = made.0

  pub s : MadeSteps find sub.source tokens depth order m
  s = made_steps find sub.source tokens depth order m made.1

  pub shared_is : shared_of find Cff false order ≡ Ok m.shared
  shared_is = made_shared find sub.source tokens depth order m made.1

  pub out_is : out ≡ file (kind_word Cff) (laid m)
  out_is = sub.bytes ∙ ap (file (kind_word Cff)) (sym made.2)

  pub fit : fits (start_of (laid m)) (laid m) ≡ true
  fit = subst (λ (l : List Table). fits (start_of l) l ≡ true) (sym made.2) sub.room

  abbrev pub word : ℕ
  word = word_of (kind_word Cff) (laid m)

  -- the shared tables, read afresh
  pub shared_back : AreBack (as_font out) word m.shared
  shared_back = subst (λ (f : List ℕ). AreBack (as_font f) word m.shared) (sym out_is) (landed.shared_back tokens depth font order sub.source sub.kind_is sub.source_is m s fit)

  -- and the others
  back : (tag : List ℕ) → bytes_eq tag (codes "head") ≡ false → table (as_font out) tag ≡ bytes_of tag (rows (font_of m))
  back tag other = ap (λ (f : List ℕ). table (as_font f) tag) out_is ∙ landed.back tokens depth font order sub.source sub.kind_is sub.source_is m s fit tag other

  pub cff_back : table (as_font out) (codes "CFF ") ≡ Some m.cff
  cff_back = back (codes "CFF ") refl

  -- it is a font with a CFF table too
  pub kind_back : flavor (as_font out) ≡ Some Cff
  kind_back = kind_by (table (as_font out) (codes "glyf")) (table (as_font out) (codes "CFF ")) m.cff (back (codes "glyf") refl) cff_back
