-- A subset with a CFF table that passes a bound.
use Rattle.std.proofs.Common.{◌≡◌, ℕ, ◌≤◌, true, false, List, length, Option, Some, Result, Ok, refl, sym, ap, subst, ◌∙◌, inl, inr, arith}
use Rattle.std.specs.Prelude.{codes}
use Rattle.std.specs.Option.{ok_or}
use Rattle.std.specs.List.{AllByRecursion}
use Rattle.subsetter_base.specs.Bytes.{◌>>=◌}
use Rattle.subsetter_base.specs.Gives.{Fails}
use Rattle.subsetter_base.specs.Within.{FailsWithin, GivesWithin, IsTooLong}
use Rattle.subsetter_base.specs.declared.error.Error.{Error}
use Rattle.subsetter_base.specs.declared.error.Error.TheVariants.{UnknownKind, MalformedFont, Unimplemented, SubsetError, OverflowError, CFFError, OutOfMemory}
use Rattle.subsetter_base.proofs.Options.{just_is}
use Rattle.subsetter_base.proofs.Results.{done_is, bind_ok}
use Rattle.subsetter_cff.specs.Write.Plain.{cff_subset}
use Rattle.subsetter_sfnt.specs.declared.flavor.FontFlavor.{FontFlavor}
use Rattle.subsetter_sfnt.specs.declared.flavor.FontFlavor.TheVariants.{TrueType, Cff}
use Rattle.subsetter_sfnt.specs.Plain.{file_of}
use Rattle.subsetter_sfnt.specs.Read.{Font, table, flavor}
use Rattle.subsetter_sfnt.specs.Laying.Rows.{rows}
use Rattle.subsetter_sfnt.specs.Laying.Written.{Table, IsTable, file, fits, start_of, kind_word}
use Rattle.subsetter_sfnt.proofs.Laws.LayingLaws.Bound.{has_room}
use Rattle.subsetter_sfnt.proofs.Laws.LayingLaws.Rows.{rows_tables}
use Rattle.subsetter.specs.Answer.{IsAnswer}
use Rattle.subsetter.specs.Bound.{IsBeyond}
use Rattle.subsetter.specs.Cff.Plain.{Made, made_of, font_of, laid, cff_tables, cff_file}
use Rattle.subsetter.specs.Laid.{AreMade, of_outlines, of_charstrings}
use Rattle.subsetter.specs.Common.Shared.Plain.{SharedTables, shared_of}
use Rattle.subsetter.proofs.CffLaws.Order.{no_glyf, no_outlines}
use Rattle.subsetter.proofs.CffLaws.Steps.{made_steps}
use Rattle.subsetter.proofs.CommonLaws.SharedLaws.Kept.{shared_room}
use Rattle.subsetter.proofs.TruetypeLaws.Bound.{row_holds, file_holds}
use Rattle.subsetter.proofs.TwoLimits.{only_given}

-- a step that fails
fails_first : {A B : Type 0} (r : Result A Error) (f : A → Result B Error) (e : Error) → Fails e r → Fails e (r >>= f)
fails_first r f UnknownKind h = ap (λ x. x >>= f) h
fails_first r f MalformedFont h = ap (λ x. x >>= f) h
fails_first r f Unimplemented h = ap (λ x. x >>= f) h
fails_first r f SubsetError h = ap (λ x. x >>= f) h
fails_first r f OverflowError h = ap (λ x. x >>= f) h
fails_first r f CFFError h = ap (λ x. x >>= f) h
fails_first r f OutOfMemory h = tt

-- ---- what is made

module _ (bound : Option ℕ) (find : List ℕ → Option (List ℕ)) (source : List ℕ) (tokens depth : ℕ) (glyphs : List ℕ) where
  pub table_fails : (e : Error) → FailsWithin bound length e (cff_subset source tokens depth glyphs) → FailsWithin bound (λ (m : Made). length m.cff) e (made_of find source tokens depth glyphs)
  unfolding made_of
  table_fails e h = elim h [
    | inl f ↦ inl (fails_first (cff_subset source tokens depth glyphs) (λ cff. shared_of find Cff false glyphs >>= λ shared. Ok (record { cff = cff; shared = shared })) e f)
    | inr p ↦ inr (p.0, record { most = p.1.most; is_set = p.1.is_set; longer = λ m is. p.1.longer m.cff (made_steps find source tokens depth glyphs m is).cff_is })
  ]

  pub shared_fails : (cff : List ℕ) (e : Error) → cff_subset source tokens depth glyphs ≡ Ok cff → Fails e (shared_of find Cff false glyphs) → FailsWithin bound (λ (m : Made). length m.cff) e (made_of find source tokens depth glyphs)
  unfolding made_of
  shared_fails cff e made h =
      let whole : List ℕ → SharedTables → Result Made Error = λ c shared. Ok (record { cff = c; shared = shared }) in
      let last : List ℕ → Result Made Error = λ c. shared_of find Cff false glyphs >>= whole c in
      inl (subst (λ (r : Result (List ℕ) Error). Fails e (r >>= last)) (sym made) (fails_first (shared_of find Cff false glyphs) (whole cff) e h))

  -- ---- and laid out

  -- the table is in the file
  table_in : (m : Made) (out : List ℕ) → made_of find source tokens depth glyphs ≡ Ok m → file_of (kind_word Cff) (laid m) ≡ Ok out → length m.cff ≤ length out
  table_in m out made h =
      let all : AllByRecursion IsTable (laid m) = rows_tables (font_of m) (shared_room find Cff false glyphs m.shared (made_steps find source tokens depth glyphs m made).shared) in
      omega (arith, row_holds (codes "CFF ") (rows (font_of m)) m.cff refl, file_holds (kind_word Cff) (laid m) out all h)

  pub made_fails : (e : Error) → find (codes "CFF ") ≡ Some source → FailsWithin bound (λ (m : Made). length m.cff) e (made_of find source tokens depth glyphs) → FailsWithin bound length e (cff_file find tokens depth glyphs)
  unfolding cff_file
  made_fails e is h =
      let file_by = λ (m : Made). file_of (kind_word Cff) (laid m) in
      let whole : cff_file find tokens depth glyphs ≡ (made_of find source tokens depth glyphs >>= file_by) = ap (λ (o : Option (List ℕ)). ok_or o MalformedFont >>= λ s. (made_of find s tokens depth glyphs >>= file_by)) is in
      elim h [
        | inl f ↦ inl (subst (λ (r : Result (List ℕ) Error). Fails e r) (sym whole) (fails_first (made_of find source tokens depth glyphs) file_by e f))
        | inr p ↦ inr (
          p.0,
          record {
            most = p.1.most;
            is_set = p.1.is_set;
            longer = λ out k. let b = bind_ok (made_of find source tokens depth glyphs) file_by out (sym whole ∙ k) in omega (arith, p.1.longer b.0 b.1, table_in b.0 out b.1 b.2);
          },
        )
      ]

  pub file_given : {X : Type 0} (view : X → List ℕ) (r : Result X Error) (m : Made) (ts : List Table) → find (codes "CFF ") ≡ Some source → made_of find source tokens depth glyphs ≡ Ok m → ts ≡ laid m → GivesWithin view bound length r (file_of (kind_word Cff) ts) → GivesWithin view bound length r (cff_file find tokens depth glyphs)
  unfolding cff_file
  file_given view r m ts is made are h =
      let file_by = λ (m : Made). file_of (kind_word Cff) (laid m) in
      let whole : cff_file find tokens depth glyphs ≡ file_of (kind_word Cff) ts = ap (λ (o : Option (List ℕ)). ok_or o MalformedFont >>= λ s. (made_of find s tokens depth glyphs >>= file_by)) is ∙ ap (λ (x : Result Made Error). x >>= file_by) made ∙ ap (file_of (kind_word Cff)) (sym are) in
      subst (λ (x : Result (List ℕ) Error). GivesWithin view bound length r x) (sym whole) h

-- ---- an answer of a font with a CFF table

module _ (tokens depth : ℕ) (font : Font) (glyphs : List ℕ) (kind : flavor font ≡ Some Cff) where
  answered_by : (out : List ℕ) (a : IsAnswer tokens depth font glyphs out) (f : FontFlavor) (ts : List Table) → flavor font ≡ Some f → AreMade tokens depth font a.subset.keeps.order ts f → out ≡ file (kind_word f) ts → fits (start_of ts) ts ≡ true → cff_file (table font) tokens depth glyphs ≡ Ok out
  unfolding cff_file cff_tables
  answered_by out a f ts is (of_outlines source r k) bytes room = absurd (let same : TrueType ≡ Cff = just_is TrueType Cff (sym is ∙ kind) in cc)
  answered_by out a f ts is (of_charstrings source g r k) bytes room =
      let order : a.subset.keeps.order ≡ glyphs = only_given font glyphs (no_outlines font (no_glyf font kind)) a.subset.keeps.order a.subset.keeps.is_order in
      let b = bind_ok (made_of (table font) source tokens depth glyphs) (λ m. Ok (laid m)) ts (subst (λ (l : List ℕ). cff_tables (table font) source tokens depth l ≡ Ok ts) order k) in
      let file_by = λ (m : Made). file_of (kind_word Cff) (laid m) in
      ap (λ (o : Option (List ℕ)). ok_or o MalformedFont >>= λ s. (made_of (table font) s tokens depth glyphs >>= file_by)) r ∙ ap (λ (x : Result Made Error). x >>= file_by) b.1 ∙ ap (file_of (kind_word Cff)) (done_is (laid b.0) ts b.2) ∙ has_room (kind_word Cff) ts room ∙ ap Ok (sym bytes)

  pub is_beyond : (bound : Option ℕ) → IsTooLong bound length (cff_file (table font) tokens depth glyphs) → IsBeyond bound tokens depth font glyphs
  is_beyond bound p = record { most = p.most; is_set = p.is_set; longer = λ out a. let x = a.subset.layout in p.longer out (answered_by out a a.subset.keeps.kind x.tables a.subset.keeps.kind_is x.made x.bytes x.room) }
