-- What subsetting refuses has a fault of that name, and where it makes a font there is no fault.
use Rattle.std.proofs.Common.{◌≡◌, ℕ, ◌^◌, ◌≤◌, ltb, Bool, true, false, cond, List, [], length, Option, Some, None, Ok, Err, refl, sym, ap, subst, ◌∙◌, ◌⊎◌, arith, inl, inr}
use Rattle.std.specs.Prelude.{codes, is_some, IsSome}
use Rattle.std.proofs.lemmas.Bool.{ltb-false}
use Rattle.subsetter_base.specs.Bytes.{◌>>=◌, IsBytes}
use Rattle.subsetter_base.specs.declared.error.Error.{Error}
use Rattle.subsetter_base.specs.declared.error.Error.TheVariants.{MalformedFont, OverflowError, OutOfMemory}
use Rattle.subsetter_base.proofs.Options.{just_is}
use Rattle.subsetter_base.proofs.Results.{named_ok, done_is, failed_is, bind_err}
use Rattle.subsetter_sfnt.specs.declared.flavor.FontFlavor.TheVariants.{TrueType, Cff}
use Rattle.subsetter.specs.Truetype.Answered.{IsAnswered, IsRefused, no_memory, unread, unclosed, unmade, unlaid, past}
use Rattle.subsetter.specs.Fault as faults
use Rattle.subsetter.specs.Fault.{HasFault}
use Rattle.subsetter.specs.Bound.{HasFaultWithin, in_font, beyond}
use Rattle.subsetter.specs.Laid.{of_outlines, of_charstrings}
use Rattle.subsetter_sfnt.specs.Read.{Font, table}
use Rattle.subsetter.specs.Glyf.Read.{Outlines, outlines}
use Rattle.subsetter_sfnt.specs.Laying.Written.{Table, fits, file, start_of, kind_word}
use Rattle.subsetter_sfnt.specs.Fault.{HasOpeningFault}
use Rattle.subsetter.specs.Common.Shared.Plain.{SharedTables, shared_of}
use Rattle.subsetter.specs.Truetype.Plain.{Made, located, made_of, laid, truetype_tables}
use Rattle.subsetter_sfnt.specs.Plain.{file_of}
use Rattle.subsetter.specs.Glyf.Plain.{kept_all}
use Rattle.subsetter.specs.Glyf.Reaching.Reach.{IsGlyphOrder}
use Rattle.subsetter.specs.Glyf.Written.{is_long, glyf_bytes, loca_bytes}
use Rattle.subsetter.proofs.GlyfLaws.Fault.{tables_refused, closure_refused, outlines_refused, order_in, no_outline_fault}
use Rattle.subsetter.proofs.CommonLaws.SharedLaws.Fault.{shared_refused, no_metrics_fault, no_max_profile_fault, no_name_fault, no_glyph_name_fault}
use Rattle.subsetter.proofs.TruetypeLaws.Bound.{is_beyond}
use Rattle.subsetter.proofs.TruetypeLaws.Steps.{MadeSteps, made_steps, tables_steps, file_steps}

-- there is a fault by some order
abbrev pub Stands : ℕ → ℕ → Font → List ℕ → Error → Type 0
Stands tokens depth font glyphs e = (order : List ℕ) × HasFault tokens depth font glyphs order e

-- the same within a bound
abbrev pub StandsWithin : Option ℕ → ℕ → ℕ → Font → List ℕ → Error → Type 0
StandsWithin bound tokens depth font glyphs e = (order : List ℕ) × HasFaultWithin bound tokens depth font glyphs order e

-- a test that failed
pub not_chosen : {A : Type 0} (b : Bool) (x : A) (d e : Error) → cond b (Ok x) (Err d) ≡ Err e → (b ≡ false) × (d ≡ e)
not_chosen true x d e h = absurd cc
not_chosen false x d e h = (refl, failed_is {A = _} d e h)

module _ (tokens depth : ℕ) (font : Font) (glyphs order : List ℕ) (t : Outlines) (read : outlines font ≡ Some t) (closed : IsGlyphOrder font glyphs order) where
  long : (bs : List (List ℕ)) (e : Error) → kept_all t order order ≡ Ok bs → located bs ≡ Err e → HasFault tokens depth font glyphs order e
  unfolding located
  long bs e k h =
      let c = not_chosen (ltb (length (glyf_bytes (is_long bs) bs)) (2 ^ 32)) (loca_bytes (is_long bs) 0 bs) OverflowError e h in
      subst (HasFault tokens depth font glyphs order) c.1 (faults.long_glyf t bs closed read k (ltb-false _ _ c.0))

  -- a part that could not be made
  not_made : (e : Error) → made_of (table font) t order ≡ Err e → HasFault tokens depth font glyphs order e
  unfolding made_of
  not_made e h =
      let after_shared = λ (bs : List (List ℕ)) (loca : List ℕ) (shared : SharedTables). let m : Made = record { outlines = bs; loca = loca; shared = shared } in Ok m in
      let after_loca = λ (bs : List (List ℕ)) (loca : List ℕ). shared_of (table font) TrueType (is_long bs) order >>= after_shared bs loca in
      let after_kept = λ (bs : List (List ℕ)). located bs >>= after_loca bs in
      elim (bind_err (kept_all t order order) after_kept e h) [
        | inl k ↦ faults.in_outlines (outlines_refused font glyphs order t e read closed k)
        | inr a ↦ elim (bind_err (located a.0) (after_loca a.0) e a.2) [
          | inl k ↦ long a.0 e a.1 k
          | inr b ↦ elim (bind_err (shared_of (table font) TrueType (is_long a.0) order) (after_shared a.0 b.0) e b.2) [
            | inl k ↦ shared_refused tokens depth font glyphs order closed TrueType (is_long a.0) e k
            | inr c ↦ absurd (let z = c.2 in cc)
          ]
        ]
      ]

  pub tables_not_made : (e : Error) → truetype_tables (table font) t order ≡ Err e → HasFault tokens depth font glyphs order e
  unfolding truetype_tables
  tables_not_made e h = elim (bind_err (made_of (table font) t order) (λ m. Ok (laid (table font) m)) e h) [
    | inl k ↦ not_made e k
    | inr a ↦ absurd (let z = a.2 in cc)
  ]

  pub not_laid_out : (ts : List Table) (e : Error) → truetype_tables (table font) t order ≡ Ok ts → file_of (kind_word TrueType) ts ≡ Err e → HasFault tokens depth font glyphs order e
  unfolding file_of
  not_laid_out ts e k h =
      let c = not_chosen (fits (start_of ts) ts) (file (kind_word TrueType) ts) OverflowError e h in
      subst (HasFault tokens depth font glyphs order) c.1 (faults.large_file TrueType ts closed (of_outlines t read k) c.0)

-- what is refused has a fault, or passes the bound
pub has_fault : (bound : Option ℕ) (tokens depth : ℕ) (font : Font) (glyphs : List ℕ) (e : Error) → IsSome (table font (codes "glyf")) → IsRefused font.extras.hinting (table font) bound glyphs e → (e ≡ OutOfMemory) ⊎ StandsWithin bound tokens depth font glyphs e
has_fault bound tokens depth font glyphs e there no_memory = inl refl
has_fault bound tokens depth font glyphs e there (unread h) = inr ([], in_font (faults.in_outlines (tables_refused font glyphs e there h)))
has_fault bound tokens depth font glyphs e there (unclosed t h stops) =
    elim (closure_refused font glyphs t e (named_ok (outlines font) MalformedFont t h) stops) [
      | inl m ↦ inl m
      | inr f ↦ inr ([], in_font (faults.in_outlines f))
    ]
has_fault bound tokens depth font glyphs e there (unmade t order h o found k) =
    let read = named_ok (outlines font) MalformedFont t h in
    inr (order, in_font (tables_not_made tokens depth font glyphs order t read (order_in font glyphs order t read o) e k))
has_fault bound tokens depth font glyphs e there (unlaid t order ts h o found k l) =
    let read = named_ok (outlines font) MalformedFont t h in
    inr (order, in_font (not_laid_out tokens depth font glyphs order t read (order_in font glyphs order t read o) ts e k l))
has_fault bound tokens depth font glyphs e there (past most set longer) = inr ([], beyond (is_beyond tokens depth font glyphs there bound most set longer))

-- ---- where a file is answered

pub is_true_is_false : (b : Bool) → b ≡ true → b ≡ false → ⊥
is_true_is_false true h k = absurd cc
is_true_is_false false h k = absurd cc

not_cff : (o p : Option (List ℕ)) → IsSome o → cond (is_some o) (Some TrueType) (cond (is_some p) (Some Cff) None) ≡ Some Cff → ⊥
not_cff None p h k = absurd cc
not_cff (Some x) p h k = cc

module _ (tokens depth : ℕ) (font : Font) (glyphs out : List ℕ) (bytes : IsBytes font.bytes) (there : IsSome (table font (codes "glyf"))) (opening : (e : Error) → HasOpeningFault font e → ⊥) (a : IsAnswered font.extras.hinting (table font) glyphs out) where
  read : outlines font ≡ Some a.source
  read = named_ok (outlines font) MalformedFont a.source a.read

  closed : IsGlyphOrder font glyphs a.order
  closed = order_in font glyphs a.order a.source read a.is_order

  made : (m : Made) × (made_of (table font) a.source a.order ≡ Ok m) × (laid (table font) m ≡ a.tables)
  made = tables_steps (table font) a.source a.order a.tables a.tables_are

  steps : MadeSteps (table font) a.source a.order made.0
  steps = made_steps (table font) a.source a.order made.0 made.1

  short_glyf : (source : Outlines) (bs : List (List ℕ)) → outlines font ≡ Some source → kept_all source a.order a.order ≡ Ok bs → 2 ^ 32 ≤ length (glyf_bytes (is_long bs) bs) → ⊥
  short_glyf source bs r k large =
      let same : source ≡ a.source = just_is source a.source (sym r ∙ read) in
      let both : bs ≡ made.0.outlines = done_is bs made.0.outlines (sym k ∙ ap (λ (t : Outlines). kept_all t a.order a.order) same ∙ steps.kept) in
      omega (arith, large, steps.small, ap (λ (l : List (List ℕ)). length (glyf_bytes (is_long l) l)) both)

  small_file : (source : Outlines) (ts : List Table) → outlines font ≡ Some source → truetype_tables (table font) source a.order ≡ Ok ts → fits (start_of ts) ts ≡ false → ⊥
  small_file source ts r k large =
      let same : source ≡ a.source = just_is source a.source (sym r ∙ read) in
      let both : ts ≡ a.tables = done_is ts a.tables (sym k ∙ ap (λ (t : Outlines). truetype_tables (table font) t a.order) same ∙ a.tables_are) in
      is_true_is_false (fits (start_of ts) ts) (ap (λ (l : List Table). fits (start_of l) l) both ∙ (file_steps (kind_word TrueType) a.tables out a.laid_out).0) large

  pub no_fault : (e : Error) → HasFault tokens depth font glyphs a.order e → ⊥
  no_fault e (faults.in_opening f) = opening e f
  no_fault e (faults.in_cff b f is h) = not_cff (table font (codes "glyf")) (table font (codes "CFF ")) there f
  no_fault e (faults.in_outlines f) = no_outline_fault font glyphs a.order a.source made.0.outlines read closed (omega (arith, a.few)) steps.kept (is_long made.0.outlines) steps.small e f
  no_fault e (faults.in_metrics f) = no_metrics_fault font glyphs a.order TrueType (is_long made.0.outlines) made.0.shared bytes closed steps.shared e f
  no_fault e (faults.in_max_profile f) = no_max_profile_fault font glyphs a.order TrueType (is_long made.0.outlines) made.0.shared bytes closed steps.shared e f
  no_fault e (faults.in_names f) = no_name_fault font glyphs a.order TrueType (is_long made.0.outlines) made.0.shared bytes closed steps.shared e f
  no_fault e (faults.in_glyph_names f) = no_glyph_name_fault font glyphs a.order TrueType (is_long made.0.outlines) made.0.shared bytes closed steps.shared e f
  no_fault e (faults.long_glyf source bs o r k large) = short_glyf source bs r k large
  no_fault e (faults.large_file kind ts o (of_outlines source r k) large) = small_file source ts r k large
  no_fault e (faults.large_file kind ts o (of_charstrings source f is k) large) = not_cff (table font (codes "glyf")) (table font (codes "CFF ")) there f
