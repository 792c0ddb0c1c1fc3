-- What is made of a font whose directory was read, by the plain way.
--   hhea_there, head_long, lines_long      headers that were read from are long enough
--   request_is                             what is requested of the table
--   made_is, drawn_are                     the plain way after what is prepared
--   unprepared, unmade, unlaid             why nothing is made
use Rattle.std.proofs.Common.{◌≡◌, ℕ, ◌≤◌, List, length, Option, Some, Result, Ok, Err, ℤ, refl, sym, subst, ◌⊎◌, inl, inr}
use Rattle.std.specs.Prelude.{codes, IfSome, IfOk, IfErr}
use Rattle.subsetter_base.specs.Bytes.{◌>>=◌}
use Rattle.subsetter_base.specs.Gives.{Gives, Fails}
use Rattle.subsetter_base.specs.Within.{IsTooLong}
use Rattle.subsetter_base.specs.declared.tag.Tag.{Tag}
use Rattle.subsetter_base.specs.declared.error.Error.{Error}
use Rattle.subsetter_base.specs.declared.error.Error.TheVariants.{OutOfMemory, OverflowError}
use Rattle.subsetter_base.proofs.ByteLemmas.{number-fits}
use Rattle.subsetter_sfnt.specs.declared.fields.hmtx.LongHorMetric.{LongHorMetric}
use Rattle.subsetter_instance.proofs.FileLaws.Lines as instance
use Rattle.subsetter_cff.proofs.ReadLaws.Failing.{fails_on}
use Rattle.subsetter_cff_at.specs.Fault.{HasFault}
use Rattle.subsetter_cff_at.specs.Plain.{Drawn, drawn_of, made_table}
use Rattle.subsetter_cff_at.specs.View.{drawn_size, KeepsBound}
use Rattle.subsetter_cff_instance.specs.Answer.{FailsInstance}
use Rattle.subsetter_cff_instance.specs.Metrics.{metrics_by_glyph, advances}
use Rattle.subsetter_cff_instance.specs.Plain.{Prepared, prepared, request_at, cff_instance_in, charstrings_in}
use Rattle.subsetter_cff_instance.specs.Source.{Source, source_in, source_or_fault}
use Rattle.subsetter_cff_instance.specs.Tables.{laid}
use Rattle.subsetter_cff_instance.proofs.Steps.{source_steps, source_read, prepared_steps}
use Rattle.subsetter_cff_instance.proofs.FaultLaws.Source.{top_fits}

-- ---- headers that were read from are long enough

hhea_read : (find : List ℕ → Option (List ℕ)) (s : Source) → source_in find ≡ Some s → IfSome (find (codes "hhea")) (λ h. 36 ≤ length h)
hhea_read find s h =
    let t = source_steps find s h in
    subst (λ o. IfSome o (λ l. 36 ≤ length l)) (sym t.hhea_is) (number-fits t.hhea 34 2 s.number_of_h_metrics t.pairs_are)

pub hhea_there : (find : List ℕ → Option (List ℕ)) (s : Source) → source_or_fault find ≡ Ok s → IfSome (find (codes "hhea")) (λ h. 36 ≤ length h)
hhea_there find s h = hhea_read find s (source_read find s h).1

-- ---- what is requested of the table

pub request_is : (glyphs : List ℕ) (p : Prepared) (at : List ℤ) (gs : List (Option ℕ)) (all : List (Option LongHorMetric)) (n units : ℕ)
    → at ≡ p.at → gs ≡ advances all → all ≡ metrics_by_glyph glyphs p.metrics n → n ≡ p.source.count → units ≡ p.source.units_per_em
    → record { at = at; glyphs = gs; units = units } ≡ request_at glyphs p
request_is glyphs p at gs all n units e1 e2 e3 e4 e5 = rw (e1, e2, e3, e4, e5) refl

-- ---- after what is prepared

module _ (find : List ℕ → Option (List ℕ)) (cff2 : List ℕ) (settings : List (Tag × ℤ)) (glyphs : List ℕ) (tokens depth : ℕ) (bound : Option ℕ) where
  abbrev Fails_here : Error → Type 0
  Fails_here e = FailsInstance find cff2 settings glyphs tokens depth bound e

  pub unprepared : (e : Error) → Fails e (prepared find settings glyphs) → FailsInstance find cff2 settings glyphs tokens depth bound e
  unfolding cff_instance_in
  unprepared e h = inl (fails_on (prepared find settings glyphs) (λ p. made_table cff2 (request_at glyphs p) tokens depth >>= λ cff. laid find p.source p.lines glyphs p.metrics cff) (cff_instance_in find cff2 settings glyphs tokens depth) e refl h)

  module _ (p : Prepared) (is : prepared find settings glyphs ≡ Ok p) where
    pub head_long : 44 ≤ length p.source.head
    head_long = let s = source_steps find p.source (prepared_steps find settings glyphs p is).source_is in top_fits p.source.head s.top s.top_is

    pub lines_long : 36 ≤ length p.lines.hhea
    lines_long =
        let t = prepared_steps find settings glyphs p is in
        instance.lines_long find settings p.at p.lines (hhea_read find p.source t.source_is) t.lines_are

    drawn_are : charstrings_in find cff2 settings glyphs tokens depth ≡ drawn_of cff2 (request_at glyphs p) tokens depth
    unfolding charstrings_in
    drawn_are = rw is refl

    pub keeps : KeepsBound bound (drawn_of cff2 (request_at glyphs p) tokens depth) → KeepsBound bound (charstrings_in find cff2 settings glyphs tokens depth)
    keeps h = subst (λ (read : Result Drawn Error). KeepsBound bound read) (sym drawn_are) h

    out_of_memory : (e : Error) → e ≡ OutOfMemory → Fails e (cff_instance_in find cff2 settings glyphs tokens depth)
    out_of_memory e h = rw h tt

    pub unmade : (e : Error) → (e ≡ OutOfMemory) ⊎ (HasFault cff2 (request_at glyphs p) tokens depth e ⊎ ((e ≡ OverflowError) × IsTooLong bound drawn_size (drawn_of cff2 (request_at glyphs p) tokens depth))) → FailsInstance find cff2 settings glyphs tokens depth bound e
    unmade e (inl m) = inl (out_of_memory e m)
    unmade e (inr (inl f)) = inr (inl (record { p = p; prepared_is = is; fault = f }))
    unmade e (inr (inr l)) = inr (inr (l.0, subst (λ (read : Result Drawn Error). IsTooLong bound drawn_size read) (sym drawn_are) l.1))

    module _ (cff : List ℕ) (made : made_table cff2 (request_at glyphs p) tokens depth ≡ Ok cff) where
      made_is : cff_instance_in find cff2 settings glyphs tokens depth ≡ laid find p.source p.lines glyphs p.metrics cff
      unfolding cff_instance_in
      made_is = rw (is, made) refl

      gives_ok : {V : Type 0} (view : V → List ℕ) (r : Result V Error) (read : Result (List ℕ) Error) → Gives view r read → IfOk r (λ v. read ≡ Ok (view v))
      gives_ok view (Ok v) read h = h
      gives_ok view (Err e) read h = tt

      gives_err : {V : Type 0} (view : V → List ℕ) (r : Result V Error) (read : Result (List ℕ) Error) (Q : Error → Type 0) → ((e : Error) → Fails e read → Q e) → Gives view r read → IfErr r Q
      gives_err view (Ok v) read Q f h = tt
      gives_err view (Err e) read Q f h = f e h

      plainly : {V : Type 0} (view : V → List ℕ) (r : Result V Error) → Gives view r (laid find p.source p.lines glyphs p.metrics cff) → Gives view r (cff_instance_in find cff2 settings glyphs tokens depth)
      plainly view r h = subst (Gives view r) (sym made_is) h

      pub laid_ok : {V : Type 0} (view : V → List ℕ) (r : Result V Error) → Gives view r (laid find p.source p.lines glyphs p.metrics cff) → IfOk r (λ v. cff_instance_in find cff2 settings glyphs tokens depth ≡ Ok (view v))
      laid_ok view r h = gives_ok view r (cff_instance_in find cff2 settings glyphs tokens depth) (plainly view r h)

      pub laid_err : {V : Type 0} (view : V → List ℕ) (r : Result V Error) → Gives view r (laid find p.source p.lines glyphs p.metrics cff) → IfErr r (λ e. FailsInstance find cff2 settings glyphs tokens depth bound e)
      laid_err view r h = gives_err view r (cff_instance_in find cff2 settings glyphs tokens depth) Fails_here (λ e f. inl f) (plainly view r h)

    pub laid_keeps : {V : Type 0} (r : Result V Error) → KeepsBound bound (drawn_of cff2 (request_at glyphs p) tokens depth) → IfOk r (λ _. KeepsBound bound (charstrings_in find cff2 settings glyphs tokens depth))
    laid_keeps (Ok v) h = keeps h
    laid_keeps (Err e) h = tt
