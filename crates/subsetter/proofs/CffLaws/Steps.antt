-- The steps to a subset with a CFF table.
use Rattle.std.proofs.Common.{◌≡◌, ℕ, ◌<◌, true, false, List, length, Option, Some, None, Result, Ok, Err, sym, ap, subst, ◌∙◌, ◌⊎◌, arith, inl, inr}
use Rattle.std.specs.Prelude.{codes}
use Rattle.std.specs.Option.{ok_or}
use Rattle.std.specs.List.{AllByRecursion}
use Rattle.std.proofs.lemmas.List.{length-map}
use Rattle.subsetter_base.specs.Bytes.{◌>>=◌}
use Rattle.subsetter_base.specs.declared.error.Error.{Error}
use Rattle.subsetter_base.specs.declared.error.Error.TheVariants.{MalformedFont}
use Rattle.subsetter_base.proofs.Results.{done_is, bind_ok, bind_err, named_ok, named_err}
use Rattle.subsetter_cff.specs.Write.Plain.{cff_subset}
use Rattle.subsetter_sfnt.specs.declared.flavor.FontFlavor.TheVariants.{Cff}
use Rattle.subsetter_sfnt.specs.declared.laying.tables.NewTable.{NewTable}
use Rattle.subsetter.specs.declared.tables.TableData.{TableData}
use Rattle.subsetter.specs.TableView.{view, views}
use Rattle.subsetter_sfnt.specs.Laying.Written.{Table, IsTable, fits, file, start_of, kind_word}
use Rattle.subsetter_sfnt.specs.Plain.{file_of}
use Rattle.subsetter.specs.Common.Shared.Plain.{SharedTables, shared_of}
use Rattle.subsetter.specs.Cff.Plain.{Made, made_of, font_of, laid, cff_tables, cff_file}
use Rattle.subsetter_sfnt.proofs.Laws.LayingLaws.Rows.{rows_few, rows_tables}
use Rattle.subsetter.proofs.CommonLaws.SharedLaws.Kept.{shared_room}
use Rattle.subsetter.proofs.CommonLaws.SharedLaws.Steps.{SharedSteps, shared_steps}
use Rattle.subsetter.proofs.TruetypeLaws.Steps.{file_steps}

-- what was made, part by part
pub record MadeSteps (find : List ℕ → Option (List ℕ)) (source : List ℕ) (tokens depth : ℕ) (glyphs : List ℕ) (m : Made) : Type 0 where
  pub made : made_of find source tokens depth glyphs ≡ Ok m
  pub cff_is : cff_subset source tokens depth glyphs ≡ Ok m.cff
  pub shared : SharedSteps find Cff false glyphs m.shared

module _ (find : List ℕ → Option (List ℕ)) (source : List ℕ) (tokens depth : ℕ) (glyphs : List ℕ) where
  after_cff : List ℕ → Result Made Error
  after_cff cff = shared_of find Cff false glyphs >>= λ shared. Ok (record { cff = cff; shared = shared })

  pub made_steps : (m : Made) → made_of find source tokens depth glyphs ≡ Ok m → MadeSteps find source tokens depth glyphs m
  unfolding made_of after_cff
  made_steps m h =
      let a = bind_ok (cff_subset source tokens depth glyphs) after_cff m h in
      let last : SharedTables → Result Made Error = λ shared. Ok (record { cff = a.0; shared = shared }) in
      let b = bind_ok (shared_of find Cff false glyphs) last m a.2 in
      let made : Made = record { cff = a.0; shared = b.0 } in
      let steps : MadeSteps find source tokens depth glyphs made = record { made = h ∙ ap (λ (x : Made). Ok x) (sym (done_is made m b.2)); cff_is = a.1; shared = shared_steps find Cff false glyphs b.0 b.1 } in
      subst (MadeSteps find source tokens depth glyphs) (done_is made m b.2) steps

  -- the part that could not be made
  pub made_stops : (e : Error) → made_of find source tokens depth glyphs ≡ Err e → (cff_subset source tokens depth glyphs ≡ Err e) ⊎ (shared_of find Cff false glyphs ≡ Err e)
  unfolding made_of after_cff
  made_stops e h =
      elim (bind_err (cff_subset source tokens depth glyphs) after_cff e h) [
        | inl k ↦ inl k
        | inr a ↦ elim (bind_err (shared_of find Cff false glyphs) (λ shared. let m : Made = record { cff = a.0; shared = shared } in Ok m) e a.2) [
          | inl k ↦ inr k
          | inr b ↦ absurd (let z = b.2 in cc)
        ]
      ]

  pub made_tables : (m : Made) → made_of find source tokens depth glyphs ≡ Ok m → cff_tables find source tokens depth glyphs ≡ Ok (laid m)
  unfolding cff_tables
  made_tables m h = ap (λ (r : Result Made Error). r >>= λ x. Ok (laid x)) h

-- what was laid out, step by step
pub record FileSteps (find : List ℕ → Option (List ℕ)) (tokens depth : ℕ) (glyphs out : List ℕ) : Type 0 where
  pub source : List ℕ
  pub source_is : find (codes "CFF ") ≡ Some source
  pub made : Made
  pub steps : MadeSteps find source tokens depth glyphs made
  pub fit : fits (start_of (laid made)) (laid made) ≡ true
  pub out_is : file (kind_word Cff) (laid made) ≡ out

-- the step that failed
pub data FileStops (find : List ℕ → Option (List ℕ)) (tokens depth : ℕ) (glyphs : List ℕ) (e : Error) : Type 0 where
  no_table : find (codes "CFF ") ≡ None → FileStops find tokens depth glyphs e
  no_cff : (source : List ℕ) → find (codes "CFF ") ≡ Some source → cff_subset source tokens depth glyphs ≡ Err e → FileStops find tokens depth glyphs e
  no_shared : shared_of find Cff false glyphs ≡ Err e → FileStops find tokens depth glyphs e
  no_file : (source : List ℕ) (m : Made) → find (codes "CFF ") ≡ Some source → made_of find source tokens depth glyphs ≡ Ok m → file_of (kind_word Cff) (laid m) ≡ Err e → FileStops find tokens depth glyphs e

module _ (find : List ℕ → Option (List ℕ)) (tokens depth : ℕ) (glyphs : List ℕ) where
  after_made : Made → Result (List ℕ) Error
  after_made m = file_of (kind_word Cff) (laid m)

  after_source : List ℕ → Result (List ℕ) Error
  after_source source = made_of find source tokens depth glyphs >>= after_made

  pub file_of_steps : (out : List ℕ) → cff_file find tokens depth glyphs ≡ Ok out → FileSteps find tokens depth glyphs out
  unfolding cff_file after_made after_source
  file_of_steps out h =
      let a = bind_ok (ok_or (find (codes "CFF ")) MalformedFont) after_source out h in
      let b = bind_ok (made_of find a.0 tokens depth glyphs) after_made out a.2 in
      let c = file_steps (kind_word Cff) (laid b.0) out b.2 in
      record { source = a.0; source_is = named_ok (find (codes "CFF ")) MalformedFont a.0 a.1; made = b.0; steps = made_steps find a.0 tokens depth glyphs b.0 b.1; fit = c.0; out_is = c.1 }

  pub file_stops : (e : Error) → cff_file find tokens depth glyphs ≡ Err e → FileStops find tokens depth glyphs e
  unfolding cff_file after_made after_source
  file_stops e h =
      elim (bind_err (ok_or (find (codes "CFF ")) MalformedFont) after_source e h) [
        | inl k ↦ no_table (named_err (find (codes "CFF ")) MalformedFont e k).0
        | inr a ↦ elim (bind_err (made_of find a.0 tokens depth glyphs) after_made e a.2) [
          | inl k ↦ elim (made_stops find a.0 tokens depth glyphs e k) [
            | inl x ↦ no_cff a.0 (named_ok (find (codes "CFF ")) MalformedFont a.0 a.1) x
            | inr y ↦ no_shared y
          ]
          | inr b ↦ no_file a.0 b.0 (named_ok (find (codes "CFF ")) MalformedFont a.0 a.1) b.1 b.2
        ]
      ]

-- ---- the code's list of tables

module _ (m : Made) (ts : List (NewTable TableData)) (there : views ts ≡ laid m) where
  pub few_tables : length ts < 16
  few_tables = omega (arith, length-map ts view, ap length there, rows_few (font_of m))

  pub all_tables : (find : List ℕ → Option (List ℕ)) (source : List ℕ) (tokens depth : ℕ) (glyphs : List ℕ) → made_of find source tokens depth glyphs ≡ Ok m → AllByRecursion IsTable (views ts)
  all_tables find source tokens depth glyphs made =
      let steps = made_steps find source tokens depth glyphs m made in
      subst (λ (l : List Table). AllByRecursion IsTable l) (sym there) (rows_tables (font_of m) (shared_room find Cff false glyphs m.shared steps.shared))
