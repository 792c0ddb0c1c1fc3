-- What a plan makes of the bytes of a font.
use Rattle.std.proofs.Common.{◌≡◌, ◌⊎◌, inl, inr, ℕ, List, map, Some, None, Result, Ok, Err, sym, ap, subst, ◌∙◌}
use Rattle.std.specs.Prelude.{IfOk, IfErr}
use Rattle.std.specs.Option.{option_copied}
use Rattle.subsetter_base.specs.declared.error.Error.TheVariants.{OutOfMemory, UnknownKind, MalformedFont}
use Rattle.subset_font.specs.Making.Made.{face_of, IsMade, IsUnmade}
use Rattle.subset_task.specs.Faces.Named.{face_settings}
use Rattle.subset_font.specs.Making.Outcome.{more_text, names_for, IsTaskOfPlan, IsOutcome, IsNoOutcome}
use Rattle.subset_font.specs.Making.Sheet.{IsSheetIf, IsUnshownIf}
use Rattle.subset_task.specs.declared.task.Task.{Task}
use Rattle.subset_task.specs.declared.task.Plan.{Plan}
use Rattle.subset_font.specs.declared.making.subset.Made.{Made}
use Rattle.subset_font.specs.declared.making.outcome.Outcome.{Outcome}
use Rattle.subset_task.specs.declared.refusals.failure.Failure.{Failure}
use Rattle.subset_task.specs.declared.refusals.failure.Failure.TheVariants.{Error, NoInstance}

module _ (plan : Plan) (bytes : List ℕ) where
  pub outcome_of : (task : Task) → IsTaskOfPlan plan bytes task → (made : Made) → IsMade task bytes made → (r : Result Outcome Failure) → IfOk r (λ o. o.made ≡ made) → IfOk r (λ o. IsSheetIf plan.pdf task bytes made o.sheet) → IfOk r (λ o. o.more.items ≡ more_text plan bytes made o.sheet) → IfOk r (λ o. map (λ name. name.now) o.names.items ≡ names_for plan bytes made.picked.glyphs.items) → IfOk r (IsOutcome plan bytes)
  outcome_of task placed made is (Ok o) kept sheet more names = record {
    task = task;
    is_placed = placed;
    is_made = subst (IsMade task bytes) (sym kept) is;
    sheet_is = subst (λ (m : Made). IsSheetIf plan.pdf task bytes m o.sheet) (sym kept) sheet;
    more_is = more ∙ ap (λ (m : Made). more_text plan bytes m o.sheet) (sym kept);
    names_are = names ∙ ap (λ (m : Made). names_for plan bytes m.picked.glyphs.items) (sym kept);
  }
  outcome_of task placed made is (Err e) kept sheet more names = tt

  no_sheet : (task : Task) → IsTaskOfPlan plan bytes task → (made : Made) → IsMade task bytes made → (failure : Failure) → (failure ≡ Error OutOfMemory) ⊎ IsUnshownIf plan.pdf task bytes made failure → IsNoOutcome plan bytes failure
  no_sheet task placed made is failure (inl memory) = inl memory
  no_sheet task placed made is failure (inr unshown) = inr (inr (inr (record { task = task; is_placed = placed; made = made; is_made = is; is_unshown = unshown })))

  pub unshown_of : (task : Task) → IsTaskOfPlan plan bytes task → (made : Made) → IsMade task bytes made → (r : Result Outcome Failure) → IfErr r (λ e. (e ≡ Error OutOfMemory) ⊎ IsUnshownIf plan.pdf task bytes made e) → IfErr r (IsNoOutcome plan bytes)
  unshown_of task placed made is (Ok o) h = tt
  unshown_of task placed made is (Err e) h = no_sheet task placed made is e h

  pub unmade_of : (task : Task) → IsTaskOfPlan plan bytes task → (failure : Failure) → IsUnmade task bytes failure → IsNoOutcome plan bytes failure
  unmade_of task placed failure h = inr (inr (inl (record { task = task; is_placed = placed; is_unmade = h })))

  pub unplaced_of : (name : List ℕ) (failure : Failure) → option_copied plan.instance ≡ Some name → (failure ≡ Error OutOfMemory) ⊎ (((failure ≡ Error UnknownKind) ⊎ ((failure ≡ Error MalformedFont) ⊎ (failure ≡ NoInstance))) × (face_settings (face_of plan.task bytes) name ≡ None)) → IsNoOutcome plan bytes failure
  unplaced_of name failure said (inl memory) = inl memory
  unplaced_of name failure said (inr h) = inr (inl (record { name = name; is_name = said; is_missing = h.1; failure_is = h.0 }))
